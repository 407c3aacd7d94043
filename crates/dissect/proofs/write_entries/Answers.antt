use lib.ListN.{length-replicate}
use Rattle.std.proofs.Common.{ℕ, [], ◌++◌, take, arith, refl, sym, subst}
use Rattle.std.proofs.KnownBytes.{Appends-nil, Appends-trans}
use Rattle.std.specs.Io.KnownBytes.{Appends}
use Rattle.format.proofs.Wrote.{kept}
use Rattle.dissect.proofs.Turn.{piece, left, done, cut, all_cut}
use Rattle.dissect.proofs.write_entries.Goals as goal

pub loop-out-init : goal.loop-out-init
loop-out-init g c = record { left = c.requires; room = length-replicate {A = ℕ} 65536 0; sent = ([], refl, Appends-nil _) }

pub write_piece-requires-clause-piece_value : goal.write_piece-requires-clause-piece_value
write_piece-requires-clause-piece_value g c =
    let k = c.put_lines-length.ensures in
    piece _ _ _ _ c.loop-out.invariant.left (omega arith) k.wrote k.next_value k.length_in_bounds.0

pub write_piece-requires-clause-piece_in_bounds : goal.write_piece-requires-clause-piece_in_bounds
write_piece-requires-clause-piece_in_bounds g c =
    let k = c.put_lines-length.ensures in
    (left _ _ _ _ c.loop-out.invariant.left (omega arith) k.wrote k.next_value k.length_in_bounds.0).inside

pub loop-out-smaller : goal.loop-out-smaller
loop-out-smaller g c =
    let k = c.put_lines-length.ensures in
    let a = left _ _ _ _ c.loop-out.invariant.left (omega arith) k.wrote k.next_value k.length_in_bounds.0 in
    omega (arith, a.inside, k.length_in_bounds.1, c.in_ok-written.ensures.count)

pub loop-out-preserved : goal.loop-out-preserved
loop-out-preserved g c =
    let k = c.put_lines-length.ensures in
    let i = c.loop-out.invariant in
    let n = kept k.wrote in
    let (before, split, appended) = i.sent in
    record {
      left = rw c.in_ok-written.ensures.count (left _ _ _ _ i.left (omega arith) k.wrote k.next_value k.length_in_bounds.0);
      room = omega arith;
      sent = (
        before ++ take c.put_lines-length.result.length c.put_lines-length.new.out,
        rw c.in_ok-written.ensures.count (cut _ _ _ _ _ split (piece _ _ _ _ i.left (omega arith) k.wrote k.next_value k.length_in_bounds.0)),
        Appends-trans _ _ _ _ _ appended c.in_ok-written.ensures.bytes,
      );
    }

pub returns : goal.returns
returns g c =
    let k = c.put_lines-length.ensures in
    let i = c.loop-out.invariant in
    let (before, split, appended) = i.sent in
    let all = done _ _ _ _ i.left (omega arith) k.wrote k.next_value k.length_in_bounds.0 (omega arith) in
    record { count = all; bytes = subst (Appends _ _) (sym (all_cut _ _ _ _ split all)) appended }
