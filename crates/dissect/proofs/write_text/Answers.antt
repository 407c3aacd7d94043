use lib.ListN.{replicate, length-replicate}
use Rattle.std.proofs.Common.{ℕ, [], arith, refl, sym, subst}
use Rattle.std.proofs.KnownBytes.{Appends-trans}
use Rattle.std.proofs.lemmas.Result.{on_ok_weaker}
use Rattle.std.specs.Io.KnownBytes.{Appends}
use Rattle.dissect.proofs.Turn.{cut}
use Rattle.dissect.proofs.First.{first, others}
use Rattle.dissect.proofs.write_text.Goals as goal

pub write_piece-requires-clause-piece_value : goal.write_piece-requires-clause-piece_value
write_piece-requires-clause-piece_value g c =
    let k = c.answer_line-k.ensures in
    (first _ (replicate {A = ℕ} 65536 0) _ (length-replicate {A = ℕ} 65536 0) c.run-answer.ensures.walked.value (omega arith) k.wrote k.upper_bound.0).0

pub write_piece-requires-clause-piece_in_bounds : goal.write_piece-requires-clause-piece_in_bounds
write_piece-requires-clause-piece_in_bounds g c =
    let k = c.answer_line-k.ensures in
    (first _ (replicate {A = ℕ} 65536 0) _ (length-replicate {A = ℕ} 65536 0) c.run-answer.ensures.walked.value (omega arith) k.wrote k.upper_bound.0).1

pub write_entries-requires : goal.write_entries-requires
write_entries-requires g c =
    let k = c.answer_line-k.ensures in
    let r = c.run-answer.ensures.walked in
    others _ (replicate {A = ℕ} 65536 0) _ (length-replicate {A = ℕ} 65536 0) r.value (omega arith) k.wrote k.upper_bound.0
    r.strip_after c.shown_part.ensures c.in_ok-written.ensures.count

pub returns-clause-bytes : goal.returns-clause-bytes
returns-clause-bytes g c =
    let k = c.answer_line-k.ensures in
    let f = first _ (replicate {A = ℕ} 65536 0) _ (length-replicate {A = ℕ} 65536 0) c.run-answer.ensures.walked.value (omega arith) k.wrote k.upper_bound.0 in
    let w = c.in_ok-written.ensures in
    on_ok_weaker c.write_entries.result
    (λ rest. subst (Appends _ _) (sym (rw w.count (cut _ [] 0 0 _ refl f.0))) (Appends-trans _ _ _ _ _ w.bytes rest))
    c.write_entries.ensures.bytes
