use Rattle.std.proofs.Common.{◌≡◌, ℕ, ◌+◌, ◌≤◌, List, ◌++◌, rules, length, take, sym, subst, length-take-le}
use Rattle.std.specs.Io.KnownBytes.{Consumes}
use Rattle.std.proofs.KnownBytes.{Consumes-trans}
use borrow.Rule.Slice.PartMut.{put_mid, post_of}
use lib.Seq.{take-append-add, take-append-le}
use Rattle.read_input.proofs.read_full.Goals as goal

-- What is at the front once the front of ys has come to stand from a on.
front_grown : (a k n : ℕ) (xs ys : List ℕ) → a ≤ length xs → n ≤ length ys → take a xs ++ take n ys ≡ take (a + n) (put_mid a k xs ys)
front_grown a k n xs ys inside fits =
    let after = post_of a k xs in
    let length_front = length-take-le a xs inside in
    rw (← take-append-le n ys after fits) (sym (rw length_front at (take-append-add (take a xs) (ys ++ after) n)))

pub loop-done-preserved : goal.loop-done-preserved
loop-done-preserved g c =
    let i = c.loop-done.invariant in
    let r = c.in_ok-n.ensures in
    record {
      inside = search rules;
      taken = subst (Consumes _ _) (front_grown _ _ _ _ _ i.inside r.bound.0) (Consumes-trans _ _ _ _ _ i.taken r.bytes.0);
    }
