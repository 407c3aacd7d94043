-- What a copy into a part of a slice leaves.
use native.Mathlib.Omega.{arith}
use Rattle.std.specs.Prelude.{ℕ, ◌+◌, ◌≤◌, ◌≡◌, refl, List, length}
use Rattle.std.proofs.lemmas.List.Edits.{sets, sets-eq}
use mathlib.Core.List.{append_assoc}
use lib.Seq.{drop-drop}
use borrow.Rule.Slice.PartMut.{put_mid}

pub put_mid-sets : (a k : ℕ) (xs ys : List ℕ) → length ys ≡ k → a + k ≤ length xs → put_mid a k xs ys ≡ sets xs a ys
put_mid-sets a k xs ys h r = rw (sets-eq ys xs a (omega (arith, h)), h, drop-drop, append_assoc) refl
