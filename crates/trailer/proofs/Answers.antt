-- An answer of the definitions and one of the code: there and back.
use Prim.Native.Nat.{◌≤◌, ◌<◌}
use mathlib.Core.Logic.{◌⊎◌}
use mathlib.Core.Path.{◌≡◌, refl}
use Rattle.std.specs.Prelude.{Option, None, Some, Result, Ok, Err}
use Rattle.format.specs.Trailer.{BlockAnswer}
use Rattle.format.specs.Trailer.BlockAnswer.{absent, found, refused}
use Rattle.refusal.specs.declared.Refusal.{Refusal}
use Rattle.refusal.proofs.Numbers.{refusal_by, refusal_back, refusal_meant}
use Rattle.trailer.specs.Answers.{block_meaning}
use Rattle.trailer.specs.declared.Block.{Block}

abbrev pub answered : BlockAnswer → Result (Option Block) Refusal
answered absent = Ok None
answered (found s n) = Ok (Some (record { strip = s; block = n }))
answered (refused n l) = Err (refusal_by n l)

-- What can be answered: all but refusals that the requirements' table doesn't have. The fifth alone gives a length.
abbrev pub Told : BlockAnswer → Type 0
Told absent = 0 ≤ 0
Told (found s n) = 0 ≤ 0
Told (refused n l) = (0 < n) × (n ≤ 15) × ((n ≡ 5) ⊎ (l ≡ 0))

pub meant : (a : BlockAnswer) → Told a → block_meaning (answered a) ≡ a
meant absent t = refl
meant (found s n) t = refl
meant (refused n l) (g, h, e) = let m = refusal_meant n l g h e in rw (m.0, m.1) refl

pub back : (r : Result (Option Block) Refusal) → answered (block_meaning r) ≡ r
back (Ok None) = refl
back (Ok (Some b)) = refl
back (Err r) = rw (refusal_back r) refl
