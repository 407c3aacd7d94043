-- Which bytes are taken for an LSA.
use Rattle.std.specs.Prelude.{◌≡◌, ℕ, true, false, List, Result, Ok, Err}
use Rattle.std.specs.Borrow.{Bor}
use Rattle.format.specs.Checksum.{is_lsa}
use Rattle.refusal.specs.declared.Refusal.{Refusal}
use Rattle.refusal.specs.declared.Refusal.TheVariants.{NoLsa}
use Rattle.checksum.specs.declared.Lsa.{Lsa}

abbrev pub Takes : Bor (List ℕ) → Result Lsa Refusal → Type 0
Takes bytes (Ok lsa) = (lsa.bytes.now ≡ bytes.now) × (is_lsa bytes.now ≡ true)
Takes bytes (Err r) = (r ≡ NoLsa) × (is_lsa bytes.now ≡ false)
