-- Every answer of a reading can be told: no block, a block, or a refusal of the requirements' table. So the code's answer says it.
use Prim.Native.Nat.{ℕ, ◌≤◌, ◌<◌}
use native.Mathlib.Omega.{arith}
use mathlib.Core.Bool.{Bool, true, false, cond}
use mathlib.Core.List.{List}
use mathlib.Core.Logic.{inl, inr}
use mathlib.Core.Option.{Option, none, some}
use mathlib.Core.Path.{◌≡◌, refl}
use lib.Dec.{eqb, ltb}
use lib.ListN.{length}
use borrow.Author.Tests.{eqb-false}
use Rattle.format.specs.Strip.{Entry, encode}
use Rattle.format.specs.Trailer.{block_of, block_answer, limit, lls_of, lls_rule, lls_entries, auth_trailer_of, auth_trailer_rule, auth_trailer_entries}
use Rattle.format.specs.Trailer.Block.{refused, found}
use Rattle.trailer.specs.Answers.{block_meaning}
use Rattle.trailer.proofs.Answers.{Told, answered, meant}

limit_most : (d : List ℕ) (o : ℕ) → limit d o ≤ 3
limit_most d o = go (ltb 65535 (length d)) (ltb 4294901760 o)
  where
    go : (a b : Bool) → cond a 2 (cond b 3 0) ≤ 3
    go true b = omega arith
    go false true = omega arith
    go false false = omega arith

pub told_refused : (n room : ℕ) → 0 < n → n ≤ 15 → Told (block_answer (refused n) room)
unfolding block_answer
told_refused n room g h = (g, h, inr refl)

pub told_found : (es : List Entry) (n room : ℕ) → Told (block_answer (found es n) room)
unfolding block_answer
told_found es n room = go (ltb room (length (encode es))) refl
  where
    go : (f : Bool) → ltb room (length (encode es)) ≡ f → Told (block_answer (found es n) room)
    go true q = rw q (omega arith, omega arith, inl refl)
    go false q = rw q (omega arith)

-- A refusal for data or offset, or what a rule finds.
pub told_block : (d : List ℕ) (o : ℕ) (size : Option ℕ) (entries : ℕ → List Entry) (room : ℕ) → Told (block_answer (block_of (limit d o) size entries) room)
unfolding block_of block_answer
told_block d o size entries room = go (eqb (limit d o) 0) refl size
  where
    go : (s : Bool) → eqb (limit d o) 0 ≡ s → (size : Option ℕ) → Told (block_answer (block_of (limit d o) size entries) room)
    go true p none = rw p (omega arith)
    go true p (some n) = rw p (told_found (entries n) n room)
    go false p size =
        let z = eqb-false (limit d o) 0 p in
        let m = limit_most d o in
        rw p (told_refused (limit d o) room (omega (arith, z)) (omega (arith, m)))

module _ (d : List ℕ) (o room : ℕ) where
  pub told_lls : Told (block_answer (lls_of d o) room)
  told_lls = told_block d o (lls_rule d 0) (lls_entries d o) room

  pub told_auth_trailer : Told (block_answer (auth_trailer_of d o) room)
  told_auth_trailer = told_block d o (auth_trailer_rule d 0) (auth_trailer_entries d o) room

  -- There and back, for every answer that a reading gives.
  pub lls_meant : block_meaning (answered (block_answer (lls_of d o) room)) ≡ block_answer (lls_of d o) room
  lls_meant = meant _ told_lls

  pub auth_trailer_meant : block_meaning (answered (block_answer (auth_trailer_of d o) room)) ≡ block_answer (auth_trailer_of d o) room
  auth_trailer_meant = meant _ told_auth_trailer
