-- Every answer of a stored call can be told, of a walk and of a block, as the answers that they are of the definitions.
use Prim.Native.Nat.{ℕ}
use mathlib.Core.Bool.{Bool, true, false, cond}
use mathlib.Core.List.{List}
use mathlib.Core.Logic.{inl, inr}
use mathlib.Core.Path.{◌≡◌, refl}
use lib.Dec.{eqb}
use Rattle.format.specs.Walks.{answer_of, named_of}
use Rattle.format.specs.Trailer.{BlockAnswer, lls_of, auth_trailer_of}
use Rattle.format.specs.Trailer.BlockAnswer.{absent, found, refused}
use Rattle.trailer.proofs.Answers as trailer
use Rattle.trailer.proofs.Told.{told_lls, told_auth_trailer}
use Rattle.walk_answer.specs.Answers.{answer_meaning}
use Rattle.walk_answer.proofs.Answers.{Told, answered, answer-meant}
use Rattle.walk_answer.proofs.Told.{told_named}
use Rattle.replay_agreement.proofs.Blocks.{as_answer}
use Rattle.replay_agreement.specs.Agree.{as_walk, call_of}
use Rattle.replay_agreement.specs.Blocks.{stored}

told_stored : (a : BlockAnswer) → trailer.Told a → Told (stored a)
told_stored absent t = inl refl
told_stored (found s n) t = inl refl
told_stored (refused n l) (g, h, e) = inr (g, h, e, refl, refl)

module _ (v n : ℕ) (d : List ℕ) (count o room : ℕ) where
  pub told_call : Told (answer_of (call_of v n d count o) room)
  unfolding call_of
  told_call = go (eqb n 3) (eqb n 4)
    where
      go : (s t : Bool) → Told (answer_of (cond s (as_walk (lls_of d o)) (cond t (as_walk (auth_trailer_of d o)) (named_of v n d count o))) room)
      go true t = rw (← as_answer (lls_of d o) room) (told_stored _ (told_lls d o room))
      go false true = rw (← as_answer (auth_trailer_of d o) room) (told_stored _ (told_auth_trailer d o room))
      go false false = told_named v d n count o room

  -- There and back.
  pub call_meant : answer_meaning (answered (answer_of (call_of v n d count o) room)) ≡ answer_of (call_of v n d count o) room
  call_meant = answer-meant _ told_call
