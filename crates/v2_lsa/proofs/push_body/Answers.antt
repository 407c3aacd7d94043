use Prim.Native.Nat.{ℕ, ◌≤◌, ◌<◌}
use mathlib.Core.List.{List}
use mathlib.Core.Path.{◌≡◌}
use native.Mathlib.Omega.{arith}
use Rattle.std.proofs.lemmas.Grind.{common_steps}
use Rattle.format.specs.V2.{body2, opaque_lsa}
use Rattle.v2_lsa.proofs.push_body.Goals as goal

opaque : (t u : ℕ) (b : List ℕ) (o : ℕ) → 9 ≤ t → t < 12 → body2 t u b o ≡ opaque_lsa u b o
unfolding body2
opaque t u b o h l = grind (arith, common_steps)

pub returns-in-9-to-11 : goal.returns-in-9-to-11
returns-in-9-to-11 c = rw (opaque c.args.ls_type c.args.opaque_type c.args.body.bytes.now c.args.body.offset (grind arith) (omega arith)) c.push_opaque_lsa.ensures
