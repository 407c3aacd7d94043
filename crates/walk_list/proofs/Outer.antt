-- The outer array around the objects of a walk, with what is left after it.
use Prim.Native.Nat.{ℕ, ◌+◌}
use native.Mathlib.Omega.{arith}
use mathlib.Core.Path.{◌≡◌}
use mathlib.Core.List.{List}
use lib.ListN.{length, length-append}
use Rattle.format.specs.Strip.{Entry, encode}
use Rattle.format.specs.Cut.{Span, after}
use Rattle.format.specs.Body.{listing, leftover}
use Rattle.format.specs.Walks.{outer, unparsed_id}
use Rattle.format.proofs.Wrote.{encode-append}
use Rattle.strip_put.specs.declared.Writer.{Writer}
use Rattle.strip_put.specs.Writer.{Writes}
use Rattle.strip_put.proofs.Laws.{then}

module _ (v : ℕ) (f : Span → List Entry) (d : List ℕ) (o p : ℕ) (ss : List Span) where
  pub outer_measured : {l m e : ℕ} → l ≡ length (encode (listing 114 f o p ss)) → e ≡ after p ss → m ≡ length (encode (leftover (unparsed_id v) d o e))
      → l + m ≡ length (encode (outer v f d o p ss))
  unfolding outer
  outer_measured {l} {m} a b c =
      let c' = rw b at c in
      rw (encode-append (listing 114 f o p ss) (leftover (unparsed_id v) d o (after p ss)), length-append (encode (listing 114 f o p ss)) (encode (leftover (unparsed_id v) d o (after p ss)))) (omega (arith, a, c'))

  pub outer_writes : {u x w : Writer} → Writes u (encode (listing 114 f o p ss)) x → Writes x (encode (leftover (unparsed_id v) d o (after p ss))) w → Writes u (encode (outer v f d o p ss)) w
  unfolding outer
  outer_writes a b = rw (encode-append (listing 114 f o p ss) (leftover (unparsed_id v) d o (after p ss))) (then a b)
