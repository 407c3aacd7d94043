-- How long the strip of a whole LSA is at most, in each version.
use Prim.Native.Nat.{ℕ, ◌*◌, ◌≤◌}
use native.Mathlib.Omega.{arith}
use mathlib.Core.List.{List}
use lib.ListN.{length}
use Rattle.format.specs.Header.{header_size, header_entries2, header_entries3}
use Rattle.format.specs.Strip.{encode}
use Rattle.format.specs.V2.{body_of2, lsa_entries2, raw_id2, unparsed_id2}
use Rattle.format.specs.V3.{body_of3, lsa_entries3, raw_id3, unparsed_id3}
use Rattle.format.proofs.Sizes.{lsa_bound2, lsa_bound3}
use Rattle.lsa.specs.Whole.{whole}

pub bound2 : (d : List ℕ) (o : ℕ) → header_size ≤ length d → length (encode (whole header_entries2 raw_id2 unparsed_id2 body_of2 d o)) ≤ 19 * length d
unfolding whole lsa_entries2
bound2 d o h = omega (arith, lsa_bound2 d o h)

pub bound3 : (d : List ℕ) (o : ℕ) → header_size ≤ length d → length (encode (whole header_entries3 raw_id3 unparsed_id3 body_of3 d o)) ≤ 19 * length d
unfolding whole lsa_entries3
bound3 d o h = lsa_bound3 d o h
