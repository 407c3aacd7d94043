-- The entries of a whole LSA are those of its parts, in each version.
use Prim.Native.Nat.{ℕ, ◌+◌}
use mathlib.Core.Path.{◌≡◌}
use mathlib.Core.List.{List}
use lib.ListN.{drop}
use Rattle.format.specs.Body.{own_of, rest_of}
use Rattle.format.specs.Header.{header_size, header_entries2, header_entries3}
use Rattle.format.specs.Strip.{direct}
use Rattle.format.specs.V2.{body_of2, lsa_entries2, raw_id2, unparsed_id2}
use Rattle.format.specs.V3.{body_of3, lsa_entries3, raw_id3, unparsed_id3}
use Rattle.format.proofs.Direct.{direct_lsa2, direct_lsa3}
use Rattle.lsa.specs.Whole.{whole}

module _ (d : List ℕ) (o : ℕ) where
  pub parts2 : direct 0 (whole header_entries2 raw_id2 unparsed_id2 body_of2 d o)
      ≡ direct 0 (header_entries2 d o) + (direct 0 (own_of (body_of2 d o)) + direct 0 (rest_of raw_id2 unparsed_id2 (body_of2 d o) (drop header_size d) (o + header_size)))
  unfolding whole lsa_entries2
  parts2 = direct_lsa2 d o

  pub parts3 : direct 0 (whole header_entries3 raw_id3 unparsed_id3 body_of3 d o)
      ≡ direct 0 (header_entries3 d o) + (direct 0 (own_of (body_of3 d o)) + direct 0 (rest_of raw_id3 unparsed_id3 (body_of3 d o) (drop header_size d) (o + header_size)))
  unfolding whole lsa_entries3
  parts3 = direct_lsa3 d o
