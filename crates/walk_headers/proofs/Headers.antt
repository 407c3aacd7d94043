-- The headers of a list are as many as fit, one after another; and how long one that stands is.
use Prim.Native.Nat.{ℕ, ◌/◌}
use native.Mathlib.Nat.{sub-zero}
use mathlib.Core.Path.{◌≡◌, refl}
use mathlib.Core.List.{List}
use lib.ListN.{length}
use Rattle.format.specs.Cut.{cut, fixed_rule}
use Rattle.format.specs.Header.{header_size}
use Rattle.format.specs.Body.{whole}
use Rattle.format.specs.Walks.{headers}

pub headers_cut : (d : List ℕ) → headers d ≡ cut (fixed_rule header_size) d (length d / 20) 0
unfolding whole
headers_cut d = rw sub-zero refl
