-- Text as the program prints it, from quoted lines: so that an expected listing can be read.
use Prim.Native.Nat.{ℕ}
use Prim.Native.Char.{code}
use Prim.Native.String.{String, [] as end, ◌∷◌ as ◌then◌}
use mathlib.Core.List.{List, [], ◌∷◌, ◌++◌}

-- The codes of a line's characters, and then a newline.
abbrev pub ascii : String → List ℕ
ascii end = 10 ∷ []
ascii (c then s) = code c ∷ ascii s

abbrev pub lines : List String → List ℕ
lines [] = []
lines (s ∷ ss) = ascii s ++ lines ss
