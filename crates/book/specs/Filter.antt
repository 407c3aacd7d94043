-- A filter: bits that are set one after another, 64 to a word; and the bit of a row's identity.
use Rattle.std.specs.Prelude.{ℕ, ◌+◌, ◌*◌, ◌/◌, ◌%◌, Bool, List, get_or, eqb}
use Rattle.std.specs.Int.{bit_at}
use Rattle.format.specs.Book as book

abbrev pub filter_bits : ℕ
filter_bits = 131072

abbrev pub is_set : List ℕ → ℕ → Bool
is_set ws n = eqb (bit_at (get_or ws (n / 64) 0) (n % 64)) 1

-- Rows of one identity have the same bit; what else it is decides nothing.
abbrev pub bit_of : book.Row → ℕ
bit_of r =
    ((r.link_state_id * 11400714819323198485 % 18446744073709551616 + r.advertising_router * 1609587929392839161 % 18446744073709551616) % 18446744073709551616
    + (r.ls_type * 256 + r.version) * 14029467366897019727 % 18446744073709551616) % 18446744073709551616 / 140737488355328
