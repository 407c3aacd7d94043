-- Updates against a table, worked out: what is replaced, added and left, the refusals of the table, and that the order counts.
use Prim.Native.Nat.{ℕ, ◌+◌, ◌*◌}
use mathlib.Core.Path.{◌≡◌, refl}
use mathlib.Core.List.{List, [], ◌∷◌, ◌++◌}
use Rattle.format.specs.Cut.{cut, standing}
use Rattle.format.specs.Header.{newness}
use Rattle.format.specs.Book.{Row, Book, rows_from, same_identity, place_of, take_one, take_all, any, is_twice, free_rows, new_identities, book_refusal, book_update}
use Rattle.format.specs.Takes.{no_row}

-- A row of version 3 from the router 192.168.0.1, and an LSA of 20 bytes that has it: the LS type is 256 times the first number, and
-- 1; the LS sequence number 0x80000000 and the last.
abbrev row : (scope id sequence mark age : ℕ) → Row
row t i n m a = record { version = 3; used = m; ls_type = t * 256 + 1; link_state_id = i; advertising_router = 3232235521; sequence_number = 2147483648 + n; checksum = 4660; age = a }

abbrev lsa : (scope id sequence age : ℕ) → List ℕ
lsa t i n a = 0 ∷ a ∷ t ∷ 1 ∷ 0 ∷ 0 ∷ 0 ∷ i ∷ 192 ∷ 168 ∷ 0 ∷ 1 ∷ 128 ∷ 0 ∷ 0 ∷ n ∷ 18 ∷ 52 ∷ 0 ∷ 20 ∷ []

-- A newer instance; an LSA that differs from it in the scope bits alone, twice; an older one; and one that is past the count.
abbrev update : List ℕ
update = 0 ∷ 0 ∷ 0 ∷ 4 ∷ (lsa 32 5 2 9 ++ lsa 64 5 1 7 ++ lsa 64 5 1 8 ++ lsa 32 6 1 9 ++ lsa 32 7 1 9)

-- A table whose first row has a mark above 1, and whose unused rows hold the identity of an LSA and an age above 3,600.
abbrev table : List Row
table = row 32 5 1 7 9 ∷ row 64 5 3 0 9 ∷ row 32 6 2 1 9 ∷ row 0 0 0 0 4000 ∷ []

abbrev number_of : (version : ℕ) → List Row → ℕ
number_of v t = (book_update v update 4 0 t).number

pub record WorkedUpdates : Type 0 where
  pub taken : book_update 3 update 4 0 table
      ≡ record { number = 0; book = record { rows = row 32 5 2 1 9 ∷ row 64 5 1 1 7 ∷ row 32 6 2 1 9 ∷ row 0 0 0 0 4000 ∷ []; replaced = 1; added = 1 } }
  pub version : number_of 4 table ≡ 1
  pub old : number_of 3 (row 32 5 1 1 3601 ∷ row 32 5 1 1 9 ∷ []) ≡ 11
  pub twice : number_of 3 (row 32 5 1 1 3600 ∷ row 32 5 1 2 9 ∷ []) ≡ 14
  pub no_room : number_of 3 (row 32 5 1 1 9 ∷ row 32 6 1 1 9 ∷ []) ≡ 15
  pub just_room : number_of 3 (row 32 5 1 1 9 ∷ row 32 6 1 1 9 ∷ row 0 0 0 0 0 ∷ []) ≡ 0

pub worked_updates : WorkedUpdates
unfolding book_update book_refusal rows_from cut standing newness same_identity place_of take_one take_all any is_twice free_rows new_identities
worked_updates = record { taken = refl; version = refl; old = refl; twice = refl; no_room = refl; just_room = refl }

-- Being the same is not transitive, so the order counts: of three instances that differ in age alone, in two orders.
abbrev instance_of_age : ℕ → Row
instance_of_age a = record { version = 2; used = 1; ls_type = 1; link_state_id = 5; advertising_router = 5; sequence_number = 7; checksum = 9; age = a }

abbrev one_free_row : Book
one_free_row = record { rows = no_row ∷ []; replaced = 0; added = 0 }

pub order_counts :
    (take_all (instance_of_age 0 ∷ instance_of_age 900 ∷ instance_of_age 1800 ∷ []) one_free_row ≡ record { rows = instance_of_age 0 ∷ []; replaced = 0; added = 1 })
    × (take_all (instance_of_age 900 ∷ instance_of_age 0 ∷ instance_of_age 1800 ∷ []) one_free_row ≡ record { rows = instance_of_age 900 ∷ []; replaced = 0; added = 1 })
unfolding take_all take_one place_of same_identity newness
order_counts = (refl, refl)
