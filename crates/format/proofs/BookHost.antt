-- From the host's number to what a caller may rely on, for an update that is taken against a lent table.
use Prim.Native.Nat.{ℕ, zero, suc, ◌+◌, ◌*◌, ◌≤◌, ◌<◌}
use native.Mathlib.Omega.{arith}
use mathlib.Core.Path.{◌≡◌, refl, sym, ap, ◌∙◌}
use mathlib.Core.Logic.{inl, inr, ⊎_elim}
use mathlib.Core.Bool.{Bool, cond}
use mathlib.Core.List.{List, [], ◌∷◌, Memᴰ}
use lib.ListN.{length, get_or}
use borrow.Author.Tests.{eq-eqb, ne_eqb}
use Rattle.format.specs.Cut.{after}
use Rattle.format.specs.Walks.{lsas}
use Rattle.format.specs.Packed.{word, packed_update}
use Rattle.format.specs.Book.{Row, Book, Taken, free_rows, new_identities, take_all, rows_of, book_refusal, book_update}
use Rattle.format.specs.Refusals.{Walked, BookNumbers}
use Rattle.format.specs.Takes.{no_row, row_at, Used, Outnumbered}
use Rattle.format.specs.Host.{result_in, number_in, block_in, BookAnswer, BookHost}
use Rattle.format.proofs.Decided.{Decided, less, equal}
use Rattle.format.proofs.Decided.Decided.{holds, fails}
use Rattle.format.proofs.Book.{All, Unique, same_self, keeps_all, untouched, at_most}
use Rattle.format.proofs.Book.All.{none_left, one_more}
use Rattle.format.proofs.Counted.{counted}
use Rattle.format.proofs.Identities.{news, identities, identities_counted, outnumbered}
use Rattle.format.proofs.LsaRows.{lsa_rows, lsas_cut, rows_used, rows_fit, rows_small}
use Rattle.format.proofs.BookRefusals.{book_numbers}
use Rattle.format.proofs.Takes.{Fit, FitTable, within, unique_twice, twice_unique, each_row, AllTaken, all_taken}

-- A table with no count yet.
abbrev pub fresh : List Row → Book
fresh t = record { rows = t; replaced = 0; added = 0 }

-- The row at a place of a table is one of its rows; and what holds of each row of a list holds of all.
row_in : (t : List Row) (i : ℕ) → i < length t → Memᴰ (row_at t i) t
row_in [] i h = absurd (omega arith)
row_in (x ∷ xs) zero h = Memᴰ.head refl
row_in (x ∷ xs) (suc i) h = Memᴰ.tail (row_in xs i (omega arith))

all_of : {p : Row → Type 0} (rs : List Row) → ((r : Row) → Memᴰ r rs → p r) → All p rs
all_of [] h = none_left
all_of (r ∷ rs) h = one_more (h r (Memᴰ.head refl)) (all_of rs (λ x m. h x (Memᴰ.tail m)))

fit_rows : (rs : List Row) → All Used rs → All (λ r. r.sequence_number < 4294967296) rs → ((r : Row) → Memᴰ r rs → 3600 < r.age → ⊥) → All Fit rs
fit_rows [] none_left none_left h = none_left
fit_rows (r ∷ rs) (one_more u a) (one_more n l) h =
    one_more (record { used = u; small = n; young = let f = h r (Memᴰ.head refl) in omega arith }) (fit_rows rs a l (λ x m. h x (Memᴰ.tail m)))

-- Packing loses nothing.
unpacked_update : (n x y : ℕ) → x < 4294967296 → n < 256 → let r = y * 1099511627776 + word n x in (result_in r ≡ x) × (number_in r ≡ n) × (block_in r ≡ y)
unpacked_update n x y h k = (omega arith, omega arith, omega arith)

module _ (v : ℕ) (d : List ℕ) (count o : ℕ) (t : List Row) where
  abbrev rs : List Row
  rs = rows_of v d count

  abbrev taken : Taken
  taken = book_update v d count o t

  -- An update that is refused leaves the table.
  refused_is : (taken.number ≡ 0 → ⊥) → taken.book ≡ fresh t
  unfolding book_update
  refused_is f = ap (λ (b : Bool). cond b (take_all rs (fresh t)) (fresh t)) (ne_eqb (book_refusal v d count o t) 0 f)

  -- One that is not takes its LSAs, which newness does not refuse, and for which there is room.
  pub accepted_is : taken.number ≡ 0 → taken.book ≡ take_all rs (fresh t)
  unfolding book_update
  accepted_is e = ap (λ (b : Bool). cond b (take_all rs (fresh t)) (fresh t)) (eq-eqb (book_refusal v d count o t) 0 e)

  numbers : BookNumbers v d o rs t taken.number
  numbers = book_numbers v d count o t

  small_number : taken.number < 256
  small_number = ⊎_elim (λ z. omega arith) (⊎_elim (λ z. omega arith) (⊎_elim (λ z. omega arith) (λ z. omega arith))) numbers.no_other

  pub record Accepted : Type 0 where
    pub walked : Walked v d o
    pub unique : Unique no_row t
    pub room : new_identities t rs ≤ free_rows t

  pub accepted : taken.number ≡ 0 → Accepted
  accepted e =
      let z = numbers.zero.0 e in
      record { walked = z.0; unique = twice_unique t z.2; room = go z.3 (less (free_rows t) (new_identities t rs)) (outnumbered rs t (rows_used v d count)) }
    where
      go : (Outnumbered rs t → ⊥) → {b : Bool} → Decided (free_rows t < new_identities t rs) b → Decided (Outnumbered rs t) b → new_identities t rs ≤ free_rows t
      go f (holds l) (holds w) = absurd (f w)
      go f (fails g) w = omega (arith, g)

  counts_fit : Walked v d o → length rs < 4294967296
  counts_fit w = let m = w.1 in let l = w.3 in omega (arith, rows_fit v d count (omega (arith, l)))

  module _ (byte : (i : ℕ) → get_or d i 0 < 256) (small : (i : ℕ) → i < length t → (row_at t i).sequence_number < 4294967296) where
    pub fit : taken.number ≡ 0 → All Fit rs
    fit e = let z = numbers.zero.0 e in fit_rows rs (rows_used v d count) (rows_small v d count byte) (λ r m h. z.1 (inl (r, m, h)))

    pub fit_table : taken.number ≡ 0 → FitTable t
    fit_table e =
        let z = numbers.zero.0 e in
        record { small = small; young = λ i u. let f : 3600 < (row_at t i).age → ⊥ = λ h. z.1 (inr (row_at t i, row_in t i (within t i u), u, h)) in omega arith }

    took_all : taken.number ≡ 0 → AllTaken rs (fresh t) (take_all rs (fresh t))
    took_all e = all_taken rs t (fresh t) (fit e) (fit_table e) (λ x. refl) (accepted e).room

    -- What is answered of the table that an update leaves.
    answer : BookAnswer v d o rs t taken.book.rows (packed_update taken)
    answer = go (equal taken.number 0)
      where
        when_refused : (taken.number ≡ 0 → ⊥) → BookAnswer v d o rs t (fresh t).rows ((fresh t).added * 1099511627776 + word taken.number (fresh t).replaced)
        when_refused f =
            let u = unpacked_update taken.number 0 0 (omega arith) small_number in
            record {
              numbers = rw u.1 numbers;
              refused = λ z. (refl, u.0, u.2);
              takes = λ z. absurd (f (sym u.1 ∙ z));
              unique = λ z. absurd (f (sym u.1 ∙ z));
              additions = λ z. absurd (f (sym u.1 ∙ z));
              at_most = omega (arith, u.0, u.2);
              stays = λ i k. (k, same_self _);
              each = λ i. inl refl;
              others = λ i k m. refl;
              as_long = refl;
            }

        when_accepted : taken.number ≡ 0 → BookAnswer v d o rs t (take_all rs (fresh t)).rows ((take_all rs (fresh t)).added * 1099511627776 + word taken.number (take_all rs (fresh t)).replaced)
        when_accepted e =
            let c = take_all rs (fresh t) in
            let w = accepted e in
            let a = took_all e in
            let m = at_most rs (fresh t) in
            let l = counts_fit w.walked in
            let k = keeps_all no_row rs (fresh t) (rows_used v d count) in
            let u = unpacked_update taken.number c.replaced c.added (omega arith) small_number in
            let r = c.added * 1099511627776 + word taken.number c.replaced in
            let replaced_is : result_in r ≡ a.replaced = omega (arith, u.0, a.replaced_more) in
            let added_is : block_in r ≡ a.added = omega (arith, u.2, a.added_more) in
            record {
              numbers = rw u.1 numbers;
              refused = λ z. absurd (z (u.1 ∙ e));
              takes = λ z. rw (replaced_is, added_is) a.takes;
              unique = λ z. unique_twice c.rows (k.1 w.unique);
              additions = λ z ns n. u.2 ∙ (counted rs t (fresh t) (rows_used v d count) (λ x. refl) w.room ∙ (omega arith ∙ sym (identities_counted t rs ns (rows_used v d count) n)));
              at_most = omega (arith, u.0, u.2);
              stays = λ i n. k.0.stays i (within t i n) n;
              each = λ i. each_row rs no_row (fresh t) i;
              others = λ i n f. untouched rs no_row (fresh t) i n (all_of rs f);
              as_long = k.0.size;
            }

        go : {b : Bool} → Decided (taken.number ≡ 0) b → BookAnswer v d o rs t taken.book.rows (packed_update taken)
        go (holds e) = rw (accepted_is e) (when_accepted e)
        go (fails f) = rw (refused_is f) (when_refused f)

    pub book_host : (after : List Row) (r : ℕ) → r ≡ packed_update taken → after ≡ taken.book.rows → BookHost v d count o t after r
    book_host after r e f = rw (e, f) (record {
      spans = lsas d count;
      end = _;
      tail = _;
      lsas = rs;
      identities = news t rs;
      is_cut = λ l. lsas_cut d count (omega (arith, l));
      rows = lsa_rows v d count;
      new = identities t rs (rows_used v d count);
      answer = answer;
    })
