-- An update after another that was not refused: the same one changes nothing, any two are their LSAs in one, and none is answered 14.
use Prim.Native.Nat.{ℕ, suc, ◌+◌, ◌<◌}
use native.Mathlib.Omega.{arith}
use mathlib.Core.Path.{◌≡◌, refl, sym, ap, ◌∙◌}
use mathlib.Core.Logic.{inl, ⊎_elim}
use mathlib.Core.Bool.{Bool, true, false, cond}
use mathlib.Core.List.Memᴰ
use mathlib.Core.List.{List, [], ◌∷◌, ◌++◌, Memᴰ}
use mathlib.Core.Option.{Option, none, some}
use lib.ListN.{length, get_or, set}
use Rattle.format.specs.Book.{Row, Book, Taken, is_free, is_of, is_newer, place_of, take_one, take_all, rows_of, book_update}
use Rattle.format.specs.Refusals.{TooOld}
use Rattle.format.specs.Takes.{no_row, row_at, Used, NewIdentities}
use Rattle.format.proofs.Book.{All, Unique, keeps_all, appended}
use Rattle.format.proofs.Book.All.{one_more}
use Rattle.format.proofs.Settled.{Settled, settled_all, again}
use Rattle.format.proofs.LsaRows.{rows_used, rows_small}
use Rattle.format.proofs.BookRefusals.{book_numbers}
use Rattle.format.proofs.Takes.{FitTable, fit_all, unique_twice}
use Rattle.format.proofs.BookHost.{fresh, accepted, accepted_is, fit, fit_table}

-- A row of a table stands at a place.
place : (t : List Row) (r : Row) → Memᴰ r t → (i : ℕ) × (row_at t i ≡ r)
place [] r m = absurd (Memᴰ.not-nil m)
place (x ∷ xs) r m = ⊎_elim (λ q. (0, sym q)) (λ k. let p = place xs r k in (suc p.0, p.1)) (Memᴰ.cases_cons m)

-- Of LSAs that all have a row no identity is new.
none_new : (t rs ns : List Row) → All (Settled no_row t) rs → NewIdentities t rs ns → length ns ≡ 0
none_new t rs [] a n = refl
none_new t rs (x ∷ ns) a n = absurd (let s = found rs a (n.from x (Memᴰ.head refl)) in n.new x (Memᴰ.head refl) s.place s.row)
  where
    found : (rs : List Row) → All (Settled no_row t) rs → Memᴰ x rs → Settled no_row t x
    found [] a m = absurd (Memᴰ.not-nil m)
    found (r ∷ rs) (one_more s a) m = ⊎_elim {C = Settled no_row t x} (λ q. rw q s) (λ k. found rs a k) (Memᴰ.cases_cons m)

same_taken : {m n : ℕ} {a b : Book} → m ≡ n → a ≡ b → ◌≡◌ {A = Taken} (record { number = m; book = a }) (record { number = n; book = b })
same_taken p q = cc

module _ (v : ℕ) (d : List ℕ) (count o : ℕ) (t : List Row) (e : (book_update v d count o t).number ≡ 0) where
  abbrev left : Book
  left = take_all (rows_of v d count) (fresh t)

  unique : Unique no_row left.rows
  unique = (keeps_all no_row (rows_of v d count) (fresh t) (rows_used v d count)).1 (accepted v d count o t e).unique

  -- No two used rows share an identity then, so 14 does not follow.
  pub no_14_follows : (w : ℕ) (f : List ℕ) (k p : ℕ) → (book_update w f k p (book_update v d count o t).book.rows).number ≡ 14 → ⊥
  no_14_follows w f k p = rw (accepted_is v d count o t e) (λ h. unique_twice left.rows unique ((book_numbers w f k p left.rows).fourteen.0 h).2)

  -- Taken again right away, the update is not refused, and replaces and adds nothing.
  module _ (byte : (i : ℕ) → get_or d i 0 < 256) (small : (i : ℕ) → i < length t → (row_at t i).sequence_number < 4294967296) where
    settled : All (Settled no_row left.rows) (rows_of v d count)
    settled = settled_all (rows_of v d count) t no_row (fresh t) (rows_used v d count) (rows_small v d count byte) small (λ x. refl) (accepted v d count o t e).room

    not_old : TooOld (rows_of v d count) left.rows → ⊥
    not_old h = ⊎_elim (λ w. ((book_numbers v d count o t).zero.0 e).1 (inl w)) (λ w. late w.0 (place left.rows w.0 w.1) w.2 w.3) h
      where
        young : FitTable left.rows
        young = fit_all (rows_of v d count) (fresh t) (fit v d count o t byte small e) (fit_table v d count o t byte small e)

        late : (r : Row) → (i : ℕ) × (row_at left.rows i ≡ r) → Used r → 3600 < r.age → ⊥
        late r p u l = let y = young.young p.0 (rw p.1 u) in omega (arith, ap (λ (x : Row). x.age) p.1)

    number_again : (book_update v d count o left.rows).number ≡ 0
    number_again = (book_numbers v d count o left.rows).zero.1 (
      (accepted v d count o t e).walked,
      not_old,
      unique_twice left.rows unique,
      λ w. let l = w.4 in omega (arith, none_new left.rows (rows_of v d count) w.0 settled w.2),
    )

    pub same_update_again : book_update v d count o (book_update v d count o t).book.rows ≡ record { number = 0; book = fresh (book_update v d count o t).book.rows }
    same_update_again = rw (accepted_is v d count o t e) (same_taken number_again (accepted_is v d count o left.rows number_again ∙ again (rows_of v d count) no_row (fresh left.rows) unique settled))

-- Counts before an update are added to those of the update.
abbrev more : (replaced added : ℕ) → Book → Book
more m n b = record { rows = b.rows; replaced = m + b.replaced; added = n + b.added }

same_book : {t : List Row} {m n k l : ℕ} → m ≡ k → n ≡ l → ◌≡◌ {A = Book} (record { rows = t; replaced = m; added = n }) (record { rows = t; replaced = k; added = l })
same_book p q = cc

one_later : (m n : ℕ) (r : Row) (b : Book) → take_one r (more m n b) ≡ more m n (take_one r b)
unfolding take_one
one_later m n r b = go (place_of (is_of r) b.rows) (place_of is_free b.rows)
  where
    choose : (i : ℕ) (s : Bool)
        → ◌≡◌ {A = Book} (cond s (record { rows = set b.rows i r; replaced = m + b.replaced + 1; added = n + b.added }) (more m n b)) (more m n (cond s (record { rows = set b.rows i r; replaced = b.replaced + 1; added = b.added }) b))
    choose i true = same_book (omega arith) refl
    choose i false = refl

    go : (p q : Option ℕ) → ◌≡◌ {A = Book}
        (elim p [
          | some i ↦ cond (is_newer r (get_or b.rows i r)) (record { rows = set b.rows i r; replaced = m + b.replaced + 1; added = n + b.added }) (more m n b)
          | none ↦ elim q [ none ↦ more m n b | some i ↦ record { rows = set b.rows i r; replaced = m + b.replaced; added = n + b.added + 1 } ]
        ])
        (more m n (elim p [
          | some i ↦ cond (is_newer r (get_or b.rows i r)) (record { rows = set b.rows i r; replaced = b.replaced + 1; added = b.added }) b
          | none ↦ elim q [ none ↦ b | some i ↦ record { rows = set b.rows i r; replaced = b.replaced; added = b.added + 1 } ]
        ]))
    go (some i) q = choose i (is_newer r (get_or b.rows i r))
    go none (some i) = same_book refl (omega arith)
    go none none = refl

later : (m n : ℕ) (rs : List Row) (b : Book) → take_all rs (more m n b) ≡ more m n (take_all rs b)
unfolding take_all
later m n [] b = refl
later m n (r ∷ rs) b = ap (take_all rs) (one_later m n r b) ∙ later m n rs (take_one r b)

-- Two updates, neither of which is refused.
pub two_updates : (v : ℕ) (d : List ℕ) (count o : ℕ) (w : ℕ) (f : List ℕ) (k p : ℕ) (t : List Row)
    → let a = book_update v d count o t in
    let b = book_update w f k p a.book.rows in
    a.number ≡ 0 → b.number ≡ 0
    → take_all (rows_of v d count ++ rows_of w f k) (fresh t) ≡ record { rows = b.book.rows; replaced = a.book.replaced + b.book.replaced; added = a.book.added + b.book.added }
two_updates v d count o w f k p t g h =
    let a = book_update v d count o t in
    let first = accepted_is v d count o t g in
    let second = accepted_is w f k p a.book.rows h in
    appended (rows_of v d count) (rows_of w f k) (fresh t)
    ∙ (ap (take_all (rows_of w f k)) (sym first)
    ∙ (ap (take_all (rows_of w f k)) (same_book (omega arith) (omega arith))
    ∙ (later a.book.replaced a.book.added (rows_of w f k) (fresh a.book.rows) ∙ ap (more a.book.replaced a.book.added) (sym second))))
