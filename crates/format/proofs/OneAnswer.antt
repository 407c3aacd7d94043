-- What a caller may rely on of an update that is taken against a table leaves one answer, and one table.
use Prim.Native.Nat.{ℕ, ◌≤◌, ◌<◌}
use native.Mathlib.Omega.{arith}
use mathlib.Core.Path.{◌≡◌, sym, subst, ◌∙◌}
use mathlib.Core.Logic.{◌⊎◌, inl, inr, ⊎_elim}
use mathlib.Core.Bool.{Bool}
use mathlib.Core.List.{List}
use Rattle.format.specs.Cut.{Span, record_rule}
use Rattle.format.specs.CutInto.{RecordAt}
use Rattle.format.specs.Walks.{refusal}
use Rattle.format.specs.Book.{Row}
use Rattle.format.specs.Refusals.{Walked, BookNumbers}
use Rattle.format.specs.Takes.{LsaRows}
use Rattle.format.specs.Host.{result_in, number_in, block_in, BookAnswer, BookHost}
use Rattle.format.proofs.Decided.{Decided, equal, version}
use Rattle.format.proofs.Decided.Decided.{holds, fails}
use Rattle.format.proofs.CutInto.{record_stands, only-cut}
use Rattle.format.proofs.LsaRows.{only_rows, used_rows}
use Rattle.format.proofs.BookRefusals.{walk_numbers}
use Rattle.format.proofs.Takes.{only_taken}

-- A number is one of the table's, by its condition.
module _ (v : ℕ) (d : List ℕ) (o : ℕ) {rs t : List Row} {n : ℕ} (a : BookNumbers v d o rs t n) where
  -- The walk's own have nothing to do with the rows.
  of_walk : {qs : List Row} {m : ℕ} → 0 < n → n ≤ 4 → BookNumbers v d o qs t m → n ≡ m
  of_walk {qs} {m} l h b = go (equal n 1) (equal n 2) (equal n 3)
    where
      go : {x y z : Bool} → Decided (n ≡ 1) x → Decided (n ≡ 2) y → Decided (n ≡ 3) z → n ≡ m
      go (holds e) y z = e ∙ sym (b.one.1 (a.one.0 e))
      go (fails x) (holds e) z = e ∙ sym (b.two.1 (a.two.0 e))
      go (fails x) (fails y) (holds e) = e ∙ sym (b.three.1 (a.three.0 e))
      go (fails x) (fails y) (fails z) = let e : n ≡ 4 = omega (arith, x, y, z) in e ∙ sym (b.four.1 (a.four.0 e))

  of_rows : {m : ℕ} → BookNumbers v d o rs t m → n ≡ m
  of_rows {m} b = ⊎_elim (λ h. small h (equal n 0)) (⊎_elim (λ e. e ∙ sym (b.eleven.1 (a.eleven.0 e))) (⊎_elim (λ e. e ∙ sym (b.fourteen.1 (a.fourteen.0 e))) (λ e. e ∙ sym (b.fifteen.1 (a.fifteen.0 e))))) a.no_other
    where
      small : n ≤ 4 → {x : Bool} → Decided (n ≡ 0) x → n ≡ m
      small h (holds e) = e ∙ sym (b.zero.1 (a.zero.0 e))
      small h (fails f) = of_walk (omega (arith, f)) h b

  -- A number that is not the walk's is that of a walked update.
  is_walked : (Walked v d o → ⊥) → (0 < n) × (n ≤ 4)
  is_walked f = ⊎_elim (λ h. (above (equal n 0), h)) (⊎_elim (λ e. absurd (f (a.eleven.0 e).0)) (⊎_elim (λ e. absurd (f (a.fourteen.0 e).0)) (λ e. absurd (f (a.fifteen.0 e).0)))) a.no_other
    where
      above : {x : Bool} → Decided (n ≡ 0) x → 0 < n
      above (holds e) = absurd (f (a.zero.0 e).0)
      above (fails g) = omega (arith, g)

-- The three parts of an answer are the whole of it.
whole_answer : (r q : ℕ) → result_in r ≡ result_in q → number_in r ≡ number_in q → block_in r ≡ block_in q → r ≡ q
whole_answer r q e f g = omega arith

module _ (v : ℕ) (d : List ℕ) (count o : ℕ) (before : List Row) {after left : List Row} {r q : ℕ} (a : BookHost v d count o before after r) (b : BookHost v d count o before left q) where
  -- The LSAs are those of the one cut.
  same_lsas : Walked v d o → b.lsas ≡ a.lsas
  same_lsas w =
      let e = only-cut record_rule d (RecordAt d) (record_stands d) count 4 a.spans a.end a.tail (a.is_cut w.3) in
      let f = only-cut record_rule d (RecordAt d) (record_stands d) count 4 b.spans b.end b.tail (b.is_cut w.3) in
      only_rows v d (known (version v)) (subst (λ (ss : List Span). LsaRows v d ss b.lsas) (f.0 ∙ sym e.0) b.rows) a.rows
    where
      known : {x : Bool} → Decided ((v ≡ 2) ⊎ (v ≡ 3)) x → (v ≡ 2) ⊎ (v ≡ 3)
      known (holds k) = k
      known (fails f) = absurd (w.0 (λ e. f (inl e), λ e. f (inr e)))

  other : Walked v d o → BookAnswer v d o a.lsas before left q
  other w = rw (same_lsas w) at b.answer

  same_number : number_in r ≡ number_in q
  same_number = go (equal (refusal v d o 4) 0)
    where
      go : {x : Bool} → Decided (refusal v d o 4 ≡ 0) x → number_in r ≡ number_in q
      go (holds z) = let c = (walk_numbers v d o).zero.0 z in of_rows v d o a.answer.numbers (other (c.0, c.1, c.2, c.3)).numbers
      go (fails f) =
          let s = is_walked v d o a.answer.numbers (λ w. f ((walk_numbers v d o).zero.1 (w.0, w.1, w.2, w.3, omega arith))) in
          of_walk v d o a.answer.numbers s.0 s.1 b.answer.numbers

  pub one_answer : (after ≡ left) × (r ≡ q)
  one_answer = go (equal (number_in r) 0)
    where
      go : {x : Bool} → Decided (number_in r ≡ 0) x → (after ≡ left) × (r ≡ q)
      go (holds z) =
          let n = a.answer.numbers.zero.0 z in
          let c = other n.0 in
          let t = only_taken (used_rows a.rows) n.2 (a.answer.takes z) (c.takes (sym same_number ∙ z)) in
          (t.0, whole_answer r q t.1 same_number t.2)
      go (fails f) =
          let x = a.answer.refused f in
          let y = b.answer.refused (λ z. f (same_number ∙ z)) in
          (x.0 ∙ sym y.0, whole_answer r q (x.1 ∙ sym y.1) same_number (x.2 ∙ sym y.2))
