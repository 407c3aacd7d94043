-- When an entry stands, both ways, for each of the three lists in its own numbers; and that each list has exactly one cut
-- in the words of specs/CutInto.antt, which is the one that `cut` gives.
use Prim.Native.Nat.{ℕ, ◌+◌, ◌*◌, ◌-◌, ◌/◌, ◌%◌, ◌≤◌, ◌<◌}
use native.Mathlib.Omega.{arith}
use mathlib.Core.Path.{◌≡◌, refl, sym, ap, subst, ◌∙◌}
use mathlib.Core.Logic.{◌↔◌, ⊎_elim}
use mathlib.Core.Bool.{Bool, true, false, cond}
use mathlib.Core.List.Memᴰ
use mathlib.Core.List.{List, Memᴰ}
use mathlib.Core.Option.{Option, none, some}
use lib.ListN.{length, get_or}
use lib.Dec.{leb}
use borrow.Author.Tests.{leb-true, le-leb}
use Rattle.format.specs.Bytes.{be16_at}
use Rattle.format.specs.Prefix.{octets}
use Rattle.format.specs.Cut.{Span, Rule, cut, after, Stands, standing, record_rule, link_rule, prefix_rule, fixed_rule}
use Rattle.format.specs.Cut.Stands.{done as no_more, next as one_more}
use Rattle.format.specs.CutInto.{FixedAt, RecordAt, LinkAt, PrefixAt, EndToEnd, CutInto}
use Rattle.format.specs.CutInto.EndToEnd.{done, next}
use Rattle.format.proofs.Rules.{inside}
use Rattle.format.proofs.Unique.{is_cut, only}

-- The converse of `inside`.
pub stands_where : (least : ℕ) (declared : Rule) (b : List ℕ) (p n : ℕ) → declared b p ≡ some n → least ≤ n → p + n ≤ length b → standing least declared b p ≡ some n
unfolding standing
stands_where least declared b p n e h k = rw (le-leb (p + least) (length b) (omega arith), e, le-leb least n h, le-leb (p + n) (length b) k)

some_is : {x y : ℕ} → some x ≡ some y → x ≡ y
some_is e = cc

abbrev declared_record : Rule
declared_record b p = some (be16_at b (p + 18))

pub record_stands : (b : List ℕ) (p n : ℕ) → (record_rule b p ≡ some n) ↔ RecordAt b p n
record_stands b p n = (
  λ e. let i = inside 20 declared_record b p n e in record { declared = sym (some_is i.length_declared) ∙ places; least = i.enough; inside = i.within },
  λ h. stands_where 20 declared_record b p n (ap some (places ∙ sym h.declared)) h.least h.inside,
)
  where
    places : be16_at b (p + 18) ≡ get_or b (p + 18) 0 * 256 + get_or b (p + 19) 0
    places = let q : p + 18 + 1 ≡ p + 19 = omega arith in rw q

abbrev declared_fixed : ℕ → Rule
declared_fixed n b p = some n

pub fixed_stands_at : (one : ℕ) (b : List ℕ) (p n : ℕ) → (fixed_rule one b p ≡ some n) ↔ FixedAt one b p n
fixed_stands_at one b p n = (
  λ e. let i = inside one (declared_fixed one) b p n e in record { declared = sym (some_is i.length_declared); inside = i.within },
  λ h. stands_where one (declared_fixed one) b p n (ap some (sym h.declared)) (omega (arith, h.declared)) h.inside,
)

abbrev declared_link : Rule
declared_link b p = some (12 + get_or b (p + 9) 0 * 4)

pub link_stands : (b : List ℕ) (p n : ℕ) → (link_rule b p ≡ some n) ↔ LinkAt b p n
link_stands b p n = (
  λ e. let i = inside 12 declared_link b p n e in record { declared = sym (some_is i.length_declared) ∙ omega arith; inside = i.within },
  λ h. stands_where 12 declared_link b p n (ap some (let d = h.declared in omega arith)) (omega (arith, h.declared)) h.inside,
)

-- The octets of a prefix: the fewest whole words that hold its bits.
pub octets_are : (l n : ℕ) → (octets l ≡ some n) ↔ ((l ≤ 128) × (n % 4 ≡ 0) × (l ≤ n * 8) × (n * 8 < l + 32))
unfolding octets
octets_are l n = (λ e. go (leb l 128) refl e, λ h. rw (le-leb l 128 h.0) (ap some (let a = h.1 in let b = h.2 in let c = h.3 in omega arith)))
  where
    go : (t : Bool) → leb l 128 ≡ t → cond t (some ((l + 31) / 32 * 4)) none ≡ some n → (l ≤ 128) × (n % 4 ≡ 0) × (l ≤ n * 8) × (n * 8 < l + 32)
    go true h q = let z : (l + 31) / 32 * 4 ≡ n = cc in (leb-true l 128 h, omega arith, omega arith, omega arith)
    go false h q = let z : ◌≡◌ {A = ℕ} 0 1 = cc in absurd (omega arith)

abbrev declared_prefix : Rule
declared_prefix b p = elim (octets (get_or b p 0)) [ none ↦ none | some n ↦ some (4 + n) ]

pub prefix_stands : (b : List ℕ) (p n : ℕ) → (prefix_rule b p ≡ some n) ↔ PrefixAt b p n
prefix_stands b p n = (
  λ e. let i = inside 4 declared_prefix b p n e in pick (octets (get_or b p 0)) refl i.length_declared i.within,
  λ h. stands_where 4 declared_prefix b p n
      (rw (declared_prefix, (octets_are (get_or b p 0) (n - 4)).1 (h.most, h.words, h.enough, h.fewest)) (ap some (let l = h.least in omega arith))) h.least h.inside,
)
  where
    pick : (x : Option ℕ) → octets (get_or b p 0) ≡ x → elim x [ none ↦ none | some m ↦ some (4 + m) ] ≡ some n → p + n ≤ length b → PrefixAt b p n
    pick none e q k = let z : ◌≡◌ {A = ℕ} 0 1 = cc in absurd (omega arith)
    pick (some m) e q k =
        let z : 4 + m ≡ n = cc in
        let o = (octets_are (get_or b p 0) m).0 e in
        let w : m ≡ n - 4 = omega arith in
        record { most = o.0; least = omega arith; words = rw w at o.1; enough = rw w at o.2; fewest = rw w at o.3; inside = k }

-- One theorem for every list whose rule says when an entry stands.
module _ (r : Rule) (b : List ℕ) (standsAt : ℕ → ℕ → Type 0) (says : (p n : ℕ) → (r b p ≡ some n) ↔ standsAt p n) where
  joined : {p : ℕ} {ss : List Span} → Stands r b p ss → EndToEnd p ss (after p ss)
  unfolding after
  joined no_more = done
  joined (one_more e f t) = next e (joined t)

  pub each_stands : {p : ℕ} {ss : List Span} → Stands r b p ss → (s : Span) → Memᴰ s ss → standsAt s.at s.len
  each_stands no_more s m = absurd (Memᴰ.not-nil m)
  each_stands (one_more {s = x} e f t) s m = ⊎_elim {C = standsAt s.at s.len}
      (λ q. subst (λ (y : Span). standsAt y.at y.len) (sym q) (rw e ((says _ _).0 f)))
      (λ k. each_stands t s k)
      (Memᴰ.cases_cons m)

  pub cut_into : (count p tail : ℕ) → after p (cut r b count p) ≤ length b → tail ≡ length b - after p (cut r b count p)
      → CutInto standsAt (length b) p count (cut r b count p) (after p (cut r b count p)) tail
  cut_into count p tail h t =
      let i = is_cut r b count p in record {
        end_to_end = joined i.stands;
        most = i.most;
        each = each_stands i.stands;
        rest = omega arith;
        stopped = λ l n s. let z : ◌≡◌ {A = ℕ} 0 1 = cc (i.full l, (says _ n).1 s) in omega arith;
      }

  -- and there is no other
  ends_after : {p q : ℕ} {ss : List Span} → EndToEnd p ss q → q ≡ after p ss
  unfolding after
  ends_after done = refl
  ends_after (next e t) = ends_after t

  all_stand : {p q : ℕ} {ss : List Span} → EndToEnd p ss q → ((s : Span) → Memᴰ s ss → standsAt s.at s.len) → Stands r b p ss
  all_stand done h = no_more
  all_stand (next {s = x} e t) h = one_more e ((says _ _).1 (rw e at (h x (Memᴰ.head refl)))) (all_stand t (λ s m. h s (Memᴰ.tail m)))

  nothing_stands : (p : ℕ) → ((n : ℕ) → standsAt p n → ⊥) → r b p ≡ none
  nothing_stands p h = go (r b p) refl
    where
      go : (x : Option ℕ) → r b p ≡ x → r b p ≡ none
      go none e = e
      go (some n) e = absurd (h n ((says p n).0 e))

  pub only-cut : (count p : ℕ) (ss : List Span) (end tail : ℕ) → CutInto standsAt (length b) p count ss end tail
      → (ss ≡ cut r b count p) × (end ≡ after p (cut r b count p)) × (tail ≡ length b - after p (cut r b count p))
  only-cut count p ss end tail c =
      let q = ends_after c.end_to_end in
      let e = only r b count p ss (record { most = c.most; stands = all_stand c.end_to_end c.each; full = λ l. rw q at (nothing_stands end (c.stopped l)) }) in
      let f = rw e at q in
      (e, f, omega (arith, c.rest))
