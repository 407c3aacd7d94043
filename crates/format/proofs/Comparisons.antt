-- From the host's number to the requirements, for the exports that write nothing: newness, the prefix comparison, and the
-- step of the strip reader.
use Prim.Native.Nat.{ℕ, zero, suc, ◌+◌, ◌-◌, ◌≤◌, ◌<◌}
use native.Mathlib.Omega.{arith}
use mathlib.Core.Path.{◌≡◌, refl, sym, ap, ◌∙◌}
use mathlib.Core.Logic.{⊎_elim}
use mathlib.Core.List.{List, [], ◌∷◌}
use lib.ListN.{get_or}
use Rattle.format.specs.Bytes.{be32_at}
use Rattle.format.specs.Strip.{Step, step_at}
use Rattle.format.specs.Strip.Step.{entry, end, refused as not_read}
use Rattle.format.specs.Prefix.{Comparison, comparison, address}
use Rattle.format.specs.Prefix.Comparison.{same as same_prefix, different, refused as incomparable}
use Rattle.format.specs.Header.{Newness, newness, newness_at, header_at}
use Rattle.format.specs.Header.Newness.{first, second, same, refused}
use Rattle.format.specs.Newer.{NewnessIs}
use Rattle.format.specs.Packed.{packed_newness, packed_comparison, packed_step}
use Rattle.format.specs.Refusals.{newness_number, body_bytes, entry_end, Compares, Steps}
use Rattle.format.specs.Host.{NewnessHost, PrefixHost, StepHost}
use Rattle.format.proofs.Host.{Unpacked, unpacked}
use Rattle.format.proofs.Newness.{age_at, sequence_at, newness_number_lem, newness_read_lem, newness_refusals}
use Rattle.format.proofs.Newer.{newness_is}
use Rattle.format.proofs.Prefix.{compares}
use Rattle.format.proofs.Steps.{steps}

-- What is answered below the number.
abbrev newness_result : Newness → ℕ
newness_result same = 0
newness_result first = 1
newness_result second = 2
newness_result (refused n) = 0

newness_unpacked : (n : Newness) → newness_number n < 256 → Unpacked (newness_number n) (newness_result n) (packed_newness n)
newness_unpacked same h = unpacked 0 0 (omega arith) h
newness_unpacked first h = unpacked 0 1 (omega arith) h
newness_unpacked second h = unpacked 0 2 (omega arith) h
newness_unpacked (refused n) h = unpacked n 0 (omega arith) h

-- Each result is that of one answer.
is_first : (n : Newness) → newness_result n ≡ 1 → n ≡ first
is_first same e = absurd (omega arith)
is_first first e = refl
is_first second e = absurd (omega arith)
is_first (refused n) e = absurd (omega arith)

is_second : (n : Newness) → newness_result n ≡ 2 → n ≡ second
is_second same e = absurd (omega arith)
is_second first e = absurd (omega arith)
is_second second e = refl
is_second (refused n) e = absurd (omega arith)

is_same : (n : Newness) → ((m : ℕ) → n ≡ refused m → m ≡ 11) → newness_number n ≡ 0 → newness_result n ≡ 0 → n ≡ same
is_same same o z e = refl
is_same first o z e = absurd (omega arith)
is_same second o z e = absurd (omega arith)
is_same (refused n) o z e = absurd (omega (arith, o n refl))

-- A refusal has no result.
no_result : (n : Newness) → (newness_number n ≡ 0 → ⊥) → newness_result n ≡ 0
no_result same h = refl
no_result first h = absurd (h refl)
no_result second h = absurd (h refl)
no_result (refused n) h = refl

-- The export's contract is the equation. A sequence number of four bytes is one of 32 bits.
module _ (v : ℕ) (x y : List ℕ) (h : be32_at x 12 < 4294967296) (k : be32_at y 12 < 4294967296) where
  -- Where nothing is refused, the answer is that of the two headers, by the rules.
  record Read : Type 0 where
    at : newness_at v x y ≡ newness (header_at v x) (header_at v y)
    rules : NewnessIs (header_at v x) (header_at v y)
    first_age : (header_at v x).age ≤ 3600
    second_age : (header_at v y).age ≤ 3600

  read : newness_number (newness_at v x y) ≡ 0 → Read
  read z =
      let c = (newness_refusals v x y).zero.0 z in
      record {
        at = newness_read_lem v x y c.0 c.1 c.2;
        rules = newness_is (header_at v x) (header_at v y) (omega (arith, sequence_at v x)) (omega (arith, sequence_at v y));
        first_age = let n = c.3 in omega (arith, age_at v x);
        second_age = let n = c.4 in omega (arith, age_at v y);
      }

  pub newness_host : (r : ℕ) → r ≡ packed_newness (newness_at v x y) → NewnessHost v x y r
  newness_host r e =
      let n = newness_at v x y in
      let u = newness_unpacked n (omega (arith, newness_number_lem v x y)) in
      rw e (record {
        numbers = rw u.number (newness_refusals v x y);
        first_newer = λ z.
            let d = read (sym u.number ∙ z) in
            (λ p. (d.rules.first_is.0 (sym d.at ∙ is_first n (sym u.result ∙ p))).2, λ p. u.result ∙ ap newness_result (d.at ∙ d.rules.first_is.1 (d.first_age, d.second_age, p)));
        second_newer = λ z.
            let d = read (sym u.number ∙ z) in
            (λ p. (d.rules.second_is.0 (sym d.at ∙ is_second n (sym u.result ∙ p))).2, λ p. u.result ∙ ap newness_result (d.at ∙ d.rules.second_is.1 (d.first_age, d.second_age, p)));
        neither = λ z.
            let d = read (sym u.number ∙ z) in (
              λ p. let q = d.rules.same_is.0 (sym d.at ∙ is_same n (λ m f. d.rules.no_other m (sym d.at ∙ f)) (sym u.number ∙ z) (sym u.result ∙ p)) in (q.2, q.3),
              λ p. u.result ∙ ap newness_result (d.at ∙ d.rules.same_is.1 (d.first_age, d.second_age, p.0, p.1)),
            );
        no_result = λ z. u.result ∙ no_result n (λ f. z (u.number ∙ f));
        other_bits = u.others;
      })

-- The same of the prefix comparison.
module _ (l : ℕ) (a : List ℕ) (m : ℕ) (b : List ℕ) where
  pub prefix_host : (r : ℕ) → r ≡ packed_comparison (comparison l (address a) m (address b)) → PrefixHost l a m b r
  unfolding address
  prefix_host r e = rw e (go (comparison l (address a) m (address b)) refl)
    where
      t : Compares l (address a) m (address b)
      t = compares l (address a) m (address b)

      go : (c : Comparison) → comparison l (address a) m (address b) ≡ c → PrefixHost l a m b (packed_comparison c)
      go same_prefix f =
          let p = t.are_same.0 f in
          record {
            ten = (λ h. absurd (omega arith), λ h. absurd (let i = p.0 in let j = p.1 in ⊎_elim (λ z. omega arith) (λ z. omega arith) h));
            zero = (λ h. (p.0, p.1), λ h. refl);
            same = (λ h. p, λ h. refl);
            no_other = omega arith;
            other_bits = refl;
          }
      go different f =
          let p = t.are_different.0 f in
          record {
            ten = (λ h. absurd (omega arith), λ h. absurd (let i = p.0 in let j = p.1 in ⊎_elim (λ z. omega arith) (λ z. omega arith) h));
            zero = (λ h. (p.0, p.1), λ h. refl);
            same = (λ h. absurd (omega arith), λ h. absurd (p.2 h.2 h.3));
            no_other = omega arith;
            other_bits = refl;
          }
      go (incomparable n) f =
          let i = t.no_other n f in
          let p = t.ten.0 (f ∙ ap incomparable i) in
          let u = unpacked n 0 (omega arith) (omega arith) in
          record {
            ten = (λ h. p, λ h. u.number ∙ i);
            zero = (λ h. absurd (omega (arith, u.number)), λ h. absurd (let c = h.0 in let d = h.1 in ⊎_elim (λ z. omega arith) (λ z. omega arith) p));
            same = (λ h. absurd (omega (arith, u.result)), λ h. absurd (let c = h.0 in let d = h.1 in ⊎_elim (λ z. omega arith) (λ z. omega arith) p));
            no_other = omega (arith, u.result);
            other_bits = u.others;
          }

-- An entry's length is small, whatever its kind.
abbrev total : List ℕ → ℕ
total [] = 0
total (x ∷ xs) = x + total xs

one_of : (xs : List ℕ) (n : ℕ) → get_or xs n 0 ≤ total xs
one_of [] n = omega arith
one_of (x ∷ xs) zero = omega arith
one_of (x ∷ xs) (suc n) = omega (arith, one_of xs n)

pub entry_small : (s : List ℕ) (p : ℕ) → entry_end s p - p < 4294967296
entry_small s p = omega (arith, one_of body_bytes (get_or s p 0 - 1))

-- The number of a step, 0 where it is not refused.
abbrev step_number : Step → ℕ
step_number (entry x next) = 0
step_number end = 0
step_number (not_read n) = n

-- The same of the step.
module _ (s : List ℕ) (p : ℕ) where
  pub step_host : (r : ℕ) → r ≡ packed_step p (step_at s p) → StepHost s p r
  step_host r e = rw e (go (step_at s p) refl)
    where
      t : Steps s p
      t = steps s p

      go : (x : Step) → step_at s p ≡ x → StepHost s p (packed_step p x)
      go (entry x q) f =
          let c = (t.gives x q).0 f in
          let i = c.0 in
          let j = c.2 in
          let k = c.4 in
          let u = unpacked 0 (q - p) (omega (arith, entry_small s p)) (omega arith) in
          record {
            six = (λ h. absurd (omega (arith, u.number)), λ h. absurd (omega arith));
            seven = (λ h. absurd (omega (arith, u.number)), λ h. absurd (h.1 c.1));
            eight = (λ h. absurd (omega (arith, u.number)), λ h. absurd (let l = h.2 in omega arith));
            ends = (λ h. absurd (let n = h.1 in omega (arith, u.result)), λ h. absurd (omega arith));
            gives = (λ h. (c.0, c.1, c.2), λ h. omega (arith, u.result));
            next = λ h. omega (arith, u.result);
            other_bits = u.others;
          }
      go end f =
          let c = t.ends.0 f in
          record {
            six = (λ h. absurd (omega arith), λ h. absurd (omega arith));
            seven = (λ h. absurd (omega arith), λ h. absurd (let i = h.0 in omega arith));
            eight = (λ h. absurd (omega arith), λ h. absurd (let i = h.0 in omega arith));
            ends = (λ h. c, λ h. (refl, refl));
            gives = (λ h. absurd (omega arith), λ h. absurd (let i = h.0 in omega arith));
            next = λ h. absurd (omega arith);
            other_bits = refl;
          }
      go (not_read n) f =
          let u = unpacked n 0 (omega arith) (⊎_elim (λ z. omega arith) (⊎_elim (λ z. omega arith) (λ z. omega arith)) (t.no_other n f)) in
          let some_number : n ≡ 0 → ⊥ = λ i. ⊎_elim (λ z. omega arith) (⊎_elim (λ z. omega arith) (λ z. omega arith)) (t.no_other n f) in
          record {
            six = (λ h. t.six.0 (f ∙ ap not_read (sym u.number ∙ h)), λ h. u.number ∙ ap step_number (sym f ∙ t.six.1 h));
            seven = (λ h. t.seven.0 (f ∙ ap not_read (sym u.number ∙ h)), λ h. u.number ∙ ap step_number (sym f ∙ t.seven.1 h));
            eight = (λ h. t.eight.0 (f ∙ ap not_read (sym u.number ∙ h)), λ h. u.number ∙ ap step_number (sym f ∙ t.eight.1 h));
            ends = (λ h. absurd (some_number (sym u.number ∙ h.0)), λ h. absurd (some_number (ap step_number (sym f ∙ t.ends.1 h))));
            gives = (λ h. absurd (omega (arith, u.result)), λ h. absurd (some_number (ap step_number (sym f ∙ (t.gives _ _).1 (h.0, h.1, h.2, refl, refl)))));
            next = λ h. absurd (omega (arith, u.result));
            other_bits = u.others;
          }
