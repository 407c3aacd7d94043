-- From the host's number to the requirements, for the LS checksum's check and making; and a worked example.
use Prim.Native.Nat.{ℕ, ◌+◌, ◌*◌}
use native.Mathlib.Omega.{arith}
use mathlib.Core.Path.{◌≡◌, refl, ap, ◌∙◌}
use mathlib.Core.Logic.{⊎_elim}
use mathlib.Core.List.{List, [], ◌∷◌}
use lib.ListN.{get_or, set}
use Rattle.format.specs.Checksum.{Check, Making, running, sums, with_checksum, is_good, check, octet_of, sums_without, making, made_lsa}
use Rattle.format.specs.Checksum.Check.{good, bad, refused}
use Rattle.format.specs.Checksum.Making.{made, refused as not_made}
use Rattle.format.specs.Packed.{packed_check, packed_making}
use Rattle.format.specs.Fletcher.{Lsa, Checks, Makes}
use Rattle.format.specs.Host.{CheckHost, MakeHost}
use Rattle.format.proofs.Fletcher.{lsa_or_not, not_both, checks, makes}
use Rattle.format.proofs.Host.{unpacked}

pub check_host : (lsa : List ℕ) (r : ℕ) → r ≡ packed_check (check lsa) → CheckHost lsa r
check_host lsa r e = rw e (go (check lsa) (checks lsa))
  where
    go : (c : Check) → Checks lsa c → CheckHost lsa (packed_check c)
    go good t =
        let p = t.is_good_lem.0 refl in
        record {
          thirteen = (λ h. absurd (omega arith), λ h. absurd (not_both lsa p.0 h));
          zero = (λ h. p.0, λ h. refl);
          good = (λ h. p, λ h. refl);
          no_other = omega arith;
          other_bits = refl;
        }
    go bad t =
        let p = t.is_bad.0 refl in
        record {
          thirteen = (λ h. absurd (omega arith), λ h. absurd (not_both lsa p.0 h));
          zero = (λ h. p.0, λ h. refl);
          good = (λ h. absurd (omega arith), λ h. absurd (p.1 h.1));
          no_other = omega arith;
          other_bits = refl;
        }
    go (refused n) t =
        let i = t.no_other n refl in
        let p = t.thirteen.0 (ap refused i) in
        let u = unpacked n 0 (omega arith) (omega arith) in
        record {
          thirteen = (λ h. p, λ h. u.number ∙ i);
          zero = (λ h. absurd (omega (arith, u.number)), λ h. absurd (not_both lsa h p));
          good = (λ h. absurd (omega (arith, u.result)), λ h. absurd (not_both lsa h.0 p));
          no_other = omega (arith, u.result);
          other_bits = u.others;
        }

pub make_host : (before after : List ℕ) (r : ℕ) → r ≡ packed_making (making before) → after ≡ made_lsa (making before) before → MakeHost before after r
make_host before after r e f = rw (e, f) (go (making before) (made_lsa (making before) before) (makes before))
  where
    go : (m : Making) (after : List ℕ) → Makes before after m → MakeHost before after (packed_making m)
    go (made x y) after t = ⊎_elim given (λ n. absurd (let q = t.thirteen.1 n in let z : ◌≡◌ {A = ℕ} 0 1 = cc in omega arith)) (lsa_or_not before)
      where
        given : Lsa before → MakeHost before after (packed_making (made x y))
        given h =
            let m = t.makes h in
            let p : x ≡ get_or after 16 0 = let q = m.0 in cc in
            let q : y ≡ get_or after 17 0 = let q = m.0 in cc in
            let i = m.1.first.1 in
            let j = m.1.second.1 in
            let u = unpacked 0 (x * 256 + y) (omega arith) (omega arith) in
            record {
              thirteen = (λ z. absurd (omega (arith, u.number)), λ n. absurd (not_both before h n));
              zero = (λ z. h, λ z. u.number);
              makes = λ z. (m.1, omega (arith, u.result));
              left = λ z. absurd (omega (arith, u.number));
              other_bits = u.others;
            }
    go (not_made n) after t =
        let i = t.no_other n refl in
        let p = t.thirteen.0 (ap not_made i) in
        let u = unpacked n 0 (omega arith) (omega arith) in
        record {
          thirteen = (λ h. p, λ h. u.number ∙ i);
          zero = (λ h. absurd (omega (arith, u.number)), λ h. absurd (not_both before h p));
          makes = λ h. absurd (omega (arith, u.number));
          left = λ h. (t.leaves p, u.result);
          other_bits = u.others;
        }

-- The first LSA of examples/update-v2.bin, as a router made it.
abbrev pub published : List ℕ
published =
    0 ∷ 2 ∷ 2 ∷ 1 ∷ 192 ∷ 168 ∷ 170 ∷ 3 ∷ 192 ∷ 168 ∷ 170 ∷ 3 ∷ 128 ∷ 0 ∷ 0 ∷ 1 ∷
    58 ∷ 156 ∷ 0 ∷ 48 ∷ 2 ∷ 0 ∷ 0 ∷ 2 ∷ 192 ∷ 168 ∷ 170 ∷ 0 ∷ 255 ∷ 255 ∷ 255 ∷ 0 ∷
    3 ∷ 0 ∷ 0 ∷ 10 ∷ 192 ∷ 168 ∷ 170 ∷ 0 ∷ 255 ∷ 255 ∷ 255 ∷ 0 ∷ 3 ∷ 0 ∷ 0 ∷ 10 ∷
    []

-- It is good; its checksum, 0x3A9C, is made again; and it is bad with another last byte.
pub worked_lsa : (check published ≡ good) × (making (with_checksum published 0 0) ≡ made 58 156) × (check (set published 47 11) ≡ bad)
unfolding check is_good sums running making octet_of sums_without
worked_lsa = (refl, refl, refl)
