use Rattle.std.proofs.Common.{◌≡◌, ℕ, ◌/◌, ◌%◌, ◌≤◌, List, [], ◌∷◌, ◌++◌, length, take, drop, set, sym, ◌∙◌, append_assoc, arith}
use Rattle.std.proofs.lemmas.List.{drop-drop}
use Rattle.std.proofs.lemmas.List.Edits.{sets-eq}
use Rattle.format.specs.Checksum.{making, first_octet, second_octet}
use Rattle.format.proofs.Fletcher.{is_lsa_lem, field-octets}
use Rattle.checksum.proofs.make_checksum.Goals as goal

-- Two bytes written at once are the two set one after the other.
set_two : (l : List ℕ) (x y : ℕ) → 18 ≤ length l → take 16 l ++ (x ∷ y ∷ drop 2 (drop 16 l)) ≡ set (set l 16 x) 17 y
set_two l x y h = rw drop-drop (sym (sets-eq (x ∷ y ∷ []) l 16 h ∙ append_assoc (take 16 l) (x ∷ y ∷ []) (drop 18 l)))

pub returns-clause-value : goal.returns-clause-value
unfolding making
returns-clause-value c =
    let lsa = c.args.lsa.now in
    let e = c.in_ok-try_from.ensures.1 in
    let o = field-octets lsa (is_lsa_lem lsa e) in
    let f = rw (c.checksum-field.ensures, c.in_ok-try_from.ensures.0) at c.from_be_bytes.ensures in
    let p : c.from_be_bytes.result / 256 ≡ first_octet lsa = omega (arith, f, o.1.1) in
    let q : c.from_be_bytes.result % 256 ≡ second_octet lsa = omega (arith, f, o.1.1) in
    rw (e, p, q)

pub returns-clause-lsa_after : goal.returns-clause-lsa_after
unfolding making
returns-clause-lsa_after c =
    let lsa = c.args.lsa.now in
    let e = c.in_ok-try_from.ensures.1 in
    let i = is_lsa_lem lsa e in
    rw (c.copy_from_slice.ensures.after, c.checksum-field.ensures, c.in_ok-try_from.ensures.0, e) (set_two lsa _ _ (omega (arith, i.0)))
