-- Taken once more, an update changes nothing: after it each of its LSAs has a row that it is not newer than.
use Prim.Native.Nat.{ℕ, ◌≤◌, ◌<◌}
use native.Mathlib.Omega.{arith}
use mathlib.Core.Path.{◌≡◌, refl, sym, ap, ◌∙◌}
use mathlib.Core.Bool.{Bool, true, false}
use mathlib.Core.List.{List, [], ◌∷◌}
use lib.ListN.{length, get_or, set, length-set}
use lib.Seq.{get_or-set_same, get_or-set_other}
use Rattle.format.specs.Book.{Row, Book, is_free, is_of, is_first, is_newer, header_of, free_rows, new_identities, take_one, take_all}
use Rattle.format.specs.Takes.{Used, Same}
use Rattle.format.specs.Header.{Header, Newness, newness}
use Rattle.format.specs.Header.Newness.{first, second, same, refused}
use Rattle.format.specs.Newer.{SignedBelow, Newer}
use Rattle.format.specs.Newer.SignedBelow.{negative, both_negative, neither_negative}
use Rattle.format.specs.Newer.Newer.{by_sequence, by_checksum, by_max_age, by_age}
use Rattle.format.proofs.Newness.{swapped, newness_swap}
use Rattle.format.proofs.Newer.{newness_is}
use Rattle.format.proofs.Decided.{Decided, equal}
use Rattle.format.proofs.Decided.Decided.{holds, fails}
use Rattle.format.proofs.Book.{Took, took, passed, All, Unique, same_self, same_swap, same_trans, of_is, truth}
use Rattle.format.proofs.Book.Took.{left, replaced, added, full}
use Rattle.format.proofs.Book.All.{none_left, one_more}
use Rattle.format.proofs.Counted.{Knows, has_room, turn}

-- Being newer is transitive, though being the same is not.
signed_trans : {x y z : ℕ} → SignedBelow x y → SignedBelow y z → SignedBelow x z
signed_trans (negative a b) (negative c d) = absurd (omega arith)
signed_trans (negative a b) (both_negative c d e) = absurd (omega arith)
signed_trans (negative a b) (neither_negative c d e) = negative a d
signed_trans (both_negative a b c) (negative d e) = negative a e
signed_trans (both_negative a b c) (both_negative d e f) = both_negative a e (omega arith)
signed_trans (both_negative a b c) (neither_negative d e f) = absurd (omega arith)
signed_trans (neither_negative a b c) (negative d e) = absurd (omega arith)
signed_trans (neither_negative a b c) (both_negative d e f) = absurd (omega arith)
signed_trans (neither_negative a b c) (neither_negative d e f) = neither_negative a e (omega arith)

pub newer_trans : {x y z : Header} → Newer x y → Newer y z → Newer x z
newer_trans (by_sequence a) (by_sequence b) = by_sequence (signed_trans b a)
newer_trans (by_sequence a) (by_checksum b c) = by_sequence (rw b at a)
newer_trans (by_sequence a) (by_max_age b c d e) = by_sequence (rw b at a)
newer_trans (by_sequence a) (by_age b c d e) = by_sequence (rw b at a)
newer_trans (by_checksum a b) (by_sequence c) = by_sequence (rw a c)
newer_trans (by_checksum a b) (by_checksum c d) = by_checksum (a ∙ c) (omega arith)
newer_trans (by_checksum a b) (by_max_age c d e f) = by_checksum (a ∙ c) (omega arith)
newer_trans (by_checksum a b) (by_age c d e f) = by_checksum (a ∙ c) (omega arith)
newer_trans (by_max_age a b c d) (by_sequence e) = by_sequence (rw a e)
newer_trans (by_max_age a b c d) (by_checksum e f) = by_checksum (a ∙ e) (omega arith)
newer_trans (by_max_age a b c d) (by_max_age e f g h) = absurd (omega arith)
newer_trans (by_max_age a b c d) (by_age e f g h) = by_max_age (a ∙ e) (b ∙ f) c g
newer_trans (by_age a b c d) (by_sequence e) = by_sequence (rw a e)
newer_trans (by_age a b c d) (by_checksum e f) = by_checksum (a ∙ e) (omega arith)
newer_trans (by_age a b c d) (by_max_age e f g h) = absurd (omega arith)
newer_trans (by_age a b c d) (by_age e f g h) = by_age (a ∙ e) (b ∙ f) g (omega arith)

-- What a test of newness answers, for sequence numbers of 32 bits.
abbrev Small : Row → Type 0
Small r = r.sequence_number < 4294967296

pub newer_is : (r s : Row) → Small r → Small s → is_newer r s ≡ true → (r.age ≤ 3600) × (s.age ≤ 3600) × Newer (header_of r) (header_of s)
newer_is r s h k e = go (newness (header_of r) (header_of s)) refl e
  where
    go : (n : Newness) → newness (header_of r) (header_of s) ≡ n → is_first n ≡ true
        → (r.age ≤ 3600) × (s.age ≤ 3600) × Newer (header_of r) (header_of s)
    go first f e = (newness_is (header_of r) (header_of s) h k).first_is.0 f
    go second f e = absurd (truth (sym e))
    go same f e = absurd (truth (sym e))
    go (refused m) f e = absurd (truth (sym e))

pub is_newer_lem : (r s : Row) → Small r → Small s → r.age ≤ 3600 → s.age ≤ 3600 → Newer (header_of r) (header_of s) → is_newer r s ≡ true
is_newer_lem r s h k a b n = ap is_first ((newness_is (header_of r) (header_of s) h k).first_is.1 (a, b, n))

newer_over : (r s t : Row) → Small r → Small s → Small t → is_newer r s ≡ true → is_newer s t ≡ true → is_newer r t ≡ true
newer_over r s t h k l e f =
    let a = newer_is r s h k e in
    let b = newer_is s t k l f in
    is_newer_lem r t h l a.0 b.1 (newer_trans a.2 b.2)

not_newer : (r : Row) → is_newer r r ≡ false
not_newer r = go (newness (header_of r) (header_of r)) (newness_swap (header_of r) (header_of r))
  where
    go : (n : Newness) → n ≡ swapped n → is_first n ≡ false
    go first e = absurd (let z : ◌≡◌ {A = ℕ} 0 1 = cc in omega arith)
    go second e = refl
    go same e = refl
    go (refused m) e = refl

-- A table in which the LSA has a row, and none that it is newer than.
pub record Settled (d : Row) (t : List Row) (r : Row) : Type 0 where
  pub place : ℕ
  pub within : place < length t
  pub row : Used (get_or t place d) × Same r (get_or t place d)
  pub not_newer : is_newer r (get_or t place d) ≡ false

-- All rows have sequence numbers of 32 bits.
abbrev Smalls : Row → List Row → Type 0
Smalls d t = (i : ℕ) → i < length t → Small (get_or t i d)

smalls_set : (d r : Row) (t : List Row) (i : ℕ) → Smalls d t → Small r → i < length t → Smalls d (set t i r)
smalls_set d r t i h k l j m = go (equal j i)
  where
    go : {b : Bool} → Decided (j ≡ i) b → Small (get_or (set t i r) j d)
    go (holds e) = rw (e, get_or-set_same t i r d l) k
    go (fails g) = rw (get_or-set_other t i j r d g) (h j (rw (length-set t i r) at m))

-- What was settled stays so, whatever LSA is taken next.
settled_set : (d r x : Row) (t : List Row) (i : ℕ) → Small r → Small x → Smalls d t → i < length t
    → ((p : ℕ) → p ≡ i → Used (get_or t p d) → Same x (get_or t p d) × (is_newer x (get_or t p d) ≡ true)) → Used x → Settled d t r → Settled d (set t i x) r
settled_set d r x t i hr hx ht l f u s = go (equal s.place i)
  where
    bound : s.place < length (set t i x)
    bound = rw (length-set t i x) s.within

    decide : s.place ≡ i → (b : Bool) → is_newer r x ≡ b → is_newer r x ≡ false
    decide e true n = absurd (truth (sym (newer_over r x (get_or t s.place d) hr hx (ht s.place s.within) n (f s.place e s.row.0).1) ∙ s.not_newer))
    decide e false n = n

    go : {b : Bool} → Decided (s.place ≡ i) b → Settled d (set t i x) r
    go (holds e) = record {
      place = s.place;
      within = bound;
      row = rw (e, get_or-set_same t i x d l) (u, same_trans s.row.1 (same_swap (f s.place e s.row.0).0));
      not_newer = rw (e, get_or-set_same t i x d l) (decide e (is_newer r x) refl);
    }
    go (fails g) = record {
      place = s.place;
      within = bound;
      row = rw (get_or-set_other t i s.place x d g) s.row;
      not_newer = rw (get_or-set_other t i s.place x d g) s.not_newer;
    }

-- Taken, an LSA is settled.
settled_one : (r d : Row) (b : Book) → Used r → ((f : (j : ℕ) → j < length b.rows → is_free (get_or b.rows j d) ≡ false) → ((j : ℕ) → j < length b.rows → is_of r (get_or b.rows j d) ≡ false) → ⊥)
    → Settled d (take_one r b).rows r
settled_one r d b u room = go (take_one r b) (took r d b)
  where
    here : (i : ℕ) → i < length b.rows → Settled d (set b.rows i r) r
    here i h = record {
      place = i;
      within = rw (length-set b.rows i r) h;
      row = rw (get_or-set_same b.rows i r d h) (u, same_self r);
      not_newer = rw (get_or-set_same b.rows i r d h) (not_newer r);
    }

    go : (c : Book) → Took r b d c → Settled d c.rows r
    go c (left i h k n) = record { place = i; within = h; row = k; not_newer = n }
    go c (replaced i h k n) = here i h
    go c (added i h k g p) = here i h
    go c (full f g) = absurd (room f g)

-- And what was settled before stays so, with sequence numbers of 32 bits.
settled_stays : (r x d : Row) (b : Book) → Small r → Small x → Used x → Smalls d b.rows → Settled d b.rows r → Settled d (take_one x b).rows r
settled_stays r x d b hr hx u ht s = go (take_one x b) (took x d b)
  where
    go : (c : Book) → Took x b d c → Settled d c.rows r
    go c (left i h k n) = s
    go c (replaced i h k n) = settled_set d r x b.rows i hr hx ht h (λ p e v. rw e (k.1, n)) u s
    go c (added i h k g p) = settled_set d r x b.rows i hr hx ht h (λ p e v. absurd (v (passed (equal _ 0) (rw e k)))) u s
    go c (full f g) = s

smalls_one : (x d : Row) (b : Book) → Small x → Smalls d b.rows → Smalls d (take_one x b).rows
smalls_one x d b h ht = go (take_one x b) (took x d b)
  where
    go : (c : Book) → Took x b d c → Smalls d c.rows
    go c (left i l k n) = ht
    go c (replaced i l k n) = smalls_set d x b.rows i ht h l
    go c (added i l k g p) = smalls_set d x b.rows i ht h l
    go c (full f g) = ht

-- So after an update each of its LSAs is settled,
stays_all : (rs : List Row) (x d : Row) (b : Book) → All Used rs → All Small rs → Small x → Smalls d b.rows → Settled d b.rows x → Settled d (take_all rs b).rows x
unfolding take_all
stays_all [] x d b none_left none_left h ht s = s
stays_all (r ∷ rs) x d b (one_more u a) (one_more k l) h ht s = stays_all rs x d (take_one r b) a l h (smalls_one r d b k ht) (settled_stays x r d b h k u ht s)

pub settled_all : (rs known : List Row) (d : Row) (b : Book) → All Used rs → All Small rs → Smalls d b.rows → Knows known b.rows → new_identities known rs ≤ free_rows b.rows
    → All (Settled d (take_all rs b).rows) rs
unfolding take_all
settled_all [] known d b none_left none_left ht k h = none_left
settled_all (r ∷ rs) known d b (one_more u a) (one_more n l) ht k h =
    let t = turn r rs known b u k h in
    let ht' = smalls_one r d b n ht in
    one_more (stays_all rs r d (take_one r b) a l n ht' (settled_one r d b u (has_room r rs known b u k h d))) (settled_all rs t.next d (take_one r b) a l ht' t.knows t.fits)

-- and taking it once more changes nothing.
take_settled : (r d : Row) (b : Book) → Unique d b.rows → Settled d b.rows r → take_one r b ≡ b
take_settled r d b q s = go (take_one r b) (took r d b)
  where
    place_is : (i : ℕ) → i < length b.rows → Used (get_or b.rows i d) × Same r (get_or b.rows i d) → s.place ≡ i
    place_is i h k = q s.place i s.within h s.row.0 k.0 (same_trans (same_swap s.row.1) k.1)

    go : (c : Book) → Took r b d c → c ≡ b
    go c (left i h k n) = refl
    go c (replaced i h k n) = absurd (truth (sym (rw (place_is i h k) n) ∙ s.not_newer))
    go c (added i h k g p) = absurd (truth (sym (of_is r _ s.row) ∙ g s.place s.within))
    go c (full f g) = refl

pub again : (rs : List Row) (d : Row) (b : Book) → Unique d b.rows → All (Settled d b.rows) rs → take_all rs b ≡ b
unfolding take_all
again [] d b q none_left = refl
again (r ∷ rs) d b q (one_more s a) = rw (take_settled r d b q s) (again rs d b q a)
