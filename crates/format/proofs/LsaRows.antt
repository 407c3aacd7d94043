-- The rows of an update's LSAs are by its bytes, one for each LSA of its cut; and there are no others.
use Prim.Native.Nat.{ℕ, ◌+◌, ◌*◌, ◌-◌, ◌≤◌, ◌<◌}
use native.Mathlib.Nat.{add-zero}
use native.Mathlib.Omega.{arith}
use mathlib.Core.Path.{◌≡◌, refl, sym, ap, ◌∙◌}
use mathlib.Core.Logic.{◌⊎◌, ⊎_elim}
use mathlib.Core.List.{List, [], ◌∷◌, map, Memᴰ}
use lib.ListN.{length, get_or, drop, length-map}
use lib.Seq.{get_or-take, get_or-drop}
use Rattle.format.specs.Bytes.{part, be16_at}
use Rattle.format.specs.Cut.{Span, after, record_rule}
use Rattle.format.specs.CutInto.{RecordAt, EndToEnd, CutInto}
use Rattle.format.specs.CutInto.EndToEnd.{done, next}
use Rattle.format.specs.Header.{Header, header_at}
use Rattle.format.specs.Walks.{lsas}
use Rattle.format.specs.Book.{Row, row_of, rows_of, rows_from}
use Rattle.format.specs.Takes.{Used, LsaRow, LsaRows}
use Rattle.format.specs.Takes.LsaRows.{none, one_more}
use Rattle.format.proofs.Lent.{Same, two, four}
use Rattle.format.proofs.Newness.{in_both}
use Rattle.format.proofs.Unique.{is_cut}
use Rattle.format.proofs.CutInto.{record_stands, each_stands, cut_into}
use Rattle.format.proofs.Laid.{cut_inside}
use Rattle.format.proofs.Book.{All}
use Rattle.format.proofs.Book.All.{none_left, one_more as all_more}

-- A field of the header of an LSA is that of the data, as much further on.
module _ (v : ℕ) (d : List ℕ) (s : Span) (h : RecordAt d s.at s.len) where
  abbrev own : List ℕ
  own = part d s.at s.len

  there : Same own d s.at 20
  there k l = get_or-take s.len (drop s.at d) k 0 (omega (arith, h.least)) ∙ get_or-drop s.at d k 0

  lsa_row : LsaRow v d s (row_of v (header_at v own))
  lsa_row = record {
    version = refl;
    used = refl;
    ls_type2 = λ e. rw e (there 3 (omega arith));
    ls_type3 = λ e. rw e (two own d 0 s.at 20 there 2 (omega arith));
    link_state_id = in_both v own (λ (x : Header). x.link_state_id) refl refl ∙ four own d 0 s.at 20 there 4 (omega arith);
    advertising_router = in_both v own (λ (x : Header). x.advertising_router) refl refl ∙ four own d 0 s.at 20 there 8 (omega arith);
    sequence_number = in_both v own (λ (x : Header). x.sequence_number) refl refl ∙ four own d 0 s.at 20 there 12 (omega arith);
    checksum = in_both v own (λ (x : Header). x.checksum) refl refl ∙ two own d 0 s.at 20 there 16 (omega arith);
    age = in_both v own (λ (x : Header). x.age) refl refl ∙ (two own d 0 s.at 20 there 0 (omega arith) ∙ ap (be16_at d) (add-zero s.at));
  }

-- Those of all LSAs of an update.
rows_stand : (v : ℕ) (d : List ℕ) (ss : List Span) → ((s : Span) → Memᴰ s ss → RecordAt d s.at s.len) → LsaRows v d ss (map (λ s. row_of v (header_at v (part d s.at s.len))) ss)
rows_stand v d [] h = none
rows_stand v d (s ∷ ss) h = one_more (lsa_row v d s (h s (Memᴰ.head refl))) (rows_stand v d ss (λ x m. h x (Memᴰ.tail m)))

pub lsa_rows : (v : ℕ) (d : List ℕ) (count : ℕ) → LsaRows v d (lsas d count) (rows_of v d count)
unfolding rows_from
lsa_rows v d count = rows_stand v d (lsas d count) (each_stands record_rule d (RecordAt d) (record_stands d) (is_cut record_rule d count 4).stands)

pub lsas_cut : (d : List ℕ) (count : ℕ) → 4 ≤ length d → CutInto (RecordAt d) (length d) 4 count (lsas d count) (after 4 (lsas d count)) (length d - after 4 (lsas d count))
lsas_cut d count h = cut_into record_rule d (RecordAt d) (record_stands d) count 4 (length d - after 4 (lsas d count)) (cut_inside 20 _ d count 4 h) refl

-- In OSPF of a version that there is, an LSA has one row.
abbrev row : (version used ls_type link_state_id advertising_router sequence_number checksum age : ℕ) → Row
row a b c d e f g h = record { version = a; used = b; ls_type = c; link_state_id = d; advertising_router = e; sequence_number = f; checksum = g; age = h }

same_row : {a a' b b' c c' d d' e e' f f' g g' h h' : ℕ} → a ≡ a' → b ≡ b' → c ≡ c' → d ≡ d' → e ≡ e' → f ≡ f' → g ≡ g' → h ≡ h' → row a b c d e f g h ≡ row a' b' c' d' e' f' g' h'
same_row p q r s t u v w = cc

only_row : (v : ℕ) (d : List ℕ) (s : Span) (r q : Row) → (v ≡ 2) ⊎ (v ≡ 3) → LsaRow v d s r → LsaRow v d s q → r ≡ q
only_row v d s r q known a b = same_row (a.version ∙ sym b.version) (a.used ∙ sym b.used) (⊎_elim (λ e. a.ls_type2 e ∙ sym (b.ls_type2 e)) (λ e. a.ls_type3 e ∙ sym (b.ls_type3 e)) known)
    (a.link_state_id ∙ sym b.link_state_id) (a.advertising_router ∙ sym b.advertising_router) (a.sequence_number ∙ sym b.sequence_number) (a.checksum ∙ sym b.checksum) (a.age ∙ sym b.age)

pub only_rows : (v : ℕ) (d : List ℕ) {ss : List Span} {rs qs : List Row} → (v ≡ 2) ⊎ (v ≡ 3) → LsaRows v d ss rs → LsaRows v d ss qs → rs ≡ qs
only_rows v d known none none = refl
only_rows v d known (one_more {s = s} a b) (one_more e f) = let p = only_row v d s _ _ known a e in let q = only_rows v d known b f in cc

-- They are used; and there are as many as 20 bytes each leave room for.
pub used_rows : {v : ℕ} {d : List ℕ} {ss : List Span} {rs : List Row} → LsaRows v d ss rs → All Used rs
used_rows none = none_left
used_rows (one_more a b) = all_more (λ z. let u = a.used in omega arith) (used_rows b)

pub rows_used : (v : ℕ) (d : List ℕ) (count : ℕ) → All Used (rows_of v d count)
rows_used v d count = used_rows (lsa_rows v d count)

long : {d : List ℕ} {p q : ℕ} {ss : List Span} → EndToEnd p ss q → ((s : Span) → Memᴰ s ss → RecordAt d s.at s.len) → p + 20 * length ss ≤ q
long done h = omega arith
long (next {s = s} e f) h = let l = (h s (Memᴰ.head refl)).least in let i = long f (λ x m. h x (Memᴰ.tail m)) in omega arith

pub rows_fit : (v : ℕ) (d : List ℕ) (count : ℕ) → 4 ≤ length d → 4 + 20 * length (rows_of v d count) ≤ length d
unfolding rows_from
rows_fit v d count h =
    let c = lsas_cut d count h in
    let l = long c.end_to_end c.each in
    let t = c.rest in
    rw (length-map (lsas d count) (λ s. row_of v (header_at v (part d s.at s.len)))) (omega arith)

-- Of bytes, their sequence numbers have 32 bits.
small_rows : {v : ℕ} {d : List ℕ} {ss : List Span} {rs : List Row} → ((i : ℕ) → get_or d i 0 < 256) → LsaRows v d ss rs → All (λ r. r.sequence_number < 4294967296) rs
small_rows byte none = none_left
small_rows {d = d} byte (one_more {s = s} a b) = all_more (rw a.sequence_number (omega (arith, byte (s.at + 12), byte (s.at + 12 + 1), byte (s.at + 12 + 2), byte (s.at + 12 + 2 + 1)))) (small_rows byte b)

pub rows_small : (v : ℕ) (d : List ℕ) (count : ℕ) → ((i : ℕ) → get_or d i 0 < 256) → All (λ r. r.sequence_number < 4294967296) (rows_of v d count)
rows_small v d count byte = small_rows byte (lsa_rows v d count)
