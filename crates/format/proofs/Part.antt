-- The part of a packet: what its number says; and that every accepted walk's strip gives back the walk's entries, and
-- with those of kind 8 the bytes of its data.
use Prim.Native.Nat.{ℕ, zero, suc, ◌+◌, ◌-◌, ◌≤◌, ◌<◌}
use native.Mathlib.Nat.{lt_of_not-le}
use native.Mathlib.Omega.{arith}
use mathlib.Core.Path.{◌≡◌, refl, ap, ◌∙◌}
use mathlib.Core.Logic.{◌↔◌, ◌⊎◌, inl, inr, ⊎_elim}
use mathlib.Core.Bool.{Bool, true, false, cond}
use mathlib.Core.List.{List, [], ◌∷◌, ◌++◌}
use mathlib.Core.Option.{Option, none, some}
use lib.ListN.{length, take, drop, length-append, length-drop}
use lib.Seq.{sets, length-take-le, drop-append-add, drop-append-le, take-append-le}
use lib.Dec.{ltb, leb}
use borrow.Author.Tests.{ltb-true, ltb-false, leb-true, leb-false, le-ltb, le-leb, lt-leb}
use Rattle.format.specs.Bytes.{part}
use Rattle.format.specs.Strip.{Entry, Step, encode, step_at, read_from, read_all}
use Rattle.format.specs.Strip.Entry.{bytes}
use Rattle.format.specs.Strip.Step.{entry, end, refused}
use Rattle.format.specs.Header.{header_size}
use Rattle.format.specs.Walks.{answer_of, strip_of, unless, refusal, lsa_entries, header_object, lsa_object, outer, headers, lsas, headers_of, update_of, lsa_of}
use Rattle.format.specs.Walks.Outcome.{accepted}
use Rattle.format.specs.Laid.{Laid, anything}
use Rattle.format.specs.Part.{lies_in, part_number, part_place, part_of, Names, Reads, GivesBack}
use Rattle.format.specs.Part.Reads.{ends, steps}
use Rattle.format.specs.Refusals.{Parts}
use Rattle.format.proofs.Shown.{read_strip}
use Rattle.format.proofs.Refusals.{limits, taken}
use Rattle.format.proofs.Laid.{weaken, laid_member}
use Rattle.format.proofs.LaidLsa.{laid_lsa}
use Rattle.format.proofs.LaidWalks.{laid_headers, laid_update}

-- What the test says of the numbers.
pub record Lies (n offset start end : ℕ) : Type 0 where
  pub from : offset ≤ start
  pub ordered : start ≤ end
  pub to : end ≤ offset + n

pub lies : (n offset start end : ℕ) → lies_in n offset start end ≡ true → Lies n offset start end
unfolding lies_in
lies n o s e h = go (ltb s o) refl (ltb e s) refl (leb e (o + n)) refl h
  where
    go : (a : Bool) → ltb s o ≡ a → (b : Bool) → ltb e s ≡ b → (c : Bool) → leb e (o + n) ≡ c → cond a false (cond b false c) ≡ true → Lies n o s e
    go false x false y true z h = record { from = ltb-false _ _ x; ordered = ltb-false _ _ y; to = leb-true _ _ z }
    go false x false y false z h = let q : ◌≡◌ {A = ℕ} 0 1 = cc in absurd (omega arith)
    go false x true y c z h = let q : ◌≡◌ {A = ℕ} 0 1 = cc in absurd (omega arith)
    go true x b y c z h = let q : ◌≡◌ {A = ℕ} 0 1 = cc in absurd (omega arith)

pub lies_in_lem : (n offset start end : ℕ) → Lies n offset start end → lies_in n offset start end ≡ true
unfolding lies_in
lies_in_lem n o s e l = rw (le-ltb s o l.from, le-ltb e s l.ordered, le-leb e (o + n) l.to)

-- A part is refused, with 9, where its range does not lie in the packet, and nowhere else.
pub part_numbers : (n offset start end : ℕ) → ((part_number n offset start end ≡ 0) ↔ Lies n offset start end) × ((part_number n offset start end ≡ 9) ↔ (Lies n offset start end → ⊥))
unfolding part_number
part_numbers n o s e = go (lies_in n o s e) refl
  where
    go : (t : Bool) → lies_in n o s e ≡ t → (◌≡◌ {A = ℕ} (cond t 0 9) 0 ↔ Lies n o s e) × (◌≡◌ {A = ℕ} (cond t 0 9) 9 ↔ (Lies n o s e → ⊥))
    go true q = ((λ h. lies n o s e q, λ l. refl), (λ h. absurd (omega arith), λ f. absurd (f (lies n o s e q))))
    go false q =
        let never : Lies n o s e → ⊥ = λ l. let z : ◌≡◌ {A = Bool} true false = cc (lies_in_lem n o s e l) in let y : ◌≡◌ {A = ℕ} 0 1 = cc in omega arith in
        ((λ h. absurd (omega arith), λ l. absurd (never l)), (λ h. never, λ f. refl))

-- The same in the table's words, with what is handed back.
pub parts : (packet : List ℕ) (o s e : ℕ) → Parts packet o s e
unfolding part_number part_of part_place
parts packet o s e = record {
  nine = (
    λ h. outside ((part_numbers (length packet) o s e).1.0 h),
    λ h. (part_numbers (length packet) o s e).1.1 (λ l. ⊎_elim (λ z. omega arith) (λ z. ⊎_elim (λ y. omega arith) (λ y. omega arith) z) h),
  );
  zero = (
    λ h. let l = (part_numbers (length packet) o s e).0.0 h in (l.from, l.ordered, l.to),
    λ h. (part_numbers (length packet) o s e).0.1 (record { from = h.0; ordered = h.1; to = h.2 }),
  );
  empty = λ h. go (lies_in (length packet) o s e) refl h;
  there = λ h. let q = lies_in_lem (length packet) o s e ((part_numbers (length packet) o s e).0.0 h) in (rw q, rw q);
}
  where
    outside : (Lies (length packet) o s e → ⊥) → (s < o) ⊎ (e < s) ⊎ (o + length packet < e)
    outside f = pick (ltb s o) refl (ltb e s) refl
      where
        pick : (a : Bool) → ltb s o ≡ a → (b : Bool) → ltb e s ≡ b → (s < o) ⊎ (e < s) ⊎ (o + length packet < e)
        pick true x b y = inl (ltb-true s o x)
        pick false x true y = inr (inl (ltb-true e s y))
        pick false x false y = inr (inr (lt_of_not-le (λ z. f (record { from = ltb-false s o x; ordered = ltb-false e s y; to = z }))))

    go : (t : Bool) → lies_in (length packet) o s e ≡ t → ◌≡◌ {A = ℕ} (cond t 0 9) 9 → (part_of packet o s e ≡ []) × (part_place (length packet) o s e ≡ 0)
    go true q h = absurd (omega arith)
    go false q h = (rw q, rw q)

-- The last test without its sum.
pub without_sum : (n offset end : ℕ) → offset ≤ end → leb (end - offset) n ≡ leb end (offset + n)
without_sum n o e h = go (leb e (o + n)) refl
  where
    go : (t : Bool) → leb e (o + n) ≡ t → leb (e - o) n ≡ leb e (o + n)
    go true q = let l = leb-true e (o + n) q in rw q (le-leb (e - o) n (omega arith))
    go false q = let l = leb-false e (o + n) q in rw q (lt-leb (e - o) n (omega arith))

-- A part of the data, taken out of a packet that has other bytes before and after them.
part_within : (front d back : List ℕ) (p n : ℕ) → p + n ≤ length d → part (front ++ (d ++ back)) (length front + p) n ≡ part d p n
part_within front d back p n h =
    ap (take n) (drop-append-add front (d ++ back) p ∙ drop-append-le p d back (omega arith))
    ∙ take-append-le n (drop p d) back (rw (length-drop p d) (omega arith))

accepted_part : (d : List ℕ) (o s e : ℕ) → Lies (length d) o s e → part_of d o s e ≡ part d (s - o) (e - s)
unfolding part_of
accepted_part d o s e l = rw (lies_in_lem (length d) o s e l)

-- A range that lies in the data names a part of them.
names : (d : List ℕ) (o s e : ℕ) → Lies (length d) o s e → Names d o s e
unfolding part_number
names d o s e l = record {
  number = rw (lies_in_lem (length d) o s e l);
  part_is = accepted_part d o s e l;
  size = rw (accepted_part d o s e l) (length-take-le (e - s) (drop (s - o) d) (rw (length-drop (s - o) d) (omega arith)));
  packet_number = λ front back base h. rw (lies_in_lem (length (front ++ (d ++ back))) base s e (wider front back base h));
  packet_part = λ front back base h.
      let q : s - base ≡ length front + (s - o) = omega arith in
      accepted_part (front ++ (d ++ back)) base s e (wider front back base h) ∙ rw q (part_within front d back (s - o) (e - s) (omega arith));
}
  where
    wider : (front back : List ℕ) (base : ℕ) → base + length front ≡ o → Lies (length (front ++ (d ++ back))) base s e
    wider front back base h =
        let m : length (front ++ (d ++ back)) ≡ length front + (length d + length back) = rw (length-append, length-append) refl in
        record { from = omega arith; ordered = l.ordered; to = omega arith }

-- What is read whole is read step by step.
reads_from : (k : ℕ) (s : List ℕ) (p : ℕ) (es : List Entry) → read_from k s p ≡ some es → Reads s p es
unfolding read_from
reads_from zero s p es h = let z : ◌≡◌ {A = ℕ} 0 1 = cc in absurd (omega arith)
reads_from (suc k) s p es h = go (step_at s p) refl h (reads_from k s)
  where
    rest : (x : Entry) (q : ℕ) (o : Option (List Entry)) → read_from k s q ≡ o → step_at s p ≡ entry x q
        → elim o [ none ↦ none | some ys ↦ some (x ∷ ys) ] ≡ some es → ((q : ℕ) (ys : List Entry) → read_from k s q ≡ some ys → Reads s q ys) → Reads s p es
    rest x q none e f h ih = let z : ◌≡◌ {A = ℕ} 0 1 = cc in absurd (omega arith)
    rest x q (some ys) e f h ih = let z : x ∷ ys ≡ es = cc in rw (← z) (steps f (ih q ys e))

    go : (t : Step) → step_at s p ≡ t → elim t [
      | entry x q ↦ elim (read_from k s q) [ none ↦ none | some ys ↦ some (x ∷ ys) ]
      | end ↦ some []
      | refused n ↦ none
    ] ≡ some es → ((q : ℕ) (ys : List Entry) → read_from k s q ≡ some ys → Reads s q ys) → Reads s p es
    go (entry x q) e h ih = rest x q (read_from k s q) refl e h ih
    go end e h ih = let z : [] ≡ es = cc in rw (← z) (ends e)
    go (refused n) e h ih = let z : ◌≡◌ {A = ℕ} 0 1 = cc in absurd (omega arith)

-- A strip that was written to the front of a buffer reads as its entries.
pub reads_strip : (es : List Entry) (before : List ℕ) → length (encode es) ≤ length before → Reads (take (length (encode es)) (sets before 0 (encode es))) 0 es
unfolding read_all
reads_strip es before h = reads_from _ _ 0 es (read_strip es before h)

-- What was written to the front of a buffer gives back the entries, where they are laid out in the data.
pub written_gives_back : (d : List ℕ) (o : ℕ) (es : List Entry) (before : List ℕ) → length (encode es) ≤ length before → Laid anything o (o + length d) es
    → GivesBack d o (take (length (encode es)) (sets before 0 (encode es))) es
written_gives_back d o es before h l = record {
  reads = reads_strip es before h;
  laid = l;
  parts = λ i s e m.
      let q = laid_member (bytes i s e) (λ q. let y : ◌≡◌ {A = ℕ} 0 1 = cc in omega arith) l m in
      names d o s e (record { from = q.from; ordered = q.ordered; to = q.to });
}

-- A call with no refusal leaves a strip that reads as the walk's entries.
gives_back : (d : List ℕ) (o n : ℕ) (es : List Entry) (r t : ℕ) (before : List ℕ) → (n ≡ 0 → Laid anything o (o + length d) es)
    → (answer_of (unless n (accepted es r t)) (length before)).number ≡ 0
    → GivesBack d o (take (answer_of (unless n (accepted es r t)) (length before)).size (strip_of (unless n (accepted es r t)) before)) es
gives_back d o n es r t before w h =
    let k = taken n es r t before h in
    rw (k.answered, k.written) (written_gives_back d o es before k.fits (w k.not_refused))

-- Every accepted walk.
pub headers_give_back : (v : ℕ) (d : List ℕ) (o : ℕ) (before : List ℕ) → (answer_of (headers_of v d o) (length before)).number ≡ 0
    → GivesBack d o (take (answer_of (headers_of v d o) (length before)).size (strip_of (headers_of v d o) before)) (outer v (header_object v d o) d o 0 (headers d))
unfolding headers_of
headers_give_back v d o before h = gives_back d o (refusal v d o 0) _ _ _ before (λ z. weaken (λ x k. refl) (laid_headers v d o)) h

pub update_gives_back : (v : ℕ) (d : List ℕ) (count o : ℕ) (before : List ℕ) → (answer_of (update_of v d count o) (length before)).number ≡ 0
    → GivesBack d o (take (answer_of (update_of v d count o) (length before)).size (strip_of (update_of v d count o) before)) (outer v (lsa_object v d o) d o 4 (lsas d count))
unfolding update_of
update_gives_back v d count o before h = gives_back d o (refusal v d o 4) _ _ _ before (λ z. weaken (λ x k. refl) (laid_update v d count o (limits v d o 4 z).enough)) h

pub lsa_gives_back : (v : ℕ) (d : List ℕ) (o : ℕ) (before : List ℕ) → (answer_of (lsa_of v d o) (length before)).number ≡ 0
    → GivesBack d o (take (answer_of (lsa_of v d o) (length before)).size (strip_of (lsa_of v d o) before)) (lsa_entries v d o)
unfolding lsa_of
lsa_gives_back v d o before h =
    gives_back d o (refusal v d o header_size) _ _ _ before (λ z. weaken (λ x k. refl) (laid_lsa v d o (limits v d o header_size z).enough)) h
