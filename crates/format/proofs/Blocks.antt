-- From the host's number to the requirements, for the blocks after a packet; that what follows a block is not looked at; and worked
-- examples.
use Prim.Native.Nat.{ℕ, ◌+◌, ◌*◌, ◌≤◌, ◌<◌}
use native.Mathlib.Omega.{arith}
use mathlib.Core.Path.{◌≡◌, refl, sym, ap, ◌∙◌}
use mathlib.Core.Logic.{◌↔◌, ◌⊎◌, inl, inr, ⊎_elim}
use mathlib.Core.Bool.{Bool, true, false}
use mathlib.Core.List.{List, [], ◌∷◌, ◌++◌}
use mathlib.Core.Option.{some}
use lib.ListN.{length, get_or, take, length-append, get_or-append}
use lib.Seq.{sets, length-sets}
use lib.Dec.{ltb}
use borrow.Author.Tests.{ltb-true, ltb-false}
use Rattle.format.specs.Bytes.{be16_at, be64_at}
use Rattle.format.specs.Strip.{Entry, encode, direct, container}
use Rattle.format.specs.Strip.Entry.{opens, closes, u16, u64, bytes}
use Rattle.format.specs.Layout.{Layout, entries_at}
use Rattle.format.specs.Cut.{standing}
use Rattle.format.specs.Laid.{Laid, anything}
use Rattle.format.specs.Laid.Laid.{none as laid_none, field}
use Rattle.format.specs.Refusals.{TooMuch, TooFar}
use Rattle.format.specs.Packed.{word, packed_block}
use Rattle.format.specs.Trailer.Block.{absent as no_block, found as found_block}
use Rattle.format.specs.Trailer.BlockAnswer.{absent, found, refused}
use Rattle.format.specs.Trailer.{BlockAnswer, lls_rows, lls_size, lls_rule, lls_entries, auth_trailer_rows, auth_trailer_size, auth_trailer_rule, auth_trailer_entries, limit, lls_of, auth_trailer_of, block_of, block_answer, block_strip}
use Rattle.format.specs.Blocks.{BlockAt, LlsAt, AuthTrailerAt, lls_shown, auth_trailer_shown}
use Rattle.format.specs.Host.{result_in, number_in, block_in, BlockHost}
use Rattle.format.proofs.Openings.{openings_count}
use Rattle.format.proofs.Laid.{widen, weaken, laid_append, laid_container}
use Rattle.format.proofs.Rows.{Within, ids_fit, rows_first}
use Rattle.format.proofs.Part.{written_gives_back}
use Rattle.format.proofs.Host.{unpacked, past_front}
use Rattle.format.proofs.Trailer.{Stands, front, stood, stands_there, lls_strip_length, trailer_strip_length, Ends, ends}
use Rattle.format.proofs.Trailer.Ends.{turned_down, none_there, no_room, written}

yes : {P Q : Type 0} → P → Q → P ↔ Q
yes p q = (λ h. q, λ h. p)

no : {P Q : Type 0} → (P → ⊥) → (Q → ⊥) → P ↔ Q
no p q = (λ h. absurd (p h), λ h. absurd (q h))

-- A found block's number gives back both lengths.
unpacked_block : (n s : ℕ) → s < 4294967296 → let r = n * 1099511627776 + word 0 s in (result_in r ≡ s) × (number_in r ≡ 0) × (block_in r ≡ n)
unpacked_block n s h = (omega arith, omega arith, omega arith)

-- The refusals for data and offset, each exactly when.
limited : (d : List ℕ) (o : ℕ)
    → ((limit d o ≡ 2) × TooMuch d) ⊎ ((limit d o ≡ 3) × (TooMuch d → ⊥) × TooFar o) ⊎ ((limit d o ≡ 0) × (TooMuch d → ⊥) × (TooFar o → ⊥))
limited d o = go (ltb 65535 (length d)) refl (ltb 4294901760 o) refl
  where
    go : (a : Bool) → ltb 65535 (length d) ≡ a → (b : Bool) → ltb 4294901760 o ≡ b
        → ((limit d o ≡ 2) × TooMuch d) ⊎ ((limit d o ≡ 3) × (TooMuch d → ⊥) × TooFar o) ⊎ ((limit d o ≡ 0) × (TooMuch d → ⊥) × (TooFar o → ⊥))
    go true p b q = inl (rw p refl, ltb-true _ _ p)
    go false p true q = let l = ltb-false 65535 (length d) p in inr (inl (rw (p, q) refl, λ z. omega (arith, l, z), ltb-true _ _ q))
    go false p false q =
        let l = ltb-false 65535 (length d) p in
        let m = ltb-false 4294901760 o q in
        inr (inr (rw (p, q) refl, λ z. omega (arith, l, z), λ z. omega (arith, m, z)))

-- A block's entries lie in it.
laid_block : (i : ℕ) (t : Layout) (r fixed : ℕ) (d : List ℕ) (o n : ℕ) → Within fixed t → ids_fit [] t ≡ true → fixed ≤ n
    → Laid anything o (o + n) (container i o (o + n) (entries_at t d o 0 ++ (bytes r (o + fixed) (o + n) ∷ [])))
laid_block i t r fixed d o n w v h =
    laid_container i o (o + n) refl (omega arith) (omega arith) (omega arith) (laid_append
    (widen (omega arith) (omega arith) (weaken (λ x k. refl) (rows_first [] [] [] d o fixed t w v)))
    (field {lo = o} {hi = o + n} {x = bytes r (o + fixed) (o + n)} refl refl (omega arith) (omega arith) (omega arith) laid_none))

-- A block with this fixed part and declared length, which stands there where `At` says so.
module _ (fixed : ℕ) (declared : List ℕ → ℕ → ℕ) (d : List ℕ) (o : ℕ) (entries : ℕ → List Entry) (needed : ℕ) (At : ℕ → Type 0)
    (shown : ℕ → List Entry) (shown-is : (n : ℕ) → entries n ≡ shown n) (positive : 0 < fixed) (sized : (n : ℕ) → length (encode (entries n)) ≡ needed) (small : needed < 4294967296)
    (is_at : (n : ℕ) → At n ↔ ((n ≡ declared d 0) × Stands fixed (declared d 0) d)) (laid : (n : ℕ) → fixed ≤ n → Laid anything o (o + n) (entries n)) (before : List ℕ) where
  abbrev Says : BlockAnswer → List ℕ → Type 0
  Says a after = BlockHost d o At needed shown before after (packed_block a)

  -- A refusal for data or offset: which of the two, and that nothing else was answered.
  limited_by : (k : ℕ) → limit d o ≡ k → (k ≡ 2) ⊎ (k ≡ 3) → ((TooMuch d → ⊥) → (TooFar o → ⊥) → ⊥)
      → (k ≡ 2 ↔ TooMuch d) → (k ≡ 3 ↔ ((TooMuch d → ⊥) × TooFar o)) → Says (refused (limit d o) 0) before
  limited_by k n two-or-three out two three =
      let b : (0 < k) × (k < 4) = ⊎_elim (λ z. (omega arith, omega arith)) (λ z. (omega arith, omega arith)) two-or-three in
      let u = unpacked (limit d o) 0 (omega arith) (omega (arith, b.1)) in
      let i = u.number ∙ n in
      let j = u.others in
      let p = b.0 in
      let q = b.1 in
      record {
        two = (λ z. two.0 (sym i ∙ z), λ z. i ∙ two.1 z);
        three = (λ z. three.0 (sym i ∙ z), λ z. i ∙ three.1 z);
        absent = no (λ z. omega arith) (λ z. out z.0 z.1);
        five = no (λ z. omega arith) (λ z. out z.0 z.1);
        found = λ m. no (λ z. omega (arith, z.0)) (λ z. out z.0 z.1);
        no_other = inr (⊎_elim (λ z. inl (i ∙ z)) (λ z. inr (inl (i ∙ z))) two-or-three);
        length_of = λ z. absurd (⊎_elim (λ y. omega arith) (λ y. omega arith) z);
        no_length = λ z. u.result;
        no_block = λ z. j;
        strip = λ z. absurd (omega arith);
        past = λ z. absurd (omega arith);
        left = λ z. refl;
        as_long = refl;
      }

  too_much : (limit d o ≡ 2) × TooMuch d → Says (refused (limit d o) 0) before
  too_much p = limited_by 2 p.0 (inl refl) (λ m f. m p.1) (yes refl p.1) (no (λ z. omega arith) (λ z. z.0 p.1))

  too_far : (limit d o ≡ 3) × (TooMuch d → ⊥) × TooFar o → Says (refused (limit d o) 0) before
  too_far p = limited_by 3 p.0 (inr refl) (λ m f. f p.2) (no (λ z. omega arith) p.1) (yes refl (p.1, p.2))

  module _ (much : TooMuch d → ⊥) (far : TooFar o → ⊥) where
    no_block_there : ((n : ℕ) → At n → ⊥) → Says absent before
    no_block_there h = record {
      two = no (λ z. omega arith) much;
      three = no (λ z. omega arith) (λ z. far z.1);
      absent = yes refl (much, far, h);
      five = no (λ z. omega arith) (λ z. h z.2.0 z.2.1);
      found = λ m. no (λ z. omega (arith, z.1, z.2)) (λ z. h m z.2);
      no_other = inl refl;
      length_of = λ z. absurd (⊎_elim (λ y. omega arith) (λ y. omega arith) z);
      no_length = λ z. absurd (⊎_elim (λ y. omega arith) (λ y. omega arith) z);
      no_block = λ z. refl;
      strip = λ z. absurd (omega arith);
      past = λ z. absurd (omega arith);
      left = λ z. refl;
      as_long = refl;
    }

    module _ (n : ℕ) (stands : At n) where
      too_short : length before < needed → Says (refused 5 needed) before
      too_short h =
          let u = unpacked 5 needed small (omega arith) in
          let i = u.number in
          let j = u.others in
          record {
            two = no (λ z. omega arith) much;
            three = no (λ z. omega arith) (λ z. far z.1);
            absent = no (λ z. omega arith) (λ z. z.2 n stands);
            five = yes i (much, far, (n, stands), h);
            found = λ m. no (λ z. omega (arith, z.0)) (λ z. omega (arith, h, z.3));
            no_other = inr (inr (inr i));
            length_of = λ z. u.result;
            no_length = λ z. absurd (⊎_elim (λ y. omega arith) (λ y. omega arith) z);
            no_block = λ z. j;
            strip = λ z. absurd (omega arith);
            past = λ z. absurd (omega arith);
            left = λ z. refl;
            as_long = refl;
          }

      enough : needed ≤ length before → Says (found needed n) (sets before 0 (encode (entries n)))
      enough h =
          let u = unpacked_block n needed small in
          let s = (is_at n).0 stands in
          let c = s.1.covers in
          let same = s.0 in
          let i = u.1 in
          let j = u.2 in
          let b = written_gives_back d o (entries n) before (omega (arith, sized n)) (widen (omega arith) (omega (arith, s.1.inside)) (laid n (omega arith))) in
          record {
            two = no (λ z. omega arith) much;
            three = no (λ z. omega arith) (λ z. far z.1);
            absent = no (λ z. omega arith) (λ z. z.2 n stands);
            five = no (λ z. omega arith) (λ z. omega (arith, h, z.3));
            found = λ m. (
              λ z. let q : n ≡ m = omega (arith, z.1) in (much, far, rw (← q) stands, h),
              λ z. let q = ((is_at m).0 z.2).0 in (i, omega arith, omega arith),
            );
            no_other = inl i;
            length_of = λ z. u.0;
            no_length = λ z. absurd (⊎_elim (λ y. omega arith) (λ y. omega arith) z);
            no_block = λ z. absurd (z i);
            strip = λ z. rw (u.0, j, ← sized n, ← shown-is n) (b, laid n (omega arith), openings_count (laid n (omega arith)));
            past = λ z. rw (u.0, ← sized n) (past_front (encode (entries n)) before (omega (arith, sized n)));
            left = λ z. absurd (omega arith);
            as_long = length-sets before 0 (encode (entries n));
          }

  not_limited : limit d o ≡ 0 → (TooMuch d → ⊥) × (TooFar o → ⊥)
  not_limited h = ⊎_elim (λ p. absurd (omega (arith, h, p.0))) (λ p. ⊎_elim (λ q. absurd (omega (arith, h, q.0))) (λ q. (q.1, q.2)) p) (limited d o)

  at_front : (n : ℕ) → front fixed declared d ≡ some n → At n
  at_front n e = (is_at n).1 (stood fixed declared d n e)

  pub says : Says (block_answer (block_of (limit d o) (front fixed declared d) entries) (length before)) (block_strip (block_of (limit d o) (front fixed declared d) entries) before)
  says = go (ends (limit d o) (front fixed declared d) entries before)
    where
      go : {a : BlockAnswer} {after : List ℕ} → Ends (limit d o) (front fixed declared d) entries before a after → Says a after
      go (turned_down h) = ⊎_elim too_much (λ p. ⊎_elim too_far (λ q. absurd (h q.0)) p) (limited d o)
      go (none_there z k) =
          let f = not_limited z in
          no_block_there f.0 f.1 (λ n a. let e = stands_there fixed declared d ((is_at n).0 a).1 in let y : ◌≡◌ {A = ℕ} 0 1 = cc in omega arith)
      go (no_room n z k l) = let f = not_limited z in rw (sized n) (too_short f.0 f.1 n (at_front n k) (omega (arith, sized n)))
      go (written n z k l) = let f = not_limited z in rw (sized n) (enough f.0 f.1 n (at_front n k) (omega (arith, sized n)))

-- A block stands where the rule says so, if what its header counts is the length that it declares.
is_block : (header counted : ℕ) (d : List ℕ) (size : ℕ) → counted ≡ size → (n : ℕ) → BlockAt header counted d n ↔ ((n ≡ size) × Stands header size d)
is_block header counted d size e n = (
  λ a. let c = a.as_counted in (omega arith, record { covers = omega (arith, a.covers); inside = omega (arith, a.inside) }),
  λ s.
      let f = s.0 in
      record { header_there = omega (arith, s.1.covers, s.1.inside); as_counted = omega arith; covers = omega (arith, s.1.covers); inside = omega (arith, s.1.inside) },
)

-- The LLS data block.
lls_shown_lem : (d : List ℕ) (o n : ℕ) → lls_entries d o n ≡ lls_shown d o n
unfolding lls_entries container direct
lls_shown_lem d o n =
    let a : o + 0 ≡ o = omega arith in
    let b : o + 0 + 2 ≡ o + 2 = omega arith in
    let c : o + 2 + 2 ≡ o + 4 = omega arith in
    let e : be16_at d 0 ≡ 256 * get_or d 0 0 + get_or d 1 0 = omega arith in
    let f : be16_at d 2 ≡ 256 * get_or d 2 0 + get_or d 3 0 = omega arith in
    cc

lls_laid : (d : List ℕ) (o n : ℕ) → 4 ≤ n → Laid anything o (o + n) (lls_entries d o n)
unfolding lls_entries
lls_laid d o n h = laid_block 136 lls_rows 130 4 d o n (omega arith) refl h

pub lls_host : (d : List ℕ) (o : ℕ) (before after : List ℕ) (r : ℕ)
    → r ≡ packed_block (block_answer (lls_of d o) (length before)) → after ≡ block_strip (lls_of d o) before
    → BlockHost d o (LlsAt d) 49 (lls_shown d o) before after r
lls_host d o before after r e f =
    rw (e, f) (says 4 lls_size d o (lls_entries d o) 49 (LlsAt d) (lls_shown d o) (lls_shown_lem d o) (omega arith) (lls_strip_length d o) (omega arith) (is_block 4 _ d (lls_size d 0) (omega arith)) (lls_laid d o) before)

-- The authentication trailer.
trailer_shown : (d : List ℕ) (o n : ℕ) → auth_trailer_entries d o n ≡ auth_trailer_shown d o n
unfolding auth_trailer_entries container direct
trailer_shown d o n =
    let a : o + 0 ≡ o = omega arith in
    let b : o + 0 + 2 ≡ o + 2 = omega arith in
    let c : o + 2 + 2 ≡ o + 4 = omega arith in
    let g : o + 6 + 2 ≡ o + 8 = omega arith in
    let h : o + 8 + 8 ≡ o + 16 = omega arith in
    let e : be16_at d 0 ≡ 256 * get_or d 0 0 + get_or d 1 0 = omega arith in
    let f : be16_at d 2 ≡ 256 * get_or d 2 0 + get_or d 3 0 = omega arith in
    let i : be16_at d 6 ≡ 256 * get_or d 6 0 + get_or d 7 0 = omega arith in
    let j : be64_at d 8 ≡ 72057594037927936 * get_or d 8 0 + 281474976710656 * get_or d 9 0 + 1099511627776 * get_or d 10 0 + 4294967296 * get_or d 11 0 + 16777216 * get_or d 12 0 + 65536 * get_or d 13 0 + 256 * get_or d 14 0 + get_or d 15 0 = omega arith in
    cc

trailer_laid : (d : List ℕ) (o n : ℕ) → 16 ≤ n → Laid anything o (o + n) (auth_trailer_entries d o n)
unfolding auth_trailer_entries
trailer_laid d o n h = laid_block 152 auth_trailer_rows 148 16 d o n (omega arith) refl h

pub trailer_host : (d : List ℕ) (o : ℕ) (before after : List ℕ) (r : ℕ)
    → r ≡ packed_block (block_answer (auth_trailer_of d o) (length before)) → after ≡ block_strip (auth_trailer_of d o) before
    → BlockHost d o (AuthTrailerAt d) 79 (auth_trailer_shown d o) before after r
trailer_host d o before after r e f =
    rw (e, f) (says 16 auth_trailer_size d o (auth_trailer_entries d o) 79 (AuthTrailerAt d) (auth_trailer_shown d o) (trailer_shown d o) (omega arith) (trailer_strip_length d o) (omega arith) (is_block 16 _ d (auth_trailer_size d 0) (omega arith)) (trailer_laid d o) before)

-- What follows a block is not looked at: with other bytes after it, the same block stands there, with the same entries.
module _ (block rest other : List ℕ) where
  same : (k : ℕ) → k < length block → get_or (block ++ other) k 0 ≡ get_or (block ++ rest) k 0
  same k h = get_or-append block other 0 k h ∙ sym (get_or-append block rest 0 k h)

  -- Bytes 2 and 3 of the block say its length.
  counted_alike : 4 ≤ length block → be16_at (block ++ other) 2 ≡ be16_at (block ++ rest) 2
  counted_alike h = rw (same 2 (omega arith), same 3 (omega arith))

  still : (fixed : ℕ) (declared : List ℕ → ℕ → ℕ) → declared (block ++ other) 0 ≡ declared (block ++ rest) 0
      → front fixed declared (block ++ rest) ≡ some (length block) → front fixed declared (block ++ other) ≡ some (length block)
  still fixed declared e f =
      let s = stood fixed declared (block ++ rest) (length block) f in
      let n : declared (block ++ other) 0 ≡ length block = e ∙ sym s.0 in
      let l = length-append block other in
      stands_there fixed declared (block ++ other) (record { covers = omega (arith, n, s.0, s.1.covers); inside = omega (arith, n) }) ∙ ap some n

  pub lls_alone : (o : ℕ) → lls_rule (block ++ rest) 0 ≡ some (length block)
      → (lls_rule (block ++ other) 0 ≡ some (length block)) × (lls_entries (block ++ other) o (length block) ≡ lls_entries (block ++ rest) o (length block))
  lls_alone o f =
      let s = stood 4 lls_size (block ++ rest) (length block) f in
      let c : 4 ≤ length block = omega (arith, s.0, s.1.covers) in (
        still 4 lls_size (ap (λ (x : ℕ). x * 4) (counted_alike c)) f,
        rw (lls_shown_lem, lls_shown_lem, same 0 (omega arith), same 1 (omega arith), same 2 (omega arith), same 3 (omega arith)),
      )

  pub trailer_alone : (o : ℕ) → auth_trailer_rule (block ++ rest) 0 ≡ some (length block)
      → (auth_trailer_rule (block ++ other) 0 ≡ some (length block)) × (auth_trailer_entries (block ++ other) o (length block) ≡ auth_trailer_entries (block ++ rest) o (length block))
  trailer_alone o f =
      let s = stood 16 auth_trailer_size (block ++ rest) (length block) f in
      let c : 16 ≤ length block = omega (arith, s.0, s.1.covers) in
      let at : (k : ℕ) → k < 16 → get_or (block ++ other) k 0 ≡ get_or (block ++ rest) k 0 = λ k h. same k (omega arith) in (
        still 16 auth_trailer_size (counted_alike (omega arith)) f,
        rw (
          trailer_shown,
          trailer_shown,
          at 0 (omega arith),
          at 1 (omega arith),
          at 2 (omega arith),
          at 3 (omega arith),
          at 6 (omega arith),
          at 7 (omega arith),
          at 8 (omega arith),
          at 9 (omega arith),
          at 10 (omega arith),
          at 11 (omega arith),
          at 12 (omega arith),
          at 13 (omega arith),
          at 14 (omega arith),
          at 15 (omega arith),
        ),
      )

-- Bytes at the place 100: an LLS block of three words, and a byte more; and a trailer with a digest of four bytes.
abbrev pub signalled : List ℕ
signalled = 0xff ∷ 0xf6 ∷ 0x00 ∷ 0x03 ∷ 0x00 ∷ 0x01 ∷ 0x00 ∷ 0x04 ∷ 0x00 ∷ 0x00 ∷ 0x00 ∷ 0x01 ∷ 0x99 ∷ []

abbrev pub signed : List ℕ
signed =
    0x00 ∷ 0x01 ∷ 0x00 ∷ 0x14 ∷ 0x00 ∷ 0x00 ∷ 0x00 ∷ 0x64 ∷ 0x00 ∷ 0x00 ∷ 0x00 ∷ 0x01 ∷ 0x00 ∷ 0x00 ∷ 0x00 ∷ 0x2a ∷
    0xde ∷ 0xad ∷ 0xbe ∷ 0xef ∷
    []

pub worked_lls : lls_of signalled 100 ≡ found_block (opens 136 100 112 3 ∷ u16 128 100 102 0xfff6 ∷ u16 129 102 104 3 ∷ bytes 130 104 112 ∷ closes ∷ []) 12
unfolding block_of standing lls_entries container direct
worked_lls = refl

pub worked_trailer : auth_trailer_of signed 100 ≡ found_block
    (opens 152 100 120 5 ∷ u16 144 100 102 1 ∷ u16 145 102 104 20 ∷ u16 146 106 108 100 ∷ u64 147 108 116 0x10000002a ∷ bytes 148 116 120 ∷ closes ∷ []) 20
unfolding block_of standing auth_trailer_entries container direct
worked_trailer = refl

-- A byte less, and neither is there.
pub worked_absent : (lls_of (take 11 signalled) 100 ≡ no_block) × (auth_trailer_of (take 19 signed) 100 ≡ no_block)
unfolding block_of standing
worked_absent = (refl, refl)
