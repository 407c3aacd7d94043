-- From the host's number to what a caller may rely on: what the exports' contracts say of the answer and of the lent buffer, before and
-- after the call, for every call.
use Prim.Native.Nat.{ℕ, ◌/◌, ◌≤◌, ◌<◌}
use native.Mathlib.Omega.{arith}
use mathlib.Core.Path.{◌≡◌, refl, sym, ap, ◌∙◌}
use mathlib.Core.Logic.{inl, inr}
use mathlib.Core.Bool.{Bool, true, false, cond}
use mathlib.Core.List.{List}
use lib.ListN.{length, take, drop}
use lib.Seq.{sets, drop-append_seam, length-sets}
use lib.Dec.{eqb, ltb}
use borrow.Author.Tests.{eqb-true, eqb-false}
use Rattle.format.specs.Strip.{Entry, encode}
use Rattle.format.specs.Walks.{Outcome, Answer, answer_of, strip_of, unless, refusal, headers_of, update_of, lsa_of, outer, header_object, lsa_object, headers, lsas, lsa_entries}
use Rattle.format.specs.Walks.Outcome.{refused, accepted}
use Rattle.format.specs.Packed.{word, packed}
use Rattle.format.specs.Refusals.{Refusals}
use Rattle.format.specs.Host.{result_in, number_in, Host, HeadersStrip, UpdateStrip, LsaStrip}
use Rattle.format.proofs.Refusals.{refusals, refused_leaves, Taken, taken}
use Rattle.format.proofs.Wrote.{sets_front}
use Rattle.format.proofs.Sizes.{headers_size, update_size, lsa_size}
use Rattle.format.proofs.Walks.{headers_show, update_shows, one_shows}

-- Packing loses nothing: the result and the number come back, and the other bits are zero.
pub record Unpacked (n x r : ℕ) : Type 0 where
  pub result : result_in r ≡ x
  pub number : number_in r ≡ n
  pub others : r / 1099511627776 ≡ 0

pub unpacked : (n x : ℕ) → x < 4294967296 → n < 256 → Unpacked n x (word n x)
unpacked n x h k = record { result = omega arith; number = omega arith; others = omega arith }

-- What is written to a buffer's front leaves the bytes past it, and no call changes the buffer's length.
pub past_front : (bs l : List ℕ) → length bs ≤ length l → drop (length bs) (sets l 0 bs) ≡ drop (length bs) l
past_front bs l h = rw (sets_front bs l h, drop-append_seam)

strip_kept : (x : Outcome) (before : List ℕ) → length (strip_of x before) ≡ length before
unfolding strip_of
strip_kept (refused n) before = refl
strip_kept (accepted es r t) before = go (ltb (length before) (length (encode es)))
  where
    go : (f : Bool) → length (cond f before (sets before 0 (encode es))) ≡ length before
    go true = refl
    go false = length-sets before 0 (encode es)

module _ (v : ℕ) (d : List ℕ) (o least : ℕ) (es : List Entry) (records tail : ℕ) (before : List ℕ) where
  abbrev a : Answer
  a = answer_of (unless (refusal v d o least) (accepted es records tail)) (length before)

  abbrev after : List ℕ
  after = strip_of (unless (refusal v d o least) (accepted es records tail)) before

  -- The length fits in 32 bits, since a strip is measured only where the data is not too much or too little.
  size_fits : (least ≤ length d → length d ≤ 65535 → length (encode es) < 4294967296) → a.size < 4294967296
  size_fits h =
      let t = refusals v d o least es records tail (length before) in
      go t (eqb a.number 0) refl (eqb a.number 5) refl
    where
      go : Refusals v d o least (length before) (length (encode es)) a → (s : Bool) → eqb a.number 0 ≡ s → (f : Bool) → eqb a.number 5 ≡ f → a.size < 4294967296
      go t true p f q =
          let n = eqb-true a.number 0 p in
          let c = t.numbers.zero.0 n in
          let l = h (let z = c.3 in omega arith) (let z = c.1 in omega arith) in
          omega (arith, t.length_of (inl n))
      go t false p true q =
          let n = eqb-true a.number 5 q in
          let c = t.numbers.five.0 n in
          let l = h (let z = c.3 in omega arith) (let z = c.1 in omega arith) in
          omega (arith, t.length_of (inr n))
      go t false p false q = omega (arith, t.no_length (eqb-false a.number 0 p) (eqb-false a.number 5 q))

  pub host : (least ≤ length d → length d ≤ 65535 → length (encode es) < 4294967296) → (Shown : List ℕ → Type 0) → (a.number ≡ 0 → Shown (take a.size after))
      → Host v d o least (length (encode es)) Shown before after (packed a)
  host h Shown shown =
      let t = refusals v d o least es records tail (length before) in
      let u = unpacked a.number a.size (size_fits h) (omega (arith, t.numbers.no_other)) in
      let k : number_in (packed a) ≡ 0 → Taken (refusal v d o least) es records tail before = λ e. taken (refusal v d o least) es records tail before (sym u.number ∙ e) in
      record {
        numbers = rw u.number t.numbers;
        length_of = λ e. u.result ∙ t.length_of (rw u.number at e);
        no_length = λ e f. u.result ∙ t.no_length (rw u.number at e) (rw u.number at f);
        other_bits = u.others;
        strip = λ e. rw u.result (shown (sym u.number ∙ e));
        past = λ e.
            let q : result_in (packed a) ≡ length (encode es) = u.result ∙ ap (λ (x : Answer). x.size) (k e).answered in
            ap (λ (n : ℕ). drop n after) q ∙ (ap (drop (length (encode es))) (k e).written ∙ (past_front (encode es) before (k e).fits ∙ ap (λ (n : ℕ). drop n before) (sym q)));
        left = λ e. (refused_leaves (unless (refusal v d o least) (accepted es records tail)) before (λ z. e (u.number ∙ z))).0;
        as_long = strip_kept (unless (refusal v d o least) (accepted es records tail)) before;
      }

-- The three exports, whose contracts are the two equations.
pub headers_host : (v : ℕ) (d : List ℕ) (o : ℕ) (before after : List ℕ) (r : ℕ)
    → r ≡ packed (answer_of (headers_of v d o) (length before)) → after ≡ strip_of (headers_of v d o) before
    → Host v d o 0 (length (encode (outer v (header_object v d o) d o 0 (headers d)))) (HeadersStrip v d o) before after r
unfolding headers_of
headers_host v d o before after r e f =
    rw (e, f) (host v d o 0 _ _ _ before (λ h k. headers_size v d o k) (HeadersStrip v d o) (λ h. (_, _, headers_show v d o before h)))

pub update_host : (v : ℕ) (d : List ℕ) (count o : ℕ) (before after : List ℕ) (r : ℕ)
    → r ≡ packed (answer_of (update_of v d count o) (length before)) → after ≡ strip_of (update_of v d count o) before
    → Host v d o 4 (length (encode (outer v (lsa_object v d o) d o 4 (lsas d count)))) (UpdateStrip v d count o) before after r
unfolding update_of
update_host v d count o before after r e f =
    rw (e, f) (host v d o 4 _ _ _ before (λ h k. update_size v d o count k) (UpdateStrip v d count o) (λ h. (_, _, update_shows v d count o before h)))

pub lsa_host : (v : ℕ) (d : List ℕ) (o : ℕ) (before after : List ℕ) (r : ℕ)
    → r ≡ packed (answer_of (lsa_of v d o) (length before)) → after ≡ strip_of (lsa_of v d o) before
    → Host v d o 20 (length (encode (lsa_entries v d o))) (LsaStrip v d o) before after r
unfolding lsa_of
lsa_host v d o before after r e f =
    rw (e, f) (host v d o 20 _ _ _ before (λ h k. lsa_size v d o h k) (LsaStrip v d o) (λ h. (_, _, one_shows v d o before h)))
