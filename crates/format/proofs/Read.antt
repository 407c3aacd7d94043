-- What `encode` writes, `read_all` reads back. A number's bytes are its quotient and its remainder, so this holds of all
-- entries, whatever their numbers.
use Prim.Native.Nat.{ℕ, zero, suc, ◌+◌, ◌≤◌, ◌<◌, zero-le}
use native.Mathlib.Omega.{arith}
use native.Mathlib.Nat.{not-suc-le-zero, le_of_suc-le-suc, add_assoc}
use mathlib.Core.Path.{◌≡◌, refl, ap}
use mathlib.Core.List.{List, [], ◌∷◌, ◌++◌, append_assoc, append-nil}
use mathlib.Core.Option.{some}
use lib.ListN.{length, length-append}
use lib.Seq.{get_or-append-add, get_or-append_seam}
use borrow.Author.Tests.{le-leb, le-ltb, ne_eqb, eq-eqb}
use Rattle.format.specs.Bytes.{be16, be32, be64}
use Rattle.format.specs.Strip.{Entry, head, code, encode, body_length, entry_at, body_at, step_at, read_from, read_all}
use Rattle.format.specs.Strip.Entry.{opens, closes, u8, u16, u32, ip4, ip6, bytes, unreachable, u64}
use Rattle.format.specs.Strip.Step.{entry, end}
use Rattle.format.proofs.Bytes.{back16, back32, back64}

-- an entry is read off the bytes after a seam
entry_shift : (k : ℕ) (pre xs : List ℕ) → entry_at k (pre ++ xs) (length pre + 1) ≡ entry_at k xs 1
entry_shift k pre xs = simp (add_assoc, get_or-append-add)

step_at_lem : (k n : ℕ) (pre body rest : List ℕ) → body_length k ≡ some n → length body ≡ n
    → step_at (pre ++ (k ∷ (body ++ rest))) (length pre) ≡ entry (entry_at k (k ∷ (body ++ rest)) 1) (length pre + 1 + n)
unfolding step_at
step_at_lem k n pre body rest e h =
    let xs = k ∷ (body ++ rest) in
    let l : length (pre ++ xs) ≡ length pre + suc (n + length rest) = rw (length-append, length-append) (omega arith) in
    rw (
      le-ltb (length (pre ++ xs)) (length pre) (omega arith),
      ne_eqb (length pre) (length (pre ++ xs)) (λ z. omega arith),
      get_or-append_seam pre k (body ++ rest) 0,
      body_at,
      e,
      le-leb (length pre + 1 + n) (length (pre ++ xs)) (omega arith),
      get_or-append_seam pre k (body ++ rest) 0,
      entry_shift k pre xs,
    )

-- the step at an entry's first byte
pub at_entry : (pre : List ℕ) (e : Entry) (rest : List ℕ) → step_at (pre ++ (code e ++ rest)) (length pre) ≡ entry e (length pre + length (code e))
unfolding code
at_entry pre (opens i s t n) rest = rw (step_at_lem 1 13 pre (head i s t ++ be32 n) rest refl refl, back32 s, back32 t, back32 n) (ap (entry (opens i s t n)) (omega arith))
at_entry pre closes rest = rw (step_at_lem 2 0 pre [] rest refl refl) (ap (entry closes) (omega arith))
at_entry pre (u8 i s t v) rest = rw (step_at_lem 3 10 pre (head i s t ++ (v ∷ [])) rest refl refl, back32 s, back32 t) (ap (entry (u8 i s t v)) (omega arith))
at_entry pre (u16 i s t v) rest = rw (step_at_lem 4 11 pre (head i s t ++ be16 v) rest refl refl, back32 s, back32 t, back16 v) (ap (entry (u16 i s t v)) (omega arith))
at_entry pre (u32 i s t v) rest = rw (step_at_lem 5 13 pre (head i s t ++ be32 v) rest refl refl, back32 s, back32 t, back32 v) (ap (entry (u32 i s t v)) (omega arith))
at_entry pre (ip4 i s t v) rest = rw (step_at_lem 6 13 pre (head i s t ++ be32 v) rest refl refl, back32 s, back32 t, back32 v) (ap (entry (ip4 i s t v)) (omega arith))
at_entry pre (ip6 i s t h l) rest = rw (step_at_lem 7 25 pre (head i s t ++ (be64 h ++ be64 l)) rest refl refl, back32 s, back32 t, back64 h, back64 l) (ap (entry (ip6 i s t h l)) (omega arith))
at_entry pre (bytes i s t) rest = rw (step_at_lem 8 9 pre (head i s t) rest refl refl, back32 s, back32 t) (ap (entry (bytes i s t)) (omega arith))
at_entry pre (unreachable i s t) rest = rw (step_at_lem 9 9 pre (head i s t) rest refl refl, back32 s, back32 t) (ap (entry (unreachable i s t)) (omega arith))
at_entry pre (u64 i s t v) rest = rw (step_at_lem 10 17 pre (head i s t ++ be64 v) rest refl refl, back32 s, back32 t, back64 v) (ap (entry (u64 i s t v)) (omega arith))

-- the step at the strip's end
pub at_end : (s : List ℕ) → step_at s (length s) ≡ end
unfolding step_at
at_end s = rw (le-ltb (length s) (length s) (omega arith), eq-eqb (length s) (length s) refl)

read_from_lem : (es : List Entry) (pre : List ℕ) (k : ℕ) → length es < k → read_from k (pre ++ encode es) (length pre) ≡ some es
unfolding encode read_from
read_from_lem es pre zero h = absurd (not-suc-le-zero h)
read_from_lem [] pre (suc k) h = rw (append-nil, read_from, at_end pre)
read_from_lem (e ∷ es) pre (suc k) h =
    let ih : read_from k (pre ++ (code e ++ encode es)) (length pre + length (code e)) ≡ some es
    = rw (← append_assoc, ← length-append) (read_from_lem es (pre ++ code e) k (le_of_suc-le-suc h)) in
    rw (read_from, at_entry pre e (encode es), ih)

-- an entry has a byte at least
pub longer : (es : List Entry) → length es ≤ length (encode es)
unfolding encode code
longer [] = zero-le
longer (e ∷ es) = let h = longer es in rw length-append (omega arith)

pub read_encode : (es : List Entry) → read_all (encode es) ≡ some es
unfolding read_all
read_encode es = read_from_lem es [] (suc (length (encode es))) (let h = longer es in omega arith)
