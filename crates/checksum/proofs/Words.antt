-- The words of an LSA are its bytes from the fourth on, four by four.
use Rattle.std.proofs.Common.{◌≡◌, ℕ, zero, suc, ◌+◌, ◌-◌, ◌*◌, ◌/◌, ◌%◌, ◌<◌, ◌≤◌, List, [], length, get_or, take, drop, Fits, w8, arith, ◌∙◌}
use Rattle.std.specs.Simd.{first_chunks}
use Rattle.std.proofs.lemmas.List.{get_or-take, get_or-drop, take_rest, drop-drop}
use Rattle.format.specs.Checksum.{running, residues}
use Rattle.format.proofs.Checksum.{by_word}

-- Byte j of chunk i.
chunk_byte : (xs : List ℕ) (n i j : ℕ) → i < n → j < 4 → get_or (get_or (first_chunks 4 n xs) i []) j 0 ≡ get_or xs (i * 4 + j) 0
chunk_byte xs zero i j h k = absurd (omega arith)
chunk_byte xs (suc n) zero j h k = let e : 0 * 4 + j ≡ j = omega arith in rw e (get_or-take 4 xs j 0 k)
chunk_byte xs (suc n) (suc i) j h k =
    let e : 4 + (i * 4 + j) ≡ suc i * 4 + j = omega arith in
    chunk_byte (drop 4 xs) n i j (omega arith) k ∙ rw e at (get_or-drop 4 xs (i * 4 + j) 0)

module _ (lsa : List ℕ) (ws : List (List ℕ)) (n i : ℕ) (e : ws ≡ first_chunks 4 n (take (length lsa - 4) (drop 4 lsa))) (k : i < n) where
  byte : (j q : ℕ) → j < 4 → q ≡ 4 + (i * 4 + j) → get_or (get_or ws i []) j 0 ≡ get_or lsa q 0
  byte j q h f = rw (e, take_rest lsa 4, f) (chunk_byte (drop 4 lsa) n i j k h ∙ get_or-drop 4 lsa (i * 4 + j) 0)

  -- One more word, the first byte as its lowest.
  pub word_more : (x y h o start w : ℕ) → n * 4 + 4 ≤ length lsa → ((p : ℕ) → Fits w8 (get_or lsa p 0))
      → w ≡ get_or (get_or ws i []) 0 0 + get_or (get_or ws i []) 1 0 * 256 + get_or (get_or ws i []) 2 0 * 65536 + get_or (get_or ws i []) 3 0 * 16777216
      → running (residues (x + w) ((y + (x + w)) * 4 + ((h + w / 65536) * 2 + (o + (w / 256 % 256 + w / 16777216 * 65536))) * 254 + start)) (drop ((i + 1) * 4) (drop 4 lsa))
      ≡ running (residues x (y * 4 + (h * 2 + o) * 254 + start)) (drop (i * 4) (drop 4 lsa))
  word_more x y h o start w room bound f =
      let p : ℕ = 4 + i * 4 in
      let g : 4 + (i + 1) * 4 ≡ p + 4 = omega arith in
      let r : p + 4 ≤ length lsa = omega arith in
      let a = byte 0 p (omega arith) (omega arith) in
      let b = byte 1 (p + 1) (omega arith) (omega arith) in
      let c = byte 2 (p + 2) (omega arith) (omega arith) in
      let d = byte 3 (p + 3) (omega arith) (omega arith) in
      rw (drop-drop ((i + 1) * 4) 4 lsa, drop-drop (i * 4) 4 lsa, g, f, a, b, c, d)
      (by_word lsa p x y h o start r (omega (arith, bound p)) (omega (arith, bound (p + 1))) (omega (arith, bound (p + 2))))
