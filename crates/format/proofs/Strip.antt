-- The strip's table, in bytes: the kinds 1 to 10, and what stands in the body of each, for all ids, places and values.
use Prim.Native.Nat.{ℕ, ◌+◌, ◌/◌, ◌%◌}
use native.Mathlib.Omega.{arith}
use mathlib.Core.Path.{◌≡◌, refl}
use mathlib.Core.List.{List, [], ◌∷◌, ◌++◌, map}
use lib.ListN.{length}
use Rattle.format.specs.Bytes.{be32, be64}
use Rattle.format.specs.Strip.{Entry, content, code}
use Rattle.format.specs.Strip.Entry.{opens, closes, u8, u16, u32, ip4, ip6, bytes, unreachable, u64}
use Rattle.format.specs.Strip.Shape.{opening, closing, valued, numbered, ranged, costless}

-- The bytes of a number of 32 or 64 bits, each by its weight.
abbrev pub four : ℕ → List ℕ
four n = n / 16777216 ∷ n / 65536 % 256 ∷ n / 256 % 256 ∷ n % 256 ∷ []

abbrev pub eight : ℕ → List ℕ
eight n =
    n / 72057594037927936 ∷
    n / 281474976710656 % 256 ∷
    n / 1099511627776 % 256 ∷
    n / 4294967296 % 256 ∷
    n / 16777216 % 256 ∷
    n / 65536 % 256 ∷
    n / 256 % 256 ∷
    n % 256 ∷
    []

pub be32_is : (n : ℕ) → be32 n ≡ four n
be32_is n =
    let a : n / 65536 / 256 ≡ n / 16777216 = omega arith in
    let b : n % 65536 / 256 ≡ n / 256 % 256 = omega arith in
    let c : n % 65536 % 256 ≡ n % 256 = omega arith in
    cc

pub be64_is : (n : ℕ) → be64 n ≡ eight n
be64_is n =
    let a : n / 4294967296 / 65536 / 256 ≡ n / 72057594037927936 = omega arith in
    let b : n / 4294967296 / 65536 % 256 ≡ n / 281474976710656 % 256 = omega arith in
    let c : n / 4294967296 % 65536 / 256 ≡ n / 1099511627776 % 256 = omega arith in
    let d : n / 4294967296 % 65536 % 256 ≡ n / 4294967296 % 256 = omega arith in
    let e : n % 4294967296 / 65536 / 256 ≡ n / 16777216 % 256 = omega arith in
    let f : n % 4294967296 / 65536 % 256 ≡ n / 65536 % 256 = omega arith in
    let g : n % 4294967296 % 65536 / 256 ≡ n / 256 % 256 = omega arith in
    let h : n % 4294967296 % 65536 % 256 ≡ n % 256 = omega arith in
    cc

-- An entry of each kind, in the order of their numbers.
abbrev one_of_each : (i s e v h l : ℕ) → List Entry
one_of_each i s e v h l = opens i s e v ∷ closes ∷ u8 i s e v ∷ u16 i s e v ∷ u32 i s e v ∷ ip4 i s e v ∷ ip6 i s e h l ∷ bytes i s e ∷ unreachable i s e ∷ u64 i s e v ∷ []

-- The bytes of an entry of each kind with the id i, the start s and the end e; and its length, its shape and its range.
pub record Kinds (i s e : ℕ) : Type 0 where
  pub open_entry : (n : ℕ) → code (opens i s e n) ≡ 1 ∷ i ∷ (four s ++ (four e ++ four n))
  pub close_entry : code closes ≡ 2 ∷ []
  pub u8_field : (v : ℕ) → code (u8 i s e v) ≡ 3 ∷ i ∷ (four s ++ (four e ++ (v ∷ [])))
  pub u16_field : (v : ℕ) → code (u16 i s e v) ≡ 4 ∷ i ∷ (four s ++ (four e ++ (v / 256 ∷ v % 256 ∷ [])))
  pub u32_field : (v : ℕ) → code (u32 i s e v) ≡ 5 ∷ i ∷ (four s ++ (four e ++ four v))
  pub ip4_field : (a : ℕ) → code (ip4 i s e a) ≡ 6 ∷ i ∷ (four s ++ (four e ++ four a))
  pub ip6_field : (h l : ℕ) → code (ip6 i s e h l) ≡ 7 ∷ i ∷ (four s ++ (four e ++ (eight h ++ eight l)))
  pub bytes_entry : code (bytes i s e) ≡ 8 ∷ i ∷ (four s ++ four e)
  pub unreachable_entry : code (unreachable i s e) ≡ 9 ∷ i ∷ (four s ++ four e)
  pub u64_field : (v : ℕ) → code (u64 i s e v) ≡ 10 ∷ i ∷ (four s ++ (four e ++ eight v))
  -- the kind's byte, and as many of its body as the table says
  pub lengths : (v h l : ℕ) → map (λ (x : Entry). length (code x)) (one_of_each i s e v h l) ≡ (1 + 13) ∷ (1 + 0) ∷ (1 + 10) ∷ (1 + 11) ∷ (1 + 13) ∷ (1 + 13) ∷ (1 + 25) ∷ (1 + 9) ∷ (1 + 9) ∷ (1 + 17) ∷ []
  -- what the claims of ranges, nesting and layout see of it
  pub shapes : (v h l : ℕ) → map (λ (x : Entry). (content x).shape) (one_of_each i s e v h l) ≡ opening ∷ closing ∷ valued ∷ valued ∷ numbered v ∷ valued ∷ valued ∷ ranged ∷ costless ∷ valued ∷ []
  pub ids : (v h l : ℕ) → map (λ (x : Entry). (content x).id) (one_of_each i s e v h l) ≡ i ∷ 0 ∷ i ∷ i ∷ i ∷ i ∷ i ∷ i ∷ i ∷ i ∷ []
  pub starts : (v h l : ℕ) → map (λ (x : Entry). (content x).start) (one_of_each i s e v h l) ≡ s ∷ 0 ∷ s ∷ s ∷ s ∷ s ∷ s ∷ s ∷ s ∷ s ∷ []
  pub ends : (v h l : ℕ) → map (λ (x : Entry). (content x).end) (one_of_each i s e v h l) ≡ e ∷ 0 ∷ e ∷ e ∷ e ∷ e ∷ e ∷ e ∷ e ∷ e ∷ []

pub kinds : (i s e : ℕ) → Kinds i s e
unfolding code
kinds i s e =
    let p = be32_is s in
    let q = be32_is e in record {
      open_entry = λ n. let r = be32_is n in cc;
      close_entry = refl;
      u8_field = λ v. cc;
      u16_field = λ v. cc;
      u32_field = λ v. let r = be32_is v in cc;
      ip4_field = λ a. let r = be32_is a in cc;
      ip6_field = λ h l. let r = be64_is h in let t = be64_is l in cc;
      bytes_entry = cc;
      unreachable_entry = cc;
      u64_field = λ v. let r = be64_is v in cc;
      lengths = λ v h l. refl;
      shapes = λ v h l. refl;
      ids = λ v h l. refl;
      starts = λ v h l. refl;
      ends = λ v h l. refl;
    }
