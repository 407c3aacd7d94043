-- What each LSA holds, by its type and the length of its body: which containers, kind 8 and kind 9 entries, where its links
-- and its prefixes lie, and when its body is decoded. The numbers are those of the requirements.
use Rattle.std.specs.Prelude.{ℕ, ◌+◌, ◌*◌, ◌-◌, ◌/◌, ◌%◌, Bool, true, cond, List, [], ◌∷◌, length, get_or, drop, ltb, eqb}
use Rattle.std.proofs.Math.Option.{Option, none, some}
use Rattle.format.specs.Bytes.{be16_at, be32_at}
use Rattle.format.specs.Strip.{Entry}
use Rattle.format.specs.Cut.{Span, cut, link_rule, prefix_rule, fixed_rule}
use Rattle.format.specs.Ranges.{Range, placed}
use Rattle.format.specs.Laid.{among, only}

-- The ids of the containers in a body that is decoded from a least length on; below that it has none.
abbrev pub from : (least n : ℕ) → List ℕ → List ℕ
from least n ids = cond (ltb n least) [] ids

-- The containers in a body of n bytes, by the LS type: arrays of links (16), of attached routers (18), of TOS metrics (20,
-- and 69 in a link); links (96) and TOS metrics (97).
abbrev pub containers2 : (ls_type n : ℕ) → List ℕ
containers2 t n =
    cond (eqb t 1) (from 4 n (16 ∷ 96 ∷ 69 ∷ 97 ∷ []))
    (cond (eqb t 2) (from 4 n (18 ∷ []))
    (cond (eqb t 3) (from 8 n (20 ∷ 97 ∷ []))
    (cond (eqb t 4) (from 8 n (20 ∷ 97 ∷ []))
    (cond (eqb t 5) (from 16 n (20 ∷ 97 ∷ []))
    (cond (eqb t 7) (from 16 n (20 ∷ 97 ∷ []))
    [])))))

-- The same by the function code: arrays of links (15), of attached routers (16), of prefixes (29); links (96) and
-- prefixes (97).
abbrev pub containers3 : (function n : ℕ) → List ℕ
containers3 f n =
    cond (eqb f 1) (from 4 n (15 ∷ 96 ∷ []))
    (cond (eqb f 2) (from 4 n (16 ∷ []))
    (cond (eqb f 8) (from 24 n (29 ∷ 97 ∷ []))
    (cond (eqb f 9) (from 12 n (29 ∷ 97 ∷ []))
    [])))

-- The containers in an LSA. Its LS type is byte 3 in version 2; in version 3 the function is the low 13 bits of the LS type.
abbrev pub containers : (version : ℕ) → List ℕ → List ℕ
containers v d = cond (eqb v 2) (containers2 (get_or d 3 0) (length (drop 20 d))) (containers3 (be16_at d 2 % 8192) (length (drop 20 d)))

-- The metrics of 24 bits, each of which is a cost or unreachable: of summaries (LS types 3 and 4) and externals (5 and 7) in
-- version 2, the LSA's own (19) and those of its TOS entries (82); in version 3 that of the functions 3, 4, 5 and 7 (17). A
-- link's TOS metric, which shares the id 82, has 16 bits and is none.
abbrev pub metric_ids : (version : ℕ) → List ℕ
metric_ids v = cond (eqb v 2) (19 ∷ 82 ∷ []) (17 ∷ [])

abbrev pub metrics2 : (ls_type : ℕ) → List ℕ
metrics2 t =
    cond (eqb t 1) []
    (cond (eqb t 2) []
    (cond (eqb t 3) (19 ∷ 82 ∷ [])
    (cond (eqb t 4) (19 ∷ 82 ∷ [])
    (cond (eqb t 5) (19 ∷ 82 ∷ [])
    (cond (eqb t 7) (19 ∷ 82 ∷ [])
    [])))))

abbrev pub metrics3 : (function : ℕ) → List ℕ
metrics3 f =
    cond (eqb f 1) []
    (cond (eqb f 2) []
    (cond (eqb f 3) (17 ∷ [])
    (cond (eqb f 4) (17 ∷ [])
    (cond (eqb f 5) (17 ∷ [])
    (cond (eqb f 7) (17 ∷ [])
    [])))))

-- Those of an LSA.
abbrev pub metrics : (version : ℕ) → List ℕ → List ℕ
metrics v d = cond (eqb v 2) (metrics2 (get_or d 3 0)) (metrics3 (be16_at d 2 % 8192))

-- A raw body and a tlvs range; unparsed bytes.
abbrev pub raw_or_tlvs : (version : ℕ) → List ℕ
raw_or_tlvs v = cond (eqb v 2) (23 ∷ 24 ∷ []) (31 ∷ 32 ∷ [])

abbrev pub unparsed : (version : ℕ) → ℕ
unparsed v = cond (eqb v 2) 25 33

-- The entries in an LSA: its containers, its metrics where they are unreachable, the three kind 8 entries, and fields with
-- a value.
abbrev pub holds : (version : ℕ) → List ℕ → Entry → Bool
holds v d = only (containers v d) (metrics v d) (unparsed v ∷ raw_or_tlvs v)

-- The ranges of the spans of a list in a body that begins at the place o, where the body has the bytes before the list's
-- first place; else it has no list.
abbrev pub listed : (first : ℕ) → List ℕ → ℕ → List Span → List Range
listed first b o ss = cond (ltb (length b) first) [] (placed o ss)

-- The links of an LSA: of a version 2 Router-LSA (type 1) under its own count, of a version 3 one (function 1) as many of
-- 16 bytes as there are. No other LSA has links.
abbrev pub link_ranges : (version : ℕ) → List ℕ → ℕ → List Range
link_ranges v d o =
    cond (eqb v 2)
    (cond (eqb (get_or d 3 0) 1) (listed 4 (drop 20 d) (o + 20) (cut link_rule (drop 20 d) (be16_at (drop 20 d) 2) 4)) [])
    (cond (eqb (be16_at d 2 % 8192) 1) (listed 4 (drop 20 d) (o + 20) (cut (fixed_rule 16) (drop 20 d) ((length (drop 20 d) - 4) / 16) 4)) [])

-- The prefixes of a version 3 LSA: of a Link-LSA (function 8) and of an Intra-Area-Prefix-LSA (function 9), under their own
-- counts. No other LSA has a list of prefixes.
abbrev pub prefix_ranges : List ℕ → ℕ → List Range
prefix_ranges d o =
    cond (eqb (be16_at d 2 % 8192) 8) (listed 24 (drop 20 d) (o + 20) (cut prefix_rule (drop 20 d) (be32_at (drop 20 d) 20) 24))
    (cond (eqb (be16_at d 2 % 8192) 9) (listed 12 (drop 20 d) (o + 20) (cut prefix_rule (drop 20 d) (be16_at (drop 20 d) 0) 12))
    [])

-- The bytes that a body needs; none where its type has no layout. Version 2 goes by the LS type and the opaque type.
abbrev pub least2 : (ls_type opaqueType : ℕ) → Option ℕ
least2 t u =
    cond (eqb t 1) (some 4)
    (cond (eqb t 2) (some 4)
    (cond (eqb t 3) (some 8)
    (cond (eqb t 4) (some 8)
    (cond (eqb t 5) (some 16)
    (cond (eqb t 7) (some 16)
    (cond (among (9 ∷ 10 ∷ 11 ∷ []) t) (cond (among (1 ∷ 4 ∷ 7 ∷ 8 ∷ []) u) (some 0) none)
    none))))))

-- A fixed prefix of l bits needs whole words of 32 bits after the 8 bytes before it; above 128 bits there is no layout.
abbrev pub with_prefix : (l more : ℕ) → Option ℕ
with_prefix l more = cond (ltb 128 l) none (some (8 + 4 * ((l + 31) / 32) + more))

-- What an external has after its prefix: 16 bytes if flag 0x02, 4 if 0x01, 4 if the referenced type is not zero.
abbrev pub optionals : List ℕ → ℕ
optionals b = cond (eqb (get_or b 0 0 / 2 % 2) 1) 16 0 + cond (eqb (get_or b 0 0 % 2) 1) 4 0 + cond (eqb (get_or b 6 0 * 256 + get_or b 7 0) 0) 0 4

-- Version 3 goes by the function, and by the body where it says what it holds.
abbrev pub least3 : (function : ℕ) → List ℕ → Option ℕ
least3 f b =
    cond (eqb f 1) (some 4)
    (cond (eqb f 2) (some 4)
    (cond (eqb f 3) (with_prefix (get_or b 4 0) 0)
    (cond (eqb f 4) (some 12)
    (cond (eqb f 5) (with_prefix (get_or b 4 0) (optionals b))
    (cond (eqb f 7) (with_prefix (get_or b 4 0) (optionals b))
    (cond (eqb f 8) (some 24)
    (cond (eqb f 9) (some 12)
    (cond (eqb f 12) (some 0)
    (cond (eqb f 33) (some 4)
    (cond (eqb f 34) (some 4)
    (cond (eqb f 35) (some 0)
    (cond (eqb f 36) (some 0)
    (cond (eqb f 37) (some 0)
    (cond (eqb f 39) (some 0)
    (cond (eqb f 40) (some 4)
    (cond (eqb f 41) (some 12)
    (cond (eqb f 42) (some 0)
    none)))))))))))))))))

-- Whether a body of n bytes is raw: it has no layout, or too few bytes.
abbrev pub too_short : Option ℕ → ℕ → Bool
too_short none n = true
too_short (some least) n = ltb n least
