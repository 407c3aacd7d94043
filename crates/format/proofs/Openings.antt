-- Where entries are laid out, scanning forward from any opening finds its close in the nesting, and as many entries as it says.
use Prim.Native.Nat.{ℕ, suc, ◌-◌}
use native.Mathlib.Omega.{arith}
use mathlib.Core.Path.{◌≡◌, sym, ap, ◌∙◌}
use mathlib.Core.Bool.{Bool, true, false, cond}
use mathlib.Core.List.{List, [], ◌∷◌, ◌++◌, append_assoc, append-nil}
use mathlib.Core.Option.{Option, none as nothing, some}
use lib.Dec.{eqb}
use Rattle.format.specs.Strip.{Entry, content}
use Rattle.format.specs.Strip.Entry.{opens, closes}
use Rattle.format.specs.Inside.{one_more, scan, OpeningsCount}
use Rattle.format.specs.Laid.{Laid}
use Rattle.format.specs.Laid.Laid.{none, field, group}

-- What a scan answers.
abbrev found : Option (ℕ × List Entry) → ℕ × List Entry
found nothing = (0, [])
found (some p) = p

-- What follows the close does not matter to the scan.
scan_more : (d m : ℕ) (xs : List Entry) {n : ℕ} {rest : List Entry} → scan d m xs ≡ some (n, rest) → (ys : List Entry) → scan d m (xs ++ ys) ≡ some (n, rest ++ ys)
unfolding scan
scan_more d m [] h ys = cc
scan_more d m (x ∷ xs) {n} {rest} h ys = go (eqb (content x).kind 1) (eqb (content x).kind 2) (eqb d 0) (λ c k e. scan_more c k xs e ys) h
  where
    go : (s t u : Bool) → ((c k : ℕ) → scan c k xs ≡ some (n, rest) → scan c k (xs ++ ys) ≡ some (n, rest ++ ys))
        → cond s (scan (suc d) (one_more d m) xs) (cond t (cond u (some (m, xs)) (scan (d - 1) m xs)) (scan d (one_more d m) xs)) ≡ some (n, rest)
        → cond s (scan (suc d) (one_more d m) (xs ++ ys)) (cond t (cond u (some (m, xs ++ ys)) (scan (d - 1) m (xs ++ ys))) (scan d (one_more d m) (xs ++ ys))) ≡ some (n, rest ++ ys)
    go true t u ih h = ih (suc d) (one_more d m) h
    go false true true ih h =
        let e : m ≡ n = ap (λ (r : Option (ℕ × List Entry)). (found r).0) h in
        let f : xs ≡ rest = ap (λ (r : Option (ℕ × List Entry)). (found r).1) h in
        rw (e, f)
    go false true false ih h = ih (d - 1) m h
    go false false u ih h = ih d (one_more d m) h

-- What an opening says of the entries that follow it.
abbrev Says : Entry → List Entry → Type 0
Says x xs = (i s e n : ℕ) → x ≡ opens i s e n → (rest : List Entry) × (scan 0 0 xs ≡ some (n, rest))

-- So does each opening of a list, of those that follow it there.
data Each : List Entry → Type 0 where
  done : Each []
  next : {x : Entry} {xs : List Entry} → Says x xs → Each xs → Each (x ∷ xs)

no_opening : (x : Entry) (xs : List Entry) → ((i s e n : ℕ) → x ≡ opens i s e n → ⊥) → Says x xs
no_opening x xs h i s e n q = absurd (h i s e n q)

each_of : {has : Entry → Bool} {lo hi : ℕ} {es : List Entry} → Laid has lo hi es → (xs : List Entry) → Each xs → Each (es ++ xs)
each_of none xs h = h
each_of (field {x = x} {es = es} f t a b c l) xs h =
    next (no_opening x (es ++ xs) (λ i s e n q. let z : ◌≡◌ {A = ℕ} 0 1 = cc (q) in absurd (omega arith))) (each_of l xs h)
each_of (group {inside = inside} {es = es} i s e n t q a b c k l) xs h =
    let tail : (inside ++ (closes ∷ es)) ++ xs ≡ (inside ++ (closes ∷ [])) ++ (es ++ xs) = append_assoc inside (closes ∷ es) xs ∙ sym (append_assoc inside (closes ∷ []) (es ++ xs)) in
    next (λ j u v m r. let z : n ≡ m = cc (r) in (es ++ xs, rw (tail, ← z) (scan_more 0 0 (inside ++ (closes ∷ [])) q (es ++ xs))))
    (rw append_assoc (each_of k (closes ∷ (es ++ xs)) (next (no_opening closes (es ++ xs) (λ i s e n q. let z : ◌≡◌ {A = ℕ} 0 1 = cc (q) in absurd (omega arith))) (each_of l xs h))))

-- Wherever it stands.
each_says : {es : List Entry} → Each es → OpeningsCount es
each_says done [] after i s e n q = cc
each_says done (x ∷ before) after i s e n q = cc
each_says (next {x} {xs} h hs) [] after i s e n q = let a : x ≡ opens i s e n = cc in let b : xs ≡ after = cc in rw (← b) (h i s e n a)
each_says (next {x} {xs} h hs) (y ∷ before) after i s e n q = each_says hs before after i s e n (cc)

pub openings_count : {has : Entry → Bool} {lo hi : ℕ} {es : List Entry} → Laid has lo hi es → OpeningsCount es
openings_count {es = es} l = each_says (rw append-nil at (each_of l [] done))
