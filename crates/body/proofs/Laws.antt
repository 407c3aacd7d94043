-- Laws of what is written of a body.
use Prim.Native.Nat.{ℕ, ◌+◌, ◌-◌}
use native.Mathlib.Omega.{arith}
use mathlib.Core.Path.{◌≡◌, refl, sym, ap, ◌∙◌}
use mathlib.Core.List.{List, [], ◌++◌}
use lib.ListN.{length, length-append}
use Rattle.format.specs.Strip.{Entry, direct, encode}
use Rattle.format.specs.Body as body
use Rattle.format.specs.Body.{leftover, own_of, rest_of, body_entries, body_tail}
use Rattle.format.specs.Body.Body.{decoded, raw}
use Rattle.format.proofs.Wrote.{encode-append}
use Rattle.body.specs.Answers.{Pushed, pushed_of, measured_of, bytes_of}
use Rattle.body.specs.declared.Body.{Body}
use Rattle.body.specs.declared.Body.TheVariants.{Decoded, Raw}
use Rattle.body.specs.declared.Measured.{Measured}
use Rattle.body.specs.declared.Measured.TheVariants as measured
use Rattle.strip_put.specs.declared.Writer.{Writer}
use Rattle.strip_put.specs.Writer.{Writes}
use Rattle.strip_put.proofs.Laws.{then}

-- The code's answer for a decoded body: as many entries, and as many bytes consumed.
pub answered : (es : List Entry) (n m k : ℕ) → k ≡ direct 0 es → m ≡ n → Decoded k m ≡ pushed_of (decoded es n)
answered es n m k c e = rw (c, e) refl

-- Its entries are written besides.
pub pushed_decoded : {u v : Writer} (es : List Entry) (n m k : ℕ) → k ≡ direct 0 es → m ≡ n → Writes u (encode es) v → Pushed (decoded es n) u v (Decoded k m)
pushed_decoded es n m k c e w = record { answer = answered es n m k c e; wrote = w }

own_bytes : (x : body.Body) → encode (own_of x) ≡ bytes_of x
unfolding encode
own_bytes (decoded es n) = refl
own_bytes raw = refl

-- The bytes of an LSA: its header's, its body's own, and those of what is left.
pub encode_lsa : (hs : List Entry) (r u : ℕ) (x : body.Body) (b : List ℕ) (o : ℕ)
    → encode (hs ++ body_entries r u x b o) ≡ encode hs ++ (bytes_of x ++ encode (rest_of r u x b o))
unfolding body_entries
encode_lsa hs r u x b o =
    rw (encode-append hs (own_of x ++ rest_of r u x b o), encode-append (own_of x) (rest_of r u x b o), own_bytes x)

pub length_lsa : (hs : List Entry) (r u : ℕ) (x : body.Body) (b : List ℕ) (o : ℕ)
    → length (encode (hs ++ body_entries r u x b o)) ≡ length (encode hs) + (length (bytes_of x) + length (encode (rest_of r u x b o)))
length_lsa hs r u x b o =
    let rest = encode (rest_of r u x b o) in
    ap length (encode_lsa hs r u x b o) ∙ (length-append (encode hs) (bytes_of x ++ rest) ∙ ap (λ (k : ℕ). length (encode hs) + k) (length-append (bytes_of x) rest))

-- The code's answer tells which case of the definition it is.
pub pushed_is_decoded : (x : body.Body) (k n : ℕ) (y : Body) → y ≡ pushed_of x → y ≡ Decoded k n
    → (k ≡ direct 0 (own_of x)) × ((r u : ℕ) (b : List ℕ) (o : ℕ) → rest_of r u x b o ≡ leftover u b o n)
pushed_is_decoded (decoded es m) k n y p e =
    let c : k ≡ direct 0 es = cc in
    let z : m ≡ n = cc in
    (c, λ r u b o. rw z)
pushed_is_decoded raw k n y p e = let z : ◌≡◌ {A = ℕ} 0 1 = cc in absurd (omega arith)

pub pushed_is_raw : (x : body.Body) (y : Body) → y ≡ pushed_of x → y ≡ Raw
    → (direct 0 (own_of x) ≡ 0) × ((r u : ℕ) (b : List ℕ) (o : ℕ) → rest_of r u x b o ≡ leftover r b o 0)
unfolding direct
pushed_is_raw (decoded es m) y p e = let z : ◌≡◌ {A = ℕ} 0 1 = cc in absurd (omega arith)
pushed_is_raw raw y p e = (refl, λ r u b o. refl)

-- The same of a body that was only measured.
pub measured_is_decoded : (x : body.Body) (a n : ℕ) (y : Measured) → y ≡ measured_of x → y ≡ measured.Decoded a n
    → (a ≡ length (bytes_of x)) × ((b : List ℕ) → body_tail x b ≡ length b - n) × ((r u : ℕ) (b : List ℕ) (o : ℕ) → rest_of r u x b o ≡ leftover u b o n)
unfolding body_tail
measured_is_decoded (decoded es m) a n y p e =
    let q : length (encode es) ≡ a = cc in
    let z : m ≡ n = cc in
    (sym q, λ b. rw z, λ r u b o. rw z)
measured_is_decoded raw a n y p e = let z : ◌≡◌ {A = ℕ} 0 1 = cc in absurd (omega arith)

pub measured_is_raw : (x : body.Body) (y : Measured) → y ≡ measured_of x → y ≡ measured.Raw
    → (bytes_of x ≡ []) × ((b : List ℕ) → body_tail x b ≡ 0) × ((r u : ℕ) (b : List ℕ) (o : ℕ) → rest_of r u x b o ≡ leftover r b o 0)
unfolding body_tail
measured_is_raw (decoded es m) y p e = let z : ◌≡◌ {A = ℕ} 0 1 = cc in absurd (omega arith)
measured_is_raw raw y p e = (refl, λ b. refl, λ r u b o. refl)

-- A whole LSA is written by writing its header, its body's own entries, and what is left.
module _ (hs : List Entry) (r u : ℕ) (x : body.Body) (b : List ℕ) (o : ℕ) (y : Body) where
  pub lsa_decoded : {s₀ s₁ s₂ s₃ : Writer} (k n : ℕ) → Writes s₀ (encode hs) s₁ → Pushed x s₁ s₂ y → y ≡ Decoded k n → Writes s₂ (encode (leftover u b o n)) s₃
      → Writes s₀ (encode (hs ++ body_entries r u x b o)) s₃
  lsa_decoded k n v p e w = rw (encode_lsa hs r u x b o, (pushed_is_decoded x k n y p.answer e).1 r u b o) (then v (then p.wrote w))

  pub lsa_raw : {s₀ s₁ s₂ s₃ : Writer} → Writes s₀ (encode hs) s₁ → Pushed x s₁ s₂ y → y ≡ Raw → Writes s₂ (encode (leftover r b o 0)) s₃
      → Writes s₀ (encode (hs ++ body_entries r u x b o)) s₃
  lsa_raw v p e w = rw (encode_lsa hs r u x b o, (pushed_is_raw x y p.answer e).1 r u b o) (then v (then p.wrote w))

-- Two measures are the same where their parts are.
pub same_decoded : {a a' n n' : ℕ} → a ≡ a' → n ≡ n' → measured.Decoded a n ≡ measured.Decoded a' n'
same_decoded e f = rw (e, f)

-- The length of an LSA is that of its parts.
module _ (hs : List Entry) (r u : ℕ) (x : body.Body) (b : List ℕ) (o : ℕ) (y : Measured) where
  pub length_decoded : (a n : ℕ) → y ≡ measured_of x → y ≡ measured.Decoded a n
      → length (encode hs) + a + length (encode (leftover u b o n)) ≡ length (encode (hs ++ body_entries r u x b o))
  length_decoded a n p e =
      let d = measured_is_decoded x a n y p e in
      let q = rw (d.2 r u b o) at (length_lsa hs r u x b o) in
      omega (arith, d.0)

  pub length_raw : y ≡ measured_of x → y ≡ measured.Raw
      → length (encode hs) + length (encode (leftover r b o 0)) ≡ length (encode (hs ++ body_entries r u x b o))
  length_raw p e =
      let d = measured_is_raw x y p e in
      let q = rw (d.2 r u b o, d.0) at (length_lsa hs r u x b o) in
      omega arith
