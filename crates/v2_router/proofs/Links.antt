-- What the check needs of links.
use mathlib.Core.List.{List}
use Prim.Native.Nat.{ℕ, ◌+◌}
use mathlib.Core.Path.{◌≡◌}
use Rattle.format.specs.Strip.{code, direct, encode}
use Rattle.format.specs.Strip.Entry.{opens, closes}
use Rattle.format.specs.Cut.{Span}
use Rattle.format.specs.Body.{listing_if_any, link_object}
use Rattle.format.specs.V2.{link, link_fields, link_inside, link_tos, link_tos_spans}
use Rattle.format.proofs.Lengths.{length-link}
use Rattle.format.proofs.Wrote.{encode-append}
use Rattle.format.proofs.Rules.{link_inside_lem}
use Rattle.strip_put.specs.declared.Writer.{Writer}
use Rattle.strip_put.specs.Writer.{Writes}
use Rattle.strip_put.proofs.Laws.{contained, then}

-- A link is written by writing its opening, which counts what is inside, its fields, the array of its TOS metrics, and its close.
pub written : {s₀ s₁ s₂ s₃ s₄ : Writer} (b : List ℕ) (o : ℕ) (s : Span) (n : ℕ) → n ≡ direct 0 (link_inside b o s) → Writes s₀ (code (opens link_object (o + s.at) (o + s.at + s.len) n)) s₁
    → Writes s₁ (encode (link_fields b o s.at)) s₂ → Writes s₂ (encode (listing_if_any 69 (link_tos b o) o (s.at + 12) (link_tos_spans b s.at))) s₃
    → Writes s₃ (code closes) s₄ → Writes s₀ (encode (link b o s)) s₄
unfolding link
written {s₁ = s₁} {s₃ = s₃} b o s n e opening fields metrics close =
    contained {v = s₁} {w = s₃} link_object (o + s.at) (o + s.at + s.len) (link_inside b o s) (rw (← e) opening) (rw (encode-append (link_fields b o s.at)) (then fields metrics)) close

pub ruleset links = (link_inside_lem, length-link)
