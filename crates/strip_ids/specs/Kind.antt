-- The kinds by their numbers, which the definitions of a strip give them.
use Rattle.std.specs.Prelude.{ℕ, ◌≡◌, Result, Ok, Err}
use Rattle.std.proofs.Math.Option.{none}
use Rattle.format.specs.Strip.{open_kind, close_kind, u8_kind, u16_kind, u32_kind, ip4_kind, ip6_kind, bytes_kind, unreachable_kind, u64_kind, body_length}
use Rattle.refusal.specs.declared.Refusal.{Refusal}
use Rattle.refusal.specs.declared.Refusal.TheVariants.{NoKind}
use Rattle.strip_ids.specs.declared.kind.Kind.{Kind}
use Rattle.strip_ids.specs.declared.kind.Kind.TheVariants.{Open, Close, U8, U16, U32, Ipv4, Ipv6, Bytes, Unreachable, U64}

abbrev pub number_of : Kind → ℕ
number_of Open = open_kind
number_of Close = close_kind
number_of U8 = u8_kind
number_of U16 = u16_kind
number_of U32 = u32_kind
number_of Ipv4 = ip4_kind
number_of Ipv6 = ip6_kind
number_of Bytes = bytes_kind
number_of Unreachable = unreachable_kind
number_of U64 = u64_kind

-- The kind that a number is of, or the refusal where it is of none.
abbrev pub Numbers : ℕ → Result Kind Refusal → Type 0
Numbers n (Ok k) = number_of k ≡ n
Numbers n (Err r) = (r ≡ NoKind) × (body_length n ≡ none)
