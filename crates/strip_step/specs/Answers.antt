-- The code's entries for those of the definitions, and what an entry and an answer of the code say in them. A refusal has the
-- number that the requirements give it.
use Rattle.std.specs.Prelude.{ℕ, Option, Some, None, Result, Ok, Err}
use Rattle.std.proofs.Math.Option.{none, some}
use Rattle.format.specs.Strip as strip
use Rattle.format.specs.Strip.{body_length}
use Rattle.format.specs.Strip.Entry.{opens, closes, u8, u16, u32, ip4, ip6, bytes, unreachable, u64}
use Rattle.format.specs.Strip.Step.{entry, end, refused}
use Rattle.refusal.specs.Numbers.{number_of}
use Rattle.strip_ids.specs.Kind.{number_of as kind_number}
use Rattle.strip_ids.specs.declared.kind.Kind.{Kind}
use Rattle.refusal.specs.declared.Refusal.{Refusal}
use Rattle.strip_step.specs.declared.Field.{Field}
use Rattle.strip_step.specs.declared.Entry.{Entry}
use Rattle.strip_step.specs.declared.Entry.TheVariants as E

abbrev pub field_of : (id start end : ℕ) → Field
field_of i s e = record { id = i; start = s; end = e }

abbrev pub entry_of : strip.Entry → Entry
entry_of (opens i s e n) = E.Open (field_of i s e) n
entry_of closes = E.Close
entry_of (u8 i s e v) = E.U8 (field_of i s e) v
entry_of (u16 i s e v) = E.U16 (field_of i s e) v
entry_of (u32 i s e v) = E.U32 (field_of i s e) v
entry_of (ip4 i s e a) = E.Ipv4 (field_of i s e) a
entry_of (ip6 i s e h l) = E.Ipv6 (field_of i s e) h l
entry_of (bytes i s e) = E.Bytes (field_of i s e)
entry_of (unreachable i s e) = E.Unreachable (field_of i s e)
entry_of (u64 i s e v) = E.U64 (field_of i s e) v

-- What an entry of the code says.
abbrev pub entry_meaning : Entry → strip.Entry
entry_meaning (E.Open f n) = opens f.id f.start f.end n
entry_meaning E.Close = closes
entry_meaning (E.U8 f v) = u8 f.id f.start f.end v
entry_meaning (E.U16 f v) = u16 f.id f.start f.end v
entry_meaning (E.U32 f v) = u32 f.id f.start f.end v
entry_meaning (E.Ipv4 f a) = ip4 f.id f.start f.end a
entry_meaning (E.Ipv6 f h l) = ip6 f.id f.start f.end h l
entry_meaning (E.Bytes f) = bytes f.id f.start f.end
entry_meaning (E.Unreachable f) = unreachable f.id f.start f.end
entry_meaning (E.U64 f v) = u64 f.id f.start f.end v

-- What a step's answer says.
abbrev pub step_meaning : Result (Option (Entry × ℕ)) Refusal → strip.Step
step_meaning (Ok (Some (x, next))) = entry (entry_meaning x) next
step_meaning (Ok None) = end
step_meaning (Err r) = refused (number_of r)

-- How many bytes a kind's body has.
abbrev pub length_of : Kind → ℕ
length_of k = elim (body_length (kind_number k)) [ none ↦ 0 | some n ↦ n ]
