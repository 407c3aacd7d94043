-- The entry that shows a value of the code.
use Rattle.std.specs.Prelude.{ℕ}
use Rattle.format.specs.Strip.{Entry}
use Rattle.format.specs.Strip.Entry.{u8, u16, u32, u64, ip4, ip6, bytes, unreachable}
use Rattle.strip_push.specs.declared.FieldValue.{FieldValue}
use Rattle.strip_push.specs.declared.FieldValue.TheVariants as V

abbrev pub entry_of : FieldValue → (id start end : ℕ) → Entry
entry_of (V.U8 x) i s e = u8 i s e x
entry_of (V.U16 x) i s e = u16 i s e x
entry_of (V.U32 x) i s e = u32 i s e x
entry_of (V.U64 x) i s e = u64 i s e x
entry_of (V.Ipv4 a) i s e = ip4 i s e a
entry_of (V.Ipv6 h l) i s e = ip6 i s e h l
entry_of V.Bytes i s e = bytes i s e
entry_of V.Unreachable i s e = unreachable i s e
