-- An entry of the code is that of its meaning, and an entry of the definitions is what its code says.
use mathlib.Core.Path.{◌≡◌, refl}
use Rattle.format.specs.Strip as strip
use Rattle.format.specs.Strip.Entry.{opens, closes, u8, u16, u32, ip4, ip6, bytes, unreachable, u64}
use Rattle.strip_step.specs.Answers.{entry_of, entry_meaning}
use Rattle.strip_step.specs.declared.Entry.{Entry}
use Rattle.strip_step.specs.declared.Entry.TheVariants as E

pub entry_meant : (x : strip.Entry) → entry_meaning (entry_of x) ≡ x
entry_meant (opens i s e n) = refl
entry_meant closes = refl
entry_meant (u8 i s e v) = refl
entry_meant (u16 i s e v) = refl
entry_meant (u32 i s e v) = refl
entry_meant (ip4 i s e a) = refl
entry_meant (ip6 i s e h l) = refl
entry_meant (bytes i s e) = refl
entry_meant (unreachable i s e) = refl
entry_meant (u64 i s e v) = refl

pub entry_back : (x : Entry) → entry_of (entry_meaning x) ≡ x
entry_back (E.Open f n) = refl
entry_back E.Close = refl
entry_back (E.U8 f v) = refl
entry_back (E.U16 f v) = refl
entry_back (E.U32 f v) = refl
entry_back (E.Ipv4 f a) = refl
entry_back (E.Ipv6 f h l) = refl
entry_back (E.Bytes f) = refl
entry_back (E.Unreachable f) = refl
entry_back (E.U64 f v) = refl
