-- The number that the requirements give each reason, and the length that is needed where there is no room.
use Rattle.std.specs.Prelude.{ℕ}
use Rattle.refusal.specs.declared.Refusal.{Refusal}
use Rattle.refusal.specs.declared.Refusal.TheVariants.{NoVersion, TooMuch, TooFar, TooLittle, NoRoom, PlaceBeyond, NoKind, EntryCut, NotInPacket, PrefixTooLong, AgeTooLarge, NoWalk, NoLsa, SharedIdentity, NoFreeRow}

abbrev pub number_of : Refusal → ℕ
number_of NoVersion = 1
number_of TooMuch = 2
number_of TooFar = 3
number_of TooLittle = 4
number_of (NoRoom n) = 5
number_of PlaceBeyond = 6
number_of NoKind = 7
number_of EntryCut = 8
number_of NotInPacket = 9
number_of PrefixTooLong = 10
number_of AgeTooLarge = 11
number_of NoWalk = 12
number_of NoLsa = 13
number_of SharedIdentity = 14
number_of NoFreeRow = 15

abbrev pub needed_of : Refusal → ℕ
needed_of NoVersion = 0
needed_of TooMuch = 0
needed_of TooFar = 0
needed_of TooLittle = 0
needed_of (NoRoom n) = n
needed_of PlaceBeyond = 0
needed_of NoKind = 0
needed_of EntryCut = 0
needed_of NotInPacket = 0
needed_of PrefixTooLong = 0
needed_of AgeTooLarge = 0
needed_of NoWalk = 0
needed_of NoLsa = 0
needed_of SharedIdentity = 0
needed_of NoFreeRow = 0
