use Prim.Native.Nat.{◌-◌}
use mathlib.Core.Path.{◌≡◌}
use lib.ListN.{length}
use Rattle.print_listing.proofs.Filling.{Filling}
use Rattle.print_listing.proofs.put_lines.Given as goal

abbrev pub invariant-loop-out : goal.invariant-loop-out
invariant-loop-out l = (l.reader.strip.now ≡ l.strip) × Filling l.initial.out l.strip l.place l.out l.length l.reader.place

abbrev pub decreases-loop-out : goal.decreases-loop-out
decreases-loop-out l = length l.strip - l.reader.place
