use Rattle.std.proofs.Common.{◌≡◌, ℕ, ◌-◌, List, ◌++◌, length, drop}
use Rattle.std.specs.Io.KnownBytes.{Appends}
use Rattle.format.specs.Print.{printed}
use Rattle.format.specs.Pieces.{Left}
use Rattle.dissect.proofs.write_entries.Given as goal

abbrev pub invariant-loop-out : goal.invariant-loop-out
invariant-loop-out g l = record {
  left : Left (printed l.input) l.written l.strip l.place;
  room : length l.out ≡ 65536;
  sent : (done : List ℕ) × (drop l.first (printed l.input) ≡ done ++ drop l.written (printed l.input))
      × Appends (g.W.Write.contents l.initial.to) (g.W.Write.contents l.to) done;
}

abbrev pub decreases-loop-out : goal.decreases-loop-out
decreases-loop-out g l = length (printed l.input) - l.written
