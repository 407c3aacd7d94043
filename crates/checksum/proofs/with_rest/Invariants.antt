use Rattle.std.proofs.Common.{◌≡◌, ◌+◌, ◌*◌, ◌≤◌, drop}
use Rattle.format.specs.Checksum.{running, residues}
use Rattle.checksum.proofs.with_rest.Given as goal

abbrev pub invariant-loop-octet : goal.invariant-loop-octet
invariant-loop-octet l = record {
  c0_bound : l.c0 ≤ l.first + 255 * l.octet-index;
  c1_bound : l.c1 ≤ l.second + 281474976710656 * l.octet-index;
  left : running (residues l.c0 l.c1) (drop l.octet-index l.last) ≡ running (residues l.first l.second) l.last;
}
