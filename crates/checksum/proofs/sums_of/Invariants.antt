use Rattle.std.proofs.Common.{◌≡◌, ◌+◌, ◌*◌, ◌≤◌, drop}
use Rattle.format.specs.Checksum.{running, residues, sums}
use Rattle.checksum.proofs.sums_of.Given as goal

-- What no sum exceeds after so many words.
abbrev pub invariant-loop-bytes : goal.invariant-loop-bytes
invariant-loop-bytes l = record {
  c0_bound : l.c0 ≤ 4294967296 * (l.bytes-index + 1);
  after_bound : l.after ≤ 70368744177664 * l.bytes-index;
  halves_bound : l.halves ≤ 65536 * l.bytes-index;
  odd_bound : l.odd ≤ 16777216 * l.bytes-index;
  left : running (residues l.c0 (l.after * 4 + (l.halves * 2 + l.odd) * 254 + l.start)) (drop (l.bytes-index * 4) (drop 4 l.lsa)) ≡ sums l.lsa;
}
