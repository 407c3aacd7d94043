use native.Mathlib.Omega.{arith}
use borrow.Author.Rules.{rules}
use Rattle.print_listing.proofs.Filling.{full, ended}
use Rattle.print_listing.proofs.put_lines.Goals as goal

pub returns-after-loop-out : goal.returns-after-loop-out
returns-after-loop-out c = let t = full _ _ _ _ _ _ c.loop-out.invariant.1 (omega arith) in search rules

pub returns-in_default : goal.returns-in_default
returns-in_default c = let t = ended _ _ _ _ _ _ c.loop-out.invariant.1 (λ x q e. search rules) in search rules

pub returns-in_default-2 : goal.returns-in_default-2
returns-in_default-2 c = let t = ended _ _ _ _ _ _ c.loop-out.invariant.1 (λ x q e. search rules) in search rules
