use Rattle.changes.proofs.Chaining.{Freed}
use Rattle.changes.proofs.slots.release_all.Given as goal

abbrev pub invariant-loop-i : goal.invariant-loop-i
invariant-loop-i g l = Freed l.nodes l.free l.i
