use Rattle.std.proofs.Common.{◌-◌}
use Rattle.balance.proofs.+deeper.Given as goal

abbrev pub decreases-deeper : goal.decreases-deeper
decreases-deeper l = 21 - l.depth
