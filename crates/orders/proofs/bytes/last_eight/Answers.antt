use Rattle.std.proofs.Common.{arith}
use Rattle.std.proofs.lemmas.Grind.{common_steps}
use Rattle.orders.proofs.bytes.last_eight.Goals as goal

-- the search finds this alone, but not within half its limits
pub returns : goal.returns
returns c = grind (arith, common_steps)
