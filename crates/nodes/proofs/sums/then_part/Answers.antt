use Rattle.nodes.proofs.Fronts.{joined_after}
use Rattle.nodes.proofs.sums.then_part.Goals as goal

pub returns-in-Some : goal.returns-in-Some
returns-in-Some g c = λ done t ends sum. joined_after done t c.in-Some.p _ _ c.in-Some.is ends sum c.join.ensures
