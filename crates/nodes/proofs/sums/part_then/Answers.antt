use Rattle.nodes.proofs.Fronts.{joined_before}
use Rattle.nodes.proofs.sums.part_then.Goals as goal

pub returns-in-Some : goal.returns-in-Some
returns-in-Some g c = λ done t begins sum. joined_before done t c.in-Some.p _ _ c.in-Some.is begins sum c.join.ensures
