use Rattle.nodes.proofs.Fronts.{front_to_left, front_to_right, front_end}
use Rattle.nodes.proofs.part.Part.sum_before.Goals as goal

pub loop-fork-preserved-then-rest-before : goal.loop-fork-preserved-then-rest-before
loop-fork-preserved-then-rest-before g c = λ t h. front_to_left (c.loop-fork.invariant t h) c.in-Some.ensures c.size-before.ensures.counts c.if-rest-before.true

pub loop-fork-preserved : goal.loop-fork-preserved
loop-fork-preserved g c = λ t h. front_to_right (c.loop-fork.invariant t h) c.in-Some.ensures c.size-before.ensures.counts c.if-rest-before.false c.sum.ensures c.then_part-sum.ensures

pub returns : goal.returns
returns g c = λ t h. front_end (c.loop-fork.invariant t h) c.in_default.ensures c.none.ensures c.then_part.ensures
