use Rattle.nodes.proofs.Fronts.{back_to_left, back_to_right, back_end}
use Rattle.nodes.proofs.part.Part.sum_from.Goals as goal

pub loop-fork-preserved-then-rest-before : goal.loop-fork-preserved-then-rest-before
loop-fork-preserved-then-rest-before g c = λ t h. back_to_left (c.loop-fork.invariant t h) c.in-Some.ensures c.size-before.ensures.counts c.if-rest-before.true c.sum.ensures c.part_then-sum.ensures

pub loop-fork-preserved : goal.loop-fork-preserved
loop-fork-preserved g c = λ t h. back_to_right (c.loop-fork.invariant t h) c.in-Some.ensures c.size-before.ensures.counts c.if-rest-before.false

pub returns : goal.returns
returns g c = λ t h. back_end (c.loop-fork.invariant t h) c.in_default.ensures c.none.ensures c.part_then.ensures
