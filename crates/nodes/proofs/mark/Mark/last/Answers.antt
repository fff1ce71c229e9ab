use Rattle.std.proofs.Common.{refl, arith}
use Rattle.nodes.proofs.Hunts.{hunted_end, last_to_right, last_found, last_to_left}
use Rattle.nodes.proofs.mark.Mark.last.Goals as goal

pub loop-fork-preserved-then-hits_part : goal.loop-fork-preserved-then-hits_part
loop-fork-preserved-then-hits_part g c = record {
  room = omega (arith, c.in-Some.ensures.adds);
  search = λ t h law. last_to_right (c.loop-fork.invariant.search t h law) c.in-Some.ensures c.size.ensures.counts c.sum.ensures c.sum-in-Some.ensures c.pass_part-here.ensures c.pass_item-next.ensures c.if-hits_part.ensures;
}

pub returns-then-hits_item : goal.returns-then-hits_item
returns-then-hits_item g c = λ t h law. last_found (c.loop-fork.invariant.search t h law) c.in-Some.ensures c.size.ensures.counts c.sum.ensures c.sum-in-Some.ensures c.pass_part-here.ensures c.pass_item-next.ensures c.if-hits_part.ensures c.if-hits_item.ensures

pub loop-fork-preserved : goal.loop-fork-preserved
loop-fork-preserved g c = record {
  room = omega (arith, c.in-Some.ensures.adds);
  search = λ t h law. last_to_left (c.loop-fork.invariant.search t h law) c.in-Some.ensures c.size.ensures.counts c.sum.ensures c.sum-in-Some.ensures c.pass_part-here.ensures c.pass_item-next.ensures c.if-hits_part.ensures c.if-hits_item.ensures;
}

pub returns : goal.returns
returns g c = λ t h law. hunted_end (c.loop-fork.invariant.search t h law) c.in_default.ensures refl
