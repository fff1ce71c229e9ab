use Rattle.nodes.proofs.Marked.{mark_first, mark_later}
use Rattle.nodes.proofs.mark.Mark.first_onward.Goals as goal

pub returns-then-hits_item : goal.returns-then-hits_item
returns-then-hits_item g c = λ t h law. mark_first h law c.in_ok-fork.ensures _ c.size.ensures.counts c.sum.ensures c.pass_part-here.ensures c.if-hits_item.ensures

pub returns : goal.returns
returns g c = λ t h law. mark_later h law c.in_ok-fork.ensures _ c.size.ensures.counts c.sum.ensures c.pass_part-here.ensures c.if-hits_item.ensures c.pass_item.ensures c.first.ensures
