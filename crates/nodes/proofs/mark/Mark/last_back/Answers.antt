use Rattle.nodes.proofs.Marked.{mark_last, mark_earlier}
use Rattle.nodes.proofs.mark.Mark.last_back.Goals as goal

pub returns-then-hits_item : goal.returns-then-hits_item
returns-then-hits_item g c = λ t h law. mark_last h law c.in_ok-fork.ensures _ c.size.ensures.counts c.sum.ensures c.pass_part-here.ensures c.if-hits_item.ensures

pub returns : goal.returns
returns g c = λ t h law. mark_earlier h law c.in_ok-fork.ensures _ c.size.ensures.counts c.sum.ensures c.pass_part-here.ensures c.if-hits_item.ensures c.last.ensures
