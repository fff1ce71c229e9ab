use Rattle.nodes.specs.Holding.{size_at}
use Rattle.nodes.proofs.Quests.{Quest, last_rest_of, last_side}
use Rattle.nodes.proofs.part.Part.last_hit.Given as goal

abbrev pub invariant-loop-fork : goal.invariant-loop-fork
invariant-loop-fork g l =
    let rules = g.P.Probe.rules in
    Quest rules (last_rest_of rules) (last_side rules) l.fn.self.nodes.now l.fn.self.link l.fn.start l.fn.count l.part.nodes.now l.part.link l.probe l.place l.rest l.best

abbrev pub decreases-loop-fork : goal.decreases-loop-fork
decreases-loop-fork g l = size_at l.part.nodes.now l.part.link
