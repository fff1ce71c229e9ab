use Rattle.nodes.specs.Holding.{size_at}
use Rattle.nodes.proofs.Quests.{Quest, first_rest_of, first_side}
use Rattle.nodes.proofs.part.Part.first_hit.Given as goal

abbrev pub invariant-loop-fork : goal.invariant-loop-fork
invariant-loop-fork g l =
    let rules = g.P.Probe.rules in
    Quest rules (first_rest_of rules) (first_side rules) l.fn.self.nodes.now l.fn.self.link l.fn.start l.fn.from l.part.nodes.now l.part.link l.probe l.place l.rest l.best

abbrev pub decreases-loop-fork : goal.decreases-loop-fork
decreases-loop-fork g l = size_at l.part.nodes.now l.part.link
