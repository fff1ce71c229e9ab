use Rattle.nodes.specs.Hits.{first_in}
use Rattle.nodes.specs.Holding.{size_at}
use Rattle.nodes.proofs.Hunts.{Hunt}
use Rattle.nodes.proofs.mark.Mark.first.Given as goal

abbrev pub invariant-loop-fork : goal.invariant-loop-fork
invariant-loop-fork g l =
    let e = g.E.Element in
    let rules = g.P.Probe.rules in
    Hunt e.empty e.whole rules (first_in rules) l.fn.self.part.nodes.now l.fn.self.part.link l.fn.self.probe l.fn.self.place l.part.nodes.now l.part.link l.probe l.place

abbrev pub decreases-loop-fork : goal.decreases-loop-fork
decreases-loop-fork g l = size_at l.part.nodes.now l.part.link
