use Rattle.changes.proofs.Grafts.{top_relinkable, graft_start, graft_step, graft_end}
use Rattle.changes.proofs.graft.graft.Goals as goal

pub loop-step-init : goal.loop-step-init
loop-step-init g c = λ must root hole frames part t. graft_start t (cc)

pub relink-requires : goal.relink-requires
relink-requires g c =
    let graft = c.requires.graft in
    top_relinkable (c.loop-step.invariant _ _ _ _ _ graft) _ _ c.in-Some.ensures.steps graft.fits

pub loop-step-preserved : goal.loop-step-preserved
loop-step-preserved g c = λ must root hole frames part t. graft_step (c.loop-step.invariant must root hole frames part t) _ _ c.in-Some.ensures.steps t.apart c.relink.ensures

pub returns : goal.returns
returns g c = λ must root hole frames part t. graft_end (c.loop-step.invariant must root hole frames part t) c.in-None.ensures.steps.0
