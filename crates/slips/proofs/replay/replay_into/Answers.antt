use Rattle.std.proofs.Common.{◌∙◌}
use Rattle.slips.proofs.Going.{going_on}
use Rattle.slips.proofs.replay.replay_into.Goals as goal

pub loop-slip-preserved : goal.loop-slip-preserved
loop-slip-preserved g c =
    let steps = c.in_default.ensures.steps in (
      going_on g.P.Priority.not_behind (record { total = g.met.P.Priority.total; transitive = g.met.P.Priority.transitive }) c.entries-entries.result.now (g.R.Rack.folders c.loop-slip.rack) (g.R.Rack.folders c.step.new.rack)
          c.loop-slip.slip-index c.slip-item.result c.loop-slip.invariant.0 c.loop-slip-test.true c.slip-item.is steps.0 steps.1,
      c.step.ensures.same ∙ c.loop-slip.invariant.1,
    )
