use Rattle.std.proofs.Common.{◌∙◌}
use Rattle.rows.proofs.Extremes.{foremost_before}
use Rattle.rows.proofs.searches.foremost_waiting.Goals as goal

pub returns : goal.returns
returns g c t h r =
    c.place_of.ensures t h r ∙ foremost_before g.P.Priority.not_behind (record { total = g.met.P.Priority.total; transitive = g.met.P.Priority.transitive }) t c.args.before c.sum_before.result (c.sum_before.ensures t h)
