use Rattle.std.proofs.Common.{◌∙◌}
use Rattle.rows.proofs.Extremes.{hindmost_from}
use Rattle.rows.proofs.searches.hindmost_fetched.Goals as goal

pub returns : goal.returns
returns g c t h r =
    c.place_of.ensures t h r ∙ hindmost_from g.P.Priority.not_behind (record { total = g.met.P.Priority.total; transitive = g.met.P.Priority.transitive }) t c.args.from c.sum_from.result (c.sum_from.ensures t h)
