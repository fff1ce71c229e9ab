use Rattle.bridges.proofs.ByRows.{answers_by_rows}
use Rattle.bridges.proofs.rows_suffice.Goals as goal

pub returns : goal.returns
returns g c = answers_by_rows g.P.Priority.not_behind g.P.Priority.canonical (record { total = g.met.P.Priority.total; transitive = g.met.P.Priority.transitive })
