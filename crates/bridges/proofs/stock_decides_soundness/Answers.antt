use Rattle.bridges.proofs.Soundness.{soundness_by_stock}
use Rattle.bridges.proofs.stock_decides_soundness.Goals as goal

pub returns : goal.returns
returns g c = soundness_by_stock g.P.Priority.not_behind (record { total = g.met.P.Priority.total; transitive = g.met.P.Priority.transitive })
