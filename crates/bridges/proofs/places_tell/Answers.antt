use Rattle.bridges.proofs.PlaceForms.{places_told}
use Rattle.bridges.proofs.places_tell.Goals as goal

pub returns : goal.returns
returns g c = places_told g.P.Priority.not_behind (record { total = g.met.P.Priority.total; transitive = g.met.P.Priority.transitive })
