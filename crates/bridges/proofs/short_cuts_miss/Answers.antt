use Rattle.std.proofs.Common.{refl}
use Rattle.bridges.proofs.short_cuts_miss.Goals as goal

pub returns : goal.returns
returns c = record { every_fetched = (refl, refl); stock_at_end = (refl, refl); bridge_from_place = (refl, refl) }
