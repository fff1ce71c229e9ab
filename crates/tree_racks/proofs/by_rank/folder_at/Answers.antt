use Rattle.std.proofs.Common.{ap, ◌∙◌}
use Rattle.tree_racks.proofs.Ranks.{nth_racked}
use Rattle.std.specs.Option.{option_map}
use Rattle.tree_racks.proofs.by_rank.folder_at.Goals as goal

pub returns : goal.returns
returns g c = ap (option_map (λ r. r.folder)) c.in_ok-at.ensures ∙ nth_racked _ c.args.place
