use Rattle.std.proofs.Common.{sym, ◌∙◌}
use Rattle.nodes.specs.Tree.{items}
use Rattle.nodes.proofs.Held.{size_is_length, shaped}
use Rattle.nodes.proofs.Hunts.{rank_some, rank_none}
use Rattle.nodes.proofs.part.Part.rank.Goals as goal

pub returns-in-Some : goal.returns-in-Some
returns-in-Some g c = λ t h law. rank_some g.P.Probe.rules c.args.probe (items t) (sym (c.first_hit.ensures t h law) ∙ c.in-Some.is) (c.item_at.ensures t (shaped h))

pub returns-in-None : goal.returns-in-None
returns-in-None g c = λ t h law. rank_none g.P.Probe.rules c.args.probe (items t) (sym (c.first_hit.ensures t h law) ∙ c.in-None.is) (c.size.ensures.counts t (shaped h) ∙ sym (size_is_length t))
