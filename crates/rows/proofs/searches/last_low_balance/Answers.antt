use Rattle.std.proofs.Common.{take, Some, ap, ◌∙◌}
use Rattle.std.specs.Option.{option_map, option_or}
use Rattle.nodes.specs.Hits.{last_in}
use Rattle.nodes.specs.Tree.{items}
use Rattle.rows.specs.declared.low_sum.Sum.TheVariants.{Balance}
use Rattle.rows.specs.Probes.{place_after, low_sum}
use Rattle.rows.proofs.LowLaws.{lawful_low_sum}
use Rattle.rows.proofs.LowPlaces.{few_items, last_at}
use Rattle.rows.proofs.searches.last_low_balance.Goals as goal

pub returns : goal.returns
returns g c t h few =
    let law = lawful_low_sum g.P.Priority.not_behind Balance c.new.result (items t) c.new.ensures (few_items t few) in
    let hit = c.last_hit-row.ensures t h law ∙ ap (λ s. last_in low_sum s 0 (take c.args.to (items t))) c.new.ensures in
    c.or.ensures ∙ ap (λ o. option_or o (Some 0)) (c.place_after.ensures ∙ ap (option_map place_after) hit) ∙ last_at Balance (items t) (few_items t few) c.args.to
