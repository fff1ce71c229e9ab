use Rattle.std.proofs.Common.{take, drop, sym, ap, ◌∙◌}
use Rattle.std.specs.Option.{option_map}
use Rattle.nodes.specs.Hits.{passed, first_in}
use Rattle.nodes.specs.Tree.{items}
use Rattle.nodes.proofs.Held.{shaped}
use Rattle.rows.specs.Probes.{place_after, low_sum}
use Rattle.rows.proofs.LowLaws.{lawful_low_sum}
use Rattle.rows.proofs.LowPlaces.{few_items, place_is, first_here, first_beyond}
use Rattle.rows.proofs.searches.first_low.Goals as goal

pub returns-then-low_at : goal.returns-then-low_at
returns-then-low_at g c t h few =
    let at = place_is t c.size.result c.args.from c.min-place.result (c.size.ensures.counts t (shaped h)) c.min-place.ensures in
    first_here c.args.sum (items t) (few_items t few) c.min-place.result c.args.from at (sym c.if-low_at.true ∙ c.low_at.ensures t h few)

pub returns : goal.returns
returns g c t h few =
    let q = c.min-place.result in
    let at = place_is t c.size.result c.args.from q (c.size.ensures.counts t (shaped h)) c.min-place.ensures in
    let law = lawful_low_sum g.P.Priority.not_behind c.args.sum c.new.result (items t) c.new.ensures (few_items t few) in
    let hit = c.first_hit.ensures t h law ∙ ap (λ s. first_in low_sum (passed low_sum s (take q (items t))) q (drop q (items t))) c.new.ensures in
    c.place_after.ensures ∙ ap (option_map place_after) hit ∙ first_beyond c.args.sum (items t) (few_items t few) q c.args.from at (sym c.if-low_at.false ∙ c.low_at.ensures t h few)
