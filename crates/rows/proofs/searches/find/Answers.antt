use Rattle.std.proofs.Common.{◌≡◌, rules}
use Rattle.nodes.specs.Tree.{items}
use Rattle.rows.specs.Probes.{passes, dated_at}
use Rattle.rows.proofs.Stamps.{lawful_not_before, ranked_place}
use Rattle.rows.proofs.searches.find.Goals as goal

pub returns : goal.returns
returns g c t h r =
    let told : c.is_some_and.result ≡ passes (dated_at c.args.stamp) c.rank-place.result.1 = search rules in
    ranked_place c.args.stamp (items t) c.rank-place.result c.is_some_and.result r (c.rank-place.ensures t h (lawful_not_before g.P.Priority.not_behind _ (items t))) told
