use Rattle.std.proofs.Common.{◌≤◌, sym, subst}
use Rattle.trees.specs.Structures.{capacity_of}
use Rattle.trees.proofs.Reading.{counted_by, count_within}
use Rattle.trees.proofs.reads.count.Goals as goal

pub returns : goal.returns
returns g c =
    let e = g.E.Element in
    let n = counted_by e.empty e.whole c.requires in
    record { value = sym n; bound = subst (λ k. k ≤ capacity_of c.args.nodes.now) n (count_within e.empty e.whole c.requires) }
