use Rattle.std.proofs.Common.{false, None, sym, subst}
use Rattle.trees.specs.Structures.{tree_of}
use Rattle.trees.specs.Operations.{Replaces}
use Rattle.trees.proofs.Reading.{laid}
use Rattle.trees.proofs.Losing.{sound, replace_refused, replace_accepted}
use Rattle.trees.proofs.replace_at.replace_at.Goals as goal

pub replace-requires : goal.replace-requires
replace-requires g c = let e = g.E.Element in sound e.empty e.whole c.args.nodes.now c.args.links.now c.requires c.args.place

pub returns-in_err-changed : goal.returns-in_err-changed
returns-in_err-changed g c =
    let e = g.E.Element in
    let nodes = c.args.nodes.now in
    let links = c.args.links.now in
    let none = c.in_err-changed.ensures false (tree_of nodes links) ((laid e.empty e.whole c.requires).holds e.empty e.whole) in
    subst (λ r. Replaces e.empty e.whole nodes links c.replace.new.nodes links c.args.place c.args.item r) (sym c.from_residual.ensures) (subst (λ ns. Replaces e.empty e.whole nodes links ns links c.args.place c.args.item None) (sym none.1) (replace_refused e.empty e.whole nodes links c.requires c.args.place c.args.item none.0))

pub returns : goal.returns
returns g c =
    let e = g.E.Element in
    replace_accepted e.empty e.whole c.args.nodes.now c.args.links.now c.requires c.args.place c.args.item c.replace.new.nodes c.replace.auto.nodes c.in_ok-changed.changed c.in_ok-changed.ensures
