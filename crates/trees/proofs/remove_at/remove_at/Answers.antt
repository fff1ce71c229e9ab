use Rattle.std.proofs.Common.{◌≡◌, ◌-◌, false, cond, None, sym, ap, ◌∙◌, subst}
use Rattle.trees.specs.Structures.{tree_of}
use Rattle.trees.specs.Operations.{Removes}
use Rattle.trees.proofs.Reading.{laid}
use Rattle.trees.proofs.Losing.{shrinkable, remove_refused, freed_within, some_counted, remove_accepted}
use Rattle.trees.proofs.remove_at.remove_at.Goals as goal
use Rattle.trees.proofs.remove_at.remove_at.Goals.{then-shrunk, else-shrunk}

pub remove-requires : goal.remove-requires
remove-requires g c = let e = g.E.Element in shrinkable e.empty e.whole c.args.nodes.now c.args.links.now c.requires c.args.place

pub returns-in_err-shrunk : goal.returns-in_err-shrunk
returns-in_err-shrunk g c =
    let e = g.E.Element in
    let nodes = c.args.nodes.now in
    let links = c.args.links.now in
    let none = c.in_err-shrunk.ensures false (tree_of nodes links) ((laid e.empty e.whole c.requires).holds e.empty e.whole) in
    subst (λ r. Removes e.empty e.whole nodes links c.remove.new.nodes links c.args.place r) (sym c.from_residual.ensures) (subst (λ ns. Removes e.empty e.whole nodes links ns links c.args.place None) (sym none.1) (remove_refused e.empty e.whole nodes links c.requires c.args.place none.0))

pub release-free-requires : goal.release-free-requires
release-free-requires g c =
    let e = g.E.Element in
    freed_within e.empty e.whole c.args.nodes.now c.args.links.now c.requires c.args.place c.remove.new.nodes c.remove.auto.nodes c.in_ok-shrunk.shrunk c.in_ok-shrunk.ensures

pub overflow_sub-count : goal.overflow_sub-count
overflow_sub-count g c =
    let e = g.E.Element in
    some_counted e.empty e.whole c.args.nodes.now c.args.links.now c.requires c.args.place c.remove.new.nodes c.remove.auto.nodes c.in_ok-shrunk.shrunk c.in_ok-shrunk.ensures

pub returns : goal.returns
returns g c =
    let e = g.E.Element in
    let count = c.args.links.now.count - 1 in
    let most = c.args.links.now.most in
    let most_is : c.if-shrunk.links ≡ cond c.in_ok-shrunk.shrunk.whole count most =
    elim c.if-shrunk.branch [
      | then-shrunk w ↦ w.links-is ∙ sym (ap (λ b. cond b count most) w.if-shrunk.true)
      | else-shrunk w ↦ w.links-is ∙ sym (ap (λ b. cond b count most) w.if-shrunk.false)
    ] in
    remove_accepted e.empty e.whole c.args.nodes.now c.args.links.now c.requires c.args.place c.remove.new.nodes c.remove.auto.nodes c.in_ok-shrunk.shrunk c.in_ok-shrunk.ensures c.release-free.new.nodes c.release-free.auto.nodes c.release-free.result c.release-free.ensures.chain c.release-free.ensures.kept c.if-shrunk.links most_is
