use Rattle.std.proofs.Common.{sym, ◌∙◌, arith}
use Rattle.nodes.specs.Tree.{items}
use Rattle.nodes.proofs.Held.{size_is_length}
use Rattle.nodes.proofs.Places.{slots_long}
use Rattle.rebuild.proofs.Ranges.{uses_count}
use Rattle.rebuild.proofs.Labels.{labelled_tree}
use Rattle.rebuild.proofs.whole.rebuild.Goals as goal

pub build-requires : goal.build-requires
build-requires g c =
    let p = c.requires in
    let long = slots_long p.tree in
    let few = p.small in
    rw (c.in_order-count.ensures.slots p.tree p.holds)
    (record {
      list = items p.tree;
      long = size_is_length p.tree ∙ sym long;
      labelled = labelled_tree p.holds;
      small = omega arith;
      once = λ j. let u = uses_count j p.tree in let a = p.apart j in omega arith;
    })

pub returns : goal.returns
returns g c = λ t h.
    let built = rw (c.in_order-count.ensures.slots t h) at c.build.ensures in
    built (items t) (size_is_length t ∙ sym (slots_long t)) (labelled_tree h)
