use Rattle.std.proofs.Common.{◌<◌, lit≤, refl, ap, arith}
use Rattle.nodes.specs.Tree.{size}
use Rattle.nodes.proofs.Held.{unique, stored_right}
use Rattle.changes.proofs.Descents.{way_for, way_for_link, walk_start, walk_bare, walk_room, walk_left, walk_right}
use Rattle.changes.proofs.descend.to_gap.Goals as goal

pub loop-fork-init : goal.loop-fork-init
loop-fork-init g c = walk_start c.requires.shallow c.again-part.ensures.nodes c.again-part.ensures.link c.new-path.ensures

pub push-requires : goal.push-requires
push-requires g c = (lit≤ tt, walk_room c.loop-fork.invariant c.in-Some.ensures)

pub push-requires-else-rest-before : goal.push-requires-else-rest-before
push-requires-else-rest-before g c = (lit≤ tt, walk_room c.loop-fork.invariant c.in-Some.ensures)

pub loop-fork-preserved-then-rest-before : goal.loop-fork-preserved-then-rest-before
loop-fork-preserved-then-rest-before g c = walk_left c.loop-fork.invariant c.in-Some.ensures c.size-before.ensures.stored c.push.ensures c.if-rest-before.true

pub loop-fork-preserved : goal.loop-fork-preserved
loop-fork-preserved g c =
    let past : c.size-before.result < c.loop-fork.rest = c.if-rest-before.false in
    walk_right c.loop-fork.invariant c.in-Some.ensures c.size-before.ensures.stored past c.push-else-rest-before.ensures (λ h. omega arith)

pub returns : goal.returns
returns g c = λ t h.
    let w = c.loop-fork.invariant in
    let none = walk_bare w c.in_default.ensures in
    let small = ap size none in
    let total = stored_right w.all_held in
    let in_all = c.requires.within in
    let in_rest = w.within (omega arith) in
    let a = w.adds in
    way_for (way_for_link w.way c.in_default.ensures (unique w.all_held h)) (omega arith) refl none
