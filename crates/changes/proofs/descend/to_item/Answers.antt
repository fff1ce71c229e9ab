use Rattle.std.proofs.Common.{◌<◌, lit≤, ap, arith}
use Rattle.nodes.specs.Tree.{size, before_of}
use Rattle.nodes.proofs.Held.{unique}
use Rattle.changes.proofs.Descents.{way_for_link, walk_start, walk_bare, walk_opened, walk_before, walk_room, walk_left, walk_right, not_less}
use Rattle.changes.proofs.descend.to_item.Goals as goal

pub loop-fork-init : goal.loop-fork-init
loop-fork-init g c = walk_start c.requires c.again-part.ensures.nodes c.again-part.ensures.link c.new-path.ensures

pub push-requires : goal.push-requires
push-requires g c = (lit≤ tt, walk_room c.loop-fork.invariant c.in-Some.ensures)

pub push-requires-else-rest-before-2 : goal.push-requires-else-rest-before-2
push-requires-else-rest-before-2 g c = (lit≤ tt, walk_room c.loop-fork.invariant c.in-Some.ensures)

pub loop-fork-preserved-then-rest-before : goal.loop-fork-preserved-then-rest-before
loop-fork-preserved-then-rest-before g c = walk_left c.loop-fork.invariant c.in-Some.ensures c.size-before.ensures.stored c.push.ensures c.if-rest-before.true

pub loop-fork-preserved : goal.loop-fork-preserved
loop-fork-preserved g c =
    let past : c.size-before.result < c.loop-fork.rest = omega arith in
    walk_right c.loop-fork.invariant c.in-Some.ensures c.size-before.ensures.stored past c.push-else-rest-before-2.ensures (λ h. omega arith)

pub returns-then-rest-before-2 : goal.returns-then-rest-before-2
returns-then-rest-before-2 g c = λ t h.
    let w = c.loop-fork.invariant in
    let n = walk_before w c.in-Some.ensures c.size-before.ensures.stored in
    let b = ap (λ u. size (before_of u)) (walk_opened w c.in-Some.ensures).is in
    let a = w.adds in
    let here = c.if-rest-before-2.true in
    record { part = w.part; skipped = w.skipped; way = way_for_link w.way c.in-Some.ensures.leads (unique w.all_held h); at = omega arith }

pub returns : goal.returns
returns g c = λ t h.
    let w = c.loop-fork.invariant in
    let none = ap size (walk_bare w c.in_default.ensures) in
    let same = ap size (unique w.all_held h) in
    not_less (λ small. let r = w.within (omega arith) in omega arith)
