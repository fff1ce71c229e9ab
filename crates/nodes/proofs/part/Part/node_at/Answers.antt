use Rattle.std.proofs.Common.{◌<◌, arith}
use Rattle.nodes.proofs.Places.{place_left, place_here, place_right, place_none}
use Rattle.nodes.proofs.part.Part.node_at.Goals as goal

pub loop-fork-preserved-then-rest-before : goal.loop-fork-preserved-then-rest-before
loop-fork-preserved-then-rest-before g c = λ t h. place_left (c.loop-fork.invariant t h) c.in-Some.ensures c.size-before.ensures.counts c.if-rest-before.true

pub returns-then-rest-before-2 : goal.returns-then-rest-before-2
returns-then-rest-before-2 g c = record {
  item = λ t h. (place_here (c.loop-fork.invariant t h) c.in-Some.ensures c.size-before.ensures.counts c.if-rest-before-2.true).0;
  slot = λ t h. (place_here (c.loop-fork.invariant t h) c.in-Some.ensures c.size-before.ensures.counts c.if-rest-before-2.true).1;
}

pub loop-fork-preserved : goal.loop-fork-preserved
loop-fork-preserved g c = λ t h. place_right (c.loop-fork.invariant t h) c.in-Some.ensures c.size-before.ensures.counts (let past : c.size-before.result < c.loop-fork.rest = omega arith in past)

pub returns : goal.returns
returns g c = record {
  item = λ t h. (place_none (c.loop-fork.invariant t h) c.in_default.ensures).0;
  slot = λ t h. (place_none (c.loop-fork.invariant t h) c.in_default.ensures).1;
}
