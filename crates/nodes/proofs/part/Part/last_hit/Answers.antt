use Rattle.std.proofs.Common.{◌≡◌, None, ◌∙◌, arith, rules}
use Rattle.nodes.proofs.Quests.{last_bare, quested_none, quested_some, last_quest_right, last_quest_left, last_quest_marked}
use Rattle.nodes.proofs.part.Part.last_hit.Goals.{then-hits_back, else-hits_back}
use Rattle.nodes.proofs.part.Part.last_hit.Goals as goal

pub loop-fork-preserved-then-before-rest : goal.loop-fork-preserved-then-before-rest
loop-fork-preserved-then-before-rest g c = elim c.if-hits_back.branch [
  | then-hits_back w ↦ rw w.best-is (record {
    room = omega (arith, c.in-Some.ensures.adds, c.in-Some.ensures.fits);
    search = λ t h law. last_quest_marked (c.loop-fork.invariant.search t h law) c.in-Some.ensures c.size-before.ensures.counts c.sum-sum.ensures c.pass_part-here.ensures c.if-before-rest.true w.if-hits_back.ensures c.pass_item-probe.ensures;
  })
  | else-hits_back w ↦ rw w.best-is (record {
    room = omega (arith, c.in-Some.ensures.adds, c.in-Some.ensures.fits);
    search = λ t h law. last_quest_right (c.loop-fork.invariant.search t h law) c.in-Some.ensures c.size-before.ensures.counts c.sum-sum.ensures c.pass_part-here.ensures c.if-before-rest.true w.if-hits_back.ensures c.pass_item-probe.ensures;
  })
]

pub loop-fork-preserved : goal.loop-fork-preserved
loop-fork-preserved g c = record {
  room = omega (arith, c.in-Some.ensures.adds, c.in-Some.ensures.fits);
  search = λ t h law. last_quest_left (c.loop-fork.invariant.search t h law) c.in-Some.ensures c.size-before.ensures.counts c.sum-sum.ensures c.pass_part-here.ensures c.if-before-rest.false;
}

pub returns-in_err-best : goal.returns-in_err-best
returns-in_err-best g c = λ t h law.
    let none : c.from_residual.result ≡ None = search rules in
    none ∙ quested_none (c.loop-fork.invariant.search t h law) c.in_default.ensures (last_bare g.P.Probe.rules _ _ _) c.in_err-best.was

pub returns : goal.returns
returns g c = λ t h law. quested_some (c.loop-fork.invariant.search t h law) c.in_default.ensures (last_bare g.P.Probe.rules _ _ _) c.in_ok-best.was c.last_back.ensures
