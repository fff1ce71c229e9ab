use Rattle.std.proofs.Common.{◌≡◌, None, take, drop, ap, ◌∙◌, zero-add, arith, rules}
use Rattle.nodes.specs.Tree.{items}
use Rattle.nodes.specs.Hits.{first_in, passed}
use Rattle.nodes.proofs.Quests.{first_bare, quested_none, quested_some, first_quest_right, first_quest_left, first_quest_marked}
use Rattle.nodes.proofs.part.Part.first_hit.Goals.{then-hits_onward, else-hits_onward}
use Rattle.nodes.proofs.part.Part.first_hit.Goals as goal

pub loop-fork-preserved-then-before-rest : goal.loop-fork-preserved-then-before-rest
loop-fork-preserved-then-before-rest g c = record {
  room = omega (arith, c.in-Some.ensures.adds, c.in-Some.ensures.fits);
  search = λ t h law. first_quest_right (c.loop-fork.invariant.search t h law) c.in-Some.ensures c.size-before.ensures.counts c.sum.ensures c.pass_part-here.ensures c.if-before-rest.true c.pass_item-probe.ensures;
}

pub loop-fork-preserved : goal.loop-fork-preserved
loop-fork-preserved g c = elim c.if-hits_onward.branch [
  | then-hits_onward w ↦ rw w.best-is (record {
    room = omega (arith, c.in-Some.ensures.adds, c.in-Some.ensures.fits);
    search = λ t h law. first_quest_marked (c.loop-fork.invariant.search t h law) c.in-Some.ensures c.size-before.ensures.counts c.sum.ensures c.pass_part-here.ensures c.if-before-rest.false w.if-hits_onward.ensures;
  })
  | else-hits_onward w ↦ rw w.best-is (record {
    room = omega (arith, c.in-Some.ensures.adds, c.in-Some.ensures.fits);
    search = λ t h law. first_quest_left (c.loop-fork.invariant.search t h law) c.in-Some.ensures c.size-before.ensures.counts c.sum.ensures c.pass_part-here.ensures c.if-before-rest.false w.if-hits_onward.ensures;
  })
]

pub returns-in_err-best : goal.returns-in_err-best
returns-in_err-best g c = λ t h law.
    let none : c.from_residual.result ≡ None = search rules in
    none ∙ quested_none (c.loop-fork.invariant.search t h law) c.in_default.ensures (first_bare g.P.Probe.rules _ _ _) c.in_err-best.was ∙ ap (λ k. first_in g.P.Probe.rules (passed g.P.Probe.rules c.args.start (take c.args.from (items t))) k (drop c.args.from (items t))) (zero-add c.args.from)

pub returns : goal.returns
returns g c = λ t h law. quested_some (c.loop-fork.invariant.search t h law) c.in_default.ensures (first_bare g.P.Probe.rules _ _ _) c.in_ok-best.was c.first_onward.ensures ∙ ap (λ k. first_in g.P.Probe.rules (passed g.P.Probe.rules c.args.start (take c.args.from (items t))) k (drop c.args.from (items t))) (zero-add c.args.from)
