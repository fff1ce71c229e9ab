use Rattle.std.proofs.Common.{◌≡◌, suc, ◌+◌, ap₂, ◌∙◌, subst, arith}
use Rattle.nodes.specs.Tree.{size}
use Rattle.nodes.specs.Holding.{Holds}
use Rattle.nodes.proofs.Held.{shaped}
use Rattle.changes.proofs.Framing.{placed}
use Rattle.changes.proofs.place.place.Goals as goal

pub returns : goal.returns
returns g c =
    let e = g.E.Element in
    let nodes = c.args.nodes.now in
    record {
      node = record { item = c.args.item; left = c.args.left; right = c.args.right; size = c.size.result + c.size-2.result + 1; sum = c.join-sum.result };
      wrote = c.write_at.ensures;
      holds = λ must before after l r lu ru.
          let a = c.size.ensures.counts before (shaped l) in
          let b = c.size-2.ensures.counts after (shaped r) in
          let sized : c.size.result + c.size-2.result + 1 ≡ suc (size before + size after) = omega arith in
          rw c.write_at.ensures
          (placed c.args.slot _ c.requires.within l r lu ru sized
          (λ m. c.join-sum.ensures
          ∙ ap₂ (λ s u. e.whole s c.args.item u) (c.sum.ensures before (subst (λ k. Holds k e.empty e.whole nodes c.args.left before) m l)) (c.sum-2.ensures after (subst (λ k. Holds k e.empty e.whole nodes c.args.right after) m r))));
    }
