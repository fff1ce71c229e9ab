use Rattle.std.proofs.Common.{◌≡◌, ℕ, length, sym, ap, ◌∙◌, subst, arith}
use Rattle.nodes.specs.Tree.{size}
use Rattle.nodes.proofs.Held.{unique, shaped, size_is_length}
use Rattle.changes.specs.Chains.{count}
use Rattle.rebuild.proofs.Ranges.{uses_count}
use Rattle.balance.specs.Allowances.{part as share, whole as all}
use Rattle.upkeep.specs.Growth.{Within}
use Rattle.upkeep.specs.Loss.{thinned, rebuilt}
use Rattle.scapegoat.proofs.Renewals.{any_must}
use Rattle.upkeep.proofs.Depths.{flat_within}
use Rattle.upkeep.proofs.remove.remove.Goals as goal

pub returns-then-left-m : goal.returns-then-left-m
returns-then-left-m g c = λ must t h.
    let o = c.in_ok-out.ensures must t h in
    let s = c.size-left.ensures.counts o.new (shaped o.holds) in
    let r = c.rebuild.ensures o.new (shaped o.holds) in
    let taken = c.if-left-m.true in
    let same : size r.tree ≡ size o.new = sym (size_is_length r.tree) ∙ ap length r.items_are ∙ size_is_length o.new in
    let used = λ (k : ℕ). uses_count k r.tree ∙ ap (count k) r.slots_are ∙ sym (uses_count k o.new) in
    record {
      new = r.tree;
      holds = any_must must r.holds;
      shrinks = rebuilt r.tree (omega arith) r.even;
      found = o.found;
      lists = r.items_are ∙ o.lists;
      freed = λ k. let u = used k in let f = o.freed k in omega arith;
      low = flat_within share all (omega arith) r.tree r.low;
      kept = λ k none. r.kept k (sym (ap (count k) r.slots_are) ∙ sym (uses_count k r.tree) ∙ none) ∙ o.kept k (sym (used k) ∙ none);
    }

pub returns : goal.returns
returns g c = λ must t h.
    let o = c.in_ok-out.ensures must t h in
    let s = c.size-left.ensures.counts o.new (shaped o.holds) in
    let left = c.if-left-m.false in
    let same = unique c.requires.sound.holds h in
    let low = subst (λ u. Within share all c.args.m u) same c.requires.low in
    let lower = o.low in
    record {
      new = o.new;
      holds = o.holds;
      shrinks = thinned o.new (omega arith) o.low;
      found = o.found;
      lists = o.lists;
      freed = o.freed;
      low = λ d al. let l = low d al in omega arith;
      kept = o.kept;
    }
