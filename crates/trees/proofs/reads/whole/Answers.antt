use Rattle.trees.proofs.Reading.{laid, shaped_by}
use Rattle.trees.proofs.reads.whole.Goals as goal

pub invariant_of-result : goal.invariant_of-result
invariant_of-result g c = let e = g.E.Element in record { shaped = ∣ shaped_by e.empty e.whole c.requires ∣₁ }

pub returns-clause-holds : goal.returns-clause-holds
returns-clause-holds g c = let e = g.E.Element in (laid e.empty e.whole c.requires).holds e.empty e.whole
