use Rattle.std.proofs.Common.{refl, arith}
use Rattle.changes.specs.Chains.{ends}
use Rattle.changes.proofs.Chaining.{freed_more}
use Rattle.changes.proofs.slots.release_all.Goals as goal

pub loop-i-init : goal.loop-i-init
loop-i-init g c = record { spare = _; chain = ends; all = refl; once = λ k. omega arith; later = λ k h. refl }

pub loop-i-preserved : goal.loop-i-preserved
loop-i-preserved g c = freed_more c.loop-i.invariant c.release-free.ensures.chain

pub returns : goal.returns
returns g c = let f = c.loop-i.invariant in let a = f.all in record { spare = f.spare; chain = f.chain; all = omega arith; once = f.once }
