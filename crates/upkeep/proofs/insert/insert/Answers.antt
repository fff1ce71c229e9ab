use Rattle.std.proofs.Common.{◌≡◌, min, subst, arith}
use Rattle.nodes.proofs.Held.{unique}
use Rattle.nodes.specs.Tree.{size}
use Rattle.std.proofs.Common.{ap}
use Rattle.balance.specs.Allowances.{part as share, whole as all, most_items, Allowance}
use Rattle.upkeep.specs.Growth.{Within}
use Rattle.upkeep.proofs.Regrown.{regrown_at}
use Rattle.upkeep.proofs.insert.insert.Goals as goal

pub insert-balanced-requires : goal.insert-balanced-requires
insert-balanced-requires g c = let r = c.requires in let m = r.more in let f = r.few in record { room = r.room; few = omega arith }

pub returns : goal.returns
returns g c = λ must t h.
    let r = c.requires in
    let few = r.few in
    let more = r.more in
    let same = unique r.room.holds h in
    let s = ap size same in
    let m : min c.args.m most_items ≡ c.args.m = omega arith in
    let al = subst (λ n. Allowance share all n c.allowance.result) m c.allowance.ensures in
    let low = subst (λ u. Within share all c.args.m u) same r.low in
    regrown_at (c.insert-balanced.ensures must t h) al (omega arith) low (omega arith) few
