use Rattle.std.proofs.Common.{lit≤}
use Rattle.changes.proofs.Losses.{firsts_within, firsts_room, firsts_less, firsts_left, firsts_bare}
use Rattle.changes.proofs.remove.to_first.Goals as goal

pub read_at-requires : goal.read_at-requires
read_at-requires g c = let p = c.requires in firsts_within (c.loop-i.invariant _ _ _ _ p.holds p.low p.way) p.holds

pub push-requires : goal.push-requires
push-requires g c =
    let p = c.requires in
    (lit≤ tt, firsts_room (c.loop-i.invariant _ _ _ _ p.holds p.low p.way) p.holds c.read_at.ensures p.low)

pub loop-i-smaller : goal.loop-i-smaller
loop-i-smaller g c =
    let p = c.requires in
    firsts_less (c.loop-i.invariant _ _ _ _ p.holds p.low p.way) p.holds c.read_at.ensures c.in-Some.is

pub loop-i-preserved : goal.loop-i-preserved
loop-i-preserved g c = λ root skipped all t h low w. firsts_left (c.loop-i.invariant root skipped all t h low w) h c.read_at.ensures c.in-Some.is c.push.ensures

pub returns : goal.returns
returns g c = λ root skipped all t h low w.
    let f = c.loop-i.invariant root skipped all t h low w in
    record { part = f.part; way = f.way; bare = firsts_bare f h c.read_at.ensures c.in_default.is }
