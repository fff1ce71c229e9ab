use Rattle.std.proofs.Common.{lit≤, suc, refl, inl, arith}
use Rattle.nodes.proofs.Held.{held_within, shaped}
use Rattle.changes.proofs.Losses.{leads_room, way_after, leads_next, next_bare, out_apart, both_out, never_past}
use Rattle.changes.proofs.remove.remove_inner.Goals as goal

pub push-requires : goal.push-requires
push-requires g c = let p = c.requires in (lit≤ tt, leads_room p.leads p.holds p.at p.low)

pub to_first-first-requires : goal.to_first-first-requires
to_first-first-requires g c =
    let p = c.requires in
    record { root = p.root; skipped = suc c.args.at; all = p.tree; part = _; holds = p.holds; way = way_after p.leads p.holds p.at p.right c.push.ensures; low = p.low }

pub read_at-node-requires : goal.read_at-node-requires
read_at-node-requires g c =
    let p = c.requires in
    let m = c.to_first-first.ensures _ _ _ _ p.holds p.low (way_after p.leads p.holds p.at p.right c.push.ensures) in
    held_within (m.way.held _ p.holds) _ refl

pub take_out-out-requires : goal.take_out-out-requires
take_out-out-requires g c =
    let p = c.requires in
    let m = c.to_first-first.ensures _ _ _ _ p.holds p.low (way_after p.leads p.holds p.at p.right c.push.ensures) in
    record { root = p.root; place = suc c.args.at; tree = p.tree; holds = p.holds; leads = leads_next p.leads p.holds p.at m; apart = p.apart; fits = p.fits; node = c.read_at-node.result; at = c.read_at-node.ensures; item_is = refl; one = inl (next_bare m p.holds c.read_at-node.ensures, refl) }

pub replace-requires : goal.replace-requires
replace-requires g c =
    let p = c.requires in
    let m = c.to_first-first.ensures _ _ _ _ p.holds p.low (way_after p.leads p.holds p.at p.right c.push.ensures) in
    let o = c.take_out-out.ensures _ _ _ _ p.holds (leads_next p.leads p.holds p.at m) p.apart p.fits in
    let z = o.sized in
    let w = o.low in
    let a = p.low in
    let b = p.fits in
    record { tree = o.new; holds = o.holds; low = omega arith; apart = out_apart o p.apart; fits = omega arith }

pub returns-in_err-changed : goal.returns-in_err-changed
returns-in_err-changed g c = λ must root t h l apart fits low.
    let p = c.requires in
    let m = c.to_first-first.ensures _ _ _ _ (shaped h) low (way_after l (shaped h) p.at p.right c.push.ensures) in
    let o = c.take_out-out.ensures must root _ t h (leads_next l (shaped h) p.at m) apart fits in
    absurd (never_past o (c.in_err-changed.ensures must o.new o.holds).0)

pub returns : goal.returns
returns g c = λ must root t h l apart fits low.
    let p = c.requires in
    let m = c.to_first-first.ensures _ _ _ _ (shaped h) low (way_after l (shaped h) p.at p.right c.push.ensures) in
    let o = c.take_out-out.ensures must root _ t h (leads_next l (shaped h) p.at m) apart fits in
    both_out o (c.in_ok-changed.ensures must o.new o.holds)
