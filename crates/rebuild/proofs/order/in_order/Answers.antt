use Rattle.std.proofs.Common.{◌≡◌, ◌≤◌, length, take, sym, ap, ◌∙◌, arith, length-take-le, take_all, take_at}
use Rattle.nodes.specs.Tree.{slots}
use Rattle.nodes.proofs.Places.{slots_long}
use Rattle.rebuild.proofs.Slots.{nth_some, order_more}
use Rattle.rebuild.proofs.order.in_order.Goals as goal
use Rattle.rebuild.proofs.order.in_order.Goals.{in-Some, in_default}

pub loop-place-preserved : goal.loop-place-preserved
loop-place-preserved g c = λ t h.
    let place = c.loop-place.place in
    let room : c.size-count.result ≤ length c.args.order.now = omega arith in
    let long = length-take-le c.size-count.result c.args.order.now room in
    let counted = c.size-count.ensures.counts t h in
    let all = slots_long t in
    let found = sym (c.slot_at.ensures t h) in
    elim c.match-slot_at.branch [
      | in-Some w ↦ order_more c.loop-place.entry-items _ place w.in-Some.slot _ (omega arith) (c.loop-place.invariant t h) w.entry-items-is (found ∙ w.in-Some.is)
      | in_default w ↦ absurd (nth_some (slots t) place (omega arith) (found ∙ w.in_default.is))
    ]

pub returns-clause-slots : goal.returns-clause-slots
returns-clause-slots g c = λ t h.
    let count = c.size-count.result in
    let room : count ≤ length c.args.order.now = omega arith in
    let long = length-take-le count c.args.order.now room in
    let counted = c.size-count.ensures.counts t h in
    let all = slots_long t in
    let entries = c.loop-place.entry-items in
    let done : count ≡ c.loop-place.place = omega arith in
    take_at entries _ count (omega arith) ∙ sym (take_all count entries (omega arith)) ∙ ap (λ k. take k entries) done ∙ c.loop-place.invariant t h ∙ take_all c.loop-place.place _ (omega arith)
