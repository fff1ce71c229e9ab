use Rattle.std.proofs.Common.{length, sym, refl, ap, ◌∙◌, subst, arith}
use Rattle.nodes.specs.Tree.{leaf, branch, size, uses}
use Rattle.nodes.proofs.Held.{unique, shaped}
use Rattle.changes.specs.Frames.{Apart}
use Rattle.changes.proofs.Framing.{steps_length}
use Rattle.scapegoat.specs.Growth.{allowed_leaf, no_heavy, rebuilt}
use Rattle.scapegoat.proofs.Renewals.{grown_apart, grown_size}
use Rattle.scapegoat.proofs.Depths.{settle_leaf, settle_rebuilt}
use Rattle.scapegoat.proofs.insert.insert.Goals as goal

pub nearest_heavy-requires : goal.nearest_heavy-requires
nearest_heavy-requires g c =
    let r = c.requires.room in
    let i = (c.insert-grown.ensures _ r.tree r.holds).inserted in
    let z = grown_size i.frames r.tree c.args.slot c.args.item i.was in
    let f = c.requires.few in
    record { root = c.insert-grown.result.root; frames = i.frames; part = branch c.args.slot c.args.item leaf leaf; holds = i.holds; traced = i.traced ∙ sym c.as_slice-steps.ensures.items; one = refl; small = omega arith }

pub rebuild_at-requires : goal.rebuild_at-requires
rebuild_at-requires g c =
    let r = c.requires.room in
    let i = (c.insert-grown.ensures _ r.tree r.holds).inserted in
    let z = grown_size i.frames r.tree c.args.slot c.args.item i.was in
    let f = c.requires.few in
    let traced = i.traced ∙ sym c.as_slice-steps.ensures.items in
    let n = c.in-Some.ensures _ i.frames (branch c.args.slot c.args.item leaf leaf) i.holds traced refl in
    let l = sym (steps_length i.frames) ∙ ap length traced in
    let w = n.0 in
    record { root = c.insert-grown.result.root; frames = i.frames; part = branch c.args.slot c.args.item leaf leaf; holds = i.holds; traced = traced; on_way = omega arith; apart = grown_apart i.frames r.tree c.args.slot c.args.item i.was r.apart r.spare; small = omega arith }

pub returns-then-steps-allowed : goal.returns-then-steps-allowed
returns-then-steps-allowed g c = λ must t h.
    let there = c.insert-grown.ensures must t h in
    let i = there.inserted in
    let l = sym (steps_length i.frames) ∙ ap length (i.traced ∙ sym c.as_slice-steps.ensures.items) in
    let a = c.if-steps-allowed.true in
    record { frames = i.frames; was = i.was; gap = there.gap; lists = i.lists; middle = c.insert-grown.new.nodes; rule = allowed_leaf (omega arith) refl refl i.holds; kept = i.kept; settled = λ m al few low. settle_leaf i.frames c.args.slot c.args.at c.args.item c.args.allowed t i.was i.lists (omega arith) i.holds low }

pub returns-in-None : goal.returns-in-None
returns-in-None g c = λ must t h.
    let there = c.insert-grown.ensures must t h in
    let i = there.inserted in
    let traced = i.traced ∙ sym c.as_slice-steps.ensures.items in
    let l = sym (steps_length i.frames) ∙ ap length traced in
    let a = c.if-steps-allowed.false in
    let n = c.in-None.ensures _ i.frames (branch c.args.slot c.args.item leaf leaf) (shaped i.holds) traced refl in
    record { frames = i.frames; was = i.was; gap = there.gap; lists = i.lists; middle = c.insert-grown.new.nodes; rule = no_heavy (omega arith) n refl refl i.holds; kept = i.kept; settled = λ m al few low. let z = grown_size i.frames t c.args.slot c.args.item i.was in settle_leaf i.frames c.args.slot c.args.at c.args.item c.args.allowed t i.was i.lists (n.1 m c.args.allowed al (omega arith)) i.holds low }

pub returns-in-Some : goal.returns-in-Some
returns-in-Some g c = λ must t h.
    let r = c.requires.room in
    let same = unique r.holds h in
    let there = c.insert-grown.ensures must t h in
    let i = there.inserted in
    let traced = i.traced ∙ sym c.as_slice-steps.ensures.items in
    let l = sym (steps_length i.frames) ∙ ap length traced in
    let a = c.if-steps-allowed.false in
    let n = c.in-Some.ensures _ i.frames (branch c.args.slot c.args.item leaf leaf) (shaped i.holds) traced refl in
    let z = grown_size i.frames t c.args.slot c.args.item i.was in
    let f = c.requires.few in
    let s = ap size same in
    let apart = grown_apart i.frames t c.args.slot c.args.item i.was (subst Apart same r.apart) (ap (uses c.args.slot) (sym same) ∙ r.spare) in
    let new = c.rebuild_at.ensures must _ i.frames _ i.holds traced apart (omega arith) in
    record { frames = i.frames; was = i.was; gap = there.gap; lists = i.lists; middle = c.insert-grown.new.nodes; rule = rebuilt _ (omega arith) n refl new; kept = i.kept; settled = λ m al few low. settle_rebuilt i.frames c.args.slot c.args.at c.args.item c.args.allowed t i.was i.lists _ (omega arith) n new low }
