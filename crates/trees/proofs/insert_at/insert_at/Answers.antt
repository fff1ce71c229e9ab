use Rattle.std.proofs.Common.{◌+◌, cond, length, sym, ap, arith}
use Rattle.trees.specs.declared.refusal.TreeRefusal.TheVariants.{NoPlace, Full}
use Rattle.trees.specs.Structures.{listed, capacity_of}
use Rattle.trees.proofs.Reading.{laid, counted_by, chain_none, chain_within}
use Rattle.trees.proofs.Rules.{rule_beyond, rule_full, insert_refused}
use Rattle.trees.proofs.Growing.{fitting, insert_accepted}
use Rattle.trees.proofs.insert_at.insert_at.Goals as goal

pub returns-then-place-links : goal.returns-then-place-links
returns-then-place-links g c =
    let e = g.E.Element in
    let nodes = c.args.nodes.now in
    let links = c.args.links.now in
    let n = counted_by e.empty e.whole c.requires in
    let t = c.if-place-links.true in
    insert_refused e.empty e.whole nodes links c.requires c.args.place c.args.item NoPlace (rule_beyond (capacity_of nodes) (listed nodes links) c.args.place c.args.item (omega arith))

pub returns-then-links-ge-MOST_ITEMS : goal.returns-then-links-ge-MOST_ITEMS
returns-then-links-ge-MOST_ITEMS g c =
    let e = g.E.Element in
    let nodes = c.args.nodes.now in
    let links = c.args.links.now in
    let n = counted_by e.empty e.whole c.requires in
    let p = c.if-place-links.false in
    let t = c.if-links-ge-MOST_ITEMS.true in
    insert_refused e.empty e.whole nodes links c.requires c.args.place c.args.item Full (rule_full (capacity_of nodes) (listed nodes links) c.args.place c.args.item (omega arith) (omega arith))

pub returns-in_default : goal.returns-in_default
returns-in_default g c =
    let e = g.E.Element in
    let nodes = c.args.nodes.now in
    let links = c.args.links.now in
    let n = counted_by e.empty e.whole c.requires in
    let p = c.if-place-links.false in
    let l = laid e.empty e.whole c.requires in
    let none = ap length (chain_none l.chain c.in_default.is) in
    let s = l.slots in
    insert_refused e.empty e.whole nodes links c.requires c.args.place c.args.item Full (rule_full (capacity_of nodes) (listed nodes links) c.args.place c.args.item (omega arith) (omega arith))

pub read_at-free-requires : goal.read_at-free-requires
read_at-free-requires g c =
    let e = g.E.Element in
    chain_within (laid e.empty e.whole c.requires).chain c.in-Some.is

pub insert-balanced-requires : goal.insert-balanced-requires
insert-balanced-requires g c =
    let e = g.E.Element in
    fitting e.empty e.whole c.args.nodes.now c.args.links.now c.requires c.in-Some.slot c.in-Some.is c.read_at-free.result c.read_at-free.ensures c.args.place c.max-most.result c.args.item c.if-place-links.false c.if-links-ge-MOST_ITEMS.false c.max-most.ensures

pub returns-then-balanced : goal.returns-then-balanced
returns-then-balanced g c =
    let e = g.E.Element in
    insert_accepted e.empty e.whole c.args.nodes.now c.args.links.now c.requires c.in-Some.slot c.in-Some.is c.read_at-free.result c.read_at-free.ensures c.args.place c.max-most.result c.args.item c.if-place-links.false c.if-links-ge-MOST_ITEMS.false c.max-most.ensures c.insert-balanced.new.nodes c.insert-balanced.auto.nodes c.insert-balanced.result c.insert-balanced.ensures (c.args.links.now.count + 1) (sym (ap (λ b. cond b (c.args.links.now.count + 1) c.max-most.result) c.if-balanced.true))

pub returns-else-balanced : goal.returns-else-balanced
returns-else-balanced g c =
    let e = g.E.Element in
    insert_accepted e.empty e.whole c.args.nodes.now c.args.links.now c.requires c.in-Some.slot c.in-Some.is c.read_at-free.result c.read_at-free.ensures c.args.place c.max-most.result c.args.item c.if-place-links.false c.if-links-ge-MOST_ITEMS.false c.max-most.ensures c.insert-balanced.new.nodes c.insert-balanced.auto.nodes c.insert-balanced.result c.insert-balanced.ensures c.max-most.result (sym (ap (λ b. cond b (c.args.links.now.count + 1) c.max-most.result) c.if-balanced.false))
