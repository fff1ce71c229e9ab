use Rattle.std.proofs.Common.{arith}
use Rattle.std.proofs.lemmas.Option.{slice_get_within}
use Rattle.nodes.proofs.Held.{stored_right}
use Rattle.changes.specs.declared.path.Side.TheVariants.{Left, Right}
use Rattle.changes.proofs.Grafts.{relinked_left, relinked_right, other_held_at}
use Rattle.changes.proofs.graft.relink.Goals as goal

pub place-requires : goal.place-requires
place-requires g c =
    let r = c.requires in
    let held = other_held_at r Left c.in-Left.is c.read_at-node.ensures in
    let a = stored_right held in
    let b = stored_right r.part_held in
    let f = r.fits in
    record { within = slice_get_within _ _ _ r.at; left = record { tree = r.part; holds = r.part_held }; right = record { tree = r.other; holds = held }; fits = omega arith }

pub place-requires-in-Right : goal.place-requires-in-Right
place-requires-in-Right g c =
    let r = c.requires in
    let held = other_held_at r Right c.in-Right.is c.read_at-node.ensures in
    let a = stored_right held in
    let b = stored_right r.part_held in
    let f = r.fits in
    record { within = slice_get_within _ _ _ r.at; left = record { tree = r.other; holds = held }; right = record { tree = r.part; holds = r.part_held }; fits = omega arith }

pub returns-in-Left : goal.returns-in-Left
returns-in-Left g c = relinked_left c.read_at-node.ensures c.in-Left.is c.place.ensures

pub returns-in-Right : goal.returns-in-Right
returns-in-Right g c = relinked_right c.read_at-node.ensures c.in-Right.is c.place-in-Right.ensures
