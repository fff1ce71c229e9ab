use Rattle.std.proofs.Common.{sym, ◌∙◌}
use Rattle.racks.proofs.Found.{remove_absent, remove_done}
use Rattle.racks.proofs.flat.remove_from.Goals as goal

pub returns-in_default : goal.returns-in_default
returns-in_default g c =
    remove_absent g.P.Priority.not_behind c.args.slots.now c.args.n c.requires c.args.priority.now c.args.stamp (sym c.place_of.ensures ∙ c.in_default.is)

pub returns : goal.returns
returns g c =
    remove_done g.P.Priority.not_behind c.args.slots.now c.args.n c.requires c.args.priority.now c.args.stamp _ c.in-Some.place
    (sym c.place_of.ensures ∙ c.in-Some.is) c.remove_at.ensures
