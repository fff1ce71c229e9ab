use Rattle.std.proofs.Common.{subst}
use Rattle.journal.specs.Folders.{placed}
use Rattle.journal.specs.Racks.{put_rule}
use Rattle.slips.specs.Into.{Ready}
use Rattle.slips.proofs.Going.{not_refused, ready_put}
use Rattle.slips.proofs.replay.step.Goals as goal

pub returns-in_err-put-in-Arrival : goal.returns-in_err-put-in-Arrival
returns-in_err-put-in-Arrival g c =
    let nb = g.P.Priority.not_behind in
    let fs = g.R.Rack.folders c.args.rack.now in
    let room = g.R.Rack.capacity c.args.rack.now in
    absurd (not_refused (put_rule nb room fs c.in-Arrival.folder) (placed nb c.in-Arrival.folder fs) c.put.result c.in_err-put-in-Arrival.field-0.0
    (c.put.ensures.changed.replied c.requires.ordered)
    (ready_put nb room fs c.in-Arrival.folder (subst (Ready nb room fs) c.in-Arrival.is c.requires))
    c.in_err-put-in-Arrival.was)
