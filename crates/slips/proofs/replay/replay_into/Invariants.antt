use Rattle.std.proofs.Common.{◌≡◌}
use Rattle.slips.proofs.Going.{Going}
use Rattle.slips.proofs.replay.replay_into.Given as goal

abbrev pub invariant-loop-slip : goal.invariant-loop-slip
invariant-loop-slip g l =
    Going g.P.Priority.not_behind l.entries (g.R.Rack.folders l.rack) l.slip-index × (g.R.Rack.capacity l.rack ≡ g.R.Rack.capacity l.initial.rack)
