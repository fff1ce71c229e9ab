use Rattle.std.proofs.Common.{◌≡◌, ◌≤◌, take}
use Rattle.slips.specs.Plan.{bytes_of}
use Rattle.slips.proofs.run.plan.Given as goal

-- the run is the front so far, and fits
abbrev pub invariant-loop-folder : goal.invariant-loop-folder
invariant-loop-folder l = (l.run.count ≡ l.folder-index) × (l.run.bytes ≡ bytes_of (take l.folder-index l.folders)) × (l.run.bytes ≤ l.cap)
