use Rattle.racks.proofs.Rotated.{rotated_out}
use Rattle.racks.proofs.front.remove_at.Goals as goal

pub returns : goal.returns
returns g c = rotated_out c.args.xs.now c.args.n c.args.place c.rotate_left.new.self c.requires.within c.requires.room c.rotate_left.ensures.after
