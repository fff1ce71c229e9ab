use Rattle.racks.proofs.Rotated.{rotated_in}
use Rattle.racks.proofs.front.insert_at.Goals as goal

pub returns : goal.returns
returns g c = rotated_in c.args.xs.now c.args.n c.args.place c.args.x c.rotate_right.new.self c.requires.within c.requires.room c.rotate_right.ensures.after
