use Rattle.nodes.proofs.Parts.{part_within}
use Rattle.nodes.proofs.part.Part.sum.Goals as goal

pub read_at-requires : goal.read_at-requires
read_at-requires g c = part_within c.args.self.now.shaped c.in-Some.is
