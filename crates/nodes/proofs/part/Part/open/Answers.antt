use Rattle.std.proofs.Common.{rules}
use Rattle.nodes.proofs.Parts.{part_within, left_part, right_part, part_opens}
use Rattle.nodes.proofs.part.Part.open.Goals as goal

pub read_at-node-requires : goal.read_at-node-requires
read_at-node-requires g c = part_within c.args.self.now.shaped c.in_ok-slot.was

pub invariant_of-result : goal.invariant_of-result
invariant_of-result g c = record { shaped = left_part c.args.self.now.shaped c.in_ok-slot.was c.read_at-node.ensures }

pub invariant_of-result-2 : goal.invariant_of-result-2
invariant_of-result-2 g c = record { shaped = right_part c.args.self.now.shaped c.in_ok-slot.was c.read_at-node.ensures }

pub returns : goal.returns
returns g c = part_opens c.args.self.now.shaped c.in_ok-slot.was c.read_at-node.ensures (search rules)
