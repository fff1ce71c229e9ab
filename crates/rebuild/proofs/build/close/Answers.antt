use Rattle.rebuild.proofs.build.close.Goals as goal

pub returns : goal.returns
returns g c = record {
  slot = c.read_at-slot.result;
  node = c.read_at-node.result;
  here = c.read_at-slot.ensures;
  at = c.read_at-node.ensures;
  placed = rw (← c.root_of-left.ensures, ← c.root_of-right.ensures) c.place.ensures;
}
