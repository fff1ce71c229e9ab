-- When a part may be put at the end of a path, and what that leaves.
use Rattle.std.specs.Prelude.{◌≡◌, ℕ, ◌+◌, ◌^◌, ◌<◌, Bool, false, List, Some, Option, slice_set}
use Rattle.nodes.specs.declared.node.Node.{Node}
use Rattle.nodes.specs.Tree.{Tree, size, uses}
use Rattle.std.specs.List.{slice_get}
use Rattle.nodes.specs.Holding.{Holds}
use Rattle.changes.specs.declared.path.Side.{Side}
use Rattle.changes.specs.declared.path.Step.{Step}
use Rattle.changes.specs.Frames.{Frame, frame, steps_of, fill, plug, beside, Around, Apart}

-- a node stands in the slot, with its other part and the new one in the slice
pub record Relinkable {E S : Type 0} (empty : S) (whole : S → E → S → S) (nodes : List (Node E S)) (side : Side) (slot : ℕ) (link : Option ℕ) : Type 0 where
  pub node : Node E S
  pub at : slice_get nodes slot ≡ Some node
  pub other : Tree E
  pub part : Tree E
  pub other_held : Holds false empty whole nodes (beside side node) other
  pub part_held : Holds false empty whole nodes link part
  pub fits : size other + size part + 1 < 2 ^ 64

-- one slot is written, and it holds its frame with the new part in it
pub record Relinked {E S : Type 0} (empty : S) (whole : S → E → S → S) (entry exit : List (Node E S)) (side : Side) (slot : ℕ) (link : Option ℕ) : Type 0 where
  pub new : Node E S
  pub wrote : exit ≡ slice_set entry slot new
  pub holds : (must : Bool) (node : Node E S) (other part : Tree E) → slice_get entry slot ≡ Some node → Holds must empty whole entry (beside side node) other → Holds must empty whole entry link part → uses slot other ≡ 0 → uses slot part ≡ 0 → Holds must empty whole exit (Some slot) (fill (frame side slot node.item other) part)

-- the slice holds these frames along the path, and the part, and no slot is used twice
pub record Graft {E S : Type 0} (must : Bool) (empty : S) (whole : S → E → S → S) (nodes : List (Node E S)) (root : Option ℕ) (frames : List (Frame E)) (hole link : Option ℕ) (part : Tree E) (steps : List Step) : Type 0 where
  pub traced : steps_of frames ≡ steps
  pub around : Around must empty whole nodes root frames hole
  pub held : Holds must empty whole nodes link part
  pub apart : Apart (plug frames part)
  pub fits : size (plug frames part) < 2 ^ 64

pub record Graftable {E S : Type 0} (empty : S) (whole : S → E → S → S) (nodes : List (Node E S)) (link : Option ℕ) (steps : List Step) : Type 0 where
  pub root : Option ℕ
  pub frames : List (Frame E)
  pub hole : Option ℕ
  pub part : Tree E
  pub graft : Graft false empty whole nodes root frames hole link part steps

-- the slice holds the frames with the part in their hole, and slots that this tree does not use are as they were
pub record Grafted {E S : Type 0} (must : Bool) (empty : S) (whole : S → E → S → S) (entry exit : List (Node E S)) (root : Option ℕ) (frames : List (Frame E)) (part : Tree E) : Type 0 where
  pub holds : Holds must empty whole exit root (plug frames part)
  pub kept : (k : ℕ) → uses k (plug frames part) ≡ 0 → slice_get exit k ≡ slice_get entry k
