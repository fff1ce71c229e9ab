-- When the part at a place of a way may be rebuilt, and what that leaves.
use Rattle.std.specs.Prelude.{◌≡◌, ℕ, ◌*◌, ◌^◌, ◌<◌, ◌≤◌, Bool, false, List, length, take, drop, Option}
use Rattle.nodes.specs.declared.node.Node.{Node}
use Rattle.nodes.specs.Tree.{Tree, items, slots, size, height, uses}
use Rattle.std.specs.List.{slice_get}
use Rattle.nodes.specs.Holding.{Holds}
use Rattle.changes.specs.declared.path.Step.{Step}
use Rattle.changes.specs.Frames.{Frame, steps_of, plug, Apart}
use Rattle.rebuild.specs.Shapes.{Even}

-- the slice holds a tree of at most 4096 items with this way, longer than the place
pub record Renewable {E S : Type 0} (empty : S) (whole : S → E → S → S) (nodes : List (Node E S)) (steps : List Step) (k : ℕ) : Type 0 where
  pub root : Option ℕ
  pub frames : List (Frame E)
  pub part : Tree E
  pub holds : Holds false empty whole nodes root (plug frames part)
  pub traced : steps_of frames ≡ steps
  pub on_way : k < length steps
  pub apart : Apart (plug frames part)
  pub small : size (plug frames part) ≤ 4096

-- the part there is balanced, with the same slots and items, and all above it is as it was
pub record Renewed {E S : Type 0} (must : Bool) (empty : S) (whole : S → E → S → S) (entry exit : List (Node E S)) (frames : List (Frame E)) (t : Tree E) (k : ℕ) (root : Option ℕ) : Type 0 where
  pub new : Tree E
  pub even : Even new
  pub low : 1 ≤ size new → 2 ^ height new ≤ 2 * size new
  pub slots_are : slots new ≡ slots (plug (drop k frames) t)
  pub items_are : items new ≡ items (plug (drop k frames) t)
  pub holds : Holds must empty whole exit root (plug (take k frames) new)
  pub kept : (j : ℕ) → uses j (plug frames t) ≡ 0 → slice_get exit j ≡ slice_get entry j
