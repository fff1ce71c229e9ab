-- A tree around a hole: the nodes on the way down to it, from the root on, each with its part beside the way.
use Rattle.std.specs.Prelude.{◌≡◌, ℕ, ◌+◌, ◌≤◌, Bool, cond, List, [], ◌∷◌, ◌++◌, Some, Option, ◌==◌}
use Rattle.nodes.specs.declared.node.Node.{Node}
use Rattle.nodes.specs.Tree.{Tree, branch, items, uses}
use Rattle.std.specs.List.{slice_get}
use Rattle.nodes.specs.Holding.{Holds}
use Rattle.changes.specs.declared.path.Side.{Side}
use Rattle.changes.specs.declared.path.Side.TheVariants.{Left, Right}
use Rattle.changes.specs.declared.path.Step.{Step}

-- a node on the way: the side to which the way goes on, its slot and item, and its other part
pub data Frame (E : Type 0) : Type 0 where
  frame : (side : Side) (slot : ℕ) (item : E) (other : Tree E) → Frame E

abbrev pub step_of : {E : Type 0} → Frame E → Step
step_of (frame side slot item other) = record { slot = slot; side = side }

abbrev pub steps_of : {E : Type 0} → List (Frame E) → List Step
steps_of [] = []
steps_of (f ∷ fs) = step_of f ∷ steps_of fs

-- a frame with a part in its hole, and all frames with one in the hole of the last
abbrev pub fill : {E : Type 0} → Frame E → Tree E → Tree E
fill (frame Left slot item other) t = branch slot item t other
fill (frame Right slot item other) t = branch slot item other t

abbrev pub plug : {E : Type 0} → List (Frame E) → Tree E → Tree E
plug [] t = t
plug (f ∷ fs) t = fill f (plug fs t)

-- the items before the hole, and those after it
abbrev pub ahead : {E : Type 0} → List (Frame E) → List E
ahead [] = []
ahead (frame Left slot item other ∷ fs) = ahead fs
ahead (frame Right slot item other ∷ fs) = items other ++ (item ∷ ahead fs)

abbrev pub behind : {E : Type 0} → List (Frame E) → List E
behind [] = []
behind (frame Left slot item other ∷ fs) = behind fs ++ (item ∷ items other)
behind (frame Right slot item other ∷ fs) = behind fs

-- how many nodes of the frames use a slot
abbrev pub frame_uses : {E : Type 0} → ℕ → List (Frame E) → ℕ
frame_uses k [] = 0
frame_uses k (frame side slot item other ∷ fs) = cond (k == slot) 1 0 + (uses k other + frame_uses k fs)

-- the link of a node on the way, and the one beside it
abbrev pub toward : {E S : Type 0} → Side → Node E S → Option ℕ
toward Left node = node.left
toward Right node = node.right

abbrev pub beside : {E S : Type 0} → Side → Node E S → Option ℕ
beside Left node = node.right
beside Right node = node.left

-- the slice holds the frames from a root down to a hole; the sizes and summaries on the way are left open
pub data Around {E S : Type 0} (must : Bool) (empty : S) (whole : S → E → S → S) (nodes : List (Node E S)) : Option ℕ → List (Frame E) → Option ℕ → Type 0 where
  here : {link : Option ℕ} → Around must empty whole nodes link [] link
  inside : {side : Side} {slot : ℕ} {other : Tree E} {fs : List (Frame E)} {hole : Option ℕ} (node : Node E S) → slice_get nodes slot ≡ Some node → Holds must empty whole nodes (beside side node) other → Around must empty whole nodes (toward side node) fs hole → Around must empty whole nodes (Some slot) (frame side slot node.item other ∷ fs) hole

-- no slot is used twice
abbrev pub Apart : {E : Type 0} → Tree E → Type 0
Apart t = (k : ℕ) → uses k t ≤ 1
