-- What putting an item at a place leaves, by the rule of the nearest heavy ancestor.
use Rattle.std.specs.Prelude.{◌≡◌, ℕ, suc, ◌+◌, ◌<◌, ◌≤◌, Bool, false, List, length, Some, None, Option, ◌≢◌, ◌==◌}
use Rattle.nodes.specs.declared.node.Node.{Node}
use Rattle.nodes.specs.Tree.{Tree, leaf, branch, items, size, height, uses}
use Rattle.std.specs.List.{slice_get}
use Rattle.nodes.specs.Holding.{Holds}
use Rattle.changes.specs.Frames.{Frame, plug, ahead}
use Rattle.changes.specs.Inserted.{Room, inserted}
use Rattle.balance.specs.Allowances.{part as share, whole as all, Allowance}
use Rattle.scapegoat.specs.declared.balanced.Balanced.{Balanced}
use Rattle.scapegoat.specs.Heavy.{Nearest}
use Rattle.scapegoat.specs.Renewed.{Renewed}

-- room for the node, in a tree that may still grow
pub record Fitting {E S : Type 0} (empty : S) (whole : S → E → S → S) (nodes : List (Node E S)) (root : Option ℕ) (place slot : ℕ) : Type 0 where
  pub room : Room empty whole nodes root place slot
  pub few : size room.tree < 4096

-- not too deep, the tree has a leaf more; else the part at the nearest heavy ancestor is balanced, if there is one. The reply
-- says too whether that part is the whole tree.
pub data Rule {E S : Type 0} (must : Bool) (empty : S) (whole : S → E → S → S) (entry exit : List (Node E S)) (frames : List (Frame E)) (new : Tree E) (allowed : ℕ) (r : Balanced) : Type 0 where
  allowed_leaf : length frames ≤ allowed → r.whole ≡ false → exit ≡ entry → Holds must empty whole exit r.root (plug frames new) → Rule must empty whole entry exit frames new allowed r
  no_heavy : allowed < length frames → Nearest share all frames new None → r.whole ≡ false → exit ≡ entry → Holds must empty whole exit r.root (plug frames new) → Rule must empty whole entry exit frames new allowed r
  rebuilt : (k : ℕ) → allowed < length frames → Nearest share all frames new (Some k) → r.whole ≡ (k == 0) → Renewed must empty whole entry exit frames new k r.root → Rule must empty whole entry exit frames new allowed r

-- the slice holds a tree with the item in it, no deeper than allowed; a tree of one level has depth 0
pub record Settled {E S : Type 0} (must : Bool) (empty : S) (whole : S → E → S → S) (exit : List (Node E S)) (place : ℕ) (item : E) (allowed : ℕ) (t : Tree E) (root : Option ℕ) : Type 0 where
  pub new : Tree E
  pub holds : Holds must empty whole exit root new
  pub lists : items new ≡ inserted place item (items t)
  pub low : height new ≤ suc allowed

pub record Growth {E S : Type 0} (must : Bool) (empty : S) (whole : S → E → S → S) (entry exit : List (Node E S)) (place slot : ℕ) (item : E) (allowed : ℕ) (t : Tree E) (r : Balanced) : Type 0 where
  pub frames : List (Frame E)
  pub was : plug frames leaf ≡ t
  pub gap : length (ahead frames) ≡ place
  pub lists : items (plug frames (branch slot item leaf leaf)) ≡ inserted place item (items t)
  pub middle : List (Node E S)
  pub rule : Rule must empty whole middle exit frames (branch slot item leaf leaf) allowed r
  pub kept : (k : ℕ) → uses k t ≡ 0 → (k ≢ slot) → slice_get middle k ≡ slice_get entry k
  pub settled : (m : ℕ) → Allowance share all m allowed → size t + 1 ≤ m → height t ≤ suc allowed → Settled must empty whole exit place item allowed t r.root
