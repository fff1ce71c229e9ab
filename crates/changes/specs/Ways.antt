-- Ways down a tree.
use Rattle.std.specs.Prelude.{◌≡◌, ℕ, ◌+◌, ◌≤◌, Bool, false, List, length, Some, None, Option}
use Rattle.nodes.specs.declared.node.Node.{Node}
use Rattle.nodes.specs.Tree.{Tree, size, height, before_of}
use Rattle.nodes.specs.Holding.{Holds}
use Rattle.changes.specs.declared.path.Step.{Step}
use Rattle.changes.specs.declared.found.Found.{Found}
use Rattle.changes.specs.Frames.{Frame, steps_of, plug, ahead, Around}
use Rattle.changes.specs.Stacks.{stacked}

-- the slice holds some tree at the link, not too deep for a path
pub record Shallow {E S : Type 0} (empty : S) (whole : S → E → S → S) (nodes : List (Node E S)) (link : Option ℕ) : Type 0 where
  pub tree : Tree E
  pub holds : Holds false empty whole nodes link tree
  pub low : height tree ≤ 32

-- the steps lead from the root of a tree to a part of it at a link, with so many items before the part
pub record Way {E S : Type 0} (empty : S) (whole : S → E → S → S) (nodes : List (Node E S)) (root link : Option ℕ) (steps : List Step) (skipped : ℕ) (all t : Tree E) : Type 0 where
  pub frames : List (Frame E)
  pub traced : steps_of frames ≡ steps
  pub around : (must : Bool) → Holds must empty whole nodes root all → Around must empty whole nodes root frames link
  pub held : (must : Bool) → Holds must empty whole nodes root all → Holds must empty whole nodes link t
  pub plugs : plug frames t ≡ all
  pub ahead_long : length (ahead frames) ≡ skipped

-- the node at a place and the way to it
pub record Leads {E S : Type 0} (empty : S) (whole : S → E → S → S) (nodes : List (Node E S)) (root : Option ℕ) (place : ℕ) (all : Tree E) (found : Found) : Type 0 where
  pub part : Tree E
  pub skipped : ℕ
  pub way : Way empty whole nodes root (Some found.slot) (stacked found.path) skipped all part
  pub at : skipped + size (before_of part) ≡ place

-- none just past the end
abbrev pub Reached : {E S : Type 0} → S → (S → E → S → S) → List (Node E S) → Option ℕ → ℕ → Tree E → Option Found → Type 0
Reached empty whole nodes root place all None = size all ≤ place
Reached empty whole nodes root place all (Some found) = Leads empty whole nodes root place all found
