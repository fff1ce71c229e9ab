-- What a scapegoat rack's nodes and links mean.
use Rattle.std.specs.Prelude.{◌≡◌, Bool, List, None, Option}
use Rattle.orders.specs.Refusal.{Told}
use Rattle.journal.specs.declared.folder.Folder.{Folder}
use Rattle.journal.specs.Racks.{Changed}
use Rattle.nodes.specs.declared.node.Node.{Node}
use Rattle.folders.specs.declared.element.Racked.{Racked}
use Rattle.folders.specs.Lasts.{folders_in, last_of}
use Rattle.trees.specs.declared.links.Links.{Links}
use Rattle.trees.specs.Structures.{listed, capacity_of, Right}

-- the folders in the tree, in order
abbrev pub racked : {P : Type 0} → List (Node (Racked P) (Option (Folder P))) → Links → List (Folder P)
racked nodes links = folders_in (listed nodes links)

-- every part's last folder is the one that it keeps
abbrev pub LastsRight : {P : Type 0} → List (Node (Racked P) (Option (Folder P))) → Links → Type 0
LastsRight nodes links = ∥ Right None last_of nodes links ∥₁

-- a change by a rule of the rack, which keeps the tree's summaries
pub record Moved {P : Type 0} (not_behind : P → P → Bool) (rule : Told (List (Folder P))) (entry : List (Node (Racked P) (Option (Folder P)))) (before : Links) (exit : List (Node (Racked P) (Option (Folder P)))) (after : Links) (reply : Told (Unit {0})) : Type 0 where
  pub right : LastsRight exit after
  pub same : capacity_of exit ≡ capacity_of entry
  pub changed : Changed not_behind (capacity_of entry) rule (racked entry before) (racked exit after) reply
