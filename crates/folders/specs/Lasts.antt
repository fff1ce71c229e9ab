-- The folders of a tree, and the last one of a part.
use Rattle.std.specs.Prelude.{List, map, Some, None, Option}
use Rattle.journal.specs.declared.folder.Folder.{Folder}
use Rattle.nodes.specs.Tree.{Tree, items}
use Rattle.folders.specs.declared.element.Racked.{Racked}

-- the folders that stand in a list, and those of a tree
abbrev pub folders_in : {P : Type 0} → List (Racked P) → List (Folder P)
folders_in rs = map (λ r. r.folder) rs

abbrev pub folders : {P : Type 0} → Tree (Racked P) → List (Folder P)
folders t = folders_in (items t)

-- the last folder of a whole: that of the part after the item, or the item's where nothing comes after it
abbrev pub last_of : {P : Type 0} → Option (Folder P) → Racked P → Option (Folder P) → Option (Folder P)
last_of before item None = Some item.folder
last_of before item (Some last) = Some last
