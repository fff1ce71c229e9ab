-- What a search for a key asks: the first folder that is not ahead of it.
use Rattle.std.specs.Prelude.{Bool, false, not, Some, None, Option}
use Rattle.journal.specs.declared.folder.Folder.{Folder}
use Rattle.nodes.specs.Rules.{Rules}
use Rattle.folders.specs.declared.element.Racked.{Racked}
use Rattle.folders.specs.declared.key.Key.{Key}
use Rattle.folders.specs.Ranks.{ahead_of_key}

module _ {P : Type 0} (not_behind : P → P → Bool) where
  -- the folder is not ahead of the key
  abbrev pub hit : Key P → Folder P → Bool
  hit key g = not (ahead_of_key not_behind key.priority key.stamp g)

  -- the last folder of a part is such a one
  abbrev pub last_hit : Key P → Option (Folder P) → Bool
  last_hit key None = false
  last_hit key (Some last) = hit key last

  abbrev pub key_rules : Rules (Key P) (Racked P) (Option (Folder P))
  key_rules = record { hits = λ key r. hit key r.folder; reaches = last_hit; past = λ key r. key; beyond = λ key last. key }
