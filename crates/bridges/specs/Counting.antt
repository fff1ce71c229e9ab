-- Counting: what the two running sums of a sound journal's rows mean.
use Rattle.std.specs.Prelude.{◌≡◌, ℕ, suc, ◌≤◌, Bool, true, cond, ◌↔◌, List, [], ◌∷◌, length, take, drop, pos, ◌≤ℤ◌}
use mathlib.Core.List.{Memᴰ}
use Rattle.journal.specs.declared.folder.Folder.{Folder}
use Rattle.journal.specs.declared.entry.Entry.{Entry}
use Rattle.journal.specs.declared.row.Row.{Row}
use Rattle.journal.specs.Folders.{has_stamp}
use Rattle.journal.specs.Replay.{waiting, sound, by_stamp}
use Rattle.journal.specs.Rows.{entries, stock, balance, Bridge, MarksAgree}
use Rattle.bridges.specs.Racks.{gone}

-- how many of these folders pass a test
abbrev pub count : {P : Type 0} → (Folder P → Bool) → List (Folder P) → ℕ
count t [] = 0
count t (f ∷ fs) = cond (t f) (suc (count t fs)) (count t fs)

module _ {P : Type 0} (not_behind : P → P → Bool) where
  -- the rack at place j: what the first j entries leave
  abbrev pub rack_at : List (Entry P) → ℕ → List (Folder P)
  rack_at es j = waiting not_behind (take j es)

  -- a folder on the rack at place j will still be fetched: a later taking of the journal fetches it
  abbrev pub will_be_fetched : List (Entry P) → ℕ → Folder P → Bool
  will_be_fetched es j f = has_stamp f.stamp (gone not_behind (rack_at es j) (drop j es))

  -- for a sound journal whose marks agree with its replay
  pub record Counting : Type 0 where
    pub stock_counts : (rs : List (Row P)) → sound not_behind (entries rs) ≡ true
        → (j : ℕ) → stock rs j ≡ pos (length (rack_at (entries rs) j))
    pub balance_counts : (rs : List (Row P)) → by_stamp (entries rs) ≡ true → sound not_behind (entries rs) ≡ true → MarksAgree not_behind rs
        → (j : ℕ) → balance rs j ≡ pos (count (will_be_fetched (entries rs) j) (rack_at (entries rs) j))
    pub never_negative : (rs : List (Row P)) → by_stamp (entries rs) ≡ true → sound not_behind (entries rs) ≡ true → MarksAgree not_behind rs
        → (j : ℕ) → pos 0 ≤ℤ balance rs j
    pub bridge_where_none : (rs : List (Row P)) → by_stamp (entries rs) ≡ true → sound not_behind (entries rs) ≡ true → MarksAgree not_behind rs
        → (j : ℕ) → j ≤ length rs → Bridge rs j ↔ ((f : Folder P) → Memᴰ f (rack_at (entries rs) j) → Memᴰ f (waiting not_behind (entries rs)))
