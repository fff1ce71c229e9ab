-- The summary of a part's rows.
use Rattle.std.specs.Prelude.{ℕ, max, Bool, cond, List, [], map, pos, Some, None, Option}
use Rattle.nodes.specs.Tree.{Tree, items}
use Rattle.journal.specs.declared.folder.Folder.{Folder}
use Rattle.journal.specs.declared.row.Row.{Row}
use Rattle.journal.specs.declared.row.Mark.{Mark}
use Rattle.journal.specs.declared.row.Mark.TheVariants.{Waiting, Fetched}
use Rattle.journal.specs.Folders.{ahead, front}
use Rattle.journal.specs.Replay.{stamp_of}
use Rattle.journal.specs.Rows.{entry_of, stock_step, balance_step}
use Rattle.journal.specs.Searches.{with_marked}
use Rattle.rows.specs.declared.row_item.RowItem.{RowItem}
use Rattle.rows.specs.declared.row_sum.RowSum.{RowSum}
use Rattle.rows.specs.Tallies.{chosen, tally_of, tally_then}

-- the greater of two stamps, where there are two
abbrev pub later : Option ℕ → Option ℕ → Option ℕ
later a b = chosen max a b

-- the folder of a row with this mark
abbrev pub folder_marked : {P : Type 0} → Mark → Row P → Option (Folder P)
folder_marked mark row = front (with_marked mark row [])

-- the summary of no rows
abbrev pub no_rows : {P : Type 0} → RowSum P
no_rows = record {
  latest = None;
  stock = record { total = pos 0; least = None };
  balance = record { total = pos 0; least = None };
  hindmost = None;
  foremost = None;
}

-- the summary of one row
abbrev pub sum_of_row : {P : Type 0} → Row P → RowSum P
sum_of_row row = record {
  latest = Some (stamp_of (entry_of row));
  stock = tally_of (stock_step row);
  balance = tally_of (balance_step row);
  hindmost = folder_marked Fetched row;
  foremost = folder_marked Waiting row;
}

module _ {P : Type 0} (not_behind : P → P → Bool) where
  -- of two folders the one behind, and the one in front; the first where neither is ahead
  abbrev pub hinder : Option (Folder P) → Option (Folder P) → Option (Folder P)
  hinder a b = chosen (λ f g. cond (ahead not_behind f g) g f) a b

  abbrev pub fronter : Option (Folder P) → Option (Folder P) → Option (Folder P)
  fronter a b = chosen (λ f g. cond (ahead not_behind g f) g f) a b

  -- the summary of some rows and then others
  abbrev pub sum_then : RowSum P → RowSum P → RowSum P
  sum_then a b = record {
    latest = later a.latest b.latest;
    stock = tally_then a.stock b.stock;
    balance = tally_then a.balance b.balance;
    hindmost = hinder a.hindmost b.hindmost;
    foremost = fronter a.foremost b.foremost;
  }

  -- the summary of some rows, one more, and others
  abbrev pub sum_whole : RowSum P → RowItem P → RowSum P → RowSum P
  sum_whole before item after = sum_then (sum_then before (sum_of_row item.row)) after

-- the rows of items, and those of a tree, in order
abbrev pub rows_of : {P : Type 0} → List (RowItem P) → List (Row P)
rows_of xs = map (λ item. item.row) xs

abbrev pub rows_in : {P : Type 0} → Tree (RowItem P) → List (Row P)
rows_in t = rows_of (items t)
