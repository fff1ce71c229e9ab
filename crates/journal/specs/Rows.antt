-- Rows: entries with marks, their two running sums, places and bridges, and marks that agree with the replay.
use Rattle.std.specs.Prelude.{◌≡◌, ℕ, ◌≤◌, Bool, cond, List, [], ◌∷◌, map, length, take, ℤ, pos, negsuc, ◌+ℤ◌}
use Rattle.journal.specs.declared.entry.Entry.{Entry}
use Rattle.journal.specs.declared.entry.Entry.TheVariants.{Arrival, Taking}
use Rattle.journal.specs.declared.row.Row.{Row}
use Rattle.journal.specs.declared.row.Row.TheVariants as row
use Rattle.journal.specs.declared.row.Mark.TheVariants.{Waiting, Fetched}
use Rattle.journal.specs.declared.folder.Folder.{Folder}
use Rattle.journal.specs.Folders.{has_stamp}
use Rattle.journal.specs.Replay.{waiting}

-- the entry of a row
abbrev pub entry_of : {P : Type 0} → Row P → Entry P
entry_of (row.Arrival f m) = Arrival f
entry_of (row.Taking s) = Taking s

-- the journal that rows carry
abbrev pub entries : {P : Type 0} → List (Row P) → List (Entry P)
entries rs = map entry_of rs

-- a row's share in the stock: one for an arrival, less one for a taking
abbrev pub stock_step : {P : Type 0} → Row P → ℤ
stock_step (row.Arrival f m) = pos 1
stock_step (row.Taking s) = negsuc 0

-- a row's share in the balance: one for a fetched arrival, none for a waiting one, less one for a taking
abbrev pub balance_step : {P : Type 0} → Row P → ℤ
balance_step (row.Arrival f Fetched) = pos 1
balance_step (row.Arrival f Waiting) = pos 0
balance_step (row.Taking s) = negsuc 0

-- the sum of these rows' shares
abbrev pub sum_of : {P : Type 0} → (Row P → ℤ) → List (Row P) → ℤ
sum_of step [] = pos 0
sum_of step (r ∷ rs) = step r +ℤ sum_of step rs

-- Place j lies after the first j rows, so the places run from 0 to the count of rows.

-- the stock at place j: the arrivals of the first j rows less their takings
abbrev pub stock : {P : Type 0} → List (Row P) → ℕ → ℤ
stock rs j = sum_of stock_step (take j rs)

-- the balance at place j: the fetched arrivals of the first j rows less their takings
abbrev pub balance : {P : Type 0} → List (Row P) → ℕ → ℤ
balance rs j = sum_of balance_step (take j rs)

-- a bridge is a place with balance zero
pub record Bridge {P : Type 0} (rs : List (Row P)) (j : ℕ) : Type 0 where
  pub place : j ≤ length rs
  pub even : balance rs j ≡ pos 0

-- an entry's row where these folders wait: an arrival is marked by whether its folder is one of them
abbrev pub row_of : {P : Type 0} → List (Folder P) → Entry P → Row P
row_of ws (Arrival f) = row.Arrival f (cond (has_stamp f.stamp ws) Waiting Fetched)
row_of ws (Taking s) = row.Taking s

-- a journal's rows with the marks of its replay
abbrev pub marked : {P : Type 0} → (P → P → Bool) → List (Entry P) → List (Row P)
marked not_behind es = map (row_of (waiting not_behind es)) es

-- the marks agree with the replay
abbrev pub MarksAgree : {P : Type 0} → (P → P → Bool) → List (Row P) → Type 0
MarksAgree not_behind rs = rs ≡ marked not_behind (entries rs)
