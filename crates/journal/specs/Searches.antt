-- The questions that are put to rows: where a stamp stands, where a sum is low, which arrival is hindmost or foremost.
use Rattle.std.specs.Prelude.{ℕ, zero, suc, ◌+◌, ◌-◌, min, Bool, cond, List, [], ◌∷◌, length, take, drop, ℤ, pos, Some, None, Option, int_le, nat_lt}
use Rattle.std.specs.Option.{option_map}
use Rattle.journal.specs.declared.row.Row.{Row}
use Rattle.journal.specs.declared.row.Row.TheVariants.{Arrival, Taking}
use Rattle.journal.specs.declared.row.Mark.{Mark}
use Rattle.journal.specs.declared.row.Mark.TheVariants.{Waiting, Fetched}
use Rattle.journal.specs.declared.folder.Folder.{Folder}
use Rattle.journal.specs.Folders.{hindmost, foremost}
use Rattle.journal.specs.Replay.{stamp_of, dated}
use Rattle.journal.specs.Rows.{entry_of, entries, stock, balance}

-- how many rows have a lesser stamp
abbrev pub earlier : {P : Type 0} → List (Row P) → ℕ → ℕ
earlier [] s = 0
earlier (r ∷ rs) s = cond (nat_lt (stamp_of (entry_of r)) s) (1 + earlier rs s) (earlier rs s)

-- how many rows have a lesser stamp, and whether one has this stamp
abbrev pub place_and_whether : {P : Type 0} → List (Row P) → ℕ → ℕ × Bool
place_and_whether rs s = (earlier rs s, dated s (entries rs))

-- a place above the count is read as the count
abbrev pub place_in : {P : Type 0} → List (Row P) → ℕ → ℕ
place_in rs p = min p (length rs)

-- the least of the n numbers from j on that passes a test, or none
abbrev pub least_from : (ℕ → Bool) → ℕ → ℕ → Option ℕ
least_from test j zero = None
least_from test j (suc n) = cond (test j) (Some j) (least_from test (suc j) n)

-- the greatest number up to j that passes a test, or none
abbrev pub greatest_to : (ℕ → Bool) → ℕ → Option ℕ
greatest_to test zero = cond (test zero) (Some zero) None
greatest_to test (suc j) = cond (test (suc j)) (Some (suc j)) (greatest_to test j)

-- a sum is low where it is at most 0
abbrev pub low : (ℕ → ℤ) → ℕ → Bool
low sum j = int_le (sum j) (pos 0)

-- the least place at or after p with a low sum, or none
abbrev pub first_low_from : {P : Type 0} → (List (Row P) → ℕ → ℤ) → List (Row P) → ℕ → Option ℕ
first_low_from sum rs p = least_from (low (sum rs)) (place_in rs p) (suc (length rs - place_in rs p))

-- the first low stock, and the first low balance, from p
abbrev pub first_low_stock : {P : Type 0} → List (Row P) → ℕ → Option ℕ
first_low_stock rs p = first_low_from stock rs p

abbrev pub first_low_balance : {P : Type 0} → List (Row P) → ℕ → Option ℕ
first_low_balance rs p = first_low_from balance rs p

-- the greatest place at or before p with a low balance; place 0 is always one
abbrev pub last_low_balance : {P : Type 0} → List (Row P) → ℕ → Option ℕ
last_low_balance rs p = greatest_to (low (balance rs)) (place_in rs p)

-- the folder of an arrival with this mark, before some others
abbrev pub with_marked : {P : Type 0} → Mark → Row P → List (Folder P) → List (Folder P)
with_marked Waiting (Arrival f Waiting) fs = f ∷ fs
with_marked Waiting (Arrival f Fetched) fs = fs
with_marked Fetched (Arrival f Fetched) fs = f ∷ fs
with_marked Fetched (Arrival f Waiting) fs = fs
with_marked Waiting (Taking s) fs = fs
with_marked Fetched (Taking s) fs = fs

-- the folders of the arrivals with this mark, in order of rows
abbrev pub folders_marked : {P : Type 0} → Mark → List (Row P) → List (Folder P)
folders_marked m [] = []
folders_marked m (r ∷ rs) = with_marked m r (folders_marked m rs)

module _ {P : Type 0} (not_behind : P → P → Bool) where
  -- the place of the hindmost fetched arrival among rows q onward, or none
  abbrev pub hindmost_fetched_from : List (Row P) → ℕ → Option ℕ
  hindmost_fetched_from rs q = option_map (λ f. earlier rs f.stamp) (hindmost not_behind (folders_marked Fetched (drop (place_in rs q) rs)))

  -- the place of the foremost waiting arrival among the first q rows, or none
  abbrev pub foremost_waiting_before : List (Row P) → ℕ → Option ℕ
  foremost_waiting_before rs q = option_map (λ f. earlier rs f.stamp) (foremost not_behind (folders_marked Waiting (take (place_in rs q) rs)))
