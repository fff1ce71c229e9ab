-- Three short cuts that earlier books took, each with a short journal by weight at which it misses.
use Rattle.std.specs.Prelude.{◌≡◌, List, [], ◌∷◌, length, Some, None}
use Rattle.orders.specs.declared.weight.Weight.{Weight}
use Rattle.orders.specs.Weight.{weight_not_behind}
use Rattle.journal.specs.declared.entry.Entry.{Entry}
use Rattle.journal.specs.declared.row.Row.{Row}
use Rattle.journal.specs.Replay.{entered, struck, first_unserved}
use Rattle.journal.specs.Rows.{marked}
use Rattle.journal.specs.Searches.{earlier, first_low_stock, hindmost_fetched_from}
use Rattle.journal.specs.ShortJournals.{folder, arrival, taking, taken_then_arrival, two_taken}
use Rattle.journal.specs.Movers.{arrival_mover}
use Rattle.bridges.specs.Rules.{and_then, folder_at, hinder, foremost_before_bridge}

-- a journal's rows by weight
abbrev pub rows_of : List (Entry Weight) → List (Row Weight)
rows_of es = marked weight_not_behind es

-- two folders wait, one on either side of the one that was fetched
abbrev pub middle_taken : List (Entry Weight)
middle_taken = arrival 10 9 ∷ arrival 20 3 ∷ arrival 25 5 ∷ taking 30 ∷ []

pub record ShortCutsMiss : Type 0 where
  -- an arrival compared with every fetched folder, not only with those since the last bridge: folder 1 is named, but folder 10 moves
  pub every_fetched : (hinder weight_not_behind (folder 15 2) (and_then (hindmost_fetched_from weight_not_behind (rows_of two_taken) 0) (folder_at (rows_of two_taken))) ≡ folder 1 9)
      × (arrival_mover weight_not_behind two_taken (folder 15 2) ≡ folder 10 5)
  -- the stock checked at the end alone: no low stock is found, but the taking at 20 finds no folder
  pub stock_at_end : (first_low_stock (rows_of taken_then_arrival) (length (rows_of taken_then_arrival)) ≡ None)
      × (first_unserved weight_not_behind (entered (taking 15) taken_then_arrival) ≡ Some 20)
  -- a fetched arrival revoked, and the first bridge sought from its place, not from after it: folder 10 is named, but folder 25 moves
  pub bridge_from_place : (foremost_before_bridge weight_not_behind (rows_of middle_taken) (earlier (rows_of middle_taken) 20) ≡ Some (folder 10 9))
      × (arrival_mover weight_not_behind (struck 20 middle_taken) (folder 20 3) ≡ folder 25 5)
