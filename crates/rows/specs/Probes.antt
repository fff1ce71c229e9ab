-- What the two probes ask of rows and of their summaries.
use Rattle.std.specs.Prelude.{ℕ, ◌+◌, ◌-◌, ◌^◌, min, Bool, false, leb, List, take, ℤ, pos, Some, None, Option, ◌==◌, int_le, nat_le}
use Rattle.nodes.specs.Rules.{Rules}
use Rattle.journal.specs.declared.row.Row.{Row}
use Rattle.journal.specs.Replay.{stamp_of}
use Rattle.journal.specs.Rows.{entry_of, stock_step, balance_step, sum_of}
use Rattle.rows.specs.declared.low_sum.LowSum.{LowSum}
use Rattle.rows.specs.declared.low_sum.Sum.{Sum}
use Rattle.rows.specs.declared.low_sum.Sum.TheVariants.{Stock, Balance}
use Rattle.rows.specs.declared.not_before.NotBefore.{NotBefore}
use Rattle.rows.specs.declared.row_item.RowItem.{RowItem}
use Rattle.rows.specs.declared.row_sum.RowSum.{RowSum}
use Rattle.rows.specs.declared.tally.Tally.{Tally}
use Rattle.rows.specs.Tallies.{plus}

-- there is one, and it passes the test
abbrev pub passes : {A : Type 0} → (A → Bool) → Option A → Bool
passes test None = false
passes test (Some x) = test x

-- the item's row has this stamp
abbrev pub dated_at : {P : Type 0} → ℕ → RowItem P → Bool
dated_at s item = stamp_of (entry_of item.row) == s

-- a row with a stamp not below the probe's is a hit
abbrev pub not_before : {P : Type 0} → Rules NotBefore (RowItem P) (RowSum P)
not_before = record {
  hits = λ p item. nat_le p.stamp (stamp_of (entry_of item.row));
  reaches = λ p sum. passes (leb p.stamp) sum.latest;
  past = λ p item. p;
  beyond = λ p sum. p;
}

-- a row's share in a sum
abbrev pub step_of : {P : Type 0} → Sum → Row P → ℤ
step_of Stock row = stock_step row
step_of Balance row = balance_step row

-- a sum at place j: what the first j rows add
abbrev pub running : {P : Type 0} → Sum → List (Row P) → ℕ → ℤ
running sum rows j = sum_of (step_of sum) (take j rows)

-- the place after the row i, as 64 bits hold it
abbrev pub place_after : ℕ → ℕ
place_after i = min (i + 1) (2 ^ 64 - 1)

-- a sum's tally in a summary
abbrev pub tally_in : {P : Type 0} → Sum → RowSum P → Tally
tally_in Stock sum = sum.stock
tally_in Balance sum = sum.balance

-- the probe for a low sum that has passed nothing
abbrev pub start_of : Sum → LowSum
start_of sum = record { sum = sum; passed = pos 0 }

-- a row after which the running sum is at most 0 is a hit
abbrev pub low_sum : {P : Type 0} → Rules LowSum (RowItem P) (RowSum P)
low_sum = record {
  hits = λ p item. int_le (plus p.passed (step_of p.sum item.row)) (pos 0);
  reaches = λ p sum. passes (λ least. int_le (plus p.passed least) (pos 0)) (tally_in p.sum sum).least;
  past = λ p item. record { sum = p.sum; passed = plus p.passed (step_of p.sum item.row) };
  beyond = λ p sum. record { sum = p.sum; passed = plus p.passed (tally_in p.sum sum).total };
}
