-- The plan of an unattended run: the longest front of a list that fits under a cap.
use Rattle.std.specs.Prelude.{◌≡◌, ℕ, ◌≤◌, List, length, take, sum_by}
use Rattle.orders.specs.declared.weight.Weight.{Weight}
use Rattle.orders.specs.Weight.{decoded}
use Rattle.journal.specs.declared.folder.Folder.{Folder}

-- the decoded bytes of some folders
abbrev pub bytes_of : List (Folder Weight) → ℕ
bytes_of fs = sum_by (λ f. decoded f.priority) fs

-- the first so many folders decode to these bytes, at most the cap, and no longer front does
pub record LongestFront (fs : List (Folder Weight)) (cap count bytes : ℕ) : Type 0 where
  pub front : count ≤ length fs
  pub sum : bytes ≡ bytes_of (take count fs)
  pub fits : bytes ≤ cap
  pub longest : (k : ℕ) → k ≤ length fs → bytes_of (take k fs) ≤ cap → k ≤ count
