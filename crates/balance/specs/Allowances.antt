-- The depth that a tree may have, for a ratio a / b between a child and its parent.
use Rattle.std.specs.Prelude.{ℕ, ◌*◌, ◌^◌, ◌≤◌, max}

-- the ratio: a child has at most part / whole of the items of its parent
abbrev pub part : ℕ
part = 2

abbrev pub whole : ℕ
whole = 3

-- the greatest count of items of a tree
abbrev pub most_items : ℕ
most_items = 4096

-- a depth that m items reach; no items reach what one does
abbrev pub Reaches : ℕ → ℕ → ℕ → ℕ → Type 0
Reaches a b m d = b ^ d ≤ a ^ d * max 1 m

-- the greatest such depth
pub record Allowance (a b m d : ℕ) : Type 0 where
  pub reached : Reaches a b m d
  pub most : (e : ℕ) → Reaches a b m e → e ≤ d
