-- What a probe answers.
use Rattle.std.specs.Prelude.{Bool}

-- of a probe that has passed all before: whether the item is a hit, whether a part with this summary has one, and the probe past either
pub record Rules (P E S : Type 0) : Type 0 where
  pub hits : P → E → Bool
  pub reaches : P → S → Bool
  pub past : P → E → P
  pub beyond : P → S → P
