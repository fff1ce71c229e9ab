-- Numbers in bytes, the highest byte first.
use Rattle.std.specs.Prelude.{◌≡◌, ℕ, zero, suc, ◌+◌, ◌*◌, ◌/◌, ◌%◌, ◌^◌, ◌<◌, List, [], ◌∷◌, length, slice_index}

-- the k lowest bytes of a number, the highest of them first
abbrev pub bytes : ℕ → ℕ → List ℕ
bytes zero n = []
bytes (suc k) n = (n / 256 ^ k) % 256 ∷ bytes k n

-- the number that bytes write
abbrev pub number : List ℕ → ℕ
number [] = 0
number (b ∷ bs) = b * 256 ^ length bs + number bs

-- twelve bytes, as a written priority has them
pub record Twelve (bs : List ℕ) : Type 0 where
  pub long : length bs ≡ 12
  pub bytewise : (i : ℕ) → slice_index bs i < 256
