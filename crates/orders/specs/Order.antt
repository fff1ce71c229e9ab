-- A lawful order by its one question, the test `not_behind a b`: is priority a not behind priority b?
use Rattle.std.specs.Prelude.{Bool, not, ◌&&◌}

module _ {P : Type 0} (not_behind : P → P → Bool) where
  -- a is behind b: the question is answered no
  abbrev pub behind : P → P → Bool
  behind a b = not (not_behind a b)

  -- a and b tie: neither is behind the other
  abbrev pub tie : P → P → Bool
  tie a b = not_behind a b && not_behind b a
