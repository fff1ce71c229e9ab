-- What a slip is asked before it is entered.
use Rattle.std.specs.Prelude.{ℕ, Bool, true, cond, ◌&&◌, List, [], length, nat_le, nat_lt}
use Rattle.orders.specs.Refusal.{Told, told, refused}
use Rattle.journal.specs.declared.entry.Entry.{Entry}
use Rattle.journal.specs.declared.entry.Entry.TheVariants.{Arrival, Taking}
use Rattle.journal.specs.Replay.{stamp_of, dated, entered}

-- a stamp is a whole second from 1 to 999,999,999
abbrev pub stamp_in_range : ℕ → Bool
stamp_in_range s = nat_le 1 s && nat_le s 999999999

-- an arrival's folder number is from 1 to 999,999
abbrev pub number_in_range : {P : Type 0} → Entry P → Bool
number_in_range (Arrival f) = nat_le 1 f.number && nat_le f.number 999999
number_in_range (Taking s) = true

-- entering a slip: refused 1 for its stamp, 2 for its folder number, 4 where the stamp is taken, 6 where there is no room
abbrev pub enter_rule : {P : Type 0} → ℕ → List (Entry P) → Entry P → Told (List (Entry P))
enter_rule capacity es e =
    cond (stamp_in_range (stamp_of e))
    (cond (number_in_range e) (cond (dated (stamp_of e) es) (refused 4 []) (cond (nat_lt (length es) capacity) (told (entered e es)) (refused 6 []))) (refused 2 []))
    (refused 1 [])
