-- What entering a slip comes to, also where memory is wanting.
use Rattle.std.specs.Prelude.{◌≡◌, ℕ, ◌<◌, ◌≤◌, true, List, length, Ok, Err, Result}
use Rattle.std.specs.List.{insert}
use Rattle.orders.specs.Refusal.{Told, told, refused}
use Rattle.journal.specs.declared.entry.Entry.{Entry}
use Rattle.journal.specs.declared.refusal.Refusal.{Refusal}
use Rattle.journal.specs.Entering.{enter_rule}
use Rattle.journal.specs.Racks.{most_entries}
use Rattle.journal.specs.Refusals.{book_refusal}
use Rattle.journal.specs.Replay.{by_stamp}
use Rattle.slips.specs.declared.fault.SlipFault.{SlipFault}
use Rattle.slips.specs.declared.fault.SlipFault.TheVariants.{Refused, Memory}

-- where an accepted slip goes: the rule's list has it at that place, and is by rising stamp if the list was
pub record Admitted {P : Type 0} (es : List (Entry P)) (e : Entry P) (place : ℕ) : Type 0 where
  pub rule : enter_rule most_entries es e ≡ told (insert es place e)
  pub within : place ≤ length es
  pub room : length es < most_entries
  pub rising : by_stamp es ≡ true → by_stamp (insert es place e) ≡ true

-- a place for the slip, or the rule's refusal
abbrev pub Admits : {P : Type 0} → List (Entry P) → Entry P → Result ℕ Refusal → Type 0
Admits es e (Ok place) = Admitted es e place
Admits es e (Err why) = enter_rule most_entries es e ≡ refused (book_refusal why).0 (book_refusal why).1

-- Accepted: the list is what the rule gives. Refused: with the rule's number and values. For want of memory: the rule
-- would have accepted. In the last two cases the list is as it was.
abbrev pub Enters : {P : Type 0} → Told (List (Entry P)) → List (Entry P) → List (Entry P) → Result (Unit {0}) SlipFault → Type 0
Enters rule before after (Ok x) = rule ≡ told after
Enters rule before after (Err (Refused why)) = (rule ≡ refused (book_refusal why).0 (book_refusal why).1) × (after ≡ before)
Enters {P} rule before after (Err Memory) = ((es : List (Entry P)) × (rule ≡ told es)) × (after ≡ before)
