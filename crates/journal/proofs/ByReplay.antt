-- The short journals, by replaying them.
use Rattle.std.proofs.Common.{refl}
use Rattle.journal.specs.ShortJournals.{ShortJournals}

pub short_journals : ShortJournals
short_journals = record {
  empty_taking = record { sound_before = refl; first = refl };
  tie_goes_by_stamp = record { sound_before = refl; sound_after = refl; waiting_before = refl; waiting_after = refl };
  earlier_arrival = record { sound_before = refl; sound_after = refl; waiting_before = refl; waiting_after = refl };
  later_taking_suffers = record { sound_before = refl; first = refl };
  taking_before_all = record { sound_before = refl; first = refl };
  fetched_struck = record { sound_before = refl; sound_after = refl; waiting_before = refl; waiting_after = refl };
  taking_struck = record { sound_before = refl; sound_after = refl; waiting_before = refl; waiting_after = refl };
  waiting_struck = record { sound_before = refl; sound_after = refl; waiting_before = refl; waiting_after = refl };
  light_arrival = record { sound_before = refl; sound_after = refl; waiting_before = refl; waiting_after = refl };
  heavy_arrival = record { sound_before = refl; sound_after = refl; waiting_before = refl; waiting_after = refl };
  fetched_struck_unserved = record { sound_before = refl; first = refl };
  earlier_fetch_stays = record { sound_before = refl; sound_after = refl; waiting_before = refl; waiting_after = refl };
}
