-- Which corrections keep a journal sound, and what lifting a folder off that is never fetched changes.
use Rattle.std.proofs.Common.{◌≡◌, ℕ, suc, ◌<◌, ◌≤◌, Bool, true, false, cond, List, [], ◌∷◌, ◌++◌, length, Some, sym, refl, ap, ◌∙◌, inl, inr, arith}
use Rattle.journal.specs.Movers.{entry_at}
use Rattle.std.proofs.lemmas.Bool.{and_parts, both_ways}
use Rattle.journal.specs.declared.folder.Folder.{Folder}
use Rattle.journal.specs.declared.entry.Entry.{Entry}
use Rattle.journal.specs.declared.entry.Entry.TheVariants.{Arrival, Taking}
use Rattle.journal.specs.declared.row.Row.{Row}
use Rattle.journal.specs.Searches.{earlier}
use Rattle.journal.specs.Folders.{ahead, ahead_of_all, in_order, placed, has_stamp}
use Rattle.journal.specs.Replay.{replay, waiting, sound, first_unserved, by_stamp, dated, entered, struck}
use Rattle.journal.specs.Rows.{entries}
use Rattle.bridges.specs.Racks.{Rising, Stands, Served, gone}
use Rattle.bridges.specs.Soundness.{SoundnessByStock, before_low, new_or_before_low, unserved_entered, unserved_struck}
use Rattle.journal.proofs.Ahead.{Lawful}
use Rattle.bridges.proofs.Racks.{stands_arrival, stands_taking, placed_swap, placed_front}
use Rattle.bridges.proofs.OneMore.{never_served, one_more_served}
use Rattle.bridges.proofs.Journals.{Older, entering, striking, rising_journal, rising_append, older_later, replay_append, served_parts, served_join, served_sound, sound_served, stands_after}
use Rattle.bridges.proofs.Members.{Among, among_right, fetched_not_waiting}
use Rattle.bridges.proofs.Places.{gone_append}
use Rattle.bridges.proofs.Stocks.{entered_by_low, struck_by_low, taking_between_unserved, arrival_between_unserved}

module _ {P : Type 0} (nb : P → P → Bool) (L : Lawful nb) where
  -- a folder that is never fetched can be lifted off at the beginning: nothing else changes
  pub never_fetched : (es : List (Entry P)) (rack : List (Folder P)) (e : Folder P) (st : Stands nb rack es) → e.stamp < st.bound → Served nb (placed nb e rack) es
      → (Among e (gone nb (placed nb e rack) es) → ⊥) → (replay nb (placed nb e rack) es ≡ placed nb e (replay nb rack es)) × Served nb rack es
  never_fetched [] rack e st lt s n = (refl, refl)
  never_fetched (Arrival f ∷ es) rack e st lt s n =
      let swap = placed_swap nb L f e rack (λ q. omega (arith, st.rising.0)) in
      let ih = never_fetched es (placed nb f rack) e (stands_arrival nb L f rack es st) (omega (arith, st.rising.0)) (rw swap at s) (rw swap at n) in
      (ap (λ r. replay nb r es) swap ∙ ih.0, ih.1)
  never_fetched (Taking t ∷ es) [] e st lt s n = absurd (n (inl refl))
  never_fetched (Taking t ∷ es) (y ∷ rack) e st lt s n =
      go (ahead nb e y) s n (λ v k. never_fetched es rack e (stands_taking nb L y t rack es st) (omega (arith, st.rising.0)) v k)
    where
      go : (b : Bool) → Served nb (cond b (e ∷ y ∷ rack) (y ∷ placed nb e rack)) (Taking t ∷ es) → (Among e (gone nb (cond b (e ∷ y ∷ rack) (y ∷ placed nb e rack)) (Taking t ∷ es)) → ⊥)
          → (Served nb (placed nb e rack) es → (Among e (gone nb (placed nb e rack) es) → ⊥) → (replay nb (placed nb e rack) es ≡ placed nb e (replay nb rack es)) × Served nb rack es)
          → (replay nb (cond b (e ∷ y ∷ rack) (y ∷ placed nb e rack)) (Taking t ∷ es) ≡ placed nb e (replay nb rack es)) × Served nb rack es
      go true v k ih = absurd (k (inl refl))
      go false v k ih = ih v (λ m. k (inr m))

  arrival_between_sound : (xs ys : List (Entry P)) (f : Folder P) → Older f.stamp xs → Rising 0 xs → Rising (suc f.stamp) ys → sound nb (xs ++ ys) ≡ true → sound nb (xs ++ Arrival f ∷ ys) ≡ true
  arrival_between_sound xs ys f o r k h =
      let parts = served_parts nb xs ys [] (served_sound _ h) in
      sound_served _ (served_join nb xs (Arrival f ∷ ys) [] parts.0 (one_more_served nb L ys (replay nb [] xs) f (stands_after nb L (suc f.stamp) xs ys r (older_later f.stamp xs o) k) (omega arith) parts.1))

  taking_between_sound : (xs ys : List (Entry P)) (s : ℕ) → Older s xs → Rising 0 xs → Rising (suc s) ys → sound nb (xs ++ Taking s ∷ ys) ≡ true → sound nb (xs ++ ys) ≡ true
  taking_between_sound xs ys s o r k h =
      let parts = served_parts nb xs (Taking s ∷ ys) [] (served_sound _ h) in
      sound_served _ (served_join nb xs ys [] parts.0 (go (replay nb [] xs) (stands_after nb L s xs (Taking s ∷ ys) r o (omega arith, k)) parts.1))
    where
      go : (rack : List (Folder P)) → (st : Stands nb rack (Taking s ∷ ys)) → Served nb rack (Taking s ∷ ys) → Served nb rack ys
      go [] st v = absurd (never_served s v)
      go (z ∷ rack) st v =
          rw (← placed_front nb z rack (and_parts (ahead_of_all nb z rack) (in_order nb rack) st.order).0)
          (one_more_served nb L ys rack z (stands_taking nb L z s rack ys st) (omega (arith, st.below.0, st.rising.0)) v)

  -- an arrival that waits at the end is never fetched, so striking it out takes its folder off and nothing else
  pub waiting_between : (xs ys : List (Entry P)) (f : Folder P) → Older f.stamp xs → Rising 0 xs → Rising (suc f.stamp) ys → sound nb (xs ++ Arrival f ∷ ys) ≡ true
      → has_stamp f.stamp (waiting nb (xs ++ Arrival f ∷ ys)) ≡ true
      → (waiting nb (xs ++ Arrival f ∷ ys) ≡ placed nb f (waiting nb (xs ++ ys))) × (sound nb (xs ++ ys) ≡ true)
  waiting_between xs ys f o r k h w =
      let parts = served_parts nb xs (Arrival f ∷ ys) [] (served_sound _ h) in
      let all : Rising 0 (xs ++ Arrival f ∷ ys) = rising_append 0 f.stamp xs (Arrival f ∷ ys) r o (omega arith) (omega arith, k) in
      let never : Among f (gone nb (placed nb f (replay nb [] xs)) ys) → ⊥
      = λ m. both_ways _ (fetched_not_waiting nb 0 (xs ++ Arrival f ∷ ys) f all (rw (gone_append nb xs (Arrival f ∷ ys) []) (among_right f (gone nb [] xs) _ m))) w in
      let got = never_fetched ys (replay nb [] xs) f (stands_after nb L (suc f.stamp) xs ys r (older_later f.stamp xs o) k) (omega arith) parts.1 never in
      (replay_append nb xs (Arrival f ∷ ys) [] ∙ got.0 ∙ ap (placed nb f) (sym (replay_append nb xs ys [])), sound_served _ (served_join nb xs ys [] parts.0 got.1))

  taking_unserved : (rs : List (Row P)) (s : ℕ) → by_stamp (entries rs) ≡ true → sound nb (entries rs) ≡ true → dated s (entries rs) ≡ false → first_unserved nb (entered (Taking s) (entries rs)) ≡ unserved_entered rs s
  taking_unserved rs s b h d =
      let c = entering 0 (Taking s) (entries rs) (omega arith) (rising_journal (entries rs) b) d in
      ap (first_unserved nb) c.having_is ∙ taking_between_unserved nb rs c.before c.after s c.lacking_is c.older c.rising_after (served_sound _ h)

  arrival_unserved : (rs : List (Row P)) (s : ℕ) (f : Folder P) → by_stamp (entries rs) ≡ true → sound nb (entries rs) ≡ true → entry_at s (entries rs) ≡ Some (Arrival f) → first_unserved nb (struck s (entries rs)) ≡ unserved_struck rs s
  arrival_unserved rs s f b h at =
      let got = striking 0 s (Arrival f) (entries rs) (rising_journal (entries rs) b) at in
      let c = got.2 in
      ap (first_unserved nb) c.lacking_is ∙ arrival_between_unserved nb rs c.before c.after f c.having_is c.older c.rising_after (served_sound _ h) ∙ ap (unserved_struck rs) got.0

  some_row : (rs : List (Row P)) (s : ℕ) (e : Entry P) → entry_at s (entries rs) ≡ Some e → 1 ≤ length rs
  some_row [] s e h = absurd (let z : ◌≡◌ {A = ℕ} 0 1 = cc in omega arith)
  some_row (x ∷ rs) s e h = omega arith

  pub soundness_by_stock : SoundnessByStock nb
  soundness_by_stock = record {
    taking_sound = λ rs s b h d. (
      (λ v. entered_by_low rs s (sym (taking_unserved rs s b h d) ∙ served_sound _ v)),
      (λ e. sound_served _ (taking_unserved rs s b h d ∙ ap (new_or_before_low rs (earlier rs s) s) e)),
    );
    arrival_sound = λ rs s f b h at. (
      (λ v. struck_by_low rs s (some_row rs s (Arrival f) at) (sym (arrival_unserved rs s f b h at) ∙ served_sound _ v)),
      (λ e. sound_served _ (arrival_unserved rs s f b h at ∙ ap (before_low rs) e)),
    );
    taking_entered = taking_unserved;
    arrival_struck = arrival_unserved;
    waiting_struck = λ es s f b h at w. let got = striking 0 s (Arrival f) es (rising_journal es b) at in let c = got.2 in
        rw c.lacking_is (waiting_between c.before c.after f c.older c.rising_before c.rising_after (rw c.having_is at h) (rw c.having_is at (rw (← got.0) at w))).1;
    arrival_entered = λ es f b h d. let c = entering 0 (Arrival f) es (omega arith) (rising_journal es b) d in
        rw c.having_is (arrival_between_sound c.before c.after f c.older c.rising_before c.rising_after (rw c.lacking_is at h));
    taking_struck = λ es s t b h at. let got = striking 0 s (Taking t) es (rising_journal es b) at in let c = got.2 in
        rw c.lacking_is (taking_between_sound c.before c.after t c.older c.rising_before c.rising_after (rw c.having_is at h));
  }
