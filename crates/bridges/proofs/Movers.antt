-- The mover's law, from one folder more.
use Rattle.std.proofs.Common.{◌≡◌, ℕ, suc, Bool, List, [], ◌∷◌, ◌++◌, Some, sym, refl, ap, ◌∙◌, subst₂, arith}
use Rattle.std.proofs.lemmas.Bool.{and_parts}
use Rattle.journal.specs.declared.folder.Folder.{Folder}
use Rattle.journal.specs.declared.entry.Entry.{Entry}
use Rattle.journal.specs.declared.entry.Entry.TheVariants.{Arrival, Taking}
use Rattle.journal.specs.Folders.{placed, hindmost_of, hindmost, ahead_of_all, in_order}
use Rattle.journal.specs.Replay.{replay, waiting, entered, struck, folders_of}
use Rattle.journal.specs.Movers.{arrival_mover, taking_mover}
use Rattle.bridges.specs.Racks.{Rising, Stands, Served, gone}
use Rattle.bridges.specs.Movers.{OneApart, ArrivalMoves, TakingMoves, MoversLaw}
use Rattle.journal.proofs.Ahead.{Lawful}
use Rattle.bridges.proofs.Racks.{rising_earlier, placed_front, stands_taking}
use Rattle.bridges.proofs.OneMore.{one_more, never_served}
use Rattle.bridges.proofs.Journals.{Older, Corrected, entering, striking, rising_journal, rising_append, older_later, replay_append, served_parts, served_sound, fetches_from_append, stands_after, order_replay}
use Rattle.bridges.proofs.Counts.{one_apart}

module _ {P : Type 0} (nb : P → P → Bool) (L : Lawful nb) where
  arrival_between : (xs ys : List (Entry P)) (f : Folder P) → Older f.stamp xs → Rising 0 xs → Rising (suc f.stamp) ys → ArrivalMoves nb (xs ++ ys) (xs ++ Arrival f ∷ ys) f
  arrival_between xs ys f o r k s =
      one_apart nb L (arrival_mover nb (xs ++ ys) f) (waiting nb (xs ++ ys)) (xs ++ Arrival f ∷ ys) (rising_append 0 f.stamp xs (Arrival f ∷ ys) r o (omega arith) (omega arith, k))
      (replay_append nb xs (Arrival f ∷ ys) []
      ∙ one_more nb L ys (replay nb [] xs) f (stands_after nb L (suc f.stamp) xs ys r (older_later f.stamp xs o) k) (omega arith) (served_parts nb xs ys [] (served_sound _ s)).1
      ∙ ap (λ l. placed nb (hindmost_of nb f (folders_of l)) (replay nb (replay nb [] xs) ys)) (sym (fetches_from_append nb f.stamp xs ys [] o (rising_earlier _ _ ys (omega arith) k)))
      ∙ ap (λ l. placed nb (arrival_mover nb (xs ++ ys) f) l) (sym (replay_append nb xs ys [])))

  taking_between : (xs ys : List (Entry P)) (s : ℕ) → Older s xs → Rising 0 xs → Rising (suc s) ys → TakingMoves nb (xs ++ ys) (xs ++ Taking s ∷ ys) s
  taking_between xs ys s o r k h =
      let served = (served_parts nb xs (Taking s ∷ ys) [] (served_sound _ h)).1 in
      go (replay nb [] xs) refl (stands_after nb L s xs (Taking s ∷ ys) r o (omega arith, k)) served
    where
      go : (rack : List (Folder P)) → replay nb [] xs ≡ rack → (st : Stands nb rack (Taking s ∷ ys)) → Served nb rack (Taking s ∷ ys)
          → (m : Folder P) × (taking_mover nb (xs ++ Taking s ∷ ys) s ≡ Some m) × OneApart nb m (waiting nb (xs ++ Taking s ∷ ys)) (waiting nb (xs ++ ys))
      go [] at st v = absurd (never_served s v)
      go (z ∷ rack) at st v =
          let m = hindmost_of nb z (gone nb rack ys) in
          let from : folders_of (Rattle.journal.specs.Replay.fetches_from s (Rattle.journal.specs.Replay.fetches nb [] (xs ++ Taking s ∷ ys))) ≡ z ∷ gone nb rack ys
          = ap folders_of (fetches_from_append nb s xs (Taking s ∷ ys) [] o (omega arith, k)) ∙ ap (λ q. gone nb q (Taking s ∷ ys)) at in
          let having : waiting nb (xs ++ Taking s ∷ ys) ≡ replay nb rack ys = replay_append nb xs (Taking s ∷ ys) [] ∙ ap (λ q. replay nb q (Taking s ∷ ys)) at in
          let lacking : waiting nb (xs ++ ys) ≡ replay nb (z ∷ rack) ys = replay_append nb xs ys [] ∙ ap (λ q. replay nb q ys) at in
          let more : replay nb (z ∷ rack) ys ≡ placed nb m (replay nb rack ys)
          = ap (λ q. replay nb q ys) (sym (placed_front nb z rack (and_parts (ahead_of_all nb z rack) (in_order nb rack) st.order).0))
          ∙ one_more nb L ys rack z (stands_taking nb L z s rack ys st) (omega (arith, st.below.0, st.rising.0)) v in (
            m,
            ap (hindmost nb) from,
            one_apart nb L m (waiting nb (xs ++ Taking s ∷ ys)) (xs ++ ys) (rising_append 0 (suc s) xs ys r (older_later s xs o) (omega arith) k)
                (lacking ∙ more ∙ ap (placed nb m) (sym having)),
          )

  pub arrival_corrected : (f : Folder P) (lacking having : List (Entry P)) → Corrected 0 (Arrival f) lacking having → ArrivalMoves nb lacking having f
  arrival_corrected f lacking having c =
      subst₂ (λ l h. ArrivalMoves nb l h f) (sym c.lacking_is) (sym c.having_is) (arrival_between c.before c.after f c.older c.rising_before c.rising_after)

  pub taking_corrected : (s : ℕ) (lacking having : List (Entry P)) → Corrected 0 (Taking s) lacking having → TakingMoves nb lacking having s
  taking_corrected s lacking having c =
      subst₂ (λ l h. TakingMoves nb l h s) (sym c.lacking_is) (sym c.having_is) (taking_between c.before c.after s c.older c.rising_before c.rising_after)

  pub movers_law : MoversLaw nb
  movers_law = record {
    waiting_order = λ es b. order_replay nb L 0 es [] tt (rising_journal es b) refl;
    arrival_entered = λ es f b d. arrival_corrected f es (entered (Arrival f) es) (entering 0 (Arrival f) es (omega arith) (rising_journal es b) d);
    arrival_struck = λ es s f b h. arrival_corrected f (struck s es) es (striking 0 s (Arrival f) es (rising_journal es b) h).2;
    taking_entered = λ es s b d. taking_corrected s es (entered (Taking s) es) (entering 0 (Taking s) es (omega arith) (rising_journal es b) d);
    taking_struck = λ es s t b h. let got = striking 0 s (Taking t) es (rising_journal es b) h in rw got.0 at (taking_corrected t (struck s es) es got.2);
  }
