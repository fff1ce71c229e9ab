-- Each bridge rule finds the mover of the replay.
use Rattle.std.proofs.Common.{◌≡◌, ℕ, suc, ◌-◌, ◌≤◌, Bool, true, false, List, [], ◌∷◌, ◌++◌, length, drop, Some, sym, refl, ap, ◌∙◌, subst, ap₂, inl, inr, arith, length-append}
use Rattle.std.proofs.lemmas.Bool.{both_ways, and_parts}
use Rattle.journal.specs.declared.folder.Folder.{Folder}
use Rattle.journal.specs.declared.entry.Entry.{Entry}
use Rattle.journal.specs.declared.entry.Entry.TheVariants.{Arrival, Taking}
use Rattle.journal.specs.Folders.{ahead_of_all, in_order, placed, has_stamp, hindmost}
use Rattle.journal.specs.Replay.{replay, waiting, sound, entered, struck, folders_of}
use Rattle.journal.specs.Rows.{entries, marked}
use Rattle.journal.specs.Searches.{earlier}
use Rattle.journal.specs.Movers.{fetched_from, arrival_mover, taking_mover}
use Rattle.bridges.specs.Racks.{Rising, Stands, Served, gone}
use Rattle.bridges.specs.Counting.{rack_at}
use Rattle.bridges.specs.Movers.{OneApart}
use Rattle.bridges.specs.Rules.{hinder, hindmost_since_bridge, foremost_before_bridge, arrival_rule, taking_rule, fetched_revoked_rule, taking_revoked_rule, BridgesFindMovers}
use Rattle.journal.proofs.Ahead.{Lawful}
use Rattle.bridges.proofs.Racks.{placed_front, stands_taking, rising_earlier}
use Rattle.bridges.proofs.OneMore.{never_served}
use Rattle.bridges.proofs.Counts.{one_apart}
use Rattle.bridges.proofs.Members.{Among, among_has_stamp, among_placed, placed_among}
use Rattle.bridges.proofs.Journals.{Older, Corrected, entering, striking, rising_journal, older_later, replay_append, served_parts, served_sound, fetches_from_append, stands_after}
use Rattle.bridges.proofs.Places.{rack_seam, drop_seam, length_seam, rack_next, drop_next}
use Rattle.bridges.proofs.Movers.{arrival_corrected, taking_corrected}
use Rattle.bridges.proofs.Bridges.{Settled, settled}
use Rattle.bridges.proofs.Soundness.{waiting_between}
use Rattle.bridges.proofs.LastBridge.{later}
use Rattle.bridges.proofs.FirstBridge.{Trails, lacks}
use Rattle.bridges.proofs.Stocks.{earlier_parts}
use Rattle.bridges.proofs.Marked.{entries_of_rows}
use Rattle.bridges.proofs.Rules.{hinder_of, since_bridge, first_bridge, before_bridge}

module _ {P : Type 0} (nb : P → P → Bool) where
  later_seam : (es xs ys : List (Entry P)) → es ≡ xs ++ ys → later nb es (length xs) ≡ gone nb (replay nb [] xs) ys
  later_seam es xs ys e = ap₂ (gone nb) (rack_seam nb es xs ys e) (drop_seam es xs ys e)

  -- those fetched at a stamp or later are those fetched after the place of the stamp
  fetched_from_later : (s : ℕ) (es xs ys : List (Entry P)) → es ≡ xs ++ ys → Older s xs → Rising s ys → fetched_from nb s es ≡ later nb es (length xs)
  fetched_from_later s es xs ys e o r = ap (fetched_from nb s) e ∙ ap folders_of (fetches_from_append nb s xs ys [] o r) ∙ sym (later_seam es xs ys e)

  place_of_stamp : (s : ℕ) (es xs ys : List (Entry P)) → es ≡ xs ++ ys → Older s xs → Rising s ys → earlier (marked nb es) s ≡ length xs
  place_of_stamp s es xs ys e o r = earlier_parts s xs ys (marked nb es) (entries_of_rows (waiting nb es) es ∙ e) o r

  -- two lists differ by one folder only
  pub apart_same : (m n : Folder P) (fewer more : List (Folder P)) → OneApart nb m fewer more → OneApart nb n fewer more → m ≡ n
  apart_same m n fewer more a b = go (placed_among nb m n fewer (subst (λ l. Among m l) (sym a.joined ∙ b.joined) (among_placed nb m m fewer (inl refl))))
    where
      go : Among m (n ∷ fewer) → m ≡ n
      go (inl e) = e
      go (inr k) = absurd (both_ways _ a.new (among_has_stamp m fewer k))

module _ {P : Type 0} (nb : P → P → Bool) (L : Lawful nb) where
  -- who is hindmost since the last bridge
  since_stamp : (s : ℕ) (es xs ys : List (Entry P)) → Rising 0 es → Served nb [] es → es ≡ xs ++ ys → Older s xs → Rising s ys
      → hindmost_since_bridge nb (marked nb es) (earlier (marked nb es) s) ≡ hindmost nb (fetched_from nb s es)
  since_stamp s es xs ys r v e o k =
      ap (hindmost_since_bridge nb (marked nb es)) (place_of_stamp nb s es xs ys e o k)
      ∙ since_bridge nb L es r v (length xs) (length_seam es xs ys e)
      ∙ ap (hindmost nb) (sym (fetched_from_later nb s es xs ys e o k))

  -- who is foremost before the first bridge from a place, where the corrected journal's rack at the place lacks one folder
  before_place : (q : ℕ) (es corrected : List (Entry P)) (fewer : List (Folder P)) → Rising 0 es → Served nb [] es → q ≤ length es → Trails nb L (rack_at nb es q) fewer (drop q es)
      → waiting nb corrected ≡ replay nb fewer (drop q es) → (m : Folder P) → OneApart nb m (waiting nb corrected) (waiting nb es) → foremost_before_bridge nb (marked nb es) q ≡ Some m
  before_place q es corrected fewer r v le tr w m a =
      let fb = first_bridge nb L es r v q le in
      let got = lacks nb L es r v (fb.0 - q) q fb.0 (omega (arith, fb.1.after)) fb.1.within fb.1.safe fb.1.doomed fewer tr in
      let joined : waiting nb es ≡ placed nb got.0 (waiting nb corrected) = got.3 ∙ ap (placed nb got.0) (sym w) in
      before_bridge nb L es r v q fb.0 fb.1 got.0 got.1 got.2
      ∙ ap Some (apart_same nb got.0 m (waiting nb corrected) (waiting nb es) (one_apart nb L got.0 (waiting nb corrected) es r joined) a)

  taking_found : (s : ℕ) (es having : List (Entry P)) → Rising 0 es → Served nb [] es → Corrected 0 (Taking s) es having → sound nb having ≡ true
      → foremost_before_bridge nb (marked nb es) (earlier (marked nb es) s) ≡ taking_mover nb having s
  taking_found s es having r v c h =
      let xs = c.before in
      let ys = c.after in
      let moved = taking_corrected nb L s es having c h in
      let served = (served_parts nb xs (Taking s ∷ ys) [] (served_sound _ (rw c.having_is at h))).1 in
      let place = place_of_stamp nb s es xs ys c.lacking_is c.older (rising_earlier s (suc s) ys (omega arith) c.rising_after) in
      ap (foremost_before_bridge nb (marked nb es)) place
      ∙ go (replay nb [] xs) refl (stands_after nb L s xs (Taking s ∷ ys) c.rising_before c.older (omega arith, c.rising_after)) served moved.0 moved.2
      ∙ sym moved.1
    where
      go : (rack : List (Folder P)) → replay nb [] c.before ≡ rack → (st : Stands nb rack (Taking s ∷ c.after)) → Served nb rack (Taking s ∷ c.after) → (m : Folder P) → OneApart nb m (waiting nb having) (waiting nb es)
          → foremost_before_bridge nb (marked nb es) (length c.before) ≡ Some m
      go [] at st k m a = absurd (never_served s k)
      go (z ∷ rack) at st k m a =
          let rest-is = drop_seam es c.before c.after c.lacking_is in
          let on = stands_taking nb L z s rack c.after st in
          let here : rack_at nb es (length c.before) ≡ z ∷ rack = rack_seam nb es c.before c.after c.lacking_is ∙ at in
          before_place (length c.before) es having rack r v (length_seam es c.before c.after c.lacking_is)
          (record {
            lacking = z;
            more = here ∙ sym (placed_front nb z rack (and_parts (ahead_of_all nb z rack) (in_order nb rack) st.order).0);
            stands = record { bound = on.bound; below = on.below; order = on.order; rising = rw rest-is on.rising };
            old = omega (arith, st.below.0, st.rising.0);
            served = rw rest-is k;
            fetched_or_first = inr here;
          })
          (ap (waiting nb) c.having_is ∙ replay_append nb c.before (Taking s ∷ c.after) [] ∙ ap (λ l. replay nb l (Taking s ∷ c.after)) at ∙ ap (replay nb rack) (sym rest-is))
          m a

  fetched_found : (f : Folder P) (es lacking : List (Entry P)) → Rising 0 es → Served nb [] es → Corrected 0 (Arrival f) lacking es → has_stamp f.stamp (waiting nb es) ≡ false → sound nb lacking ≡ true
      → foremost_before_bridge nb (marked nb es) (suc (earlier (marked nb es) f.stamp)) ≡ Some (arrival_mover nb lacking f)
  fetched_found f es lacking r v c w h =
      let xs = c.before in
      let ys = c.after in
      let place = place_of_stamp nb f.stamp es xs (Arrival f ∷ ys) c.having_is c.older (omega arith, c.rising_after) in
      let rest-is = drop_next es xs ys (Arrival f) c.having_is in
      let here = rack_next nb es xs ys (Arrival f) c.having_is in
      let on = stands_after nb L (suc f.stamp) xs ys c.rising_before (older_later f.stamp xs c.older) c.rising_after in
      let served = (served_parts nb xs ys [] (served_sound _ (rw c.lacking_is at h))).1 in
      ap (λ q. foremost_before_bridge nb (marked nb es) (suc q)) place
      ∙ before_place (suc (length xs)) es lacking (replay nb [] xs) r v (omega (arith, ap length c.having_is, length-append xs (Arrival f ∷ ys)))
      (record {
        lacking = f;
        more = here;
        stands = record { bound = on.bound; below = on.below; order = on.order; rising = rw rest-is on.rising };
        old = omega arith;
        served = rw rest-is served;
        fetched_or_first = inl (go (settled nb es (suc (length xs)) f r (rw here (among_placed nb f f (replay nb [] xs) (inl refl)))));
      })
      (ap (waiting nb) c.lacking_is ∙ replay_append nb xs ys [] ∙ ap (replay nb (replay nb [] xs)) (sym rest-is))
      (arrival_mover nb lacking f) (arrival_corrected nb L f lacking es c h)
    where
      go : Settled nb es (suc (length c.before)) f → Among f (later nb es (suc (length c.before)))
      go (inl k) = absurd (both_ways _ w k.0)
      go (inr k) = k.1

  waiting_found : (f : Folder P) (es lacking : List (Entry P)) → Rising 0 es → sound nb es ≡ true → Corrected 0 (Arrival f) lacking es → has_stamp f.stamp (waiting nb es) ≡ true
      → f ≡ arrival_mover nb lacking f
  waiting_found f es lacking r v c w =
      let got = waiting_between nb L c.before c.after f c.older c.rising_before c.rising_after (rw c.having_is at v) (rw c.having_is at w) in
      let joined : waiting nb es ≡ placed nb f (waiting nb lacking) = ap (waiting nb) c.having_is ∙ got.0 ∙ ap (λ l. placed nb f (waiting nb l)) (sym c.lacking_is) in
      let s : sound nb lacking ≡ true = rw c.lacking_is got.1 in
      apart_same nb f (arrival_mover nb lacking f) (waiting nb lacking) (waiting nb es) (one_apart nb L f (waiting nb lacking) es r joined) (arrival_corrected nb L f lacking es c s)

  pub bridges_find_movers : BridgesFindMovers nb
  bridges_find_movers = record {
    arrival = λ rs f k d.
        let es = entries rs in
        let r = rising_journal es k.order in
        let c = entering 0 (Arrival f) es (omega arith) r d in
        ap (λ l. arrival_rule nb l f) k.marks
        ∙ ap (hinder nb f) (since_stamp f.stamp es c.before c.after r (served_sound _ k.served) c.lacking_is c.older (rising_earlier f.stamp (suc f.stamp) c.after (omega arith) c.rising_after))
        ∙ hinder_of nb L f (fetched_from nb f.stamp es);
    taking = λ rs s k d h.
        let es = entries rs in
        let r = rising_journal es k.order in
        ap (λ l. taking_rule nb l s) k.marks ∙ taking_found s es (entered (Taking s) es) r (served_sound _ k.served) (entering 0 (Taking s) es (omega arith) r d) h;
    waiting_revoked = λ rs s f k at w.
        let es = entries rs in
        let r = rising_journal es k.order in
        let got = striking 0 s (Arrival f) es r at in
        waiting_found f es (struck s es) r k.served got.2 (rw (← got.0) at w);
    fetched_revoked = λ rs s f k at w h.
        let es = entries rs in
        let r = rising_journal es k.order in
        let got = striking 0 s (Arrival f) es r at in
        ap (λ l. fetched_revoked_rule nb l s) k.marks ∙ ap (fetched_revoked_rule nb (marked nb es)) (sym got.0)
        ∙ fetched_found f es (struck s es) r (served_sound _ k.served) got.2 (rw (← got.0) at w) h;
    taking_revoked = λ rs s t k at.
        let es = entries rs in
        let r = rising_journal es k.order in
        let got = striking 0 s (Taking t) es r at in
        let c = got.2 in
        ap (λ l. taking_revoked_rule nb l s) k.marks ∙ ap (taking_revoked_rule nb (marked nb es)) (sym got.0)
        ∙ since_stamp t es c.before (Taking t ∷ c.after) r (served_sound _ k.served) c.having_is c.older (omega arith, c.rising_after)
        ∙ ap (λ n. taking_mover nb es n) got.0;
  }
