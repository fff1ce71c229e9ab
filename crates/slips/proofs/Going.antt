-- A replay under way: the rack so far, with the entries still to come, leaves what the whole journal leaves.
use Rattle.std.proofs.Common.{◌≡◌, ℕ, ◌+◌, ◌<◌, ◌≤◌, Bool, true, false, ◌&&◌, List, [], ◌∷◌, length, get_or, drop, None, Err, Result, sym, refl, ap, ◌∙◌, subst, arith}
use Rattle.std.proofs.lemmas.Bool.Decides.{nat_tests}
use Rattle.orders.specs.Refusal.{Told, told, refused, reply}
use Rattle.journal.specs.declared.entry.Entry.{Entry}
use Rattle.journal.specs.declared.entry.Entry.TheVariants.{Arrival, Taking}
use Rattle.journal.specs.declared.folder.Folder.{Folder}
use Rattle.journal.specs.declared.refusal.ListRefusal.{ListRefusal}
use Rattle.journal.specs.Folders.{in_order, placed, rest}
use Rattle.journal.specs.Racks.{holds, put_rule}
use Rattle.journal.specs.Refusals.{accepted, list_refusal}
use Rattle.journal.specs.Replay.{stamp_of, by_stamp, rack_after, replay, fetches, first_empty, waiting, first_unserved}
use Rattle.journal.proofs.Ahead.{Lawful}
use Rattle.journal.proofs.Placed.{length_placed, placed_ordered}
use Rattle.slips.specs.Into.{before_stamp, Ready}
use Rattle.slips.proofs.Dated.{drop_next, first_above, rising_parts}

-- what a rack replies where the rule accepts
pub not_refused : {A : Type 0} (rule : Told A) (a : A) (r : Result (Unit {0}) ListRefusal) (e : ListRefusal) → reply list_refusal r ≡ accepted rule → rule ≡ told a → r ≡ Err e → ⊥
not_refused rule a r e replied accepts is =
    let so : ◌≡◌ {A = Told (Unit {0})} (refused (list_refusal e).0 (list_refusal e).1) (told tt) = sym (ap (reply list_refusal) is) ∙ replied ∙ ap accepted accepts in
    let z : ◌≡◌ {A = ℕ} 0 1 = cc in
    omega arith

module _ {P : Type 0} (nb : P → P → Bool) where
  -- what is earlier has not the stamp
  earlier_not_held : (p : P) (s : ℕ) (fs : List (Folder P)) → before_stamp s fs ≡ true → holds nb p s fs ≡ false
  earlier_not_held p s [] h = refl
  earlier_not_held p s (f ∷ fs) h = let ih = earlier_not_held p s fs in grind (arith, nat_tests)

  pub ready_put : (capacity : ℕ) (fs : List (Folder P)) (f : Folder P) → Ready nb capacity fs (Arrival f) → put_rule nb capacity fs f ≡ told (placed nb f fs)
  ready_put capacity fs f r =
      let free = earlier_not_held f.priority f.stamp fs r.earlier in
      let room = r.room in
      grind (arith, nat_tests)

  before_later : (s t : ℕ) (fs : List (Folder P)) → s ≤ t → before_stamp s fs ≡ true → before_stamp t fs ≡ true
  before_later s t [] le h = refl
  before_later s t (f ∷ fs) le h = let ih = before_later s t fs le in grind (arith, nat_tests)

  before_placed : (t : ℕ) (f : Folder P) (fs : List (Folder P)) → f.stamp < t → before_stamp t fs ≡ true → before_stamp t (placed nb f fs) ≡ true
  before_placed t f [] lt h = grind (arith, nat_tests)
  before_placed t f (g ∷ gs) lt h = let ih = before_placed t f gs lt in grind (arith, nat_tests)

  before_rest : (t : ℕ) (fs : List (Folder P)) → before_stamp t fs ≡ true → before_stamp t (rest fs) ≡ true
  before_rest t [] h = refl
  before_rest t (f ∷ fs) h = grind arith

  -- after an entry's turn all that stands is earlier than any later stamp
  before_next : (t : ℕ) (fs : List (Folder P)) (e : Entry P) → stamp_of e < t → before_stamp (stamp_of e) fs ≡ true → before_stamp t (rack_after nb fs e) ≡ true
  before_next t fs (Arrival f) lt h = before_placed t f fs lt (before_later f.stamp t fs (omega arith) h)
  before_next t fs (Taking s) lt h = before_rest t fs (before_later s t fs (omega arith) h)

  -- the entry to come next finds all that stands earlier
  abbrev fresh : List (Folder P) → List (Entry P) → Bool
  fresh fs [] = true
  fresh fs (e ∷ es) = before_stamp (stamp_of e) fs

  pub record Going (es : List (Entry P)) (fs : List (Folder P)) (i : ℕ) : Type 0 where
    pub ordered : in_order nb fs ≡ true
    pub few : length fs ≤ i
    pub earlier : fresh fs (drop i es) ≡ true
    pub rising : by_stamp (drop i es) ≡ true
    pub leaves : replay nb fs (drop i es) ≡ waiting nb es
    pub serves : first_empty (fetches nb fs (drop i es)) ≡ first_unserved nb es

  -- the first entry's fetch, and the rest's
  fetches_first : (fs : List (Folder P)) (e : Entry P) (es : List (Entry P)) → first_empty (fetches nb fs (e ∷ [])) ≡ None → first_empty (fetches nb fs (e ∷ es)) ≡ first_empty (fetches nb (rack_after nb fs e) es)
  fetches_first fs (Arrival f) es h = refl
  fetches_first [] (Taking s) es h = let z : ◌≡◌ {A = ℕ} 0 1 = cc in absurd (let o : ⊥ = omega arith in o)
  fetches_first (f ∷ fs) (Taking s) es h = refl

module _ {P : Type 0} (nb : P → P → Bool) (L : Lawful nb) where
  ordered_after : (fs : List (Folder P)) (e : Entry P) → in_order nb fs ≡ true → before_stamp (stamp_of e) fs ≡ true → in_order nb (rack_after nb fs e) ≡ true
  ordered_after fs (Arrival f) o b = placed_ordered nb L f fs o (earlier_not_held nb f.priority f.stamp fs b)
  ordered_after [] (Taking s) o b = refl
  ordered_after (f ∷ fs) (Taking s) o b = grind arith

  few_after : (fs : List (Folder P)) (e : Entry P) (i : ℕ) → length fs ≤ i → length (rack_after nb fs e) ≤ i + 1
  few_after fs (Arrival f) i h = omega (arith, length_placed nb f fs)
  few_after [] (Taking s) i h = omega arith
  few_after (f ∷ fs) (Taking s) i h = omega arith

  pub going_on : (es : List (Entry P)) (fs gs : List (Folder P)) (i : ℕ) (e : Entry P) → Going nb es fs i → i < length es → e ≡ get_or es i e
      → gs ≡ rack_after nb fs e → first_empty (fetches nb fs (e ∷ [])) ≡ None → Going nb es gs (i + 1)
  going_on es fs gs i e go lt is after served =
      let next : drop i es ≡ e ∷ drop (i + 1) es = drop_next es i e lt is in
      let here : before_stamp (stamp_of e) fs ≡ true = sym (ap (fresh nb fs) next) ∙ go.earlier in
      let parts : (first_above (stamp_of e) (drop (i + 1) es) && by_stamp (drop (i + 1) es)) ≡ true = sym (rising_parts e (drop (i + 1) es)) ∙ sym (ap by_stamp next) ∙ go.rising in
      subst (λ (hs : List (Folder P)). Going nb es hs (i + 1)) (sym after)
      (record {
        ordered = ordered_after fs e go.ordered here;
        few = few_after fs e i go.few;
        earlier = fresh_after (drop (i + 1) es) parts here;
        rising = grind arith;
        leaves = sym (ap (replay nb fs) next) ∙ go.leaves;
        serves = sym (fetches_first nb fs e (drop (i + 1) es) served) ∙ sym (ap (λ ds. first_empty (fetches nb fs ds)) next) ∙ go.serves;
      })
    where
      fresh_after : (ds : List (Entry P)) → (first_above (stamp_of e) ds && by_stamp ds) ≡ true → before_stamp (stamp_of e) fs ≡ true → fresh nb (rack_after nb fs e) ds ≡ true
      fresh_after [] h b = refl
      fresh_after (d ∷ ds) h b = before_next nb (stamp_of d) fs e (grind (arith, nat_tests)) b
