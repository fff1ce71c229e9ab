-- What a rack over a list by place has done, in each case of what a search for the key told.
use Rattle.std.proofs.Common.{◌≡◌, ℕ, ◌<◌, ◌≤◌, Bool, true, false, List, [], length, sym, refl, ap, ◌∙◌, arith, length-append, length-drop, length-take}
use Rattle.std.specs.List.{insert, remove}
use Rattle.std.proofs.lemmas.List.{map-append, take-map, drop-map}
use Rattle.std.proofs.lemmas.Bool.Decides.{nat_tests}
use Rattle.orders.specs.Refusal.{Told, told, refused}
use Rattle.journal.specs.declared.folder.Folder.{Folder}
use Rattle.journal.specs.Folders.{in_order, placed}
use Rattle.journal.specs.Racks.{holds, taken_out, put_rule, remove_rule, Changed}
use Rattle.journal.specs.Refusals.{accepted, later}
use Rattle.journal.proofs.Ahead.{Lawful}
use Rattle.journal.proofs.Placed.{placed_ordered, taken_out_ordered}
use Rattle.folders.specs.declared.element.Racked.{Racked}
use Rattle.folders.specs.Lasts.{folders_in}
use Rattle.folders.specs.Ranks.{rank, Finds}
use Rattle.folders.proofs.Ranked.{placed_by_rank, taken_out_by_rank}

module _ {P : Type 0} where
  -- an element put into a list, or taken out of it, is its folder put in or taken out
  pub folders_inserted : (rs : List (Racked P)) (place : ℕ) (r : Racked P) → folders_in (insert rs place r) ≡ insert (folders_in rs) place r.folder
  folders_inserted rs place r = simp (map-append, take-map, drop-map)

  pub folders_removed : (rs : List (Racked P)) (place : ℕ) → folders_in (remove rs place) ≡ remove (folders_in rs) place
  folders_removed rs place = simp (map-append, take-map, drop-map)

module _ {P : Type 0} (nb : P → P → Bool) (capacity : ℕ) (rule : Told (List (Folder P))) (before : List (Folder P)) where
  -- a refusal, by the rule where the folders are in order
  refuses : (n : ℕ) (vs : List ℕ) → length before ≤ capacity → (in_order nb before ≡ true → rule ≡ refused n vs) → Changed nb capacity rule before before (refused n vs)
  refuses n vs fits is = record {
    replied = λ o. ap accepted (sym (is o));
    followed = λ o. ap (λ r. later r before) (sym (is o));
    kept = λ o. o;
    within = fits;
    untouched = λ n vs e. refl;
  }

  -- a change, by the rule where the folders are in order
  accepts : (after : List (Folder P)) → length after ≤ capacity → (in_order nb before ≡ true → (rule ≡ told after) × (in_order nb after ≡ true)) → Changed nb capacity rule before after (told tt)
  accepts after fits is = record {
    replied = λ o. ap accepted (sym (is o).0);
    followed = λ o. ap (λ r. later r before) (sym (is o).0);
    kept = λ o. (is o).1;
    within = fits;
    untouched = λ n vs e. let z : ◌≡◌ {A = ℕ} 0 1 = cc in absurd (let o : ⊥ = omega arith in o);
  }

module _ {P : Type 0} (nb : P → P → Bool) (L : Lawful nb) (fs : List (Folder P)) where
  module _ (capacity : ℕ) (f : Folder P) (place : ℕ) where
    pub put_present : length fs ≤ capacity → Finds nb f.priority f.stamp fs (place, true) → Changed nb capacity (put_rule nb capacity fs f) fs fs (refused 4 [])
    put_present fits found = refuses nb capacity (put_rule nb capacity fs f) fs 4 [] fits (λ o. let h : true ≡ holds nb f.priority f.stamp fs = ap (λ r. r.1) (found o) in grind (arith, nat_tests))

    pub put_full : length fs ≤ capacity → capacity ≤ length fs → Finds nb f.priority f.stamp fs (place, false) → Changed nb capacity (put_rule nb capacity fs f) fs fs (refused 6 [])
    put_full fits full found = refuses nb capacity (put_rule nb capacity fs f) fs 6 [] fits (λ o. let h : false ≡ holds nb f.priority f.stamp fs = ap (λ r. r.1) (found o) in grind (arith, nat_tests))

    pub put_done : length fs < capacity → Finds nb f.priority f.stamp fs (place, false) → Changed nb capacity (put_rule nb capacity fs f) fs (insert fs place f) (told tt)
    put_done room found =
        accepts nb capacity (put_rule nb capacity fs f) fs (insert fs place f) (simp (length-append, length-take, length-drop) (omega arith))
        (λ o.
        let at : place ≡ rank nb f.priority f.stamp fs = ap (λ r. r.0) (found o) in
        let h : holds nb f.priority f.stamp fs ≡ false = sym (ap (λ r. r.1) (found o)) in
        let is : placed nb f fs ≡ insert fs place f = placed_by_rank nb L f fs o h ∙ ap (λ k. insert fs k f) (sym at) in
        let rule : put_rule nb capacity fs f ≡ told (placed nb f fs) = grind (arith, nat_tests) in
        (rule ∙ ap told is, ap (in_order nb) (sym is) ∙ placed_ordered nb L f fs o h))

  module _ (capacity : ℕ) (p : P) (s place : ℕ) (fits : length fs ≤ capacity) where
    pub remove_absent : Finds nb p s fs (place, false) → Changed nb capacity (remove_rule nb fs p s) fs fs (refused 5 [])
    remove_absent found = refuses nb capacity (remove_rule nb fs p s) fs 5 [] fits (λ o. let h : false ≡ holds nb p s fs = ap (λ r. r.1) (found o) in grind (arith, nat_tests))

    pub remove_done : Finds nb p s fs (place, true) → Changed nb capacity (remove_rule nb fs p s) fs (remove fs place) (told tt)
    remove_done found =
        accepts nb capacity (remove_rule nb fs p s) fs (remove fs place) (simp (length-append, length-take, length-drop) (omega arith))
        (λ o.
        let at : place ≡ rank nb p s fs = ap (λ r. r.0) (found o) in
        let h : holds nb p s fs ≡ true = sym (ap (λ r. r.1) (found o)) in
        let is : taken_out nb p s fs ≡ remove fs place = taken_out_by_rank nb L p s fs o h ∙ ap (remove fs) (sym at) in
        let rule : remove_rule nb fs p s ≡ told (taken_out nb p s fs) = grind (arith, nat_tests) in
        (rule ∙ ap told is, ap (in_order nb) (sym is) ∙ taken_out_ordered nb p s fs o))
