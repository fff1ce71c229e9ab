-- The summary of a tree has the hindmost fetched folder and the foremost waiting one.
use Rattle.std.proofs.Common.{◌≡◌, ℕ, ◌<◌, ◌≤◌, min, Bool, cond, ◌⊎◌, List, [], ◌∷◌, ◌++◌, length, take, drop, Some, None, Option, sym, refl, ap, ◌∙◌, inl, inr, arith, take_all}
use mathlib.Core.List.{map-append}
use Rattle.std.specs.Option.{option_map}
use Rattle.std.proofs.lemmas.List.{drop_all, take-map, drop-map}
use Rattle.std.proofs.lemmas.Bool.{cases_lt}
use Rattle.nodes.specs.Tree.{Tree, leaf, branch, items, summary}
use Rattle.nodes.specs.Summaries.{Summarizes}
use Rattle.journal.specs.declared.folder.Folder.{Folder}
use Rattle.journal.specs.declared.row.Row.{Row}
use Rattle.journal.specs.declared.row.Row.TheVariants.{Arrival, Taking}
use Rattle.journal.specs.declared.row.Mark.{Mark}
use Rattle.journal.specs.declared.row.Mark.TheVariants.{Waiting, Fetched}
use Rattle.journal.specs.Folders.{ahead, hindmost, hindmost_of, foremost, foremost_of}
use Rattle.journal.specs.Searches.{earlier, place_in, with_marked, folders_marked, hindmost_fetched_from, foremost_waiting_before}
use Rattle.journal.proofs.Ahead.{Lawful, ahead_transitive, ahead_cotransitive}
use Rattle.rows.specs.declared.row_item.RowItem.{RowItem}
use Rattle.rows.specs.declared.row_sum.RowSum.{RowSum}
use Rattle.rows.specs.Tallies.{chosen}
use Rattle.rows.specs.Sums.{folder_marked, no_rows, sum_whole, rows_of, rows_in}

-- the one chosen of all
abbrev best : {A : Type 0} → (A → A → A) → List A → Option A
best choose [] = None
best choose (x ∷ xs) = chosen choose (Some x) (best choose xs)

best_marked : {P : Type 0} (choose : Folder P → Folder P → Folder P) (m : Mark) (r : Row P) (fs : List (Folder P)) → best choose (with_marked m r fs) ≡ chosen choose (folder_marked m r) (best choose fs)
best_marked choose Waiting (Arrival f Waiting) fs = refl
best_marked choose Waiting (Arrival f Fetched) fs = refl
best_marked choose Fetched (Arrival f Fetched) fs = refl
best_marked choose Fetched (Arrival f Waiting) fs = refl
best_marked choose Waiting (Taking s) fs = refl
best_marked choose Fetched (Taking s) fs = refl

-- a choice that may be made in any bracketing
abbrev Associative : {A : Type 0} → (A → A → A) → Type 0
Associative {A} choose = (x y z : A) → choose (choose x y) z ≡ choose x (choose y z)

chosen_assoc : {A : Type 0} (choose : A → A → A) → Associative choose → (a b c : Option A) → chosen choose (chosen choose a b) c ≡ chosen choose a (chosen choose b c)
chosen_assoc choose assoc None b c = refl
chosen_assoc choose assoc (Some x) None c = refl
chosen_assoc choose assoc (Some x) (Some y) None = refl
chosen_assoc choose assoc (Some x) (Some y) (Some z) = ap Some (assoc x y z)

module _ {P : Type 0} (choose : Folder P → Folder P → Folder P) (assoc : Associative choose) where
  -- choosing one after the other leads to the one chosen of all
  best_run : (run : Folder P → List (Folder P) → Folder P) → ((f : Folder P) → run f [] ≡ f) → ((f g : Folder P) (gs : List (Folder P)) → run f (g ∷ gs) ≡ run (choose f g) gs) → (f : Folder P) (fs : List (Folder P)) → best choose (f ∷ fs) ≡ Some (run f fs)
  best_run run end step f [] = ap Some (sym (end f))
  best_run run end step f (g ∷ gs) = sym (chosen_assoc choose assoc (Some f) (Some g) (best choose gs)) ∙ best_run run end step (choose f g) gs ∙ ap Some (sym (step f g gs))

  module _ (m : Mark) where
    -- the one chosen of the folders of some rows with a mark
    abbrev marked : List (Row P) → Option (Folder P)
    marked rs = best choose (folders_marked m rs)

    marked_append : (rs qs : List (Row P)) → marked (rs ++ qs) ≡ chosen choose (marked rs) (marked qs)
    marked_append [] qs = refl
    marked_append (r ∷ rs) qs =
        best_marked choose m r (folders_marked m (rs ++ qs))
        ∙ ap (chosen choose (folder_marked m r)) (marked_append rs qs)
        ∙ sym (chosen_assoc choose assoc (folder_marked m r) (marked rs) (marked qs))
        ∙ ap (λ o. chosen choose o (marked qs)) (sym (best_marked choose m r (folders_marked m rs)))

    -- a part of the summary that chooses so has the one chosen of the tree's folders with the mark
    marked_tree : (part : Tree (RowItem P) → Option (Folder P)) → part leaf ≡ None
        → ((slot : ℕ) (item : RowItem P) (before after : Tree (RowItem P)) → part (branch slot item before after) ≡ chosen choose (chosen choose (part before) (folder_marked m item.row)) (part after))
        → (t : Tree (RowItem P)) → part t ≡ marked (rows_in t)
    marked_tree part none whole leaf = none
    marked_tree part none whole (branch slot item before after) =
        let B = rows_in before in
        let A = rows_in after in
        let here = folder_marked m item.row in
        whole slot item before after
        ∙ chosen_assoc choose assoc (part before) here (part after)
        ∙ ap (λ o. chosen choose o (chosen choose here (part after))) (marked_tree part none whole before)
        ∙ ap (λ o. chosen choose (marked B) (chosen choose here o)) (marked_tree part none whole after)
        ∙ ap (chosen choose (marked B)) (sym (best_marked choose m item.row (folders_marked m A)))
        ∙ sym (marked_append B (item.row ∷ A))
        ∙ ap marked (sym (map-append (λ x. x.row) (items before) (item ∷ items after)))

-- a place above the count is read as the count
module _ {P : Type 0} (q : ℕ) (rs : List (Row P)) where
  drop_place : drop q rs ≡ drop (place_in rs q) rs
  drop_place = go (cases_lt (length rs) q)
    where
      go : (length rs < q) ⊎ (q ≤ length rs) → drop q rs ≡ drop (min q (length rs)) rs
      go (inl h) = drop_all q rs (omega arith) ∙ sym (drop_all (min q (length rs)) rs (omega arith))
      go (inr h) = ap (λ k. drop k rs) (let e : q ≡ min q (length rs) = omega arith in e)

  take_place : take q rs ≡ take (place_in rs q) rs
  take_place = go (cases_lt (length rs) q)
    where
      go : (length rs < q) ⊎ (q ≤ length rs) → take q rs ≡ take (min q (length rs)) rs
      go (inl h) = take_all q rs (omega arith) ∙ sym (take_all (min q (length rs)) rs (omega arith))
      go (inr h) = ap (λ k. take k rs) (let e : q ≡ min q (length rs) = omega arith in e)

module _ {P : Type 0} (nb : P → P → Bool) (L : Lawful nb) where
  abbrev behind_of : Folder P → Folder P → Folder P
  behind_of f g = cond (ahead nb f g) g f

  abbrev front_of : Folder P → Folder P → Folder P
  front_of f g = cond (ahead nb g f) g f

  behind_assoc : Associative behind_of
  behind_assoc x y z = grind (arith, ahead_transitive nb L, ahead_cotransitive nb L)

  front_assoc : Associative front_of
  front_assoc x y z = grind (arith, ahead_transitive nb L, ahead_cotransitive nb L)

  best_hindmost : (fs : List (Folder P)) → best behind_of fs ≡ hindmost nb fs
  best_hindmost [] = refl
  best_hindmost (f ∷ fs) = best_run behind_of behind_assoc (hindmost_of nb) (λ f. refl) (λ f g gs. refl) f fs

  best_foremost : (fs : List (Folder P)) → best front_of fs ≡ foremost nb fs
  best_foremost [] = refl
  best_foremost (f ∷ fs) = best_run front_of front_assoc (foremost_of nb) (λ f. refl) (λ f g gs. refl) f fs

  hindmost_is : (t : Tree (RowItem P)) → (summary no_rows (sum_whole nb) t).hindmost ≡ hindmost nb (folders_marked Fetched (rows_in t))
  hindmost_is t = marked_tree behind_of behind_assoc Fetched (λ u. (summary no_rows (sum_whole nb) u).hindmost) refl (λ slot item before after. refl) t ∙ best_hindmost (folders_marked Fetched (rows_in t))

  foremost_is : (t : Tree (RowItem P)) → (summary no_rows (sum_whole nb) t).foremost ≡ foremost nb (folders_marked Waiting (rows_in t))
  foremost_is t = marked_tree front_of front_assoc Waiting (λ u. (summary no_rows (sum_whole nb) u).foremost) refl (λ slot item before after. refl) t ∙ best_foremost (folders_marked Waiting (rows_in t))

  -- the place of the folder in a summary of the rows from a place on, or of those before it
  pub hindmost_from : (t : Tree (RowItem P)) (q : ℕ) (r : RowSum P) → Summarizes no_rows (sum_whole nb) (drop q (items t)) r → option_map (λ (f : Folder P). earlier (rows_in t) f.stamp) r.hindmost ≡ hindmost_fetched_from nb (rows_in t) q
  hindmost_from t q r s =
      let place : Option (Folder P) → Option ℕ = option_map (λ (f : Folder P). earlier (rows_in t) f.stamp) in
      let those : rows_in s.tree ≡ drop (place_in (rows_in t) q) (rows_in t) = ap rows_of s.lists ∙ sym (drop-map (λ x. x.row) q (items t)) ∙ drop_place q (rows_in t) in
      ap (λ y. place y.hindmost) (sym s.sums) ∙ ap place (hindmost_is s.tree) ∙ ap (λ l. place (hindmost nb (folders_marked Fetched l))) those

  pub foremost_before : (t : Tree (RowItem P)) (q : ℕ) (r : RowSum P) → Summarizes no_rows (sum_whole nb) (take q (items t)) r → option_map (λ (f : Folder P). earlier (rows_in t) f.stamp) r.foremost ≡ foremost_waiting_before nb (rows_in t) q
  foremost_before t q r s =
      let place : Option (Folder P) → Option ℕ = option_map (λ (f : Folder P). earlier (rows_in t) f.stamp) in
      let those : rows_in s.tree ≡ take (place_in (rows_in t) q) (rows_in t) = ap rows_of s.lists ∙ sym (take-map (λ x. x.row) q (items t)) ∙ take_place q (rows_in t) in
      ap (λ y. place y.foremost) (sym s.sums) ∙ ap place (foremost_is s.tree) ∙ ap (λ l. place (foremost nb (folders_marked Waiting l))) those
