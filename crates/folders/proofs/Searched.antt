-- A search for a key among folders in order: the last folder of a part tells whether it has a hit, and the first hit stands at the rank.
use Rattle.std.proofs.Common.{◌≡◌, ℕ, suc, ◌+◌, Bool, true, false, cond, not, ◌||◌, List, [], ◌∷◌, ◌++◌, length, Some, None, Option, sym, refl, ap, ◌∙◌, one-add, arith}
use Rattle.std.specs.List.{slice_get}
use Rattle.std.specs.Option.{unwrap_or}
use Rattle.std.proofs.lemmas.List.{map-append}
use Rattle.journal.specs.declared.folder.Folder.{Folder}
use Rattle.journal.specs.Folders.{ahead_of_all, in_order}
use Rattle.journal.specs.Racks.{holds}
use Rattle.journal.proofs.Ahead.{Lawful as Order, ahead_transitive}
use Rattle.nodes.specs.Tree.{Tree, leaf, branch, items, summary}
use Rattle.nodes.specs.Hits.{passed, any_hit, first_in, rank_in, Lawful}
use Rattle.nodes.proofs.Hunts.{ranked}
use Rattle.folders.specs.declared.element.Racked.{Racked}
use Rattle.folders.specs.declared.key.Key.{Key}
use Rattle.folders.specs.Lasts.{folders_in, folders, last_of}
use Rattle.folders.specs.Ranks.{ahead_of_key, rank, key_at, Finds}
use Rattle.folders.specs.Keys.{hit, last_hit, key_rules}
use Rattle.folders.proofs.Ranked.{rank_cons, alike_not_ahead, none_ahead, none_alike}

module _ {P : Type 0} where
  -- the last folder of a list
  abbrev last_in : List (Racked P) → Option (Folder P)
  last_in [] = None
  last_in (r ∷ rs) = last_of None r (last_in rs)

  last_append : (xs : List (Racked P)) (r : Racked P) (ys : List (Racked P)) → last_in (xs ++ (r ∷ ys)) ≡ last_of None r (last_in ys)
  last_append [] r ys = refl
  last_append (x ∷ xs) r ys = ap (last_of None x) (last_append xs r ys) ∙ go (last_in ys)
    where
      go : (o : Option (Folder P)) → last_of None x (last_of None r o) ≡ last_of None r o
      go None = refl
      go (Some last) = refl

  -- what a tree keeps is the last folder of its list
  summary_is_last : (t : Tree (Racked P)) → summary None last_of t ≡ last_in (items t)
  summary_is_last leaf = refl
  summary_is_last (branch slot item before after) = go (summary None last_of after) (summary_is_last after) ∙ sym (last_append (items before) item (items after))
    where
      go : (o : Option (Folder P)) → o ≡ last_in (items after) → last_of (summary None last_of before) item o ≡ last_of None item (last_in (items after))
      go None e = ap (last_of None item) e
      go (Some last) e = ap (last_of None item) e

module _ {P : Type 0} (nb : P → P → Bool) where
  ahead_of_first : (f : Folder P) (xs ys : List (Folder P)) → ahead_of_all nb f (xs ++ ys) ≡ true → ahead_of_all nb f xs ≡ true
  ahead_of_first f [] ys h = refl
  ahead_of_first f (x ∷ xs) ys h = let ih = ahead_of_first f xs ys in grind arith

  order_first : (xs ys : List (Folder P)) → in_order nb (xs ++ ys) ≡ true → in_order nb xs ≡ true
  order_first [] ys h = refl
  order_first (x ∷ xs) ys h = let ih = order_first xs ys in let a = ahead_of_first x xs ys in grind arith

  order_rest : (xs ys : List (Folder P)) → in_order nb (xs ++ ys) ≡ true → in_order nb ys ≡ true
  order_rest [] ys h = h
  order_rest (x ∷ xs) ys h = let ih = order_rest xs ys in grind arith

  passed_same : (key : Key P) (rs : List (Racked P)) → passed (key_rules nb) key rs ≡ key
  passed_same key [] = refl
  passed_same key (r ∷ rs) = passed_same key rs

module _ {P : Type 0} (nb : P → P → Bool) (L : Order nb) (key : Key P) where
  -- among folders in order there is a hit if the last is one
  last_tells : (rs : List (Racked P)) → in_order nb (folders_in rs) ≡ true → last_hit nb key (last_in rs) ≡ any_hit (key_rules nb) key rs
  last_tells [] o = refl
  last_tells (r ∷ []) o = grind arith
  last_tells (r ∷ d ∷ ds) o = go (last_in ds) (last_tells (d ∷ ds))
    where
      go : (last : Option (Folder P)) → (in_order nb (folders_in (d ∷ ds)) ≡ true → last_hit nb key (last_of None d last) ≡ any_hit (key_rules nb) key (d ∷ ds))
          → last_hit nb key (last_of None r (last_of None d last)) ≡ (hit nb key r.folder || any_hit (key_rules nb) key (d ∷ ds))
      go None ih = let t = ahead_transitive nb L r.folder d.folder (record { stamp = key.stamp; priority = key.priority; number = 0 }) in grind arith
      go (Some last) ih = let t = ahead_transitive nb L r.folder d.folder (record { stamp = key.stamp; priority = key.priority; number = 0 }) in grind arith

  -- so a search for a key may go by the last folders
  pub key_lawful : (rs : List (Racked P)) → in_order nb (folders_in rs) ≡ true → Lawful None last_of (key_rules nb) key rs
  key_lawful rs o = record {
    passes = λ xs t ys e. passed_same nb key xs ∙ sym (ap (λ k. passed (key_rules nb) k (items t)) (passed_same nb key xs) ∙ passed_same nb key (items t));
    finds = λ xs t ys e.
        ap (last_hit nb (passed (key_rules nb) key xs)) (summary_is_last t)
        ∙ ap (λ k. last_hit nb k (last_in (items t))) (passed_same nb key xs)
        ∙ last_tells (items t) (part_ordered xs t ys e)
        ∙ ap (λ k. any_hit (key_rules nb) k (items t)) (sym (passed_same nb key xs));
  }
    where
      part_ordered : (xs : List (Racked P)) (t : Tree (Racked P)) (ys : List (Racked P)) → rs ≡ xs ++ (items t ++ ys) → in_order nb (folders t) ≡ true
      part_ordered xs t ys e =
          let parts = ap folders_in e ∙ map-append (λ r. r.folder) xs (items t ++ ys) ∙ ap (λ l. folders_in xs ++ l) (map-append (λ r. r.folder) (items t) ys) in
          order_first nb (folders t) (folders_in ys) (order_rest nb (folders_in xs) (folders t ++ folders_in ys) (ap (in_order nb) (sym parts) ∙ o))

module _ {P : Type 0} (nb : P → P → Bool) (L : Order nb) (key : Key P) where
  abbrev ranks : List (Racked P) → ℕ
  ranks rs = rank nb key.priority key.stamp (folders_in rs)

  -- before the first hit stand as many as are ahead of the key, which are all where there is no hit
  first_ranks : (base : ℕ) (rs : List (Racked P)) → in_order nb (folders_in rs) ≡ true → unwrap_or (first_in (key_rules nb) key base rs) (base + length rs) ≡ base + ranks rs
  first_ranks base [] o = refl
  first_ranks base (r ∷ rs) o =
      go (ahead_of_key nb key.priority key.stamp r.folder) refl (first_ranks (suc base) rs) ∙ ap (λ k. base + k) (sym (rank_cons nb key.priority key.stamp r.folder (folders_in rs)))
    where
      go : (b : Bool) → ahead_of_key nb key.priority key.stamp r.folder ≡ b → (in_order nb (folders_in rs) ≡ true → unwrap_or (first_in (key_rules nb) key (suc base) rs) (suc base + length rs) ≡ suc base + ranks rs) → unwrap_or (cond (not b) (Some base) (first_in (key_rules nb) key (suc base) rs)) (base + suc (length rs)) ≡ base + (cond b 1 0 + ranks rs)
      go true is ih =
          let all : base + suc (length rs) ≡ suc base + length rs = omega arith in
          let k = ap (unwrap_or (first_in (key_rules nb) key (suc base) rs)) all ∙ ih (grind arith) in
          omega arith
      go false is ih =
          let none = none_ahead nb L key.priority key.stamp r.folder (folders_in rs) is (grind arith) in
          omega arith

  -- only the folder at the rank can have the key
  held_at_rank : (rs : List (Racked P)) → in_order nb (folders_in rs) ≡ true → key_at nb key.priority key.stamp (slice_get rs (ranks rs)) ≡ holds nb key.priority key.stamp (folders_in rs)
  held_at_rank [] o = refl
  held_at_rank (r ∷ rs) o =
      ap (λ k. key_at nb key.priority key.stamp (slice_get (r ∷ rs) k)) (rank_cons nb key.priority key.stamp r.folder (folders_in rs)) ∙ go (ahead_of_key nb key.priority key.stamp r.folder) refl (held_at_rank rs)
    where
      go : (b : Bool) → ahead_of_key nb key.priority key.stamp r.folder ≡ b → (in_order nb (folders_in rs) ≡ true → key_at nb key.priority key.stamp (slice_get rs (ranks rs)) ≡ holds nb key.priority key.stamp (folders_in rs))
          → key_at nb key.priority key.stamp (slice_get (r ∷ rs) (cond b 1 0 + ranks rs)) ≡ holds nb key.priority key.stamp (folders_in (r ∷ rs))
      go true is ih =
          let alike = alike_not_ahead nb L key.priority key.stamp r.folder in
          rw (one-add (ranks rs)) (ih (grind arith) ∙ grind arith)
      go false is ih =
          let none : 0 + ranks rs ≡ 0 = let z = none_ahead nb L key.priority key.stamp r.folder (folders_in rs) is (grind arith) in omega arith in
          let bare = none_alike nb L key.priority key.stamp r.folder (folders_in rs) is (grind arith) in
          rw none (grind arith)

  -- what a search by this probe answers, with whether the item there has the key
  pub ranked_finds : (t : Tree (Racked P)) (answer : ℕ × Option (Racked P)) (b : Bool) → answer ≡ rank_in (key_rules nb) key (items t) → b ≡ key_at nb key.priority key.stamp answer.1 → Finds nb key.priority key.stamp (folders t) (answer.0, b)
  ranked_finds t answer b is told o =
      let at = ranked (key_rules nb) key (items t) (ranks (items t)) is (first_ranks 0 (items t) o) in
      let alike = told ∙ ap (λ (a : ℕ × Option (Racked P)). key_at nb key.priority key.stamp a.1) at ∙ held_at_rank (items t) o in
      ap (λ (a : ℕ × Option (Racked P)). (a.0, b)) at ∙ ap (λ (c : Bool). (ranks (items t), c)) alike
