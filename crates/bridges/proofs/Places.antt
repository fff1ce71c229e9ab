-- The rack at a place of a journal, and the step from a place to the next.
use Rattle.std.proofs.Common.{◌≡◌, ℕ, zero, suc, ◌<◌, ◌≤◌, Bool, List, [], ◌∷◌, ◌++◌, length, take, drop, sym, refl, ap, ◌∙◌, arith, length-append, take-append-drop}
use lib.Seq.{take-append_seam, drop-append_seam}
use Rattle.journal.specs.declared.folder.Folder.{Folder}
use Rattle.journal.specs.declared.entry.Entry.{Entry}
use Rattle.journal.specs.declared.entry.Entry.TheVariants.{Arrival, Taking}
use Rattle.journal.specs.Folders.{placed}
use Rattle.journal.specs.Replay.{replay, rack_after, waiting, fetched}
use Rattle.bridges.specs.Racks.{Rising, Stands, Served, gone}
use Rattle.bridges.specs.Counting.{rack_at}
use Rattle.journal.proofs.Ahead.{Lawful}
use Rattle.bridges.proofs.Racks.{stands_arrival, stands_taking}
use Rattle.bridges.proofs.Journals.{replay_append, served_parts}
use Rattle.bridges.proofs.Members.{Among, among_left, among_right}

-- the seam of a journal in two parts
module _ {P : Type 0} where
  pub drop_seam : (es xs ys : List (Entry P)) → es ≡ xs ++ ys → drop (length xs) es ≡ ys
  drop_seam es xs ys e = ap (drop (length xs)) e ∙ drop-append_seam xs ys

  pub length_seam : (es xs ys : List (Entry P)) → es ≡ xs ++ ys → length xs ≤ length es
  length_seam es xs ys e = omega (arith, ap length e, length-append xs ys)

  length_next : (xs : List (Entry P)) (a : Entry P) → length (xs ++ a ∷ []) ≡ suc (length xs)
  length_next xs a = let n = length-append xs (a ∷ []) in omega arith

  next_seam : (es xs ys : List (Entry P)) (a : Entry P) → es ≡ xs ++ a ∷ ys → es ≡ (xs ++ a ∷ []) ++ ys
  next_seam es [] ys a e = e
  next_seam es (x ∷ xs) ys a e = e ∙ ap (λ l. x ∷ l) (next_seam (xs ++ a ∷ ys) xs ys a refl)

  pub drop_next : (es xs ys : List (Entry P)) (a : Entry P) → es ≡ xs ++ a ∷ ys → drop (suc (length xs)) es ≡ ys
  drop_next es xs ys a e = ap (λ n. drop n es) (sym (length_next xs a)) ∙ drop_seam es (xs ++ a ∷ []) ys (next_seam es xs ys a e)

module _ {P : Type 0} (nb : P → P → Bool) where
  pub rack_seam : (es xs ys : List (Entry P)) → es ≡ xs ++ ys → rack_at nb es (length xs) ≡ replay nb [] xs
  rack_seam es xs ys e = ap (λ l. waiting nb (take (length xs) l)) e ∙ ap (waiting nb) (take-append_seam xs ys)

  pub rack_next : (es xs ys : List (Entry P)) (a : Entry P) → es ≡ xs ++ a ∷ ys → rack_at nb es (suc (length xs)) ≡ rack_after nb (replay nb [] xs) a
  rack_next es xs ys a e = ap (rack_at nb es) (sym (length_next xs a)) ∙ rack_seam es (xs ++ a ∷ []) ys (next_seam es xs ys a e) ∙ replay_append nb xs (a ∷ []) []

  pub gone_append : (xs ys : List (Entry P)) (rack : List (Folder P)) → gone nb rack (xs ++ ys) ≡ gone nb rack xs ++ gone nb (replay nb rack xs) ys
  gone_append [] ys rack = refl
  gone_append (Arrival f ∷ xs) ys rack = gone_append xs ys (placed nb f rack)
  gone_append (Taking s ∷ xs) ys [] = gone_append xs ys []
  gone_append (Taking s ∷ xs) ys (y ∷ rack) = ap (λ r. y ∷ r) (gone_append xs ys rack)

  pub waiting_at : (es : List (Entry P)) (j : ℕ) → waiting nb es ≡ replay nb (rack_at nb es j) (drop j es)
  waiting_at es j = ap (waiting nb) (sym (take-append-drop j es)) ∙ replay_append nb (take j es) (drop j es) []

  pub served_at : (es : List (Entry P)) (j : ℕ) → Served nb [] es → Served nb [] (take j es) × Served nb (rack_at nb es j) (drop j es)
  served_at es j s = served_parts nb (take j es) (drop j es) [] (rw (take-append-drop j es) s)

  fetched_parts : (es : List (Entry P)) (j : ℕ) → fetched nb es ≡ gone nb [] (take j es) ++ gone nb (rack_at nb es j) (drop j es)
  fetched_parts es j = ap (gone nb []) (sym (take-append-drop j es)) ∙ gone_append (take j es) (drop j es) []

  pub fetched_later : (es : List (Entry P)) (j : ℕ) (f : Folder P) → Among f (gone nb (rack_at nb es j) (drop j es)) → Among f (fetched nb es)
  fetched_later es j f m = rw (fetched_parts es j) (among_right f (gone nb [] (take j es)) (gone nb (rack_at nb es j) (drop j es)) m)

  pub fetched_earlier : (es : List (Entry P)) (j : ℕ) (f : Folder P) → Among f (gone nb [] (take j es)) → Among f (fetched nb es)
  fetched_earlier es j f m = rw (fetched_parts es j) (among_left f (gone nb [] (take j es)) (gone nb (rack_at nb es j) (drop j es)) m)

  -- the entry after place j leads from the rack at j to the rack at the next place
  pub step_at : (j : ℕ) (es : List (Entry P)) (rack : List (Folder P)) → j < length es
      → (e : Entry P) × (drop j es ≡ e ∷ drop (suc j) es) × (replay nb rack (take (suc j) es) ≡ rack_after nb (replay nb rack (take j es)) e)
  step_at j [] rack lt = absurd (omega arith)
  step_at zero (e ∷ es) rack lt = (e, refl, refl)
  step_at (suc j) (e ∷ es) rack lt = step_at j es (rack_after nb rack e) (omega arith)

module _ {P : Type 0} (nb : P → P → Bool) (L : Lawful nb) where
  stands_on : (j : ℕ) (es : List (Entry P)) (rack : List (Folder P)) → Stands nb rack es → Stands nb (replay nb rack (take j es)) (drop j es)
  stands_on zero es rack st = st
  stands_on (suc j) [] rack st = st
  stands_on (suc j) (Arrival f ∷ es) rack st = stands_on j es (placed nb f rack) (stands_arrival nb L f rack es st)
  stands_on (suc j) (Taking s ∷ es) [] st = stands_on j es [] (record { bound = suc s; below = tt; order = refl; rising = st.rising.1 })
  stands_on (suc j) (Taking s ∷ es) (y ∷ rack) st = stands_on j es rack (stands_taking nb L y s rack es st)

  -- at every place the rack is in order
  pub stands_at : (es : List (Entry P)) (j : ℕ) → Rising 0 es → Stands nb (rack_at nb es j) (drop j es)
  stands_at es j r = stands_on j es [] (record { bound = 0; below = tt; order = refl; rising = r })
