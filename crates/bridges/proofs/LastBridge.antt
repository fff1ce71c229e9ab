-- From the last bridge on: each fetched folder is fetched after a later place too, or ahead of one that is.
use Rattle.std.proofs.Common.{◌≡◌, ℕ, zero, suc, ◌+◌, ◌<◌, ◌≤◌, Bool, true, ◌⊎◌, List, [], ◌∷◌, length, drop, sym, refl, ap, ◌∙◌, ap₂, inl, inr, arith}
use Rattle.std.proofs.lemmas.Bool.{and_parts}
use Rattle.journal.specs.declared.folder.Folder.{Folder}
use Rattle.journal.specs.declared.entry.Entry.{Entry}
use Rattle.journal.specs.declared.entry.Entry.TheVariants.{Arrival, Taking}
use Rattle.journal.specs.Folders.{ahead, ahead_of_all, in_order}
use Rattle.journal.specs.Replay.{rack_after}
use Rattle.bridges.specs.Racks.{Rising, gone}
use Rattle.bridges.specs.Counting.{rack_at}
use Rattle.journal.proofs.Ahead.{Lawful, ahead_transitive}
use Rattle.bridges.proofs.Members.{Among}
use Rattle.bridges.proofs.Places.{step_at, stands_at}
use Rattle.bridges.proofs.Bridges.{DoomedAt}
use Rattle.bridges.proofs.Extremes.{ahead_of_each}

module _ {P : Type 0} (nb : P → P → Bool) where
  -- those who are fetched after place j
  abbrev pub later : List (Entry P) → ℕ → List (Folder P)
  later es j = gone nb (rack_at nb es j) (drop j es)

module _ {P : Type 0} (nb : P → P → Bool) (L : Lawful nb) (es : List (Entry P)) (r : Rising 0 es) where
  -- between a place and the next nobody is fetched, or one who is ahead of all that remain
  pub step_later : (j : ℕ) → j < length es → (later nb es j ≡ later nb es (suc j)) ⊎ ((z : Folder P) × (later nb es j ≡ z ∷ later nb es (suc j)) × (ahead_of_all nb z (rack_at nb es (suc j)) ≡ true))
  step_later j lt = let st = step_at nb j es [] lt in go st.0 st.1 st.2 (rack_at nb es j) refl (stands_at nb L es j r).order
    where
      go : (a : Entry P) → drop j es ≡ a ∷ drop (suc j) es → rack_at nb es (suc j) ≡ rack_after nb (rack_at nb es j) a → (rack : List (Folder P)) → rack_at nb es j ≡ rack → in_order nb (rack_at nb es j) ≡ true
          → (later nb es j ≡ later nb es (suc j)) ⊎ ((z : Folder P) × (later nb es j ≡ z ∷ later nb es (suc j)) × (ahead_of_all nb z (rack_at nb es (suc j)) ≡ true))
      go (Arrival f) d s rack q o = inl (ap (gone nb (rack_at nb es j)) d ∙ ap (λ l. gone nb l (drop (suc j) es)) (sym s))
      go (Taking t) d s [] q o = inl (ap₂ (gone nb) q d ∙ ap (λ l. gone nb l (drop (suc j) es)) (sym (s ∙ ap (λ l. rack_after nb l (Taking t)) q)))
      go (Taking t) d s (z ∷ rack) q o =
          let s' : rack_at nb es (suc j) ≡ rack = s ∙ ap (λ l. rack_after nb l (Taking t)) q in
          let o' : in_order nb (z ∷ rack) ≡ true = rw q at o in
          inr (z, ap₂ (gone nb) q d ∙ ap (λ l. z ∷ gone nb l (drop (suc j) es)) (sym s'), rw s' (and_parts (ahead_of_all nb z rack) (in_order nb rack) o').0)

  -- who is fetched after a later place is fetched after an earlier one
  pub later_sooner : (d j p : ℕ) → j + d ≡ p → p ≤ length es → (f : Folder P) → Among f (later nb es p) → Among f (later nb es j)
  later_sooner zero j p e le f m = let q : p ≡ j = omega arith in rw q at m
  later_sooner (suc d) j p e le f m = go (step_later j (omega arith)) (later_sooner d (suc j) p (omega arith) le f m)
    where
      go : (later nb es j ≡ later nb es (suc j)) ⊎ ((z : Folder P) × (later nb es j ≡ z ∷ later nb es (suc j)) × (ahead_of_all nb z (rack_at nb es (suc j)) ≡ true)) → Among f (later nb es (suc j)) → Among f (later nb es j)
      go (inl q) k = rw q k
      go (inr got) k = rw got.1 (inr k)

  -- while no bridge is passed, whoever is fetched is fetched after the later place too, or ahead of one who is
  pub sooner_later : (d j p : ℕ) → j + d ≡ p → p ≤ length es → ((i : ℕ) → j < i → i ≤ p → DoomedAt nb es i)
      → (f : Folder P) → Among f (later nb es j) → (g : Folder P) × Among g (later nb es p) × ((f ≡ g) ⊎ (ahead nb f g ≡ true))
  sooner_later zero j p e le doomed f m = let q : j ≡ p = omega arith in (f, rw q at m, inl refl)
  sooner_later (suc d) j p e le doomed f m =
      go (step_later j (omega arith)) (doomed (suc j) (omega arith) (omega arith)) (λ g k. sooner_later d (suc j) p (omega arith) le (λ i a b. doomed i (omega arith) b) g k) m
    where
      behind : (z y : Folder P) → ahead nb z y ≡ true → (g : Folder P) × Among g (later nb es p) × ((y ≡ g) ⊎ (ahead nb y g ≡ true)) → (g : Folder P) × Among g (later nb es p) × ((z ≡ g) ⊎ (ahead nb z g ≡ true))
      behind z y h got = (got.0, got.1, inr (pass got.2))
        where
          pass : (y ≡ got.0) ⊎ (ahead nb y got.0 ≡ true) → ahead nb z got.0 ≡ true
          pass (inl q) = rw q at h
          pass (inr k) = ahead_transitive nb L z y got.0 h k

      go : (later nb es j ≡ later nb es (suc j)) ⊎ ((z : Folder P) × (later nb es j ≡ z ∷ later nb es (suc j)) × (ahead_of_all nb z (rack_at nb es (suc j)) ≡ true))
          → DoomedAt nb es (suc j) → ((g : Folder P) → Among g (later nb es (suc j)) → (h : Folder P) × Among h (later nb es p) × ((g ≡ h) ⊎ (ahead nb g h ≡ true)))
          → Among f (later nb es j) → (g : Folder P) × Among g (later nb es p) × ((f ≡ g) ⊎ (ahead nb f g ≡ true))
      go (inl q) y ih k = ih f (rw q at k)
      go (inr got) y ih k = front (rw got.1 at k)
        where
          front : Among f (got.0 ∷ later nb es (suc j)) → (g : Folder P) × Among g (later nb es p) × ((f ≡ g) ⊎ (ahead nb f g ≡ true))
          front (inl q) = rw q (behind got.0 y.0 (ahead_of_each nb got.0 y.0 (rack_at nb es (suc j)) got.2 y.1) (ih y.0 y.2))
          front (inr n) = ih f n
