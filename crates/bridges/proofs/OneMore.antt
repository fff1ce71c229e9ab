-- One folder more: the same entries from a rack, and from the rack with one folder more.
use Rattle.std.proofs.Common.{◌≡◌, ℕ, suc, ◌<◌, Bool, true, false, cond, List, [], ◌∷◌, Some, None, Option, sym, refl, ap, ◌∙◌, arith}
use Rattle.std.proofs.lemmas.Bool.{and_parts}
use Rattle.journal.specs.declared.folder.Folder.{Folder}
use Rattle.journal.specs.declared.entry.Entry.{Entry}
use Rattle.journal.specs.declared.entry.Entry.TheVariants.{Arrival, Taking}
use Rattle.journal.specs.Folders.{ahead, ahead_of_all, in_order, placed, hindmost_of, rest}
use Rattle.journal.specs.Replay.{replay}
use Rattle.journal.proofs.Ahead.{Lawful}
use Rattle.bridges.specs.Racks.{Stands, Served, gone}
use Rattle.bridges.proofs.Racks.{stands_arrival, stands_taking, placed_swap, placed_front}

pub never_served : (s : ℕ) → ◌≡◌ {A = Option ℕ} (Some s) None → ⊥
never_served s e = let z : ◌≡◌ {A = ℕ} 0 1 = cc in omega arith

module _ {P : Type 0} (nb : P → P → Bool) (L : Lawful nb) where
  -- at the end the larger rack has one folder more: the hindmost of it and of all that the smaller one's takings fetched
  pub one_more : (es : List (Entry P)) (rack : List (Folder P)) (x : Folder P) (st : Stands nb rack es) → x.stamp < st.bound → Served nb rack es
      → replay nb (placed nb x rack) es ≡ placed nb (hindmost_of nb x (gone nb rack es)) (replay nb rack es)
  one_more [] rack x st lt s = refl
  one_more (Arrival f ∷ es) rack x st lt s =
      ap (λ r. replay nb r es) (placed_swap nb L f x rack (λ e. omega (arith, st.rising.0)))
      ∙ one_more es (placed nb f rack) x (stands_arrival nb L f rack es st) (omega (arith, st.rising.0)) s
  one_more (Taking t ∷ es) [] x st lt s = absurd (never_served t s)
  one_more (Taking t ∷ es) (y ∷ rack) x st lt s = go (ahead nb x y) (λ z h. one_more es rack z (stands_taking nb L y t rack es st) h s)
    where
      go : (b : Bool) → ((z : Folder P) → z.stamp < suc t → replay nb (placed nb z rack) es ≡ placed nb (hindmost_of nb z (gone nb rack es)) (replay nb rack es))
          → replay nb (rest (cond b (x ∷ y ∷ rack) (y ∷ placed nb x rack))) es ≡ placed nb (hindmost_of nb (cond b y x) (gone nb rack es)) (replay nb rack es)
      go true ih = ap (λ r. replay nb r es) (sym (placed_front nb y rack (and_parts (ahead_of_all nb y rack) (in_order nb rack) st.order).0)) ∙ ih y (omega (arith, st.below.0, st.rising.0))
      go false ih = ih x (omega (arith, st.rising.0))

  -- and it never runs out where the smaller one does not
  pub one_more_served : (es : List (Entry P)) (rack : List (Folder P)) (x : Folder P) (st : Stands nb rack es) → x.stamp < st.bound → Served nb rack es
      → Served nb (placed nb x rack) es
  one_more_served [] rack x st lt s = refl
  one_more_served (Arrival f ∷ es) rack x st lt s =
      rw (placed_swap nb L f x rack (λ e. omega (arith, st.rising.0))) (one_more_served es (placed nb f rack) x (stands_arrival nb L f rack es st) (omega (arith, st.rising.0)) s)
  one_more_served (Taking t ∷ es) [] x st lt s = absurd (never_served t s)
  one_more_served (Taking t ∷ es) (y ∷ rack) x st lt s = go (ahead nb x y) (λ z h. one_more_served es rack z (stands_taking nb L y t rack es st) h s)
    where
      go : (b : Bool) → ((z : Folder P) → z.stamp < suc t → Served nb (placed nb z rack) es)
          → Served nb (cond b (x ∷ y ∷ rack) (y ∷ placed nb x rack)) (Taking t ∷ es)
      go true ih = rw (← placed_front nb y rack (and_parts (ahead_of_all nb y rack) (in_order nb rack) st.order).0) (ih y (omega (arith, st.below.0, st.rising.0)))
      go false ih = ih x (omega (arith, st.rising.0))
