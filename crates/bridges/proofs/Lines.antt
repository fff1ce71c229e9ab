-- What a date line's rules accept.
use Rattle.std.proofs.Common.{◌≡◌, ℕ, zero, suc, ◌+◌, ◌<◌, cond, ltb, List, [], ◌∷◌, length, Some, sym, refl, ap, ◌∙◌, arith}
use lib.ListN.{length-map}
use Rattle.std.specs.List.{slice_get}
use Rattle.std.proofs.lemmas.Bool.{cond-true, cond-false, lt-ltb}
use Rattle.journal.specs.declared.row.Row.{Row}
use Rattle.journal.specs.declared.row.Row.TheVariants.{Arrival, Taking}
use Rattle.journal.specs.declared.row.Mark.{Mark}
use Rattle.journal.specs.Replay.{stamp_of, dated}
use Rattle.journal.specs.Rows.{entry_of, entries}
use Rattle.journal.specs.Searches.{earlier}
use Rattle.journal.specs.Changes.{marked_as, mark_at}
use Rattle.journal.specs.DateLines.{is_arrival}
use Rattle.bridges.specs.Lines.{SameJournal, LineFollows}
use Rattle.bridges.proofs.Journals.{rising_journal}
use Rattle.bridges.proofs.PlaceForms.{dated_row, row_at_place}

at_within : {A : Type 0} (k : ℕ) (x : A) (xs : List A) → slice_get xs k ≡ Some x → k < length xs
at_within k x [] h = absurd (let z : ◌≡◌ {A = ℕ} 0 1 = cc in omega arith)
at_within zero x (y ∷ xs) h = omega arith
at_within (suc k) x (y ∷ xs) h = let ih = at_within k x xs h in omega arith

module _ {P : Type 0} where
  entry_marked : (m : Mark) (r : Row P) → entry_of (marked_as m r) ≡ entry_of r
  entry_marked m (Arrival f k) = refl
  entry_marked m (Taking s) = refl

  entries_marked : (m : Mark) (k : ℕ) (rs : List (Row P)) → entries (mark_at m k rs) ≡ entries rs
  entries_marked m k [] = refl
  entries_marked m zero (r ∷ rs) = ap (λ e. e ∷ entries rs) (entry_marked m r)
  entries_marked m (suc k) (r ∷ rs) = ap (λ l. entry_of r ∷ l) (entries_marked m k rs)

  earlier_marked : (m : Mark) (k : ℕ) (rs : List (Row P)) (s : ℕ) → earlier (mark_at m k rs) s ≡ earlier rs s
  earlier_marked m k [] s = refl
  earlier_marked m zero (r ∷ rs) s = ap (λ e. cond (ltb (stamp_of e) s) (1 + earlier rs s) (earlier rs s)) (entry_marked m r)
  earlier_marked m (suc k) (r ∷ rs) s = ap (λ n. cond (ltb (stamp_of (entry_of r)) s) (1 + n) n) (earlier_marked m k rs s)

  same_journal : (rs : List (Row P)) (k : ℕ) (m : Mark) → SameJournal rs (mark_at m k rs)
  same_journal rs k m = record {
    entries_same = entries_marked m k rs;
    length_same = sym (length-map (mark_at m k rs) entry_of) ∙ ap length (entries_marked m k rs) ∙ length-map rs entry_of;
    places_same = earlier_marked m k rs;
  }

pub line_follows : (P : Type 0) → LineFollows P
line_follows P = record {
  put = λ capacity rs r d lt. cond-false (dated (stamp_of (entry_of r)) (entries rs)) _ _ d ∙ cond-true (ltb (length rs) capacity) _ _ (lt-ltb _ _ lt);
  mark = λ rs k f old new e. cond-true (is_arrival (slice_get rs k)) _ _ (ap is_arrival e);
  mark_same = same_journal;
  remove = λ rs s b d.
      let got = dated_row s rs d in
      let at = row_at_place 0 rs got.0 (rising_journal (entries rs) b) got.1 in
      cond-true (ltb (earlier rs s) (length rs)) _ _ (lt-ltb _ _ (rw got.2 at (at_within (earlier rs (stamp_of (entry_of got.0))) got.0 rs at)));
}
