-- The rank of a key among folders in order is the place where its folder goes, or stands.
use Rattle.std.proofs.Common.{◌≡◌, ℕ, ◌+◌, ◌<◌, ◌≤◌, Bool, true, false, cond, not, List, [], ◌∷◌, ◌++◌, length, take, drop, sym, refl, ap, ◌∙◌, add-one, arith}
use Rattle.std.specs.List.{insert, remove}
use Rattle.std.proofs.lemmas.List.Sums.{sum_by-cons, count_by-le-length}
use Rattle.std.proofs.lemmas.Bool.Decides.{nat_tests}
use Rattle.journal.specs.declared.folder.Folder.{Folder}
use Rattle.journal.specs.Folders.{ahead, ahead_of_all, in_order, placed}
use Rattle.journal.specs.Racks.{same_key, holds, taken_out}
use Rattle.journal.proofs.Ahead.{Lawful, ahead_transitive}
use Rattle.journal.proofs.Placed.{before_place, before_key, placed_at, holds_at, taken_out_at}
use Rattle.folders.specs.Ranks.{ahead_of_key, rank}

module _ {P : Type 0} (nb : P → P → Bool) (p : P) (s : ℕ) where
  pub rank_cons : (g : Folder P) (gs : List (Folder P)) → rank nb p s (g ∷ gs) ≡ cond (ahead_of_key nb p s g) 1 0 + rank nb p s gs
  rank_cons g gs = sum_by-cons (λ d. cond (ahead_of_key nb p s d) 1 0) g gs

  pub rank_within : (fs : List (Folder P)) → rank nb p s fs ≤ length fs
  rank_within fs = count_by-le-length (ahead_of_key nb p s) fs

module _ {P : Type 0} (nb : P → P → Bool) (L : Lawful nb) (p : P) (s : ℕ) where
  -- a folder of the key is not ahead of it
  pub alike_not_ahead : (g : Folder P) → same_key nb p s g ≡ true → ahead_of_key nb p s g ≡ false
  alike_not_ahead g h = grind (arith, nat_tests, L.total)

  -- behind one that is not ahead of the key none is ahead of it, and none has it
  pub none_ahead : (g : Folder P) (gs : List (Folder P)) → ahead_of_key nb p s g ≡ false → ahead_of_all nb g gs ≡ true → rank nb p s gs ≡ 0
  none_ahead g [] n a = refl
  none_ahead g (d ∷ ds) n a =
      let ih = none_ahead g ds n in
      let t = ahead_transitive nb L g d (record { stamp = s; priority = p; number = 0 }) in
      rank_cons nb p s d ds ∙ grind arith

  behind_not_alike : (g d : Folder P) → ahead_of_key nb p s g ≡ false → ahead nb g d ≡ true → same_key nb p s d ≡ false
  behind_not_alike g d n a = grind (arith, nat_tests, L.total, L.transitive)

  pub none_alike : (g : Folder P) (gs : List (Folder P)) → ahead_of_key nb p s g ≡ false → ahead_of_all nb g gs ≡ true → holds nb p s gs ≡ false
  none_alike g [] n a = refl
  none_alike g (d ∷ ds) n a =
      let ih = none_alike g ds n in
      let t = behind_not_alike g d n in
      grind arith

  -- the folder of the key stands where the rank says
  key_rank : (fs : List (Folder P)) → in_order nb fs ≡ true → holds nb p s fs ≡ true → before_key nb p s fs ≡ rank nb p s fs
  key_rank [] o h = refl
  key_rank (g ∷ gs) o h =
      let ih = key_rank gs in
      let alike = alike_not_ahead g in
      let ahead_none = none_ahead g gs in
      let alike_none = none_alike g gs in
      grind arith ∙ sym (rank_cons nb p s g gs)

  pub rank_inside : (fs : List (Folder P)) → in_order nb fs ≡ true → holds nb p s fs ≡ true → rank nb p s fs < length fs
  rank_inside fs o h =
      let e = key_rank fs o h in
      let at = holds_at nb p s fs in
      grind (arith, nat_tests)

  pub taken_out_by_rank : (fs : List (Folder P)) → in_order nb fs ≡ true → holds nb p s fs ≡ true → taken_out nb p s fs ≡ remove fs (rank nb p s fs)
  taken_out_by_rank fs o h =
      let e = key_rank fs o h in
      let within = rank_inside fs o h in
      taken_out_at nb p s fs (omega arith) ∙ ap (λ k. take (before_key nb p s fs) fs ++ drop k fs) (add-one (before_key nb p s fs)) ∙ ap (remove fs) e

module _ {P : Type 0} (nb : P → P → Bool) (L : Lawful nb) (f : Folder P) where
  ahead_either : (g : Folder P) → same_key nb f.priority f.stamp g ≡ false → ahead nb g f ≡ not (ahead nb f g)
  ahead_either g n = grind (arith, nat_tests, L.total)

  place_rank : (fs : List (Folder P)) → in_order nb fs ≡ true → holds nb f.priority f.stamp fs ≡ false → before_place nb f fs ≡ rank nb f.priority f.stamp fs
  place_rank [] o h = refl
  place_rank (g ∷ gs) o h =
      let ih = place_rank gs in
      let either = ahead_either g in
      let ahead_none = none_ahead nb L f.priority f.stamp g gs in
      grind arith ∙ sym (rank_cons nb f.priority f.stamp g gs)

  -- a folder whose like is not there goes where the rank says
  pub placed_by_rank : (fs : List (Folder P)) → in_order nb fs ≡ true → holds nb f.priority f.stamp fs ≡ false → placed nb f fs ≡ insert fs (rank nb f.priority f.stamp fs) f
  placed_by_rank fs o h = placed_at nb f fs ∙ ap (λ k. insert fs k f) (place_rank fs o h)
