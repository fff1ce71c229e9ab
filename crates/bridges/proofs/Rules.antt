-- The bridge rules find the movers.
use Rattle.std.proofs.Common.{◌≡◌, ℕ, suc, ◌+◌, ◌-◌, ◌<◌, ◌≤◌, Bool, true, false, cond, ◌⊎◌, List, [], ◌∷◌, map, length, take, drop, pos, Some, None, Option, sym, refl, ap, ◌∙◌, subst, inl, inr, arith}
use lib.ListN.{length-map}
use lib.Seq.{take-length}
use Rattle.std.specs.Option.{option_map}
use Rattle.std.proofs.lemmas.Bool.{both_ways, not_from_true, and_parts}
use Rattle.std.proofs.lemmas.List.{take-map, drop-map}
use Rattle.journal.specs.declared.folder.Folder.{Folder}
use Rattle.journal.specs.declared.entry.Entry.{Entry}
use Rattle.journal.specs.declared.row.Row.{Row}
use Rattle.journal.specs.declared.row.Mark.TheVariants.{Waiting, Fetched}
use Rattle.journal.specs.Folders.{ahead, ahead_of_all, in_order, has_stamp, hindmost_of, hindmost, foremost}
use Rattle.journal.specs.Replay.{replay, waiting}
use Rattle.journal.specs.Rows.{balance, row_of, marked}
use Rattle.journal.specs.Searches.{earlier, place_in, low, least_from, greatest_to, first_low_balance, folders_marked, hindmost_fetched_from, foremost_waiting_before}
use Rattle.bridges.specs.Racks.{Rising, Served, gone}
use Rattle.bridges.specs.Counting.{count, rack_at}
use Rattle.bridges.specs.Rules.{and_then, folder_at, hinder, hindmost_since_bridge, foremost_before_bridge}
use Rattle.journal.proofs.Ahead.{Lawful, ahead_asymmetric, ahead_transitive, ahead_cotransitive}
use Rattle.bridges.proofs.Counts.{arrivals}
use Rattle.bridges.proofs.Members.{Among, among_start, among_end, among_has_stamp, none_counted, same_stamp, fetched_not_waiting, waiting_arrived, fetched_arrived}
use Rattle.bridges.proofs.Places.{waiting_at, fetched_later, fetched_earlier, stands_at}
use Rattle.bridges.proofs.Sums.{missing, balance_at}
use Rattle.bridges.proofs.Bridges.{SafeAt, DoomedAt, Settled, settled, low_safe, high_doomed}
use Rattle.bridges.proofs.Extremes.{First, ahead_of_each, hindmost_last, hindmost_alike, foremost_alike}
use Rattle.bridges.proofs.Found.{Greatest, least_found, greatest_found}
use Rattle.bridges.proofs.LastBridge.{later, later_sooner, sooner_later}
use Rattle.bridges.proofs.Marked.{entries_of_rows, waiting_marked, marked_waiting, fetched_marked, marked_fetched, arrival_place}

module _ {P : Type 0} (nb : P → P → Bool) (L : Lawful nb) where
  -- the hindmost of a folder and some others, by the hindmost of the others
  hinder_hindmost : (f z : Folder P) (zs : List (Folder P)) → hindmost_of nb (cond (ahead nb f z) z f) zs ≡ cond (ahead nb f (hindmost_of nb z zs)) (hindmost_of nb z zs) f
  hinder_hindmost f z [] = refl
  hinder_hindmost f z (w ∷ ws) =
      let t = ahead_transitive nb L f z w in
      let c = ahead_cotransitive nb L f z w in
      let e : cond (ahead nb (cond (ahead nb f z) z f) w) w (cond (ahead nb f z) z f) ≡ cond (ahead nb f (cond (ahead nb z w) w z)) (cond (ahead nb z w) w z) f = grind arith in
      ap (λ x. hindmost_of nb x ws) e ∙ hinder_hindmost f (cond (ahead nb z w) w z) ws

  pub hinder_of : (f : Folder P) (fs : List (Folder P)) → hinder nb f (hindmost nb fs) ≡ hindmost_of nb f fs
  hinder_of f [] = refl
  hinder_of f (z ∷ zs) = sym (hinder_hindmost f z zs)

  module _ (es : List (Entry P)) (r : Rising 0 es) (v : Served nb [] es) where
    abbrev pub rows : List (Row P)
    rows = marked nb es

    rows_length : length rows ≡ length es
    rows_length = length-map es (row_of (waiting nb es))

    -- the fetched arrivals from a bridge on are those who are fetched after it
    arrived_later : (b : ℕ) → (f : Folder P) → Among f (folders_marked Fetched (drop b rows)) → Among f (later nb es b)
    arrived_later b f m =
        let got = marked_fetched (waiting nb es) (drop b es) f (rw (drop-map (row_of (waiting nb es)) b es) at m) in
        go got.1 (among_end nb f (drop b es) (rack_at nb es b) (inr got.0))
      where
        go : has_stamp f.stamp (waiting nb es) ≡ false → Among f (replay nb (rack_at nb es b) (drop b es)) ⊎ Among f (later nb es b) → Among f (later nb es b)
        go h (inl k) = absurd (both_ways _ h (among_has_stamp f (waiting nb es) (rw (waiting_at nb es b) k)))
        go h (inr k) = k

    later_arrived : (b : ℕ) → SafeAt nb es b → (f : Folder P) → Among f (later nb es b) → Among f (folders_marked Fetched (drop b rows))
    later_arrived b safe f m = rw (drop-map (row_of (waiting nb es)) b es) (go (among_start nb f (drop b es) (rack_at nb es b) (inr m)))
      where
        go : Among f (rack_at nb es b) ⊎ Among f (arrivals (drop b es)) → Among f (folders_marked Fetched (map (row_of (waiting nb es)) (drop b es)))
        go (inl k) = absurd (safe f k m)
        go (inr k) = fetched_marked (waiting nb es) (drop b es) f k (fetched_not_waiting nb 0 es f r (fetched_later nb es b f m))

    -- the waiting arrivals before a bridge are those who stand there
    arrived_standing : (b : ℕ) → (f : Folder P) → Among f (folders_marked Waiting (take b rows)) → Among f (rack_at nb es b)
    arrived_standing b f m =
        let got = marked_waiting (waiting nb es) (take b es) f (rw (take-map (row_of (waiting nb es)) b es) at m) in
        go got.1 (among_end nb f (take b es) [] (inr got.0))
      where
        go : has_stamp f.stamp (waiting nb es) ≡ true → Among f (rack_at nb es b) ⊎ Among f (gone nb [] (take b es)) → Among f (rack_at nb es b)
        go h (inl k) = k
        go h (inr k) = absurd (both_ways _ (fetched_not_waiting nb 0 es f r (fetched_earlier nb es b f k)) h)

    standing_marked : (b : ℕ) → SafeAt nb es b → (f : Folder P) → Among f (rack_at nb es b) → Among f (folders_marked Waiting (take b rows))
    standing_marked b safe f m = rw (take-map (row_of (waiting nb es)) b es) (go (settled nb es b f r m))
      where
        go : Settled nb es b f → Among f (folders_marked Waiting (map (row_of (waiting nb es)) (take b es)))
        go (inl k) = waiting_marked (waiting nb es) (take b es) f (waiting_arrived nb (take b es) f m) k.0
        go (inr k) = absurd (safe f m k.1)

    -- the folder at the place of an arrival
    at_place : (f : Folder P) → Among f (arrivals es) → folder_at rows (earlier rows f.stamp) ≡ Some f
    at_place f m =
        let e = entries_of_rows (waiting nb es) es in
        arrival_place 0 rows f (rw e r) (rw e m)

    -- who is found by place is found
    found_at_place : (o : Option (Folder P)) → ((m : Folder P) → o ≡ Some m → Among m (arrivals es)) → and_then (option_map (λ (f : Folder P). earlier rows f.stamp) o) (folder_at rows) ≡ o
    found_at_place None h = refl
    found_at_place (Some m) h = at_place m (h m refl)

    -- the last bridge up to a place finds the hindmost of those who are fetched after the place
    pub since_bridge : (p : ℕ) → p ≤ length es → hindmost_since_bridge nb rows p ≡ hindmost nb (later nb es p)
    since_bridge p le = go (greatest_found (low (balance rows)) p refl)
      where
        hindmost_arrived : (fs : List (Folder P)) (m : Folder P) → ((f : Folder P) → Among f fs → Among f (arrivals es)) → hindmost nb fs ≡ Some m → Among m (arrivals es)
        hindmost_arrived [] m h e = absurd (let z : ◌≡◌ {A = ℕ} 0 1 = cc in omega arith)
        hindmost_arrived (f ∷ fs) m h e = let q : hindmost_of nb f fs ≡ m = cc in h m (subst (λ x. Among x (f ∷ fs)) q (hindmost_last nb L f fs).0)

        go : (b : ℕ) × (greatest_to (low (balance rows)) p ≡ Some b) × Greatest (low (balance rows)) p b → hindmost_since_bridge nb rows p ≡ hindmost nb (later nb es p)
        go got =
            let b = got.0 in
            let safe = low_safe nb es b r v got.2.passes in
            let arrived : (f : Folder P) → Among f (folders_marked Fetched (drop b rows)) → Among f (arrivals es) = λ f m. fetched_arrived nb es f (fetched_later nb es b f (arrived_later b f m)) in
            let here : place_in rows p ≡ p = omega (arith, rows_length) in
            let there : place_in rows b ≡ b = omega (arith, rows_length, got.2.before) in
            let d = p - b in
            let sum : b + d ≡ p = omega (arith, got.2.before) in
            ap (λ q. and_then (greatest_to (low (balance rows)) q) (λ c. and_then (hindmost_fetched_from nb rows c) (folder_at rows))) here
            ∙ ap (λ o. and_then o (λ c. and_then (hindmost_fetched_from nb rows c) (folder_at rows))) got.1
            ∙ ap (λ q. and_then (option_map (λ (f : Folder P). earlier rows f.stamp) (hindmost nb (folders_marked Fetched (drop q rows)))) (folder_at rows)) there
            ∙ found_at_place (hindmost nb (folders_marked Fetched (drop b rows))) (λ m e. hindmost_arrived (folders_marked Fetched (drop b rows)) m arrived e)
            ∙ hindmost_alike nb L (folders_marked Fetched (drop b rows)) (later nb es p) (λ f g a c e. same_stamp 0 es f g r e (arrived f a) (arrived g c))
            (λ g m. later_arrived b safe g (later_sooner nb L es r d b p sum le g m))
            (λ f m. sooner_later nb L es r d b p sum le (λ i x y. high_doomed nb es i r v (got.2.none_after i x y)) f (arrived_later b f m))

    pub low_at_end : low (balance rows) (length es) ≡ true
    low_at_end =
        let none : count (missing nb (waiting nb es)) (rack_at nb es (length es)) ≡ 0
        = none_counted (missing nb (waiting nb es)) (rack_at nb es (length es)) (λ f m. not_from_true _ (among_has_stamp f (waiting nb es) (rw (take-length es) at m))) in
        rw (balance_at nb es r v (length es) ∙ ap pos none) refl

    -- the first bridge from a place
    pub record FirstBridge (q b : ℕ) : Type 0 where
      pub found : first_low_balance rows q ≡ Some b
      pub after : q ≤ b
      pub within : b ≤ length es
      pub safe : SafeAt nb es b
      pub doomed : (i : ℕ) → q ≤ i → i < b → DoomedAt nb es i

    pub first_bridge : (q : ℕ) → q ≤ length es → (b : ℕ) × FirstBridge q b
    first_bridge q le =
        let here : place_in rows q ≡ q = omega (arith, rows_length) in
        let n = length es - q in
        let end : q + n ≡ length es = omega arith in
        let size : length rows - q ≡ n = omega (arith, rows_length) in
        let got = least_found (low (balance rows)) n q (rw end low_at_end) in (
          got.0,
          record {
            found = ap (λ x. least_from (low (balance rows)) x (suc (length rows - x))) here ∙ ap (λ x. least_from (low (balance rows)) q (suc x)) size ∙ got.1;
            after = got.2.after;
            within = omega (arith, got.3);
            safe = low_safe nb es got.0 r v got.2.passes;
            doomed = λ i x y. high_doomed nb es i r v (got.2.none_before i x y);
          },
        )

    -- before the first bridge from a place the foremost waiting folder is the first one on the rack there
    pub before_bridge : (q b : ℕ) → FirstBridge q b → (h : Folder P) (others : List (Folder P)) → rack_at nb es b ≡ h ∷ others → foremost_before_bridge nb rows q ≡ Some h
    before_bridge q b fb h others at =
        let there : place_in rows b ≡ b = omega (arith, rows_length, fb.within) in
        let standing : (f : Folder P) → Among f (folders_marked Waiting (take b rows)) → Among f (waiting nb es) = λ f m. waits f (arrived_standing b f m) in
        ap (λ o. and_then o (λ c. and_then (foremost_waiting_before nb rows c) (folder_at rows))) fb.found
        ∙ ap (λ x. and_then (option_map (λ (f : Folder P). earlier rows f.stamp) (foremost nb (folders_marked Waiting (take x rows)))) (folder_at rows)) there
        ∙ ap (λ o. and_then (option_map (λ (f : Folder P). earlier rows f.stamp) o) (folder_at rows))
        (foremost_alike nb L (folders_marked Waiting (take b rows)) h others (λ f g a c e. same_stamp 0 es f g r e (waiting_arrived nb es f (standing f a)) (waiting_arrived nb es g (standing g c)))
        first (λ f m. standing_marked b fb.safe f (rw at m)) (λ f m. rw at at (arrived_standing b f m)))
        ∙ at_place h (waiting_arrived nb es h (waits h (rw at (inl refl))))
      where
        waits : (f : Folder P) → Among f (rack_at nb es b) → Among f (waiting nb es)
        waits f m = go (settled nb es b f r m)
          where
            go : Settled nb es b f → Among f (waiting nb es)
            go (inl k) = k.1
            go (inr k) = absurd (fb.safe f m k.1)

        order : in_order nb (h ∷ others) ≡ true
        order = rw at at (stands_at nb L es b r).order

        first : First nb h (h ∷ others)
        first = (inl refl, λ g m. each g m)
          where
            each : (g : Folder P) → Among g (h ∷ others) → ahead nb g h ≡ false
            each g (inl e) = rw e (Rattle.journal.proofs.Ahead.ahead_irreflexive nb L h)
            each g (inr m) = ahead_asymmetric nb L h g (ahead_of_each nb h g others (and_parts (ahead_of_all nb h others) (in_order nb others) order).0 m)
