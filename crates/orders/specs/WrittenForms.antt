-- Both written forms read back, and nothing else reads as them.
use Rattle.std.specs.Prelude.{◌≡◌, ℕ, suc, ◌^◌, ◌<◌, ◌≤◌, Bool, true, false, cond, ◌&&◌, List, [], ◌∷◌, ◌++◌, length, ◌==◌, nat_le, refl}
use Rattle.std.proofs.Common.{sym, ap, ◌∙◌, mod-eq_of_lt, arith}
use Rattle.std.proofs.lemmas.Bool.Decides.{nat_tests}
use Rattle.std.specs.List.{AllByRecursion}
use Rattle.orders.specs.declared.weight.Weight.{Weight}
use Rattle.orders.specs.declared.card.Card.{Card}
use Rattle.orders.specs.Bytes.{bytes, number, Twelve}
use Rattle.orders.specs.Refusal.{Told, told, refused}
use Rattle.orders.specs.Weight.{most_bytes, decoded, weight_made, weight_written, weight_reading, weight_canonical}
use Rattle.orders.specs.Card.{most_day, most_class, most_name, day_of, class_of, name_of, card_made, card_written, card_reading, card_canonical}
use Rattle.orders.specs.Numbers.{number_bytes, bytes_number, all_bytes}

-- what was told passed its test
told_if : {A : Type 0} (b : Bool) (t : Told A) (n : ℕ) (vs : List ℕ) (a : A) → cond b t (refused n vs) ≡ told a → (b ≡ true) × (t ≡ told a)
told_if true t n vs a e = (refl, e)
told_if false t n vs a e = let z : ◌≡◌ {A = ℕ} 0 1 = cc in absurd (let o : ⊥ = omega arith in o)

told_same : {A : Type 0} (a b : A) → told a ≡ told b → a ≡ b
told_same a b e = cc

both_true : (a b : Bool) → (a && b) ≡ true → (a ≡ true) × (b ≡ true)
both_true true b e = (refl, e)
both_true false b e = let z : ◌≡◌ {A = ℕ} 0 1 = cc in absurd (let o : ⊥ = omega arith in o)

-- a list of four or more has four first
by_four : (P : List ℕ → Type 0) → ((a b c d : ℕ) (bs : List ℕ) → P (a ∷ b ∷ c ∷ d ∷ bs)) → (bs : List ℕ) → 4 ≤ length bs → P bs
by_four P p [] h = absurd (let o : ⊥ = omega arith in o)
by_four P p (a ∷ []) h = absurd (let o : ⊥ = omega arith in o)
by_four P p (a ∷ (b ∷ [])) h = absurd (let o : ⊥ = omega arith in o)
by_four P p (a ∷ (b ∷ (c ∷ []))) h = absurd (let o : ⊥ = omega arith in o)
by_four P p (a ∷ (b ∷ (c ∷ (d ∷ bs)))) h = p a b c d bs

number_of_bytes : (k n : ℕ) → n < 256 ^ k → number (bytes k n) ≡ n
number_of_bytes k n h = number_bytes k n ∙ mod-eq_of_lt h

bytes_of_number : (k : ℕ) (bs : List ℕ) → length bs ≡ k → AllByRecursion (λ b. b < 256) bs → bytes k (number bs) ≡ bs
bytes_of_number k bs long h = ap (λ j. bytes j (number bs)) (sym long) ∙ bytes_number bs h

is_zero : (n : ℕ) → (n == 0) ≡ true → n ≡ 0
is_zero n e = grind (arith, nat_tests)

pub weight_back : (w : Weight) → weight_reading (weight_written w) ≡ told (weight_canonical w)
weight_back w =
    let read : number (bytes 8 (decoded w)) ≡ decoded w = number_of_bytes 8 (decoded w) (omega arith) in
    ap weight_made read ∙ grind (arith, nat_tests)

pub weight_only : (bs : List ℕ) (w : Weight) → Twelve bs → weight_reading bs ≡ told w → bs ≡ weight_written w
weight_only bs w h e = by_four (λ bs. Twelve bs → weight_reading bs ≡ told w → bs ≡ weight_written w) go bs (omega (arith, h.long)) h e
  where
    go : (a b c d : ℕ) (bs : List ℕ) → Twelve (a ∷ b ∷ c ∷ d ∷ bs) → weight_reading (a ∷ b ∷ c ∷ d ∷ bs) ≡ told w → a ∷ b ∷ c ∷ d ∷ bs ≡ weight_written w
    go a b c d bs h e =
        let passed = told_if (a == 0 && (b == 0 && (c == 0 && d == 0))) (weight_made (number bs)) 3 [] w e in
        let made = told_if (nat_le (number bs) most_bytes) (told (record { held = number bs })) 3 [] w passed.1 in
        let za = both_true (a == 0) _ passed.0 in
        let zb = both_true (b == 0) _ za.1 in
        let zc = both_true (c == 0) (d == 0) zb.1 in
        let same : record { held = number bs } ≡ w = told_same _ w made.1 in
        let held : decoded w ≡ number bs = ap decoded (sym same) ∙ grind (arith, nat_tests) in
        let low : bytes 8 (decoded w) ≡ bs = ap (bytes 8) held ∙ bytes_of_number 8 bs (omega (arith, h.long)) (all_bytes bs (λ i. h.bytewise (suc (suc (suc (suc i)))))) in
        let a0 = is_zero a za.0 in
        let b0 = is_zero b zb.0 in
        let c0 = is_zero c zc.0 in
        let d0 = is_zero d zc.1 in
        cc

pub card_back : (c : Card) → card_reading (card_written c) ≡ told (card_canonical c)
card_back c =
    let d : number (bytes 2 (day_of c)) ≡ day_of c = number_of_bytes 2 (day_of c) (omega arith) in
    let n : number (bytes 8 (name_of c)) ≡ name_of c = number_of_bytes 8 (name_of c) (omega arith) in
    ap (λ d. card_made d (class_of c) (number (bytes 8 (name_of c)))) d ∙ ap (card_made (day_of c) (class_of c)) n ∙ grind (arith, nat_tests)

pub card_only : (bs : List ℕ) (c : Card) → Twelve bs → card_reading bs ≡ told c → bs ≡ card_written c
card_only bs c h e = by_four (λ bs. Twelve bs → card_reading bs ≡ told c → bs ≡ card_written c) go bs (omega (arith, h.long)) h e
  where
    go : (a b k z : ℕ) (bs : List ℕ) → Twelve (a ∷ b ∷ k ∷ z ∷ bs) → card_reading (a ∷ b ∷ k ∷ z ∷ bs) ≡ told c → a ∷ b ∷ k ∷ z ∷ bs ≡ card_written c
    go a b k z bs h e =
        let day = number (a ∷ b ∷ []) in
        let passed = told_if (z == 0) (card_made day k (number bs)) 3 [] c e in
        let made = told_if (nat_le day most_day && (nat_le k most_class && nat_le (number bs) most_name)) (told (record { day = day; class = k; name = number bs })) 3 [] c passed.1 in
        let within = both_true (nat_le day most_day) _ made.0 in
        let within2 = both_true (nat_le k most_class) (nat_le (number bs) most_name) within.1 in
        let same : record { day = day; class = k; name = number bs } ≡ c = told_same _ c made.1 in
        let d : day_of c ≡ day = ap day_of (sym same) ∙ grind (arith, nat_tests) in
        let l : class_of c ≡ k = ap class_of (sym same) ∙ grind (arith, nat_tests) in
        let n : name_of c ≡ number bs = ap name_of (sym same) ∙ grind (arith, nat_tests) in
        let high : bytes 2 (day_of c) ≡ a ∷ b ∷ [] = ap (bytes 2) d ∙ bytes_of_number 2 (a ∷ b ∷ []) refl (h.bytewise 0, (h.bytewise 1, tt)) in
        let low : bytes 8 (name_of c) ≡ bs = ap (bytes 8) n ∙ bytes_of_number 8 bs (omega (arith, h.long)) (all_bytes bs (λ i. h.bytewise (suc (suc (suc (suc i)))))) in
        let z0 = is_zero z passed.0 in
        let parts : a ∷ b ∷ class_of c ∷ 0 ∷ bytes 8 (name_of c) ≡ a ∷ b ∷ k ∷ z ∷ bs = cc in
        sym (ap (λ hs. hs ++ (class_of c ∷ 0 ∷ bytes 8 (name_of c))) high ∙ parts)
