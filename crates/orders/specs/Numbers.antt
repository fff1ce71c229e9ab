-- Bytes and numbers are each other's inverse.
use Rattle.std.specs.Prelude.{◌≡◌, ℕ, zero, suc, ◌+◌, ◌*◌, ◌/◌, ◌%◌, ◌^◌, ◌<◌, List, [], ◌∷◌, length, drop, slice_index, refl}
use Rattle.std.proofs.Common.{sym, ap, ◌∙◌, mod-eq_of_lt, mul_assoc, add_comm, arith, length-drop, drop-cons}
use Rattle.std.proofs.Math.Nat.{mod-one, one-le-pow, pow-succ', add-mul-div_right, add-mul-mod_self_right}
use Rattle.std.proofs.Math.Arith.{mod-mul, digits_div, digits_lt}
use Rattle.std.specs.List.{AllByRecursion}
use Rattle.orders.specs.Bytes.{bytes, number}

256-pow-pos : (k : ℕ) → 0 < 256 ^ k
256-pow-pos k = one-le-pow k 256 (omega arith)

pub length_bytes : (k n : ℕ) → length (bytes k n) ≡ k
length_bytes zero n = refl
length_bytes (suc k) n = ap suc (length_bytes k n)

pub number_bytes : (k n : ℕ) → number (bytes k n) ≡ n % 256 ^ k
number_bytes zero n = sym (mod-one n)
number_bytes (suc k) n = rw (length_bytes k n, number_bytes k n, pow-succ' 256 k) (sym (mod-mul n {m = 256} {c = 256 ^ k} (omega arith) (256-pow-pos k)))

pub number_lt : (bs : List ℕ) → AllByRecursion (λ b. b < 256) bs → number bs < 256 ^ length bs
number_lt [] h = omega arith
number_lt (b ∷ bs) h = rw (pow-succ' 256 (length bs)) (digits_lt h.0 (number_lt bs h.1))

-- what lies above the k lowest bytes does not show in them
bytes_over : (k q n : ℕ) → bytes k (q * 256 ^ k + n) ≡ bytes k n
bytes_over zero q n = refl
bytes_over (suc k) q n =
    let up : q * 256 ^ suc k + n ≡ (q * 256) * 256 ^ k + n = ap (λ x. q * x + n) (pow-succ' 256 k) ∙ ap (λ x. x + n) (sym (mul_assoc q 256 (256 ^ k))) in
    let shift : (q * 256 ^ suc k + n) / 256 ^ k ≡ n / 256 ^ k + q * 256 =
    ap (λ x. x / 256 ^ k) (up ∙ add_comm ((q * 256) * 256 ^ k) n) ∙ add-mul-div_right n (q * 256) (256-pow-pos k) in
    let high : (q * 256 ^ suc k + n) / 256 ^ k % 256 ≡ n / 256 ^ k % 256 = ap (λ x. x % 256) shift ∙ add-mul-mod_self_right (n / 256 ^ k) q 256 in
    let low : bytes k (q * 256 ^ suc k + n) ≡ bytes k n = ap (bytes k) up ∙ bytes_over k (q * 256) n in
    cc

pub bytes_number : (bs : List ℕ) → AllByRecursion (λ b. b < 256) bs → bytes (length bs) (number bs) ≡ bs
bytes_number [] h = refl
bytes_number (b ∷ bs) h =
    let m = 256 ^ length bs in
    let high : (b * 256 ^ length bs + number bs) / 256 ^ length bs % 256 ≡ b =
    ap (λ x. x % 256) (digits_div b (number_lt bs h.1)) ∙ mod-eq_of_lt h.0 in
    let low : bytes (length bs) (b * 256 ^ length bs + number bs) ≡ bs = bytes_over (length bs) b (number bs) ∙ bytes_number bs h.1 in
    cc

-- the number in the bytes from i on, of which there are k + 1
pub number_drop : (bs : List ℕ) (i k : ℕ) → length bs ≡ i + suc k → number (drop i bs) ≡ slice_index bs i * 256 ^ k + number (drop (suc i) bs)
number_drop bs i k h =
    let left : length (drop (suc i) bs) ≡ k = length-drop (suc i) bs ∙ omega arith in
    ap number (drop-cons bs i 0 (omega arith)) ∙ ap (λ j. slice_index bs i * 256 ^ j + number (drop (suc i) bs)) left

pub all_bytes : (bs : List ℕ) → ((i : ℕ) → slice_index bs i < 256) → AllByRecursion (λ b. b < 256) bs
all_bytes [] h = tt
all_bytes (b ∷ bs) h = (h 0, all_bytes bs (λ i. h (suc i)))

-- eight bytes, one by one
pub spread : (b : List ℕ) (n : ℕ) → b ≡ bytes 8 n → slice_index b 0 ∷ slice_index b 1 ∷ slice_index b 2 ∷ slice_index b 3 ∷ slice_index b 4 ∷ slice_index b 5 ∷ slice_index b 6 ∷ slice_index b 7 ∷ [] ≡ bytes 8 n
spread b n e = ap (λ (b : List ℕ). slice_index b 0 ∷ slice_index b 1 ∷ slice_index b 2 ∷ slice_index b 3 ∷ slice_index b 4 ∷ slice_index b 5 ∷ slice_index b 6 ∷ slice_index b 7 ∷ []) e
