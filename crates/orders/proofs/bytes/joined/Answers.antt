use Rattle.std.proofs.Common.{◌≡◌, ℕ, List, ◌∷◌, [], ◌++◌, length, div-one, arith, ◌∙◌, ap, refl}
use borrow.Rule.Slice.PartMut.{put_mid}
use Rattle.std.proofs.lemmas.Grind.{common_steps}
use Rattle.orders.specs.Bytes.{bytes}
use Rattle.orders.proofs.bytes.joined.Goals as goal

put_behind : (k m : ℕ) (front rest back : List ℕ) → length front ≡ k → length rest ≡ m → put_mid k m (front ++ rest) back ≡ front ++ back
put_behind k m front rest back f r = grind (arith, common_steps)

pub returns : goal.returns
returns c =
    let first = c.copy_from_slice.ensures.after in
    let second = c.copy_from_slice-2.ensures.after in
    let e = c.to_be_bytes.ensures in
    let d = div-one c.args.n in
    let written : c.copy_from_slice-2.new.self ≡ bytes 8 c.args.n = cc in
    put_behind 4 8 c.copy_from_slice.new.self (0 ∷ 0 ∷ 0 ∷ 0 ∷ 0 ∷ 0 ∷ 0 ∷ 0 ∷ []) c.copy_from_slice-2.new.self c.copy_from_slice.ensures.len refl
    ∙ ap (λ (l : List ℕ). l ++ c.copy_from_slice-2.new.self) first ∙ ap (λ (l : List ℕ). c.args.front ++ l) written
