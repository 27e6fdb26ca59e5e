-- Digits that are put into zeros, one by one.
use Rattle.std.proofs.Common.{◌≡◌, ℕ, zero, suc, zero-add, ◌+◌, ◌-◌, ◌<◌, ◌≤◌, List, [], ◌∷◌, ◌++◌, sym, ap, ◌∙◌, arith, length, take, get_or, append_assoc}
use Rattle.std.specs.Prelude.{map, replicate}
use Rattle.std.proofs.Math.ListN.{set}
use Rattle.std.proofs.Math.Seq.{take-suc, set-append_seam}
use Rattle.std.proofs.lemmas.List.{length-take-le, length-map, map-append, take_all, take_at, length-append, length-replicate}
use Rattle.canonic_number.specs.Place.{pointed}
use Rattle.key_codec.proofs.Showing.{pointed_few}

put_next : (front : List ℕ) (at left : ℕ) (v : ℕ) → length front ≡ at → set (front ++ replicate (suc left) 48) at v ≡ (front ++ v ∷ []) ++ replicate left 48
put_next front at left v long =
    ap (λ n. set (front ++ replicate (suc left) 48) n v) (sym long) ∙ set-append_seam front 48 (replicate left 48) v ∙ sym (append_assoc front (v ∷ []) (replicate left 48))

pub next_digit : (f : ℕ → ℕ) (ds room : List ℕ) (at d : ℕ) → at < length ds → at < 14 → room ≡ map f (take at ds) ++ replicate (14 - at) 48 → set room at (f (get_or ds at d)) ≡ map f (take (at + 1) ds) ++ replicate (14 - (at + 1)) 48
next_digit f ds room at d within small is =
    let left : 14 - at ≡ suc (14 - (at + 1)) = omega (arith, small) in
    let next : suc at ≡ at + 1 = omega arith in
    let long : length (map f (take at ds)) ≡ at = length-map (take at ds) f ∙ length-take-le at ds (omega (arith, within)) in
    ap (λ r. set r at (f (get_or ds at d))) (is ∙ ap (λ n. map f (take at ds) ++ replicate n 48) left)
    ∙ put_next (map f (take at ds)) at (14 - (at + 1)) (f (get_or ds at d)) long
    ∙ ap (λ t. t ++ replicate (14 - (at + 1)) 48) (sym (map-append f (take at ds) (get_or ds at d ∷ [])) ∙ ap (map f) (sym (take-suc ds at d within) ∙ ap (λ n. take n ds) next))

replicate-more : (i j : ℕ) → replicate {A = ℕ} (i + j) 48 ≡ replicate i 48 ++ replicate j 48
replicate-more zero j = ap (λ n. replicate {A = ℕ} n 48) (zero-add j)
replicate-more (suc i) j =
    let next : suc i + j ≡ suc (i + j) = omega arith in
    ap (λ n. replicate {A = ℕ} n 48) next ∙ ap (λ t. 48 ∷ t) (replicate-more i j)

-- once all digits are there, the first so many bytes are the number
pub whole_is : (f : ℕ → ℕ) (ds room : List ℕ) (at whole : ℕ) → at ≡ length ds → length ds ≤ whole → whole ≤ 14 → room ≡ map f (take at ds) ++ replicate (14 - at) 48 → take whole room ≡ pointed whole (map f ds)
whole_is f ds room at whole end all small is =
    let parts : 14 - at ≡ (whole - length ds) + (14 - whole) = omega (arith, end, all, small) in
    let taken : take at ds ≡ ds = take_all at ds (omega (arith, end)) in
    let front : List ℕ = map f ds ++ replicate (whole - length ds) 48 in
    let long : length front ≡ whole = length-append (map f ds) (replicate (whole - length ds) 48) ∙ (λ i. length-map ds f i + length-replicate {A = ℕ} (whole - length ds) 48 i) ∙ omega (arith, all) in
    ap (take whole) (
    is ∙ (λ i. map f (taken i) ++ replicate (parts i) 48)
    ∙ ap (λ t. map f ds ++ t) (replicate-more (whole - length ds) (14 - whole))
    ∙ sym (append_assoc (map f ds) (replicate (whole - length ds) 48) (replicate (14 - whole) 48))
    )
    ∙ take_at front (replicate (14 - whole) 48) whole long ∙ sym (pointed_few f whole ds all)
