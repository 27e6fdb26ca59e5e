-- Strings of bytes compared as numbers.
use Rattle.std.proofs.Common.{◌≡◌, ℕ, suc, ◌+◌, ◌*◌, ◌<◌, ◌≤◌, List, [], ◌∷◌, ◌++◌, refl, sym, ap, ◌∙◌, arith, length, take, drop}
use Rattle.std.specs.List.{slice_index}
use Rattle.std.specs.Ordering.{nat_cmp, ordering_then, MatchOrdering}
use Rattle.std.specs.Cmp.{ranks}
use Rattle.std.specs.Cmp.Lexicographic.{slice_cmp}
use Rattle.std.specs.Slice.Scan.{big_endian}
use Rattle.std.specs.Int.{from_be_bytes, w64}
use Rattle.std.proofs.Math.Seq.{take-add}
use Rattle.std.specs.FinMap.{nat_cmp-IsAntisymmetric, slice_cmp-IsAntisymmetric}
use Rattle.std.proofs.lemmas.List.{take-append-drop, length-take, length-take-le, length-drop, take_all, take-append-le}
use Rattle.std.specs.declared.cmp.Ordering.{Ordering}
use Rattle.std.specs.declared.cmp.Ordering.TheVariants.{Less, Equal, Greater}

-- each is a byte
abbrev pub AreBytes : List ℕ → Type 0
AreBytes [] = Unit {0}
AreBytes (b ∷ bs) = (b < 256) × AreBytes bs

is_less : (x y : ℕ) (r : Ordering) → MatchOrdering r (x < y) (x ≡ y) (y < x) → x < y → r ≡ Less
is_less x y Less h l = refl
is_less x y Equal h l = let e : x ≡ y = h in absurd (omega (arith, e, l))
is_less x y Greater h l = let e : y < x = h in absurd (omega (arith, e, l))

is_greater : (x y : ℕ) (r : Ordering) → MatchOrdering r (x < y) (x ≡ y) (y < x) → y < x → r ≡ Greater
is_greater x y Less h l = let e : x < y = h in absurd (omega (arith, e, l))
is_greater x y Equal h l = let e : x ≡ y = h in absurd (omega (arith, e, l))
is_greater x y Greater h l = refl

is_equal : (x y : ℕ) (r : Ordering) → MatchOrdering r (x < y) (x ≡ y) (y < x) → x ≡ y → r ≡ Equal
is_equal x y Less h l = let e : x < y = h in absurd (omega (arith, e, l))
is_equal x y Equal h l = refl
is_equal x y Greater h l = let e : y < x = h in absurd (omega (arith, e, l))

-- a greater number stays greater, whatever bytes follow
rises : (n a b : ℕ) (us vs : List ℕ) → length us ≡ n → length vs ≡ n → AreBytes us → a < b → big_endian a us < big_endian b vs
rises n a b [] [] long wide bytes l = l
rises n a b [] (v ∷ vs) long wide bytes l = absurd (omega (arith, long, wide))
rises n a b (u ∷ us) [] long wide bytes l = absurd (omega (arith, long, wide))
rises n a b (u ∷ us) (v ∷ vs) long wide bytes l =
    let small = bytes.0 in
    let next : a * 256 + u < b * 256 + v = omega (arith, l, small) in
    rises (length us) (a * 256 + u) (b * 256 + v) us vs refl (omega (arith, long, wide)) bytes.1 next

pub below : (x y : ℕ) → x < y → nat_cmp x y ≡ Less
below x y l = is_less x y (nat_cmp x y) (ranks x y) l

pub above : (x y : ℕ) → y < x → nat_cmp x y ≡ Greater
above x y l = is_greater x y (nat_cmp x y) (ranks x y) l

pub level : (x y : ℕ) → x ≡ y → nat_cmp x y ≡ Equal
level x y e = is_equal x y (nat_cmp x y) (ranks x y) e

then_less : (r s t : Ordering) → r ≡ Less → ordering_then r s ≡ Less
then_less r s t e = ap (λ o. ordering_then o s) e

then_greater : (r s t : Ordering) → r ≡ Greater → ordering_then r s ≡ Greater
then_greater r s t e = ap (λ o. ordering_then o s) e

then_equal : (r s : Ordering) → r ≡ Equal → ordering_then r s ≡ s
then_equal r s e = ap (λ o. ordering_then o s) e

-- strings of one length compare as the numbers that they spell
pub as_numbers : (a : ℕ) (us vs : List ℕ) → length us ≡ length vs → AreBytes us → AreBytes vs → nat_cmp (big_endian a us) (big_endian a vs) ≡ slice_cmp nat_cmp us vs
as_numbers a [] [] same first second = level a a refl
as_numbers a [] (v ∷ vs) same first second = absurd (omega (arith, same))
as_numbers a (u ∷ us) [] same first second = absurd (omega (arith, same))
as_numbers a (u ∷ us) (v ∷ vs) same first second = by_first (nat_cmp u v) refl (ranks u v) (as_numbers (a * 256 + u) us vs (omega (arith, same)) first.1 second.1)
  where
    by_first : (r : Ordering) → nat_cmp u v ≡ r → MatchOrdering r (u < v) (u ≡ v) (v < u) → nat_cmp (big_endian (a * 256 + u) us) (big_endian (a * 256 + u) vs) ≡ slice_cmp nat_cmp us vs → nat_cmp (big_endian (a * 256 + u) us) (big_endian (a * 256 + v) vs) ≡ ordering_then (nat_cmp u v) (slice_cmp nat_cmp us vs)
    by_first Less e l rest =
        let under : u < v = l in
        let x = big_endian (a * 256 + u) us in
        let y = big_endian (a * 256 + v) vs in
        below x y (rises (length us) (a * 256 + u) (a * 256 + v) us vs refl (omega (arith, same)) first.1 (omega (arith, under))) ∙ sym (then_less (nat_cmp u v) (slice_cmp nat_cmp us vs) Less e)
    by_first Equal e l rest =
        let alike : u ≡ v = l in
        ap (λ w. nat_cmp (big_endian (a * 256 + u) us) (big_endian (a * 256 + w) vs)) (sym alike) ∙ rest ∙ sym (then_equal (nat_cmp u v) (slice_cmp nat_cmp us vs) e)
    by_first Greater e l rest =
        let over : v < u = l in
        let x = big_endian (a * 256 + u) us in
        let y = big_endian (a * 256 + v) vs in
        above x y (rises (length vs) (a * 256 + v) (a * 256 + u) vs us refl (omega (arith, same)) second.1 (omega (arith, over))) ∙ sym (then_greater (nat_cmp u v) (slice_cmp nat_cmp us vs) Less e)

-- strings of one length in front decide, where they are unequal
pub in_front : (us vs xs ys : List ℕ) → length us ≡ length vs → slice_cmp nat_cmp (us ++ xs) (vs ++ ys) ≡ ordering_then (slice_cmp nat_cmp us vs) (slice_cmp nat_cmp xs ys)
in_front [] [] xs ys same = refl
in_front [] (v ∷ vs) xs ys same = absurd (omega (arith, same))
in_front (u ∷ us) [] xs ys same = absurd (omega (arith, same))
in_front (u ∷ us) (v ∷ vs) xs ys same =
    ap (ordering_then (nat_cmp u v)) (in_front us vs xs ys (omega (arith, same))) ∙ both (nat_cmp u v) (slice_cmp nat_cmp us vs) (slice_cmp nat_cmp xs ys)
  where
    both : (r s t : Ordering) → ordering_then r (ordering_then s t) ≡ ordering_then (ordering_then r s) t
    both Less s t = refl
    both Equal s t = refl
    both Greater s t = refl

-- the first n bytes decide, where they are unequal
pub in_chunks : (n : ℕ) (xs ys : List ℕ) → n ≤ length xs → n ≤ length ys → slice_cmp nat_cmp xs ys ≡ ordering_then (slice_cmp nat_cmp (take n xs) (take n ys)) (slice_cmp nat_cmp (drop n xs) (drop n ys))
in_chunks n xs ys long wide =
    let a = length-take n xs in
    let b = length-take n ys in
    (λ i. slice_cmp nat_cmp (sym (take-append-drop n xs) i) (sym (take-append-drop n ys) i))
    ∙ in_front (take n xs) (take n ys) (drop n xs) (drop n ys) (omega (arith, a, b, long, wide))

-- eight bytes, read as the library reads them
pub spelt : (bs : List ℕ) → length bs ≡ 8 → from_be_bytes w64 bs ≡ big_endian 0 bs
spelt (a ∷ b ∷ c ∷ d ∷ e ∷ f ∷ g ∷ h ∷ []) long = omega arith
spelt bs long = absurd (omega (arith, long))

pub are_bytes : (bs : List ℕ) → ((i : ℕ) → slice_index bs i < 256) → AreBytes bs
are_bytes [] fits = tt
are_bytes (b ∷ bs) fits = (fits 0, are_bytes bs (λ i. fits (suc i)))

-- eight bytes compare as the numbers that they spell
pub eight : (xs ys : List ℕ) → length xs ≡ 8 → length ys ≡ 8 → AreBytes xs → AreBytes ys → nat_cmp (from_be_bytes w64 xs) (from_be_bytes w64 ys) ≡ slice_cmp nat_cmp xs ys
eight xs ys long wide first second =
    (λ i. nat_cmp (spelt xs long i) (spelt ys wide i)) ∙ as_numbers 0 xs ys (omega (arith, long, wide)) first second

pub level_lists : (xs : List ℕ) → slice_cmp nat_cmp xs xs ≡ Equal
level_lists [] = refl
level_lists (x ∷ xs) = then_equal (nat_cmp x x) (slice_cmp nat_cmp xs xs) (level x x refl) ∙ level_lists xs

-- after equal beginnings the rest decides
pub behind_equal : (n : ℕ) (xs ys : List ℕ) → n ≤ length xs → n ≤ length ys → take n xs ≡ take n ys → slice_cmp nat_cmp xs ys ≡ slice_cmp nat_cmp (drop n xs) (drop n ys)
behind_equal n xs ys long wide same =
    in_chunks n xs ys long wide
    ∙ ap (λ r. ordering_then r (slice_cmp nat_cmp (drop n xs) (drop n ys))) (ap (slice_cmp nat_cmp (take n xs)) (sym same) ∙ level_lists (take n xs))

-- eight more bytes that are equal
pub eight_more : (n : ℕ) (xs ys : List ℕ) → take n xs ≡ take n ys → slice_cmp nat_cmp (take 8 (drop n xs)) (take 8 (drop n ys)) ≡ Equal → take (n + 8) xs ≡ take (n + 8) ys
eight_more n xs ys same level =
    let alike = slice_cmp-IsAntisymmetric nat_cmp-IsAntisymmetric (take 8 (drop n xs)) (take 8 (drop n ys)) level in
    take-add n 8 xs ∙ (λ i. same i ++ alike i) ∙ sym (take-add n 8 ys)

pub first_decides : (r t : Ordering) → (r ≡ Equal → ⊥) → r ≡ ordering_then r t
first_decides Less t unequal = refl
first_decides Equal t unequal = absurd (unequal refl)
first_decides Greater t unequal = refl

-- eight unequal bytes after equal ones decide
pub eight_decide : (n : ℕ) (xs ys : List ℕ) (r : Ordering) → n + 8 ≤ length xs → n + 8 ≤ length ys → take n xs ≡ take n ys → r ≡ slice_cmp nat_cmp (take 8 (drop n xs)) (take 8 (drop n ys)) → (r ≡ Equal → ⊥) → r ≡ slice_cmp nat_cmp xs ys
eight_decide n xs ys r long wide same is unequal =
    let left = length-drop n xs in
    let left_too = length-drop n ys in
    first_decides r (slice_cmp nat_cmp (drop 8 (drop n xs)) (drop 8 (drop n ys))) unequal
    ∙ ap (λ o. ordering_then o (slice_cmp nat_cmp (drop 8 (drop n xs)) (drop 8 (drop n ys)))) is
    ∙ sym (in_chunks 8 (drop n xs) (drop n ys) (omega (arith, long, left)) (omega (arith, wide, left_too)))
    ∙ sym (behind_equal n xs ys (omega (arith, long)) (omega (arith, wide)) same)

-- what is equal so far is equal less far
pub take_take : (n k : ℕ) (xs : List ℕ) → n ≤ length xs → take n (take (n + k) xs) ≡ take n xs
take_take n k xs long =
    let all = length-take-le n xs long in
    ap (take n) (take-add n k xs) ∙ take-append-le n (take n xs) (take k (drop n xs)) (omega (arith, all)) ∙ take_all n (take n xs) (omega (arith, all))

pub fewer : (n k : ℕ) (xs ys : List ℕ) → n ≤ length xs → n ≤ length ys → take (n + k) xs ≡ take (n + k) ys → take n xs ≡ take n ys
fewer n k xs ys long wide same = sym (take_take n k xs long) ∙ ap (take n) same ∙ take_take n k ys wide

-- so do the last eight
pub last_decide : (n : ℕ) (xs ys : List ℕ) (r : Ordering) → length xs ≡ n + 8 → length ys ≡ n + 8 → take n xs ≡ take n ys → r ≡ slice_cmp nat_cmp (take 8 (drop n xs)) (take 8 (drop n ys)) → r ≡ slice_cmp nat_cmp xs ys
last_decide n xs ys r long wide same is =
    let left = length-drop n xs in
    let left_too = length-drop n ys in
    let all = take_all 8 (drop n xs) (omega (arith, long, left)) in
    let all_too = take_all 8 (drop n ys) (omega (arith, wide, left_too)) in
    is ∙ (λ i. slice_cmp nat_cmp (all i) (all_too i)) ∙ sym (behind_equal n xs ys (omega (arith, long)) (omega (arith, wide)) same)
