-- A digit put into a column, and the digits from a column on, by what they are worth.
use Rattle.std.proofs.Common.{◌≡◌, ℕ, zero, suc, ◌+◌, ◌-◌, ◌*◌, ◌^◌, ◌<◌, ◌≤◌, Bool, true, List, [], ◌∷◌, drop, length, slice_set, get_or, refl, sym, ap, ◌∙◌, arith}
use Rattle.std.proofs.Math.Nat.{pow-suc}
use Rattle.std.proofs.lemmas.Bool.{and_from}
use Rattle.std.specs.List.{list_all}
use Rattle.std.specs.Char.{is_ascii_digit}
use Rattle.std.specs.Cmp.{first_so, second_so}
use Rattle.canonic_number.specs.Number.{worth}
use Rattle.decimal_sum.specs.Columns.{one_if}

-- a list with one place set has as many, and digits stay digits
pub set_columns : (xs : List ℕ) (i v : ℕ) → length (slice_set xs i v) ≡ length xs
set_columns [] i v = refl
set_columns (x ∷ xs) zero v = refl
set_columns (x ∷ xs) (suc i) v = ap suc (set_columns xs i v)

pub set_digits : (xs : List ℕ) (i v : ℕ) → list_all is_ascii_digit xs ≡ true → is_ascii_digit v ≡ true → list_all is_ascii_digit (slice_set xs i v) ≡ true
set_digits [] i v e h = refl
set_digits (x ∷ xs) zero v e h = and_from _ _ h (second_so (is_ascii_digit x) _ e)
set_digits (x ∷ xs) (suc i) v e h = and_from _ _ (first_so _ _ e) (set_digits xs i v (second_so (is_ascii_digit x) _ e) h)

pub digit_at : (xs : List ℕ) (i d : ℕ) → i < length xs → list_all is_ascii_digit xs ≡ true → is_ascii_digit (get_or xs i d) ≡ true
digit_at [] i d h e = absurd (omega (arith, h))
digit_at (x ∷ xs) zero d h e = first_so _ _ e
digit_at (x ∷ xs) (suc i) d h e = digit_at xs i d (omega (arith, h)) (second_so (is_ascii_digit x) _ e)

-- the digit that was there is worth as much as the change leaves out
pub set_worth : (n : ℕ) (xs : List ℕ) (i v : ℕ) → i < length xs
    → worth n (slice_set xs i v) + (get_or xs i 0 - 48) * 10 ^ (n - 1 - i) ≡ worth n xs + (v - 48) * 10 ^ (n - 1 - i)
set_worth n [] i v low = absurd (omega (arith, low))
set_worth n (x ∷ xs) zero v low =
    let same : 10 ^ (n - 1 - 0) ≡ 10 ^ (n - 1) = ap (λ e. 10 ^ e) (omega arith) in
    rw same (omega arith)
set_worth n (x ∷ xs) (suc i) v low =
    let same : 10 ^ (n - 1 - suc i) ≡ 10 ^ (n - 1 - 1 - i) = ap (λ e. 10 ^ e) (omega arith) in
    rw same (omega (arith, set_worth (n - 1) xs i v (omega (arith, low))))

-- the first of the digits from a column on
pub worth_drop : (n : ℕ) (ys : List ℕ) (i : ℕ) → i < length ys → worth (n - i) (drop i ys) ≡ (get_or ys i 0 - 48) * 10 ^ (n - 1 - i) + worth (n - suc i) (drop (suc i) ys)
worth_drop n [] i low = absurd (omega (arith, low))
worth_drop n (y ∷ ys) zero low =
    let here : n - 0 ≡ n = omega arith in
    let same : n - 1 - 0 ≡ n - 1 = omega arith in
    rw (here, same) refl
worth_drop n (y ∷ ys) (suc i) low =
    let here : n - suc i ≡ n - 1 - i = omega arith in
    let same : n - 1 - suc i ≡ n - 1 - 1 - i = omega arith in
    let next : n - suc (suc i) ≡ n - 1 - suc i = omega arith in
    rw (here, same, next) (worth_drop (n - 1) ys i (omega (arith, low)))

-- a column added: the digit v of x, y and what was carried into it, which carries d on
added : (v d x y c p n m s y_on y_from : ℕ) → (v - 48) + d * 10 ≡ (x - 48) + (y - 48) + c → m + (x - 48) * p ≡ n + (v - 48) * p → y_from ≡ (y - 48) * p + y_on
    → n + c * p ≡ s + y_on → m + d * (p * 10) ≡ s + y_from
added v d x y c p n m s y_on y_from column put from before =
    let worth : ((v - 48) + d * 10) * p ≡ ((x - 48) + (y - 48) + c) * p = ap (λ t. t * p) column in
    omega (arith, worth, put, from, before)

-- a column taken
taken : (v d x y c p n m s y_on y_from : ℕ) → (v - 48) + (y - 48) + c ≡ (x - 48) + d * 10 → m + (x - 48) * p ≡ n + (v - 48) * p → y_from ≡ (y - 48) * p + y_on
    → n + y_on ≡ s + c * p → m + y_from ≡ s + d * (p * 10)
taken v d x y c p n m s y_on y_from column put from before =
    let worth : ((v - 48) + (y - 48) + c) * p ≡ ((x - 48) + d * 10) * p = ap (λ t. t * p) column in
    omega (arith, worth, put, from, before)

-- the place before
place_before : (n i : ℕ) → i < n → 10 ^ (n - i) ≡ 10 ^ (n - 1 - i) * 10
place_before n i h = let e : n - i ≡ suc (n - 1 - i) = omega arith in ap (λ k. 10 ^ k) e ∙ pow-suc 10 (n - 1 - i)

pub column_added : (n : ℕ) (xs ys zs : List ℕ) (at v : ℕ) (c d : Bool) → 0 < at → at ≤ length xs → length xs ≤ n → at ≤ length ys
    → (v - 48) + one_if d * 10 ≡ (get_or xs (at - 1) 0 - 48) + (get_or ys (at - 1) 0 - 48) + one_if c
    → worth n xs + one_if c * 10 ^ (n - at) ≡ worth n zs + worth (n - at) (drop at ys)
    → worth n (slice_set xs (at - 1) v) + one_if d * 10 ^ (n - (at - 1)) ≡ worth n zs + worth (n - (at - 1)) (drop (at - 1) ys)
column_added n xs ys zs at v c d some low wide inside column before =
    let next : suc (at - 1) ≡ at = omega arith in
    let place : 10 ^ (n - at) ≡ 10 ^ (n - 1 - (at - 1)) = ap (λ k. 10 ^ k) (omega arith) in
    let on : worth (n - suc (at - 1)) (drop (suc (at - 1)) ys) ≡ worth (n - at) (drop at ys) = ap (λ k. worth (n - k) (drop k ys)) next in
    let from : worth (n - (at - 1)) (drop (at - 1) ys) ≡ (get_or ys (at - 1) 0 - 48) * 10 ^ (n - 1 - (at - 1)) + worth (n - at) (drop at ys) = worth_drop n ys (at - 1) (omega arith) ∙ ap (λ t. (get_or ys (at - 1) 0 - 48) * 10 ^ (n - 1 - (at - 1)) + t) on in
    let all = added v (one_if d) (get_or xs (at - 1) 0) (get_or ys (at - 1) 0) (one_if c) (10 ^ (n - 1 - (at - 1))) (worth n xs) (worth n (slice_set xs (at - 1) v)) (worth n zs) (worth (n - at) (drop at ys)) (worth (n - (at - 1)) (drop (at - 1) ys))
    column (set_worth n xs (at - 1) v (omega arith)) from (ap (λ p. worth n xs + one_if c * p) (sym place) ∙ before) in
    ap (λ p. worth n (slice_set xs (at - 1) v) + one_if d * p) (place_before n (at - 1) (omega arith)) ∙ all

pub column_taken : (n : ℕ) (xs ys zs : List ℕ) (at v : ℕ) (c d : Bool) → 0 < at → at ≤ length xs → length xs ≤ n → at ≤ length ys
    → (v - 48) + (get_or ys (at - 1) 0 - 48) + one_if c ≡ (get_or xs (at - 1) 0 - 48) + one_if d * 10
    → worth n xs + worth (n - at) (drop at ys) ≡ worth n zs + one_if c * 10 ^ (n - at)
    → worth n (slice_set xs (at - 1) v) + worth (n - (at - 1)) (drop (at - 1) ys) ≡ worth n zs + one_if d * 10 ^ (n - (at - 1))
column_taken n xs ys zs at v c d some low wide inside column before =
    let next : suc (at - 1) ≡ at = omega arith in
    let place : 10 ^ (n - at) ≡ 10 ^ (n - 1 - (at - 1)) = ap (λ k. 10 ^ k) (omega arith) in
    let on : worth (n - suc (at - 1)) (drop (suc (at - 1)) ys) ≡ worth (n - at) (drop at ys) = ap (λ k. worth (n - k) (drop k ys)) next in
    let from : worth (n - (at - 1)) (drop (at - 1) ys) ≡ (get_or ys (at - 1) 0 - 48) * 10 ^ (n - 1 - (at - 1)) + worth (n - at) (drop at ys) = worth_drop n ys (at - 1) (omega arith) ∙ ap (λ t. (get_or ys (at - 1) 0 - 48) * 10 ^ (n - 1 - (at - 1)) + t) on in
    let all = taken v (one_if d) (get_or xs (at - 1) 0) (get_or ys (at - 1) 0) (one_if c) (10 ^ (n - 1 - (at - 1))) (worth n xs) (worth n (slice_set xs (at - 1) v)) (worth n zs) (worth (n - at) (drop at ys)) (worth (n - (at - 1)) (drop (at - 1) ys))
    column (set_worth n xs (at - 1) v (omega arith)) from (before ∙ ap (λ p. worth n zs + one_if c * p) place) in
    all ∙ ap (λ p. worth n zs + one_if d * p) (sym (place_before n (at - 1) (omega arith)))
