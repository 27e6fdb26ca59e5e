-- Bytes that begin as others do or stand before them: their first bytes, as many as the others, stand before or are these.
use Rattle.std.proofs.Common.{◌≡◌, ◌≢◌, ℕ, zero, suc, ◌+◌, ◌-◌, ◌*◌, ◌/◌, ◌^◌, ◌<◌, ◌≤◌, List, [], ◌∷◌, ◌++◌, Bool, true, false, refl, sym, ap, ◌∙◌, subst, arith, length, take, drop, ◌⊎◌, inl, inr}
use Rattle.std.specs.Prelude.{replicate, ◌||◌}
use Rattle.std.specs.Ordering.{nat_cmp, ordering_then, is_le, is_lt}
use Rattle.std.specs.Cmp.Lexicographic.{slice_cmp}
use Rattle.std.specs.FinMap.{nat_cmp-IsAntisymmetric}
use Rattle.std.specs.Slice.Scan.{big_endian}
use Rattle.std.specs.Int.{from_be_bytes, w64}
use Rattle.std.proofs.Math.Seq.{take-add}
use Rattle.std.proofs.lemmas.List.{take-append-drop, length-take-le, length-drop, take_all, take_at}
use Rattle.std.proofs.lemmas.Nat.{shr-shr}
use Rattle.std.specs.declared.cmp.Ordering.{Ordering}
use Rattle.std.specs.declared.cmp.Ordering.TheVariants.{Less, Equal, Greater}
use Rattle.collation.specs.Reference.{Reference}
use Rattle.collation.specs.Database.{is_under}
use Rattle.collation.specs.Levels.{is_before}
use Rattle.collation.specs.Order.{ref_cmp}
use Rattle.key_codec.specs.Key.{key_of, long_form, IsFaultless, subscripts_key}
use Rattle.key_codec.specs.Held.{IsFilled}
use Rattle.key_codec.specs.laws.Key.{begins_under, under_begins, fits_long, long_form_is}
use Rattle.key_codec.specs.laws.Bounds.{compare_as_references}
use Rattle.key_codec.proofs.Padded.{zeros_first}
use Rattle.key_codec.proofs.Spelled.{AreBytes, as_numbers, spelt, level_lists, take_take, first_decides, in_front}

-- ---- numbers

-- a number without its last bytes
whole_number : (n : ℕ) (cs : List ℕ) → AreBytes cs → big_endian n cs / 2 ^ (8 * length cs) ≡ n
whole_number n [] bytes = omega arith
whole_number n (c ∷ cs) bytes =
    let small = bytes.0 in
    let wide : 8 * length (c ∷ cs) ≡ 8 * length cs + 8 = omega arith in
    ap (λ k. big_endian (n * 256 + c) cs / 2 ^ k) wide
    ∙ sym (shr-shr (big_endian (n * 256 + c) cs) (8 * length cs) 8)
    ∙ ap (λ m. m / 2 ^ 8) (whole_number (n * 256 + c) cs bytes.1)
    ∙ omega (arith, small)

spelt_on : (n : ℕ) (bs cs : List ℕ) → big_endian n (bs ++ cs) ≡ big_endian (big_endian n bs) cs
spelt_on n [] cs = refl
spelt_on n (b ∷ bs) cs = spelt_on (n * 256 + b) bs cs

front_bytes : (n : ℕ) (bs : List ℕ) → AreBytes bs → AreBytes (take n bs)
front_bytes zero bs bytes = tt
front_bytes (suc n) [] bytes = tt
front_bytes (suc n) (b ∷ bs) bytes = (bytes.0, front_bytes n bs bytes.1)

back_bytes : (n : ℕ) (bs : List ℕ) → AreBytes bs → AreBytes (drop n bs)
back_bytes zero bs bytes = bytes
back_bytes (suc n) [] bytes = tt
back_bytes (suc n) (b ∷ bs) bytes = back_bytes n bs bytes.1

-- the first bytes of eight spell the number of all eight without its last bytes
front_number : (len past : ℕ) (xs : List ℕ) → length xs ≡ 8 → len < 8 → past ≡ 64 - 8 * len → AreBytes xs → from_be_bytes w64 xs / 2 ^ past ≡ big_endian 0 (take len xs)
front_number len past xs long few is bytes =
    let left : length (drop len xs) ≡ 8 - len = length-drop len xs ∙ ap (λ n. n - len) long in
    let past_is : past ≡ 8 * length (drop len xs) = omega (arith, left, is, few) in
    (λ i. spelt xs long i / 2 ^ past_is i)
    ∙ ap (λ t. big_endian 0 t / 2 ^ (8 * length (drop len xs))) (sym (take-append-drop len xs))
    ∙ ap (λ n. n / 2 ^ (8 * length (drop len xs))) (spelt_on 0 (take len xs) (drop len xs))
    ∙ whole_number (big_endian 0 (take len xs)) (drop len xs) (back_bytes len xs bytes)

pub fronts : (len past : ℕ) (xs ys : List ℕ) → length xs ≡ 8 → length ys ≡ 8 → len < 8 → past ≡ 64 - 8 * len → AreBytes xs → AreBytes ys →
    nat_cmp (from_be_bytes w64 xs / 2 ^ past) (from_be_bytes w64 ys / 2 ^ past) ≡ slice_cmp nat_cmp (take len xs) (take len ys)
fronts len past xs ys long wide few is first second =
    let a = length-take-le len xs (omega (arith, long, few)) in
    let b = length-take-le len ys (omega (arith, wide, few)) in
    (λ i. nat_cmp (front_number len past xs long few is first i) (front_number len past ys wide few is second i))
    ∙ as_numbers 0 (take len xs) (take len ys) (a ∙ sym b) (front_bytes len xs first) (front_bytes len ys second)

-- ---- rooms

level_true : (xs ys : List ℕ) → xs ≡ ys → true ≡ is_le (slice_cmp nat_cmp xs ys)
level_true xs ys e = sym (ap is_le (ap (slice_cmp nat_cmp xs) (sym e) ∙ level_lists xs))

-- what stands in front is equal, and so the rest decides
behind_front : (n k : ℕ) (xs ys : List ℕ) → n ≤ length xs → n ≤ length ys → take n xs ≡ take n ys → slice_cmp nat_cmp (take (n + k) xs) (take (n + k) ys) ≡ slice_cmp nat_cmp (take k (drop n xs)) (take k (drop n ys))
behind_front n k xs ys long wide same =
    let a = length-take-le n xs long in
    let b = length-take-le n ys wide in
    (λ i. slice_cmp nat_cmp (take-add n k xs i) (take-add n k ys i))
    ∙ in_front (take n xs) (take n ys) (take k (drop n xs)) (take k (drop n ys)) (a ∙ sym b)
    ∙ ap (λ r. ordering_then r (slice_cmp nat_cmp (take k (drop n xs)) (take k (drop n ys)))) (ap (slice_cmp nat_cmp (take n xs)) (sym same) ∙ level_lists (take n xs))

-- the first k bytes compare as the first k of the first eight, where these are all
in_few : (k : ℕ) (xs ys : List ℕ) → 8 ≤ length xs → 8 ≤ length ys → k ≤ 8 → slice_cmp nat_cmp (take k (take 8 xs)) (take k (take 8 ys)) ≡ slice_cmp nat_cmp (take k xs) (take k ys)
in_few k xs ys long wide few =
    let all : k + (8 - k) ≡ 8 = omega (arith, few) in
    let one : take k (take 8 xs) ≡ take k xs = ap (λ n. take k (take n xs)) (sym all) ∙ take_take k (8 - k) xs (omega (arith, long, few)) in
    let two : take k (take 8 ys) ≡ take k ys = ap (λ n. take k (take n ys)) (sym all) ∙ take_take k (8 - k) ys (omega (arith, wide, few)) in
    (λ i. slice_cmp nat_cmp (one i) (two i))

-- or where these decide
in_eight : (k : ℕ) (xs ys : List ℕ) → 8 ≤ length xs → 8 ≤ length ys → (k ≤ 8) ⊎ (slice_cmp nat_cmp (take 8 xs) (take 8 ys) ≢ Equal) →
    slice_cmp nat_cmp (take k (take 8 xs)) (take k (take 8 ys)) ≡ slice_cmp nat_cmp (take k xs) (take k ys)
in_eight k xs ys long wide (inl few) = in_few k xs ys long wide few
in_eight k xs ys long wide (inr unequal) = by_size (k - 8) refl
  where
    by_size : (more : ℕ) → more ≡ k - 8 → slice_cmp nat_cmp (take k (take 8 xs)) (take k (take 8 ys)) ≡ slice_cmp nat_cmp (take k xs) (take k ys)
    by_size zero e = in_few k xs ys long wide (omega (arith, e))
    by_size (suc more) e =
        let all : k ≡ 8 + suc more = omega (arith, e) in
        let a = length-take-le 8 xs long in
        let b = length-take-le 8 ys wide in
        let one = take_all k (take 8 xs) (omega (arith, a, e)) in
        let two = take_all k (take 8 ys) (omega (arith, b, e)) in
        (λ i. slice_cmp nat_cmp (one i) (two i))
        ∙ first_decides (slice_cmp nat_cmp (take 8 xs) (take 8 ys)) (slice_cmp nat_cmp (take (suc more) (drop 8 xs)) (take (suc more) (drop 8 ys))) unequal
        ∙ sym (in_front (take 8 xs) (take 8 ys) (take (suc more) (drop 8 xs)) (take (suc more) (drop 8 ys)) (a ∙ sym b))
        ∙ sym (λ i. slice_cmp nat_cmp (take-add 8 (suc more) xs i) (take-add 8 (suc more) ys i))
        ∙ sym (λ i. slice_cmp nat_cmp (take (all i) xs) (take (all i) ys))

-- eight bytes after equal ones decide, where they are unequal or the last
pub word_decides : (n len : ℕ) (xs ys : List ℕ) (b : Bool) → n + 8 ≤ length xs → n + 8 ≤ length ys → take n xs ≡ take n ys → (len ≤ n + 8) ⊎ (slice_cmp nat_cmp (take 8 (drop n xs)) (take 8 (drop n ys)) ≢ Equal) →
    b ≡ is_le (slice_cmp nat_cmp (take (len - n) (take 8 (drop n xs))) (take (len - n) (take 8 (drop n ys)))) → b ≡ is_le (slice_cmp nat_cmp (take len xs) (take len ys))
word_decides n len xs ys b long wide same last is = is ∙ by_size (len - n) refl
  where
    left : 8 ≤ length (drop n xs)
    left = omega (arith, length-drop n xs, long)

    left_too : 8 ≤ length (drop n ys)
    left_too = omega (arith, length-drop n ys, wide)

    ends : (k : ℕ) → k ≡ len - n → (k ≤ 8) ⊎ (slice_cmp nat_cmp (take 8 (drop n xs)) (take 8 (drop n ys)) ≢ Equal)
    ends k e = elim last [ inl few ↦ inl (omega (arith, few, e)) | inr unequal ↦ inr unequal ]

    less : len ≤ n → take len xs ≡ take len ys
    less few =
        let all : len + (n - len) ≡ n = omega (arith, few) in
        sym (take_take len (n - len) xs (omega (arith, few, long))) ∙ ap (take len) (ap (λ m. take m xs) all ∙ same ∙ sym (ap (λ m. take m ys) all)) ∙ take_take len (n - len) ys (omega (arith, few, wide))

    by_size : (k : ℕ) → k ≡ len - n → is_le (slice_cmp nat_cmp (take k (take 8 (drop n xs))) (take k (take 8 (drop n ys)))) ≡ is_le (slice_cmp nat_cmp (take len xs) (take len ys))
    by_size zero e = level_true (take len xs) (take len ys) (less (omega (arith, e)))
    by_size (suc k) e =
        let all : n + suc k ≡ len = omega (arith, e) in
        ap is_le (in_eight (suc k) (drop n xs) (drop n ys) left left_too (ends (suc k) e) ∙ sym (behind_front n (suc k) xs ys (omega (arith, long)) (omega (arith, wide)) same) ∙ (λ i. slice_cmp nat_cmp (take (all i) xs) (take (all i) ys)))

-- ---- zeros behind

either_le : (r : Ordering) → (r ≡ Less) ⊎ (r ≡ Equal) → is_le r ≡ true
either_le r (inl e) = ap is_le e
either_le r (inr e) = ap is_le e

then_le : (r s t : Ordering) → is_le s ≡ is_le t → is_le (ordering_then r s) ≡ is_le (ordering_then r t)
then_le Less s t e = refl
then_le Equal s t e = e
then_le Greater s t e = refl

-- zeros after the bytes don't decide
zeros_past : (xs rs : List ℕ) (m : ℕ) → length rs ≤ length xs + m → is_le (slice_cmp nat_cmp (take (length rs) (xs ++ replicate m 0)) rs) ≡ is_le (slice_cmp nat_cmp (take (length rs) xs) rs)
zeros_past xs [] m fits = refl
zeros_past [] (r ∷ rs) zero fits = refl
zeros_past [] (r ∷ rs) (suc m) fits =
    let few : length rs ≤ m = omega (arith, fits) in
    either_le (slice_cmp nat_cmp (take (length (r ∷ rs)) (replicate (suc m) 0)) (r ∷ rs))
    (subst (λ z. (slice_cmp nat_cmp z (r ∷ rs) ≡ Less) ⊎ (slice_cmp nat_cmp z (r ∷ rs) ≡ Equal)) (sym (fewer_zeros (length (r ∷ rs)) (suc m) (omega (arith, few)))) (zeros_first (length (r ∷ rs)) (r ∷ rs) refl))
  where
    fewer_zeros : (n m : ℕ) → n ≤ m → take n (replicate {A = ℕ} m 0) ≡ replicate n 0
    fewer_zeros zero m few = refl
    fewer_zeros (suc n) zero few = absurd (omega (arith, few))
    fewer_zeros (suc n) (suc m) few = ap (λ t. 0 ∷ t) (fewer_zeros n m (omega (arith, few)))
zeros_past (x ∷ xs) (r ∷ rs) m fits = then_le (nat_cmp x r) (slice_cmp nat_cmp (take (length rs) (xs ++ replicate m 0)) rs) (slice_cmp nat_cmp (take (length rs) xs) rs) (zeros_past xs rs m (omega (arith, fits)))

-- so rooms tell of the bytes in them
pub filled_past : (m n : ℕ) (xs ys : List ℕ) (b : Bool) → length xs ≡ 38 → length ys ≡ 38 → IsFilled m xs → IsFilled n ys → b ≡ is_le (slice_cmp nat_cmp (take n xs) (take n ys)) → b ≡ is_le (slice_cmp nat_cmp (take (length (take n ys)) (take m xs)) (take n ys))
filled_past m n xs ys b long wide first second is =
    let k = first.0 in
    let l = second.0 in
    let a = length-take-le m xs (omega (arith, long, k)) in
    let c : length (take n ys) ≡ n = length-take-le n ys (omega (arith, wide, l)) in
    let front : take m xs ++ replicate (38 - m) 0 ≡ xs = ap (λ t. take m xs ++ t) (sym first.1) ∙ take-append-drop m xs in
    is ∙ (λ i. is_le (slice_cmp nat_cmp (take (sym c i) (sym front i)) (take n ys)))
    ∙ zeros_past (take m xs) (take n ys) (38 - m) (omega (arith, a, c, k, l))

-- ---- references

-- what doesn't begin as the root does stands before its end only where it stands before it
no_beginning : (xs rs : List ℕ) → ((u : List ℕ) → xs ≢ rs ++ u) → is_le (slice_cmp nat_cmp (take (length rs) xs) rs) ≡ is_lt (slice_cmp nat_cmp xs rs)
no_beginning xs [] apart = absurd (apart xs refl)
no_beginning [] (r ∷ rs) apart = refl
no_beginning (x ∷ xs) (r ∷ rs) apart = first_apart (nat_cmp x r) (nat_cmp-IsAntisymmetric x r) (λ same. no_beginning xs rs (λ u h. apart u (λ i. same i ∷ h i)))
  where
    first_apart : (o : Ordering) → (o ≡ Equal → x ≡ r) → (x ≡ r → is_le (slice_cmp nat_cmp (take (length rs) xs) rs) ≡ is_lt (slice_cmp nat_cmp xs rs)) →
        is_le (ordering_then o (slice_cmp nat_cmp (take (length rs) xs) rs)) ≡ is_lt (ordering_then o (slice_cmp nat_cmp xs rs))
    first_apart Less tied rest = refl
    first_apart Greater tied rest = refl
    first_apart Equal tied rest = rest (tied refl)

begins_past : (rs u : List ℕ) → is_le (slice_cmp nat_cmp (take (length rs) (rs ++ u)) rs) ≡ true
begins_past rs u = sym (level_true (take (length rs) (rs ++ u)) rs (take_at rs u (length rs) refl))

-- keys stand before the end of all that begins with the root's where their references do
pub past_tested : (r x : Reference) (s t : List ℕ) (b : Bool) → IsFaultless r → IsFaultless x → s ≡ key_of x → t ≡ key_of r → b ≡ is_le (slice_cmp nat_cmp (take (length t) s) t) → b ≡ is_before true r x
past_tested r x s t b p q e f is = is ∙ (λ i. is_le (slice_cmp nat_cmp (take (length (f i)) (e i)) (f i))) ∙ by_under (is_under r x) refl
  where
    by_under : (u : Bool) → is_under r x ≡ u → is_le (slice_cmp nat_cmp (take (length (key_of r)) (key_of x)) (key_of r)) ≡ (is_under r x || is_lt (ref_cmp x r))
    by_under true h =
        let on = under_begins long_form r x h in
        ap (λ k. is_le (slice_cmp nat_cmp (take (length (key_of r)) k) (key_of r))) on.is ∙ begins_past (key_of r) (subscripts_key long_form on.more) ∙ sym (ap (λ v. v || is_lt (ref_cmp x r)) h)
    by_under false h =
        no_beginning (key_of x) (key_of r) (λ u same. clash (begins_under long_form long_form_is r x u (fits_long r p) (fits_long x q) same))
        ∙ ap is_lt (compare_as_references x r q p) ∙ sym (ap (λ v. v || is_lt (ref_cmp x r)) h)
      where
        clash : is_under r x ≡ true → ⊥
        clash g = let wrong : true ≡ false = sym g ∙ h in cc
