-- Lists of bytes that end, compared.
use Rattle.std.proofs.Common.{◌≡◌, ℕ, ◌+◌, ◌-◌, ◌*◌, ◌/◌, ◌%◌, ◌<◌, List, [], ◌∷◌, ◌++◌, true, false, refl, ap, sym, ◌∙◌, arith, append_assoc}
use Rattle.std.proofs.Math.Nat.{mod-lt}
use Rattle.std.proofs.lemmas.Nat.{div-add-mod'}
use Rattle.std.proofs.lemmas.Bool.Decides.{nat_tests}
use Rattle.std.proofs.lemmas.Cmp.{by_ranked}
use Rattle.std.specs.Prelude.{◌==◌, nat_lt}
use Rattle.std.specs.List.{list_all}
use Rattle.std.specs.Char.{is_ascii_digit}
use Rattle.std.specs.declared.cmp.Ordering.{Ordering}
use Rattle.std.specs.declared.cmp.Ordering.TheVariants.{Less, Equal, Greater}
use Rattle.std.specs.Ordering.{nat_cmp, ordering_then}
use Rattle.std.specs.Cmp.{ranked, nat_cmp_is, first_so, second_so}
use Rattle.std.specs.Cmp.Derive.{then_next}
use Rattle.std.specs.Cmp.Lexicographic.{slice_cmp}
use Rattle.std.proofs.lemmas.Bool.{eqb-true, ltb-true}
use Rattle.canonic_number.specs.laws.Digits.{head_digit, tail_digits}
use Rattle.key_codec.specs.Key.{rising, falling, escape, escaped}

-- what never decides can go
pub no_tie : (o s t : Ordering) → (o ≡ Equal → s ≡ Equal) → ordering_then (ordering_then o s) t ≡ ordering_then o t
no_tie Less s t h = refl
no_tie Equal s t h = ap (λ r. ordering_then r t) (h refl)
no_tie Greater s t h = refl

pub same_cmp : (a b c d : ℕ) → (a < b → c < d) → (a ≡ b → c ≡ d) → (b < a → d < c) → nat_cmp a b ≡ nat_cmp c d
same_cmp a b c d less equal greater =
    by_ranked _ _ _ (nat_cmp a b) (ranked a b _ refl)
    (λ r l. r ∙ nat_cmp_is _ _ Less (less l)) (λ r l. r ∙ nat_cmp_is _ _ Equal (equal l)) (λ r l. r ∙ nat_cmp_is _ _ Greater (greater l))

below : (a b : ℕ) (o : Ordering) → a < b → ordering_then (nat_cmp a b) o ≡ Less
below a b o h = ap (λ r. ordering_then r o) (sym (nat_cmp_is a b Less h))

above : (a b : ℕ) (o : Ordering) → b < a → ordering_then (nat_cmp a b) o ≡ Greater
above a b o h = ap (λ r. ordering_then r o) (sym (nat_cmp_is a b Greater h))

-- where the first two compare alike and so does the rest, all does
pub joined : (a b : Ordering) (o p t : Ordering) → a ≡ b → o ≡ ordering_then p t → ordering_then a o ≡ ordering_then (ordering_then b p) t
joined a b o p t e f = ap (λ r. ordering_then r o) e ∙ then_next b p t refl (ap (ordering_then b) f)

-- two bytes, the higher first, are their number
pub word_back : (n : ℕ) → n / 256 * 256 + n % 256 ≡ n
word_back n = div-add-mod' n 256

low_byte : (n : ℕ) → n % 256 < 256
low_byte n = mod-lt n (omega arith)

-- and compare as it
pub two_cmp : (m n : ℕ) (t : Ordering) → ordering_then (nat_cmp (m / 256) (n / 256)) (ordering_then (nat_cmp (m % 256) (n % 256)) t) ≡ ordering_then (nat_cmp m n) t
two_cmp m n t =
    by_ranked _ _ _ (nat_cmp (m / 256) (n / 256)) (ranked (m / 256) (n / 256) _ refl)
    (λ r l. ap (λ o. ordering_then o (ordering_then (nat_cmp (m % 256) (n % 256)) t)) r ∙ sym (below m n t (omega (arith, word_back m, word_back n, low_byte m, low_byte n))))
    (λ r e. ap (λ o. ordering_then o (ordering_then (nat_cmp (m % 256) (n % 256)) t)) r
    ∙ ap (λ o. ordering_then o t) (same_cmp (m % 256) (n % 256) m n (λ h. omega (arith, word_back m, word_back n)) (λ h. omega (arith, word_back m, word_back n)) (λ h. omega (arith, word_back m, word_back n))))
    (λ r l. ap (λ o. ordering_then o (ordering_then (nat_cmp (m % 256) (n % 256)) t)) r ∙ sym (above m n t (omega (arith, word_back m, word_back n, low_byte m, low_byte n))))

pub rising_cmp : (ds es u v : List ℕ) → list_all is_ascii_digit ds ≡ true → list_all is_ascii_digit es ≡ true →
    slice_cmp nat_cmp (rising ds ++ u) (rising es ++ v) ≡ ordering_then (slice_cmp nat_cmp ds es) (slice_cmp nat_cmp u v)
rising_cmp [] [] u v d e = refl
rising_cmp [] (y ∷ es) u v d e = let is = head_digit y es e in below 0 (y - 47) _ (omega (arith, is.low))
rising_cmp (x ∷ ds) [] u v d e = let is = head_digit x ds d in above (x - 47) 0 _ (omega (arith, is.low))
rising_cmp (x ∷ ds) (y ∷ es) u v d e =
    let is = head_digit x ds d in
    let is' = head_digit y es e in
    joined (nat_cmp (x - 47) (y - 47)) (nat_cmp x y) _ (slice_cmp nat_cmp ds es) _ (same_cmp (x - 47) (y - 47) x y (λ h. omega (arith, is.low, is'.low)) (λ h. omega (arith, is.low, is'.low)) (λ h. omega (arith, is.low, is'.low)))
    (rising_cmp ds es u v (tail_digits x ds d) (tail_digits y es e))

-- the other way round
pub falling_cmp : (ds es u v : List ℕ) → list_all is_ascii_digit ds ≡ true → list_all is_ascii_digit es ≡ true →
    slice_cmp nat_cmp (falling ds ++ u) (falling es ++ v) ≡ ordering_then (slice_cmp nat_cmp es ds) (slice_cmp nat_cmp u v)
falling_cmp [] [] u v d e = refl
falling_cmp [] (y ∷ es) u v d e = let is = head_digit y es e in above 255 (58 - y) _ (omega (arith, is.low))
falling_cmp (x ∷ ds) [] u v d e = let is = head_digit x ds d in below (58 - x) 255 _ (omega (arith, is.low))
falling_cmp (x ∷ ds) (y ∷ es) u v d e =
    let is = head_digit x ds d in
    let is' = head_digit y es e in
    joined (nat_cmp (58 - x) (58 - y)) (nat_cmp y x) _ (slice_cmp nat_cmp es ds) _ (same_cmp (58 - x) (58 - y) y x (λ h. omega (arith, is.high, is'.high)) (λ h. omega (arith, is.high, is'.high)) (λ h. omega (arith, is.high, is'.high)))
    (falling_cmp ds es u v (tail_digits x ds d) (tail_digits y es e))

-- the three kinds of byte of a text
other_byte : (b n : ℕ) → (b == n) ≡ false → b ≡ n → ⊥
other_byte b n e h = grind (arith, nat_tests)

pub by_byte : {R : Type 0} (b : ℕ) → (b ≡ 0 → R) → (b ≡ 1 → R) → (1 < b → escape b ≡ b ∷ [] → R) → R
by_byte {R = R} b zero_byte one_byte more =
    elim (b == 0) as (λ t. (b == 0) ≡ t → R) [
      | true ↦ λ e. zero_byte (eqb-true b 0 e)
      | false ↦ λ e. elim (b == 1) as (λ t. (b == 1) ≡ t → R) [
        | true ↦ λ f. one_byte (eqb-true b 1 f)
        | false ↦ λ f. more (omega (arith, other_byte b 0 e, other_byte b 1 f)) (rw (e, f) refl)
      ] refl
    ] refl

pub escape_cmp : (x y : ℕ) (u v : List ℕ) → slice_cmp nat_cmp (escape x ++ u) (escape y ++ v) ≡ ordering_then (nat_cmp x y) (slice_cmp nat_cmp u v)
escape_cmp x y u v =
    by_byte x
    (λ h. by_byte y (λ k. rw (h, k) refl) (λ k. rw (h, k) refl) (λ k e. rw (h, e) (below 1 y _ k ∙ sym (below 0 y _ (omega arith)))))
    (λ h. by_byte y (λ k. rw (h, k) refl) (λ k. rw (h, k) refl) (λ k e. rw (h, e) (below 1 y _ k ∙ sym (below 1 y _ k))))
    (λ h e. by_byte y
    (λ k. rw (e, k) (above x 1 _ h ∙ sym (above x 0 _ (omega arith))))
    (λ k. rw (e, k) (above x 1 _ h ∙ sym (above x 1 _ h)))
    (λ k f. rw (e, f) refl))

end_first : (y : ℕ) (u v : List ℕ) → slice_cmp nat_cmp (0 ∷ u) (escape y ++ v) ≡ Less
end_first y u v = by_byte y (λ k. rw k refl) (λ k. rw k refl) (λ k e. rw e (below 0 y _ (omega arith)))

end_second : (x : ℕ) (u v : List ℕ) → slice_cmp nat_cmp (escape x ++ u) (0 ∷ v) ≡ Greater
end_second x u v = by_byte x (λ k. rw k refl) (λ k. rw k refl) (λ k e. rw e (above x 0 _ (omega arith)))

regroup : (a b c d : List ℕ) → ((a ++ b) ++ c) ++ d ≡ a ++ ((b ++ c) ++ d)
regroup a b c d = simp append_assoc

pub escaped_cmp : (xs ys u v : List ℕ) → slice_cmp nat_cmp ((escaped xs ++ 0 ∷ []) ++ u) ((escaped ys ++ 0 ∷ []) ++ v) ≡ ordering_then (slice_cmp nat_cmp xs ys) (slice_cmp nat_cmp u v)
escaped_cmp [] [] u v = refl
escaped_cmp [] (y ∷ ys) u v = ap (slice_cmp nat_cmp (0 ∷ u)) (regroup (escape y) (escaped ys) (0 ∷ []) v) ∙ end_first y u _
escaped_cmp (x ∷ xs) [] u v = ap (λ t. slice_cmp nat_cmp t (0 ∷ v)) (regroup (escape x) (escaped xs) (0 ∷ []) u) ∙ end_second x _ v
escaped_cmp (x ∷ xs) (y ∷ ys) u v =
    ap (λ t. slice_cmp nat_cmp t (((escape y ++ escaped ys) ++ 0 ∷ []) ++ v)) (regroup (escape x) (escaped xs) (0 ∷ []) u)
    ∙ ap (slice_cmp nat_cmp (escape x ++ ((escaped xs ++ 0 ∷ []) ++ u))) (regroup (escape y) (escaped ys) (0 ∷ []) v)
    ∙ escape_cmp x y _ _
    ∙ joined (nat_cmp x y) (nat_cmp x y) _ (slice_cmp nat_cmp xs ys) _ refl (escaped_cmp xs ys u v)

-- a name, which has no byte 0, and its end
pub named_cmp : (xs ys u v : List ℕ) → list_all (nat_lt 0) xs ≡ true → list_all (nat_lt 0) ys ≡ true →
    slice_cmp nat_cmp (xs ++ 0 ∷ u) (ys ++ 0 ∷ v) ≡ ordering_then (slice_cmp nat_cmp xs ys) (slice_cmp nat_cmp u v)
named_cmp [] [] u v d e = refl
named_cmp [] (y ∷ ys) u v d e = let h : 0 < y = ltb-true 0 y (first_so _ _ e) in below 0 y _ h
named_cmp (x ∷ xs) [] u v d e = let h : 0 < x = ltb-true 0 x (first_so _ _ d) in above x 0 _ h
named_cmp (x ∷ xs) (y ∷ ys) u v d e =
    joined (nat_cmp x y) (nat_cmp x y) _ (slice_cmp nat_cmp xs ys) _ refl (named_cmp xs ys u v (second_so (nat_lt 0 x) _ d) (second_so (nat_lt 0 y) _ e))
