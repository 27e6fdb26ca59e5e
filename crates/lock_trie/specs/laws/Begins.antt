-- Beginnings of lists of subscripts.
use Rattle.std.proofs.Common.{zero, suc, ◌≡◌, ◌≤◌, ℕ, List, [], ◌∷◌, true, false, length, take, refl, sym, ap, subst, ◌∙◌, arith}
use Rattle.std.specs.Prelude.{nat_eq}
use Rattle.std.specs.Cmp.{nat_eq_equiv, first_so, second_so, tied_itself}
use Rattle.std.specs.Cmp.Lexicographic.{slice_cmp, pointwise, lists_equiv, bytes_decides}
use Rattle.std.specs.declared.cmp.Ordering.{Ordering}
use Rattle.std.specs.declared.cmp.Ordering.TheVariants.{Less, Equal, Greater}
use Rattle.std.specs.Ordering.{is_gt, ordering_then, ordering_reverse}
use Rattle.std.proofs.lemmas.Bool.{and_from}
use Rattle.collation.specs.Database.{begins_with}
use Rattle.collation.specs.Order.{subscript_cmp}
use Rattle.collation.specs.laws.Order.{subscript_cmp_total, subscript_cmp-IsAntisymmetric}

abbrev pub Path : Type 0
Path = List (List ℕ)

pub text_itself : (t : List ℕ) → pointwise nat_eq t t ≡ true
text_itself t = let laws = lists_equiv nat_eq_equiv in laws.refl t

pub same_text : (s t : List ℕ) → pointwise nat_eq s t ≡ true → s ≡ t
same_text s t e = let d = bytes_decides s t in d.0 e

pub equal_texts : (s t : List ℕ) → s ≡ t → pointwise nat_eq s t ≡ true
equal_texts s t e = subst (λ z. pointwise nat_eq s z ≡ true) e (text_itself s)

pub begins_short : (p x : Path) → begins_with p x ≡ true → length x ≤ length p
begins_short p [] e = omega arith
begins_short [] (y ∷ ys) e = absurd (cc)
begins_short (q ∷ ps) (y ∷ ys) e = let h : length ys ≤ length ps = begins_short ps ys (second_so (pointwise nat_eq q y) (begins_with ps ys) e) in omega arith

pub begins_is : (p x : Path) → begins_with p x ≡ true → x ≡ take (length x) p
begins_is p [] e = refl
begins_is [] (y ∷ ys) e = absurd (cc)
begins_is (q ∷ ps) (y ∷ ys) e =
    let h : ys ≡ take (length ys) ps = begins_is ps ys (second_so (pointwise nat_eq q y) (begins_with ps ys) e) in
    let t : q ≡ y = same_text q y (first_so (pointwise nat_eq q y) (begins_with ps ys) e) in
    λ i. sym t i ∷ h i

pub take_begins : (i : ℕ) (p : Path) → begins_with p (take i p) ≡ true
take_begins zero p = refl
take_begins (suc i) [] = refl
take_begins (suc i) (q ∷ ps) = and_from _ _ (text_itself q) (take_begins i ps)

-- a beginning that is as long as the path is the path
pub whole_begins : (p x : Path) → begins_with p x ≡ true → length p ≤ length x → begins_with x p ≡ true
whole_begins [] x b h = refl
whole_begins (q ∷ ps) [] b h = absurd (omega arith)
whole_begins (q ∷ ps) (y ∷ ys) b h =
    let t : q ≡ y = same_text q y (first_so (pointwise nat_eq q y) (begins_with ps ys) b) in
    and_from _ _ (equal_texts y q (sym t)) (whole_begins ps ys (second_so (pointwise nat_eq q y) (begins_with ps ys) b) (omega arith))

-- what begins with the first of a list begins with fewer of them
pub begins_fewer : (i k : ℕ) (p x : Path) → i ≤ k → begins_with p (take k x) ≡ true → begins_with p (take i x) ≡ true
begins_fewer zero k p x l b = refl
begins_fewer (suc i) zero p x l b = absurd (omega (arith, l))
begins_fewer (suc i) (suc k) p [] l b = refl
begins_fewer (suc i) (suc k) [] (y ∷ ys) l b = absurd (cc)
begins_fewer (suc i) (suc k) (q ∷ ps) (y ∷ ys) l b = and_from _ _ (first_so _ _ b) (begins_fewer i k ps ys (omega (arith, l)) (second_so (pointwise nat_eq q y) _ b))

-- ---- in the order of lists

-- what begins with a list doesn't stand before it
pub not_before : (ps xs : Path) → begins_with xs ps ≡ true → is_gt (slice_cmp subscript_cmp ps xs) ≡ false
not_before [] [] b = refl
not_before [] (x ∷ xs) b = refl
not_before (p ∷ ps) [] b = absurd (cc)
not_before (p ∷ ps) (x ∷ xs) b =
    let t : x ≡ p = same_text x p (first_so _ _ b) in
    let e : subscript_cmp p x ≡ Equal = ap (subscript_cmp p) t ∙ tied_itself subscript_cmp_total p in
    rw e (not_before ps xs (second_so (pointwise nat_eq x p) _ b))

pub record Squeezed (q a b : Ordering) : Type 0 where
  pub same : q ≡ Equal
  pub low : is_gt a ≡ false
  pub high : b ≡ Less

-- two comparisons with something between, of which the first members tie
pub squeezed : (q a b : Ordering) → is_gt (ordering_then q a) ≡ false → ordering_then (ordering_reverse q) b ≡ Less → Squeezed q a b
squeezed Less a b h k = absurd (cc)
squeezed Equal a b h k = record { same = refl; low = h; high = k }
squeezed Greater a b h k = absurd (cc)

-- what lies between a list and one that begins with it begins with it too
pub between : (ps xs ys : Path) → is_gt (slice_cmp subscript_cmp ps xs) ≡ false → slice_cmp subscript_cmp xs ys ≡ Less → begins_with ys ps ≡ true → begins_with xs ps ≡ true
between [] xs ys low high b = refl
between (p ∷ ps) [] ys low high b = absurd (cc)
between (p ∷ ps) (x ∷ xs) [] low high b = absurd (cc)
between (p ∷ ps) (x ∷ xs) (y ∷ ys) low high b =
    let t : y ≡ p = same_text y p (first_so _ _ b) in
    let turned : subscript_cmp x y ≡ ordering_reverse (subscript_cmp p x) = ap (subscript_cmp x) t ∙ subscript_cmp_total.antisymm x p in
    let s = squeezed (subscript_cmp p x) (slice_cmp subscript_cmp ps xs) (slice_cmp subscript_cmp xs ys) low (rw turned at high) in
    and_from _ _ (equal_texts x p (sym (subscript_cmp-IsAntisymmetric p x s.same))) (between ps xs ys s.low s.high (second_so (pointwise nat_eq y p) _ b))
