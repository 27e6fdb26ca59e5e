-- Which of two cuts stands first: by whether the reference at the one stands before the other.
use Rattle.std.proofs.Common.{◌≡◌, Bool, true, false, refl, sym, ap, ◌∙◌}
use Rattle.std.specs.Prelude.{not, ◌||◌}
use Rattle.std.specs.declared.cmp.Ordering.{Ordering}
use Rattle.std.specs.declared.cmp.Ordering.TheVariants.{Less, Equal, Greater}
use Rattle.std.specs.Ordering.{is_lt}
use Rattle.collation.specs.Reference.{Reference}
use Rattle.collation.specs.Order.{ref_cmp}
use Rattle.collation.specs.laws.Order.{ref_cmp_total, ref_cmp-IsAntisymmetric, is_less, turned}
use Rattle.collation.specs.Database.{is_under}
use Rattle.collation.specs.Levels.{is_before}
use Rattle.globals.specs.declared.cut.Cut.{Cut}
use Rattle.globals.specs.Cuts.{stands_before}
use Rattle.globals.specs.laws.Cuts.{stands_before-earlier, before_end-earlier}
use Rattle.globals.specs.laws.Under.{under_again, before_end}

-- what stands before a cut that leaves k behind it stands before k
pub all_before : (cut : Cut) (k : Reference) → stands_before cut k ≡ false → (x : Reference) → stands_before cut x ≡ true → is_lt (ref_cmp x k) ≡ true
all_before cut k out x h = by_order (ref_cmp x k) refl
  where
    by_order : (o : Ordering) → ref_cmp x k ≡ o → is_lt o ≡ true
    by_order Less e = refl
    by_order Equal e = let same : x ≡ k = ref_cmp-IsAntisymmetric x k e in let clash : true ≡ false = sym h ∙ ap (stands_before cut) same ∙ out in absurd (cc)
    by_order Greater e = let clash : true ≡ false = sym (stands_before-earlier cut k x (turned ref_cmp_total x k Greater e) h) ∙ out in absurd (cc)

-- what stands before k stands before a cut that k stands before
pub before_it : (cut : Cut) (k : Reference) → stands_before cut k ≡ true → (x : Reference) → is_lt (ref_cmp x k) ≡ true → stands_before cut x ≡ true
before_it cut k inside x h = stands_before-earlier cut x k (is_less _ h) inside

-- and so does what doesn't stand after k
pub up_to_it : (cut : Cut) (k : Reference) → stands_before cut k ≡ true → (x : Reference) → not (is_lt (ref_cmp k x)) ≡ true → stands_before cut x ≡ true
up_to_it cut k inside x h = by_order (ref_cmp k x) refl h
  where
    by_order : (o : Ordering) → ref_cmp k x ≡ o → not (is_lt o) ≡ true → stands_before cut x ≡ true
    by_order Less e h = absurd (cc)
    by_order Equal e h = let same : k ≡ x = ref_cmp-IsAntisymmetric k x e in ap (stands_before cut) (sym same) ∙ inside
    by_order Greater e h = stands_before-earlier cut x k (turned ref_cmp_total k x Greater e) inside

-- what stands before a reference doesn't stand after it
pub before_not_after : (k x : Reference) → is_lt (ref_cmp x k) ≡ true → not (is_lt (ref_cmp k x)) ≡ true
before_not_after k x h = ap (λ o. not (is_lt o)) (turned ref_cmp_total x k Less (is_less _ h))

or_second : (a b : Bool) → b ≡ true → (a || b) ≡ true
or_second true b h = refl
or_second false b h = h

-- what stands before a reference stands before the end of all under it
pub before_before_end : (k x : Reference) → is_lt (ref_cmp x k) ≡ true → is_before true k x ≡ true
before_before_end k x h = or_second (is_under k x) _ h

-- where j is under k, what stands before the end of all under j stands before the end of all under k
pub inner_end : (k j : Reference) → is_under k j ≡ true → (x : Reference) → is_before true j x ≡ true → is_before true k x ≡ true
inner_end k j under x h = by_under (is_under j x) refl h
  where
    by_under : (u : Bool) → is_under j x ≡ u → (u || is_lt (ref_cmp x j)) ≡ true → is_before true k x ≡ true
    by_under true is h = before_end k x (under_again k j x under is)
    by_under false is h = before_end-earlier k x j (is_less _ h) (before_end k j under)

-- where j isn't under k, and k stands before the end of all under j, so does all that stands before the end of all under k
pub outer_end : (k j : Reference) → is_under k j ≡ false → is_before true j k ≡ true → (x : Reference) → is_before true k x ≡ true → is_before true j x ≡ true
outer_end k j apart inside x h = by_under (is_under j k) refl inside
  where
    -- j doesn't stand before the end of all under k, since it isn't under k and stands after it
    behind : is_lt (ref_cmp k j) ≡ true → is_before true k j ≡ false
    behind l = (λ i. apart i || is_lt (turned ref_cmp_total k j Less (is_less _ l) i))

    before : is_before true k j ≡ false → is_lt (ref_cmp x j) ≡ true
    before out = by_order (ref_cmp x j) refl
      where
        by_order : (o : Ordering) → ref_cmp x j ≡ o → is_lt o ≡ true
        by_order Less e = refl
        by_order Equal e = let same : x ≡ j = ref_cmp-IsAntisymmetric x j e in let clash : true ≡ false = sym h ∙ ap (is_before true k) same ∙ out in absurd (cc)
        by_order Greater e = let clash : true ≡ false = sym (before_end-earlier k j x (turned ref_cmp_total x j Greater e) h) ∙ out in absurd (cc)

    by_under : (u : Bool) → is_under j k ≡ u → (u || is_lt (ref_cmp k j)) ≡ true → is_before true j x ≡ true
    by_under true is l = inner_end j k is x h
    by_under false is l = before_before_end j x (before (behind l))

-- what a test of a cut and its negation say
pub left_behind : (cut : Cut) (k : Reference) (t : Bool) → t ≡ stands_before cut k → not t ≡ true → stands_before cut k ≡ false
left_behind cut k true e h = absurd (cc)
left_behind cut k false e h = sym e

pub stood_before : (cut : Cut) (k : Reference) (t : Bool) → t ≡ stands_before cut k → not t ≡ false → stands_before cut k ≡ true
stood_before cut k true e h = sym e
stood_before cut k false e h = absurd (cc)
