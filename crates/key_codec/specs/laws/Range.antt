-- What lies in a range, by its bounds.
use Rattle.std.proofs.Common.{◌≡◌, ◌≢◌, ℕ, List, not, true, refl, ap, sym, ◌∙◌, ◌↔◌, Some}
use Rattle.std.proofs.lemmas.Bool.{and_from}
use Rattle.std.specs.Prelude.{◌&&◌}
use Rattle.std.specs.declared.cmp.Ordering.{Ordering}
use Rattle.std.specs.declared.cmp.Ordering.TheVariants.{Less, Equal, Greater}
use Rattle.std.specs.Ordering.{nat_cmp, is_lt, ordering_reverse}
use Rattle.std.specs.Cmp.{first_so, second_so}
use Rattle.std.specs.Cmp.Lexicographic.{slice_cmp, nat_list_cmp_total}
use Rattle.collation.specs.Reference.{Reference}
use Rattle.collation.specs.laws.Order.{is_less, turned}
use Rattle.collation.specs.Database.{IsUnder}
use Rattle.key_codec.specs.Key.{key_of, IsFaultless}
use Rattle.key_codec.specs.Bounds.{AreBounds, IsUpTo, BytesAreBefore}
use Rattle.key_codec.specs.Range.{Range, is_within, is_below_bound}

not_below : (o : Ordering) → o ≢ Greater → not (is_lt (ordering_reverse o)) ≡ true
not_below Less h = refl
not_below Equal h = refl
not_below Greater h = absurd (h refl)

up_to : (o : Ordering) → not (is_lt (ordering_reverse o)) ≡ true → o ≢ Greater
up_to Less e = λ g. cc
up_to Equal e = λ g. cc
up_to Greater e = λ g. cc

within : (range : Range) (low high k : List ℕ) → range.low ≡ low → range.high ≡ Some high → (is_within range k ≡ true) ↔ (IsUpTo low k × BytesAreBefore k high)
within range low high k l h =
    let same : is_within range k ≡ (not (is_lt (ordering_reverse (slice_cmp nat_cmp low k))) && is_lt (slice_cmp nat_cmp k high)) =
    ap (λ b. not (is_lt (slice_cmp nat_cmp k b)) && is_below_bound k range.high) l ∙ ap (λ b. not (is_lt (slice_cmp nat_cmp k low)) && is_below_bound k b) h
    ∙ ap (λ o. not (is_lt o) && is_lt (slice_cmp nat_cmp k high)) (turned nat_list_cmp_total low k _ refl) in (
      λ e. let both = sym same ∙ e in (up_to _ (first_so _ _ both), is_less _ (second_so (not (is_lt (ordering_reverse (slice_cmp nat_cmp low k)))) _ both)),
      λ w. same ∙ and_from _ (is_lt (slice_cmp nat_cmp k high)) (not_below (slice_cmp nat_cmp low k) w.0) (ap is_lt w.1),
    )

-- a range with these bounds has what lies between them
pub range_members : (range : Range) (r : Reference) (low high : List ℕ) → AreBounds r low high → range.low ≡ low → range.high ≡ Some high → (x : Reference) → IsFaultless x → IsUnder r x ↔ (is_within range (key_of x) ≡ true)
range_members range r low high bounds l h x is =
    let test = within range low high (key_of x) l h in
    let between = bounds x is in
    (λ u. test.1 (between.0 u), λ e. between.1 (test.0 e))
