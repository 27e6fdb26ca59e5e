-- Members taken out one after the other: none before a cut stands in what is left.
use Rattle.std.proofs.Common.{◌≡◌, Bool, true, false, List, refl}
use Rattle.std.specs.Prelude.{not, ◌&&◌, Some, None}
use Rattle.std.proofs.lemmas.Bool.{false_from_ne_true}
use Rattle.std.specs.Cmp.{first_so, second_so}
use Rattle.std.specs.Ordering.{is_lt}
use Rattle.std.specs.FinMap as finmap
use Rattle.collation.specs.Reference.{Reference}
use Rattle.collation.specs.Order.{ref_cmp}
use Rattle.collation.specs.Database.{Database}
use Rattle.globals.specs.declared.cut.Cut.{Cut}
use Rattle.globals.specs.declared.cut.Cut.TheVariants.{End}
use Rattle.globals.specs.Cuts.{stands_before, first_from_cut}
use Rattle.read_ranges.specs.declared.range.ReadRange.{ReadRange}
use Rattle.read_ranges.specs.Ranges.{is_in_one}
use Rattle.stretches.specs.Empty.{AreEmpty, AreLeft}
use Rattle.stretches.proofs.Alike.{Node}
use Rattle.stretches.proofs.Free.{free_from, free_to_end}

-- b, a: x stands before the member, and before what is behind it
early : (b a : Bool) → not (not b && a) ≡ true → a ≡ true → b ≡ true
early true a h is = refl
early false true h is = absurd (cc)
early false false h is = absurd (cc)

module _ (old : List ReadRange) (cut from : Cut) (members : Database)
    (reach : (x : Reference) → is_in_one old x ≡ true → stands_before cut x ≡ false → stands_before from x ≡ false)
    (out : (x : Reference) → finmap.contains_key members x ≡ true → stands_before cut x ≡ true → is_in_one old x ≡ false) where
  not_before : (x : Reference) → is_in_one old x ≡ true → finmap.contains_key members x ≡ true → stands_before from x ≡ false
  not_before x here there = by_side (stands_before cut x) refl
    where
      by_side : (b : Bool) → stands_before cut x ≡ b → stands_before from x ≡ false
      by_side true is = let gone : is_in_one old x ≡ false = out x there is in absurd (cc)
      by_side false is = reach x here is

  pub none_left : first_from_cut from members ≡ None → AreEmpty old members
  none_left none x here = false_from_ne_true _ (λ there.
      let late : stands_before from x ≡ false = not_before x here there in
      let gone : finmap.contains_key members x ≡ false = free_to_end from End members none x (λ i. not (late i) && true) in
      absurd (cc))

  pub out_before_next : (e : Node) (before behind : Cut) (new : List ReadRange) → first_from_cut from members ≡ Some e → ((x : Reference) → stands_before before x ≡ is_lt (ref_cmp x e.0))
      → AreLeft before behind old new → (x : Reference) → finmap.contains_key members x ≡ true → stands_before behind x ≡ true → is_in_one new x ≡ false
  out_before_next e before behind new is at left x there short = false_from_ne_true _ (λ here.
      let late : stands_before from x ≡ false = not_before x (first_so (is_in_one old x) _ (left x here)) there in
      let ahead : stands_before before x ≡ true = early (stands_before before x) (stands_before behind x) (second_so (is_in_one old x) _ (left x here)) short in
      let gone : finmap.contains_key members x ≡ false = free_from from before members e is at x (λ i. not (late i) && ahead i) in
      absurd (cc))
