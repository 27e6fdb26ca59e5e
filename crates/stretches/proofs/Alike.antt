-- Cuts with no member between them: look-ups from them find the same.
use Rattle.std.proofs.Common.{◌≡◌, ℕ, ◌<◌, Bool, true, false, List, [], ◌∷◌, length, get_or, zero, suc, arith, refl, sym, ap, subst, ◌∙◌}
use Rattle.std.specs.Prelude.{cond, not, ◌&&◌, filter, is_some, Option, Some, None}
use Rattle.std.proofs.lemmas.Bool.{or_left, or_right}
use Rattle.std.specs.Ordering.{eq_by_cmp}
use Rattle.std.specs.Cmp.{tied_itself}
use Rattle.std.specs.Option.{option_or}
use Rattle.std.specs.List.{find}
use Rattle.std.specs.FinMap as finmap
use Rattle.collation.specs.Reference.{Reference}
use Rattle.collation.specs.Order.{ref_cmp}
use Rattle.collation.specs.laws.Order.{ref_cmp_total}
use Rattle.collation.specs.Database.{Database}
use Rattle.globals.specs.declared.cut.Cut.{Cut}
use Rattle.globals.specs.Cuts.{stands_before, stands_within, stands_under, up_to, down_to, first_from_cut, last_before_cut, entries_from}
use Rattle.globals.specs.laws.Ends.{get_to, get_down}
use Rattle.globals.specs.Entries.{find_last}
use Rattle.read_ranges.specs.declared.range.ReadRange.{ReadRange}
use Rattle.read_ranges.specs.Ranges.{begins_after, ends_after, is_in, is_in_one}
use Rattle.stretches.specs.Empty.{AreEmpty, LiesIn, PartAlike}

abbrev pub Node : Type 0
Node = Reference × List ℕ

-- ---- the ends of an empty stretch

pub one_has : (rs : List ReadRange) (i : ℕ) (r : ReadRange) → i < length rs → r ≡ get_or rs i r → (x : Reference) → is_in r x ≡ true → is_in_one rs x ≡ true
one_has [] i r l e x h = absurd (omega arith)
one_has (q ∷ rs) zero r l e x h = or_left (is_in q x) _ (subst (λ (o : ReadRange). is_in o x ≡ true) e h)
one_has (q ∷ rs) (suc i) r l e x h = or_right (is_in q x) _ (one_has rs i r (omega arith) e x h)

-- l, h: x stands before the stretch's ends; c: before the cut
as_end : (l c h : Bool) → (l ≡ true → c ≡ true) → (c ≡ true → h ≡ true) → ((not l && h) ≡ true → ⊥) → c ≡ h
as_end l true h f g never = sym (g refl)
as_end true false h f g never = let e : false ≡ true = f refl in absurd (cc)
as_end false false true f g never = absurd (never refl)
as_end false false false f g never = refl

as_start : (l c h : Bool) → (l ≡ true → c ≡ true) → (c ≡ true → h ≡ true) → ((not l && h) ≡ true → ⊥) → c ≡ l
as_start true c h f g never = f refl
as_start false true h f g never = absurd (never (g refl))
as_start false false h f g never = refl

module _ (rs : List ReadRange) (s : ReadRange) (cut : Cut) (one : (x : Reference) → is_in s x ≡ true → is_in_one rs x ≡ true) (lies : LiesIn cut s) (m : Database) (empty : AreEmpty rs m) (x : Reference) (there : finmap.contains_key m x ≡ true) where
  never : is_in s x ≡ true → ⊥
  never h = let none : finmap.contains_key m x ≡ false = empty x (one x h) in absurd (cc)

  pub end_alike : stands_before cut x ≡ ends_after s x
  end_alike = as_end (begins_after s x) (stands_before cut x) (ends_after s x) (lies.begun x) (lies.ended x) never

  pub start_alike : stands_before cut x ≡ begins_after s x
  start_alike = as_start (begins_after s x) (stands_before cut x) (ends_after s x) (lies.begun x) (lies.ended x) never

-- ---- tests that agree on the members

head_there : (e : Node) (es : List Node) → is_some (finmap.find ref_cmp e.0 (e ∷ es)) ≡ true
head_there e es = rw (tied_itself ref_cmp_total e.0) refl

still_there : (e : Node) (es : List Node) (x : Reference) → is_some (finmap.find ref_cmp x es) ≡ true → is_some (finmap.find ref_cmp x (e ∷ es)) ≡ true
still_there e es x there = elim (eq_by_cmp ref_cmp x e.0) as (λ b. is_some (cond b (Some e.1) (finmap.find ref_cmp x es)) ≡ true) [ true ↦ refl | false ↦ there ]

module _ (P Q : Reference → Bool) where
  abbrev AgreeOn : List Node → Type 0
  AgreeOn es = (x : Reference) → is_some (finmap.find ref_cmp x es) ≡ true → P x ≡ Q x

  rest_agrees : (e : Node) (es : List Node) → AgreeOn (e ∷ es) → AgreeOn es
  rest_agrees e es alike = λ x there. alike x (still_there e es x there)

  first_same : (es : List Node) → AgreeOn es → find (λ e. P e.0) es ≡ find (λ e. Q e.0) es
  first_same [] alike = refl
  first_same (e ∷ es) alike = (λ i. cond (alike e.0 (head_there e es) i) (Some e) (first_same es (rest_agrees e es alike) i))

  last_same : (es : List Node) → AgreeOn es → find_last (λ e. P e.0) es ≡ find_last (λ e. Q e.0) es
  last_same [] alike = refl
  last_same (e ∷ es) alike = (λ i. option_or (last_same es (rest_agrees e es alike) i) (cond (alike e.0 (head_there e es) i) (Some e) None))

  kept_same : (es : List Node) → AgreeOn es → filter (λ e. P e.0) es ≡ filter (λ e. Q e.0) es
  kept_same [] alike = refl
  kept_same (e ∷ es) alike = (λ i. cond (alike e.0 (head_there e es) i) (e ∷ kept_same es (rest_agrees e es alike) i) (kept_same es (rest_agrees e es alike) i))

-- ---- with an end, or down to a floor

if_kept : (b : Bool) (o : Option (List ℕ)) → is_some (cond b o None) ≡ true → is_some o ≡ true
if_kept true o there = there
if_kept false o there = absurd (cc)

pub alike_to : (a b : Cut) (end : Option Cut) (m : Database) → PartAlike a b m → PartAlike a b (up_to end m)
alike_to a b end m alike x there = alike x (if_kept (stands_within end x) (finmap.get m x) (sym (ap is_some (get_to end m x)) ∙ there))

pub alike_down : (a b : Cut) (floor : Option Cut) (m : Database) → PartAlike a b m → PartAlike a b (down_to floor m)
alike_down a b floor m alike x there = alike x (if_kept (not (stands_under floor x)) (finmap.get m x) (sym (ap is_some (get_down floor m x)) ∙ there))

-- ---- look-ups from two cuts

module _ (a b : Cut) (m : Database) (alike : PartAlike a b m) where
  agree : (x : Reference) → is_some (finmap.find ref_cmp x (finmap.entries m)) ≡ true → stands_before a x ≡ stands_before b x
  agree x there = alike x (ap is_some (finmap.get-entries m x) ∙ there)

  pub first_alike : first_from_cut a m ≡ first_from_cut b m
  first_alike = first_same (λ x. not (stands_before a x)) (λ x. not (stands_before b x)) (finmap.entries m) (λ x there. ap not (agree x there))

  pub last_alike : last_before_cut a m ≡ last_before_cut b m
  last_alike = last_same (stands_before a) (stands_before b) (finmap.entries m) agree

  pub entries_alike : entries_from a m ≡ entries_from b m
  entries_alike = kept_same (λ x. not (stands_before a x)) (λ x. not (stands_before b x)) (finmap.entries m) (λ x there. ap not (agree x there))
