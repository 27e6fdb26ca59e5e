-- Nothing stands between a cut and the member that is found from it, or beyond a cut from which none is found.
use Rattle.std.proofs.Common.{◌≡◌, Bool, true, false, refl, sym, ap, ◌∙◌}
use Rattle.std.specs.Prelude.{cond, not, ◌&&◌, is_some, Option, Some, None}
use Rattle.std.specs.FinMap as finmap
use Rattle.std.proofs.Math.Bool.{not-not}
use Rattle.std.proofs.lemmas.Bool.{false_from_ne_true}
use Rattle.std.specs.Ordering.{is_lt}
use Rattle.std.specs.Cmp.{first_so, second_so}
use Rattle.collation.specs.Reference.{Reference}
use Rattle.collation.specs.Order.{ref_cmp}
use Rattle.collation.specs.laws.Order.{ref_cmp_total, ref_cmp-IsAntisymmetric, is_less}
use Rattle.collation.specs.Database.{Database}
use Rattle.globals.specs.declared.cut.Cut.{Cut}
use Rattle.globals.specs.Cuts.{stands_before, stands_within, up_to, down_to, first_from_cut, last_before_cut}
use Rattle.globals.specs.laws.Nearest.{keep, nearest_is, nearest_none}
use Rattle.globals.specs.laws.Ends.{first_to, get_to, get_down}
use Rattle.read_ranges.specs.declared.range.ReadRange.{ReadRange}
use Rattle.read_ranges.specs.Ranges.{between, is_in, AreEarlier}
use Rattle.stretches.specs.Empty.{IsEmpty, IsFree}
use Rattle.stretches.proofs.Alike.{Node}

pub free_from : (cut end : Cut) (m : Database) (e : Node) → first_from_cut cut m ≡ Some e → ((x : Reference) → stands_before end x ≡ is_lt (ref_cmp x e.0)) → IsFree cut end m
free_from cut end m e is at x h =
    let near = nearest_is ref_cmp ref_cmp_total ref_cmp-IsAntisymmetric true (λ x. not (stands_before cut x)) m e is in
    false_from_ne_true _ (λ there. near.none_nearer x (first_so (not (stands_before cut x)) _ h) there (is_less _ (sym (at x) ∙ second_so (not (stands_before cut x)) _ h)))

pub free_before : (start cut : Cut) (m : Database) (e : Node) → last_before_cut cut m ≡ Some e → ((x : Reference) → stands_before start x ≡ not (is_lt (ref_cmp e.0 x))) → IsFree start cut m
free_before start cut m e is at x h =
    let near = nearest_is ref_cmp ref_cmp_total ref_cmp-IsAntisymmetric false (stands_before cut) m e is in
    let later : is_lt (ref_cmp e.0 x) ≡ true = sym (not-not (is_lt (ref_cmp e.0 x))) ∙ ap not (sym (at x)) ∙ first_so (not (stands_before start x)) _ h in
    false_from_ne_true _ (λ there. near.none_nearer x (second_so (not (stands_before start x)) _ h) there (is_less _ later))

-- ---- where none is found

pub free_to_end : (cut end : Cut) (m : Database) → first_from_cut cut m ≡ None → IsFree cut end m
free_to_end cut end m none x h = ap is_some (nearest_none ref_cmp ref_cmp_total ref_cmp-IsAntisymmetric true (λ x. not (stands_before cut x)) m none x (first_so (not (stands_before cut x)) _ h))

pub free_from_start : (start cut : Cut) (m : Database) → last_before_cut cut m ≡ None → IsFree start cut m
free_from_start start cut m none x h = ap is_some (nearest_none ref_cmp ref_cmp_total ref_cmp-IsAntisymmetric false (stands_before cut) m none x (second_so (not (stands_before start x)) _ h))

-- ---- a look that ends

first_kept : (P : Reference → Bool) (o : Option Node) (e : Node) → keep P o ≡ Some e → o ≡ Some e
first_kept P None e is = absurd (cc)
first_kept P (Some f) e is = elim (P f.0) as (λ b. cond b (Some f) None ≡ Some e → Some f ≡ Some e) [ true ↦ λ is. is | false ↦ λ is. absurd (cc) ] is

pub free_to_found : (cut before : Cut) (end : Option Cut) (m : Database) (e : Node) → first_from_cut cut (up_to end m) ≡ Some e → ((x : Reference) → stands_before before x ≡ is_lt (ref_cmp x e.0)) → IsFree cut before m
free_to_found cut before end m e is at = free_from cut before m e (first_kept (stands_within end) (first_from_cut cut m) e (sym (first_to cut end m) ∙ is)) at

pub free_within : (cut end : Cut) (m : Database) → first_from_cut cut (up_to (Some end) m) ≡ None → IsFree cut end m
free_within cut end m none x h =
    ap (λ b. is_some (cond b (finmap.get m x) None)) (sym (second_so (not (stands_before cut x)) _ h))
    ∙ ap is_some (sym (get_to (Some end) m x))
    ∙ ap is_some (nearest_none ref_cmp ref_cmp_total ref_cmp-IsAntisymmetric true (λ x. not (stands_before cut x)) (up_to (Some end) m) none x (first_so (not (stands_before cut x)) _ h))

pub free_behind : (start cut : Cut) (m : Database) → last_before_cut cut (down_to (Some start) m) ≡ None → IsFree start cut m
free_behind start cut m none x h =
    ap (λ b. is_some (cond b (finmap.get m x) None)) (sym (first_so (not (stands_before start x)) _ h))
    ∙ ap is_some (sym (get_down (Some start) m x))
    ∙ ap is_some (nearest_none ref_cmp ref_cmp_total ref_cmp-IsAntisymmetric false (stands_before cut) (down_to (Some start) m) none x (second_so (not (stands_before start x)) _ h))

-- ---- nothing stands between a cut and itself

pub free_nowhere : (cut : Cut) (m : Database) → IsFree cut cut m
free_nowhere cut m x h = by_side (stands_before cut x) h
  where
    by_side : (b : Bool) → (not b && b) ≡ true → finmap.contains_key m x ≡ false
    by_side true h = absurd (cc)
    by_side false h = absurd (cc)

-- ---- a part of what two cuts have between them

pub free_part : (low middle high begin end : Cut) (s : ReadRange) (m : Database) → IsFree low middle m → IsFree middle high m → AreEarlier low begin → AreEarlier end high → ((x : Reference) → is_in s x ≡ between begin end x) → IsEmpty s m
free_part low middle high begin end s m before behind begins ends of x h =
    let both = sym (of x) ∙ h in
    by_side (stands_before middle x) refl (not_before (stands_before low x) (stands_before begin x) (begins x) (first_so (not (stands_before begin x)) _ both)) (ends x (second_so (not (stands_before begin x)) _ both))
  where
    not_before : (l b : Bool) → (l ≡ true → b ≡ true) → not b ≡ true → not l ≡ true
    not_before true b f n = let t = f refl in absurd (cc)
    not_before false b f n = refl

    by_side : (t : Bool) → stands_before middle x ≡ t → not (stands_before low x) ≡ true → stands_before high x ≡ true → finmap.contains_key m x ≡ false
    by_side true is l r = before x (λ i. l i && is i)
    by_side false is l r = behind x (λ i. not (is i) && r i)
