-- A look for the next name answers the nearest one.
use Rattle.std.proofs.Common.{◌≡◌, ◌∙◌, ℕ, Bool, true, false, List, refl, sym, ap, subst}
use Rattle.std.specs.Prelude.{cond, Option, Some, None, is_some}
use Rattle.std.specs.Cmp.Lexicographic.{slice_cmp}
use Rattle.std.specs.Option.{MatchOption, option_map}
use Rattle.std.specs.Ordering.{is_lt, ordering_then}
use Rattle.std.specs.declared.cmp.Ordering.TheVariants.{Less}
use Rattle.collation.specs.Database.{Database}
use Rattle.collation.specs.Order.{ref_cmp, subscript_cmp}
use Rattle.collation.specs.Reference.{Reference}
use Rattle.collation.specs.laws.Order.{ref_cmp_total, ref_cmp-IsAntisymmetric, is_less}
use Rattle.globals.specs.AnswerStatements.{HasValue}
use Rattle.globals.specs.Entries.{nearest_entry}
use Rattle.globals.specs.laws.Nearest.{nearest_is, nearest_none}
use Rattle.globals.specs.laws.Telling.{no_value}
use Rattle.embedded.specs.NameStatements.{IsBeforeName, IsBeyondStart, IsNearestName, NamesTell}
use Rattle.embedded.specs.Names.{is_name_beyond, name_cmp, name_next}
use Rattle.embedded.specs.laws.Names.{name_is}

-- references stand as their names do, where these differ
by_names : (x y : Reference) → is_lt (name_cmp x.name y.name) ≡ true → ref_cmp x y ≡ Less
unfolding ref_cmp
by_names x y less = ap (λ o. ordering_then o (slice_cmp subscript_cmp x.subscripts y.subscripts)) (is_less _ less)

less_so : (forward : Bool) (x y : Reference) → IsBeforeName forward x.name y.name → cond forward (ref_cmp x y) (ref_cmp y x) ≡ Less
less_so true x y less = by_names x y less
less_so false x y less = by_names y x less

pub names_tell : (forward : Bool) (start : List ℕ) (m : Database) → NamesTell forward start m
names_tell forward start m =
    subst (λ (o : Option (List ℕ)). MatchOption o ((s : List ℕ) → IsBeyondStart forward start m s → ⊥) (IsNearestName forward start m)) (sym (name_is forward start m)) (by_found (nearest_entry forward beyond m) refl)
  where
    beyond : Reference → Bool
    beyond x = is_name_beyond forward start x.name

    so : (x : Reference) (s : List ℕ) → x.name ≡ s → is_name_beyond forward start s ≡ true → beyond x ≡ true
    so x s is h = ap (is_name_beyond forward start) is ∙ h

    by_found : (o : Option (Reference × List ℕ)) → nearest_entry forward beyond m ≡ o
        → MatchOption (option_map (λ e. e.0.name) o) ((s : List ℕ) → IsBeyondStart forward start m s → ⊥) (IsNearestName forward start m)
    by_found None is = λ s b. no_value m b.there.0 (nearest_none ref_cmp ref_cmp_total ref_cmp-IsAntisymmetric forward beyond m is b.there.0 (so b.there.0 s b.there.1 b.beyond)) b.there.2
    by_found (Some e) is =
        let nearest = nearest_is ref_cmp ref_cmp_total ref_cmp-IsAntisymmetric forward beyond m e is in
        record {
          found = record { there = (e.0, refl, ap is_some nearest.there); beyond = nearest.passes };
          none_between = λ s b before. nearest.none_nearer b.there.0 (so b.there.0 s b.there.1 b.beyond) b.there.2
              (less_so forward b.there.0 e.0 (subst (λ (n : List ℕ). IsBeforeName forward n e.0.name) (sym b.there.1) before));
        }
