-- What $ORDER and $QUERY answer on any database fits the command.
use Rattle.std.proofs.Common.{◌≡◌, ℕ, Bool, true, List, refl, sym, subst, ◌∙◌}
use Rattle.std.specs.Prelude.{Option, Some, None}
use Rattle.std.specs.Option.{option_map}
use Rattle.std.specs.Cmp.{first_so}
use Rattle.collation.specs.Reference.{Reference, Spot}
use Rattle.collation.specs.Order.{ref_cmp}
use Rattle.collation.specs.Database.{Database}
use Rattle.globals.specs.Entries.{nearest_entry}
use Rattle.collation.specs.Levels.{has_name}
use Rattle.collation.specs.Answers.{follows, query_of}
use Rattle.command.specs.Data.{found_reply}
use Rattle.globals.specs.laws.Nearest.{nearest_passes}
use Rattle.globals.specs.laws.Nearness.{query_is}
use Rattle.globals.specs.Fitting.{IsQueryAnswer}

-- what $QUERY finds has the name of the place
pub query_named : (forward : Bool) (p : Spot) (m : Database) (r : Reference) → query_of forward p m ≡ Some r → has_name p.reference r ≡ true
query_named forward p m r is = by_found (nearest_entry forward (follows forward p) m) refl (sym (query_is forward p m) ∙ is)
  where
    by_found : (o : Option (Reference × List ℕ)) → nearest_entry forward (follows forward p) m ≡ o → option_map (λ e. e.0) o ≡ Some r → has_name p.reference r ≡ true
    by_found None found is = absurd (cc)
    by_found (Some e) found is =
        let same : e.0 ≡ r = cc in
        subst (λ x. has_name p.reference x ≡ true) same (first_so (has_name p.reference e.0) _ (nearest_passes ref_cmp forward (follows forward p) m e found))

-- $QUERY's answer fits
pub query_fits : (forward : Bool) (p : Spot) (m : Database) → IsQueryAnswer p (found_reply (query_of forward p m))
query_fits forward p m = by_found (query_of forward p m) refl
  where
    by_found : (o : Option Reference) → query_of forward p m ≡ o → IsQueryAnswer p (found_reply o)
    by_found None is = tt
    by_found (Some r) is = query_named forward p m r is
