-- What isn't found in a workspace isn't there.
use Rattle.std.proofs.Common.{◌≡◌, ℕ, List, [], ◌∷◌, length, refl, ap, ◌∙◌}
use Rattle.std.specs.Prelude.{true, not, None}
use Rattle.std.specs.List.{find}
use Rattle.std.specs.FinMap as finmap
use Rattle.collation.specs.Reference.{Reference}
use Rattle.collation.specs.Database.{Database}
use Rattle.globals.specs.Entries.{nearest_entry}
use Rattle.globals.specs.Cuts.{stands_before}
use Rattle.globals.specs.declared.cut.Cut.TheVariants.{Start}

-- where no member stands from the start on there is none
pub none_from_start : (m : Database) → None ≡ nearest_entry true (λ x. not (stands_before Start x)) m → m ≡ finmap.empty
none_from_start m none = finmap.empty_of_len m (finmap.len-entries m ∙ ap length (no_entries (finmap.entries m) none))
  where
    no_entries : (es : List (Reference × List ℕ)) → None ≡ find (λ e. not (stands_before Start e.0)) es → es ≡ []
    no_entries [] none = refl
    no_entries (e ∷ es) none = absurd (cc)
