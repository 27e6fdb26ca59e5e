-- What a write leaves bare.
use Rattle.std.proofs.Common.{◌≡◌, ℕ, Bool, true, false, cond, List, [], ◌∷◌, map, refl, sym, ap, ◌∙◌}
use Rattle.std.specs.Prelude.{Some, None}
use Rattle.std.specs.Ordering.{eq_by_cmp}
use Rattle.std.specs.Cmp.{eq_by_cmp_equiv}
use Rattle.std.specs.FinMap as finmap
use Rattle.std.specs.FinMap.{find}
use Rattle.collation.specs.Reference.{Reference}
use Rattle.collation.specs.Order.{ref_cmp}
use Rattle.collation.specs.laws.Order.{ref_cmp_total, ref_cmp-IsAntisymmetric, is_equal}
use Rattle.collation.specs.Changes.{Change}
use Rattle.version_store.specs.Versions.{Versions, is_bare, AddsNoneBare, placed, all_placed, with_version, unless_bare, tidied, written_and_cut}
use Rattle.version_store.specs.laws.Cutting.{get_one, other_keys}
use Rattle.validate_commit.specs.Bare.{LeavesNoneBare, PlacesTheChanged}

itself : (r : Reference) → eq_by_cmp ref_cmp r r ≡ true
itself r = let laws = eq_by_cmp_equiv ref_cmp_total in laws.refl r

-- a reference that isn't among the changes isn't the first of them
first_apart : (x : Reference) (c : Change) (cs : List Change) → find ref_cmp x (c ∷ cs) ≡ None → eq_by_cmp ref_cmp x c.0 ≡ false
first_apart x c cs none = by_tie (eq_by_cmp ref_cmp x c.0) none
  where
    by_tie : (t : Bool) → cond t (Some c.1) (find ref_cmp x cs) ≡ None → t ≡ false
    by_tie true never = absurd (cc)
    by_tie false is = refl

-- what is tidied isn't bare
never_bare : (r : Reference) (m : Versions) → is_bare (finmap.get (unless_bare r m) r) ≡ false
never_bare r m = by_bare (is_bare (finmap.get m r)) refl
  where
    by_bare : (b : Bool) → is_bare (finmap.get m r) ≡ b → is_bare (finmap.get (cond b (finmap.remove m r) m) r) ≡ false
    by_bare true is = ap is_bare (finmap.get-remove ref_cmp_total m r r ∙ ap (λ t. cond t None (finmap.get m r)) (itself r))
    by_bare false is = is

-- one change written and cut
pub one_leaves : (stamp horizon : ℕ) (c : Change) (m : Versions) (x : Reference) → is_bare (finmap.get (tidied horizon c.0 (with_version stamp c m)) x) ≡ true → (eq_by_cmp ref_cmp x c.0 ≡ false) × (is_bare (finmap.get m x) ≡ true)
one_leaves stamp horizon c m x bare = by_tie (eq_by_cmp ref_cmp x c.0) refl
  where
    left : Versions
    left = tidied horizon c.0 (with_version stamp c m)

    by_tie : (t : Bool) → eq_by_cmp ref_cmp x c.0 ≡ t → (t ≡ false) × (is_bare (finmap.get m x) ≡ true)
    by_tie true tie =
        let same : x ≡ c.0 = ref_cmp-IsAntisymmetric x c.0 (is_equal (ref_cmp x c.0) tie) in
        let never : true ≡ false = sym bare ∙ ap (λ y. is_bare (finmap.get left y)) same ∙ never_bare c.0 _ in
        absurd (cc)
    by_tie false other = (refl, ap is_bare (sym (get_one stamp horizon c m x other)) ∙ bare)

-- all changes
pub cut_leaves : (stamp horizon : ℕ) (cs : List Change) (m : Versions) → LeavesNoneBare cs m (written_and_cut stamp horizon cs m)
cut_leaves stamp horizon [] m x bare = (refl, bare)
cut_leaves stamp horizon (c ∷ cs) m x bare =
    let rest = cut_leaves stamp horizon cs (tidied horizon c.0 (with_version stamp c m)) x bare in
    let first = one_leaves stamp horizon c m x rest.1 in
    (ap (λ t. cond t (Some c.1) (find ref_cmp x cs)) first.0 ∙ rest.0, first.1)

-- placing one reference leaves the others
placed_apart : (k x : Reference) (m : Versions) → eq_by_cmp ref_cmp x k ≡ false → finmap.get (placed k m) x ≡ finmap.get m x
placed_apart k x m other = by_there (finmap.contains_key m k)
  where
    by_there : (b : Bool) → finmap.get (cond b m (finmap.insert m k [])) x ≡ finmap.get m x
    by_there true = refl
    by_there false = finmap.get-insert ref_cmp_total m k [] x ∙ ap (λ t. cond t (Some []) (finmap.get m x)) other

-- and so does placing all that are changed
pub all_placed_leaves : (cs : List Change) (m : Versions) → PlacesTheChanged cs m (all_placed (map (λ c. c.0) cs) m)
all_placed_leaves [] m x none = refl
all_placed_leaves (c ∷ cs) m x none = all_placed_leaves cs (placed c.0 m) x (other_keys x c cs none) ∙ placed_apart c.0 x m (first_apart x c cs none)

-- placed and then written, none is left bare that wasn't
pub placed_then_written : (cs : List Change) (old mid new : Versions) → PlacesTheChanged cs old mid → LeavesNoneBare cs mid new → AddsNoneBare old new
placed_then_written cs old mid new places leaves x bare = let left = leaves x bare in ap is_bare (sym (places x left.0)) ∙ left.1

-- written alone
pub written_alone : (cs : List Change) (old new : Versions) → LeavesNoneBare cs old new → AddsNoneBare old new
written_alone cs old new leaves x bare = let left = leaves x bare in left.1
