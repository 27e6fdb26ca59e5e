-- A chain that is pushed to and cut, and its key taken out where nothing is left.
use Rattle.std.proofs.Common.{◌≡◌, ℕ, ◌<◌, ◌≤◌, List, ◌∷◌, sym, ap, ◌∙◌, subst, arith}
use Rattle.std.specs.Prelude.{true, false, cond, Option, Some, None}
use Rattle.std.specs.FinMap as finmap
use Rattle.std.specs.FinMap.{find, get}
use Rattle.collation.specs.Reference.{Reference}
use Rattle.collation.specs.Order.{ref_cmp}
use Rattle.btree.specs.Order.{without}
use Rattle.version_chain.specs.Versions.{newest_of, IsAbove}
use Rattle.version_chain.specs.Cut.{left_after}
use Rattle.version_chain.specs.Chains.{versions_at, listed, Updates}
use Rattle.version_chain.specs.laws.Chains.{between}
use Rattle.version_store.specs.Versions.{versions_of, with_version, is_bare, tidied}
use Rattle.version_store.specs.Tied.{versions_in, IsTied}
use Rattle.version_store.proofs.TiedLemmas.{State, Pairs, row_in, pushed, tied_update, cut_row, tied_cut, bare_in, not_bare_in, tied_without, versions_without}

-- the chains once one is pushed to and then cut
pub record CutChain (c e : State) (ps : Pairs) (now id stamp horizon : ℕ) (k : Reference) (x : Option (List ℕ)) : Type 0 where
  pub tied : IsTied ps e now
  pub versions : versions_in e ps ≡ finmap.insert (with_version stamp (k, x) (versions_in c ps)) k (left_after horizon (versions_of (with_version stamp (k, x) (versions_in c ps)) k))

pub cut_chain : (c d e : State) (ps : Pairs) (now id stamp horizon : ℕ) (k : Reference) (x : Option (List ℕ)) → IsTied ps c now → Some id ≡ find ref_cmp k ps
    → Updates c d id (Some ((stamp, x) ∷ versions_at c id)) → Updates d e id (Some (left_after horizon (versions_at d id))) → 0 < stamp → stamp ≤ now → IsAbove stamp (versions_of (versions_in c ps) k) → CutChain c e ps now id stamp horizon k x
cut_chain c d e ps now id stamp horizon k x tied at pushing cutting first low newest =
    let above = subst (IsAbove stamp) (row_in c ps k id tied.sorted at) newest in
    let pushed_to : IsTied ps d now = tied_update c d ps now id k ((stamp, x) ∷ versions_at c id) tied (sym at) pushing (omega (arith, low)) (λ z. absurd (omega (arith, first, low, z))) (above, tied.falls k id (sym at)) in
    let one = pushed c d ps now id stamp k x tied at pushing in
    record {
      tied = tied_cut d e ps now id horizon k pushed_to at cutting;
      versions = cut_row d e ps now id horizon k pushed_to at cutting ∙ ap (λ m. finmap.insert m k (left_after horizon (versions_of m k))) one;
    }

-- both at once
pub cut_at_once : (c e : State) (ps : Pairs) (now id stamp horizon : ℕ) (k : Reference) (x : Option (List ℕ)) → IsTied ps c now → Some id ≡ find ref_cmp k ps
    → Updates c e id (Some (left_after horizon ((stamp, x) ∷ versions_at c id))) → 0 < stamp → stamp ≤ now → IsAbove stamp (versions_of (versions_in c ps) k) → CutChain c e ps now id stamp horizon k x
cut_at_once c e ps now id stamp horizon k x tied at updates first low newest =
    let b = between c e id ((stamp, x) ∷ versions_at c id) (left_after horizon ((stamp, x) ∷ versions_at c id)) (tied.opened k id (sym at)) updates in
    cut_chain c b.middle e ps now id stamp horizon k x tied at b.before (subst (λ vs. Updates b.middle e id (Some (left_after horizon vs))) (sym (ap listed b.before.changed)) b.behind) first low newest

module _ (c e : State) (ps : Pairs) (now id stamp horizon : ℕ) (k : Reference) (x : Option (List ℕ)) (is : CutChain c e ps now id stamp horizon k x) (at : Some id ≡ find ref_cmp k ps) where
  pub tied_bare : (f : State) → Updates e f id None → IsTied (without ref_cmp k ps) f now
  tied_bare f closing = tied_without e f ps now id k is.tied at closing

  pub versions_bare : (f : State) → Updates e f id None → None ≡ newest_of (versions_at e id) → versions_in f (without ref_cmp k ps) ≡ tidied horizon k (with_version stamp (k, x) (versions_in c ps))
  versions_bare f closing none =
      let bare : is_bare (get (versions_in e ps) k) ≡ true = ap is_bare (bare_in e ps k id is.tied.sorted at none) in
      versions_without e f ps now id k is.tied at closing
      ∙ sym (ap (λ b. cond b (finmap.remove (versions_in e ps) k) (versions_in e ps)) bare)
      ∙ ap (λ m. cond (is_bare (get m k)) (finmap.remove m k) m) is.versions

  pub versions_left : (n : ℕ) → Some n ≡ newest_of (versions_at e id) → versions_in e ps ≡ tidied horizon k (with_version stamp (k, x) (versions_in c ps))
  versions_left n some =
      let kept : is_bare (get (versions_in e ps) k) ≡ false = sym (not_bare_in e ps k id n is.tied.sorted at some) in
      sym (ap (λ b. cond b (finmap.remove (versions_in e ps) k) (versions_in e ps)) kept)
      ∙ ap (λ m. cond (is_bare (get m k)) (finmap.remove m k) m) is.versions
