-- A chain that is cut, and its key taken out where nothing is left.
use Rattle.std.proofs.Common.{◌≡◌, ℕ, ◌+◌, ◌≤◌, [], ◌∷◌, length, refl, sym, ap, ◌∙◌}
use Rattle.std.specs.Prelude.{Bool, true, false, cond, Some, None}
use Rattle.std.specs.Ordering.{eq_by_cmp}
use Rattle.std.specs.FinMap as finmap
use Rattle.std.specs.FinMap.{find, get}
use Rattle.collation.specs.Reference.{Reference}
use Rattle.collation.specs.Order.{ref_cmp}
use Rattle.collation.specs.laws.Order.{ref_cmp-IsAntisymmetric, is_equal}
use Rattle.btree.specs.Order.{without}
use Rattle.version_chain.specs.Versions.{newest_of, at_of}
use Rattle.version_chain.specs.Cut.{left_after}
use Rattle.version_chain.specs.laws.Cut.{at_of-left_after}
use Rattle.version_chain.specs.Chains.{versions_at, listed, Updates}
use Rattle.version_store.specs.Versions.{Row, Versions, content_at, versions_of, is_bare, tidied}
use Rattle.version_store.specs.Tied.{versions_in, IsTied}
use Rattle.version_store.specs.laws.Content.{content_alike}
use Rattle.version_store.specs.laws.Cutting.{rows_tidied}
use Rattle.version_store.proofs.TiedLemmas.{State, Pairs, row_in, cut_row, tied_cut, no_versions, bare_in, not_bare_in, tied_without, versions_without}

some_left : (n : ℕ) (vs : Row) → Some n ≡ newest_of vs → false ≡ is_bare (Some vs)
some_left n [] e = absurd (cc)
some_left n (v ∷ vs) e = refl

-- from the horizon on a tidied reference is seen as before
pub content_tidied : (h s : ℕ) (k : Reference) (m : Versions) → h ≤ s → content_at (tidied h k m) s ≡ content_at m s
content_tidied h s k m le = content_alike (tidied h k m) m s (λ r. ap (at_of s) (rows_tidied h k r m) ∙ by_tie r (eq_by_cmp ref_cmp r k) refl)
  where
    by_tie : (r : Reference) (t : Bool) → eq_by_cmp ref_cmp r k ≡ t → at_of s (cond t (left_after h (versions_of m k)) (versions_of m r)) ≡ at_of s (versions_of m r)
    by_tie r true t = at_of-left_after h s (versions_of m k) le ∙ ap (λ q. at_of s (versions_of m q)) (sym (ref_cmp-IsAntisymmetric r k (is_equal _ t)))
    by_tie r false t = refl

module _ (c d : State) (ps : Pairs) (now id horizon : ℕ) (k : Reference) (tied : IsTied ps c now) (at : Some id ≡ find ref_cmp k ps) (cutting : Updates c d id (Some (left_after horizon (versions_at c id)))) where
  -- what is left of the chain is what is left of the row
  pub left_row : versions_at d id ≡ left_after horizon (versions_of (versions_in c ps) k)
  left_row = ap listed cutting.changed ∙ ap (left_after horizon) (sym (row_in c ps k id tied.sorted at))

  pub count_left : (n : ℕ) → n + length (versions_at d id) ≡ length (versions_at c id) → n + length (left_after horizon (versions_of (versions_in c ps) k)) ≡ length (versions_of (versions_in c ps) k)
  count_left n is = ap (λ vs. n + length vs) (sym left_row) ∙ is ∙ sym (ap (λ vs. length vs) (row_in c ps k id tied.sorted at))

  pub none_left : None ≡ newest_of (versions_at d id) → true ≡ is_bare (Some (left_after horizon (versions_of (versions_in c ps) k)))
  none_left none = sym (ap (λ vs. is_bare (Some vs)) (sym left_row ∙ no_versions (versions_at d id) none))

  pub one_left : (n : ℕ) → Some n ≡ newest_of (versions_at d id) → false ≡ is_bare (Some (left_after horizon (versions_of (versions_in c ps) k)))
  one_left n some = some_left n (versions_at d id) some ∙ ap (λ vs. is_bare (Some vs)) left_row

  pub tied_left : IsTied ps d now
  tied_left = tied_cut c d ps now id horizon k tied at cutting

  pub tied_gone : (f : State) → Updates d f id None → IsTied (without ref_cmp k ps) f now
  tied_gone f closing = tied_without d f ps now id k tied_left at closing

  pub versions_gone : (f : State) → Updates d f id None → None ≡ newest_of (versions_at d id) → versions_in f (without ref_cmp k ps) ≡ tidied horizon k (versions_in c ps)
  versions_gone f closing none =
      let bare : is_bare (get (versions_in d ps) k) ≡ true = ap is_bare (bare_in d ps k id tied_left.sorted at none) in
      versions_without d f ps now id k tied_left at closing
      ∙ sym (ap (λ b. cond b (finmap.remove (versions_in d ps) k) (versions_in d ps)) bare)
      ∙ ap (λ m. cond (is_bare (get m k)) (finmap.remove m k) m) (cut_row c d ps now id horizon k tied at cutting)

  pub versions_kept : (n : ℕ) → Some n ≡ newest_of (versions_at d id) → versions_in d ps ≡ tidied horizon k (versions_in c ps)
  versions_kept n some =
      let kept : is_bare (get (versions_in d ps) k) ≡ false = sym (not_bare_in d ps k id n tied_left.sorted at some) in
      sym (ap (λ b. cond b (finmap.remove (versions_in d ps) k) (versions_in d ps)) kept)
      ∙ ap (λ m. cond (is_bare (get m k)) (finmap.remove m k) m) (cut_row c d ps now id horizon k tied at cutting)
