-- Two inner nodes of given rows, joined into one or cut anew.
use Rattle.std.proofs.Common.{◌≡◌, suc, ◌<◌, ◌≤◌, Some, None, List, [], ◌∷◌, ◌++◌, length, sym, ap, subst, ◌∙◌, arith}
use Rattle.std.specs.Cmp.{IsTotalOrder}
use Rattle.std.specs.declared.cmp.Ordering.{Ordering}
use Rattle.btree.specs.Branch.{Branch}
use Rattle.btree.specs.Parts.{Parts, flat}
use Rattle.btree.specs.Rows.{height_of, branch_of, IsInner, IsNode, HasBecome}
use Rattle.btree.proofs.Parting.{flat_append}
use Rattle.btree.proofs.Shapes.{inner_kid}
use Rattle.btree.proofs.Growth.{IsCut, cut_become}
use Rattle.btree.proofs.Mending.{merged, recut}
use Rattle.btree.proofs.Nodes.{inner, inner_pairs, inner_levels, inner_made, inner_node}

pub high_some : {K V : Type 0} (b : Branch K V) (es : List (K × V)) (ss : List K) (ks : List (Branch K V)) → branch_of es ss ks ≡ b → 0 < b.height → length ks ≡ 0 → ⊥
high_some b es ss [] is p e = let h = ap (λ x. x.height) is in omega (arith, h, p)
high_some b es ss (k ∷ ks) is p e = omega (arith, e)

module _ {K V : Type 0} (R : K → K → Ordering) (o : IsTotalOrder R) (a b : Branch K V) (es : List (K × V)) (ss : List K) (ks : List (Branch K V)) (fs : List (K × V)) (ts : List K) (gs : List (Branch K V)) (ia : branch_of es ss ks ≡ a) (ib : branch_of fs ts gs ≡ b) (na : IsNode R es ss ks) (nb : IsNode R fs ts gs)
    (high : 0 < b.height) (same : a.height ≡ b.height) (p : K) (parts : Parts R p a.pairs b.pairs) where
  lower_some : length ks ≡ 0 → ⊥
  lower_some = high_some a es ss ks ia (omega (arith, high, same))

  upper_some : length gs ≡ 0 → ⊥
  upper_some = high_some b fs ts gs ib high

  lower : IsInner R ss ks
  lower = inner R a es ss ks ia na lower_some

  upper : IsInner R ts gs
  upper = inner R b fs ts gs ib nb upper_some

  lower_pairs : a.pairs ≡ flat ks
  lower_pairs = inner_pairs R a es ss ks ia na lower_some

  upper_pairs : b.pairs ≡ flat gs
  upper_pairs = inner_pairs R b fs ts gs ib nb upper_some

  level : height_of ks ≡ height_of gs
  level = sym (inner_levels R a es ss ks ia na lower_some) ∙ same ∙ inner_levels R b fs ts gs ib nb upper_some

  flat_parts : Parts R p (flat ks) (flat gs)
  flat_parts = subst (λ zs. Parts R p zs (flat gs)) lower_pairs (subst (λ zs. Parts R p a.pairs zs) upper_pairs parts)

  whole_pairs : flat (ks ++ gs) ≡ a.pairs ++ b.pairs
  whole_pairs = flat_append ks gs ∙ ap (λ zs. zs ++ flat gs) (sym lower_pairs) ∙ ap (λ zs. a.pairs ++ zs) (sym upper_pairs)

  -- all in the first
  pub one_node : (hs : List K) (is : List (Branch K V)) → hs ≡ (ss ++ p ∷ []) ++ ts → is ≡ ks ++ gs → IsNode R es hs is
  one_node hs is e f = inner_node R a es ss ks ia na lower_some hs is (merged R o p ss ks ts gs lower upper level flat_parts hs is e f).0

  pub one_become : (hs : List K) (is : List (Branch K V)) → hs ≡ (ss ++ p ∷ []) ++ ts → is ≡ ks ++ gs → 16 ≤ length hs → length hs ≤ 32 → HasBecome R 16 b.height (a.pairs ++ b.pairs) (branch_of es hs is) None
  one_become hs is e f q r =
      let m = merged R o p ss ks ts gs lower upper level flat_parts hs is e f in
      subst (λ x. HasBecome R 16 b.height (a.pairs ++ b.pairs) x None) (sym (inner_made R a es ss ks ia na lower_some hs is))
      (inner_kid R b.height 16 hs is m.0 (m.1 ∙ sym (inner_levels R b fs ts gs ib nb upper_some)) q r, ap flat f ∙ whole_pairs)

  -- cut at another separator
  cut : (xs : List K) (m : K) (ys : List K) (js ls : List (Branch K V)) → xs ++ m ∷ ys ≡ ss ++ p ∷ ts → js ++ ls ≡ ks ++ gs → length js ≡ suc (length xs) → IsCut R xs m ys js ls b.height
  cut xs m ys js ls e f n = subst (IsCut R xs m ys js ls) (sym (inner_levels R b fs ts gs ib nb upper_some)) (recut R o p ss ks ts gs lower upper level flat_parts xs m ys js ls e f n)

  pub lower_node : (xs : List K) (m : K) (ys : List K) (js ls : List (Branch K V)) → xs ++ m ∷ ys ≡ ss ++ p ∷ ts → js ++ ls ≡ ks ++ gs → length js ≡ suc (length xs) → IsNode R es xs js
  lower_node xs m ys js ls e f n = let c = cut xs m ys js ls e f n in inner_node R a es ss ks ia na lower_some xs js c.lower

  pub upper_node : (xs : List K) (m : K) (ys : List K) (js ls : List (Branch K V)) → xs ++ m ∷ ys ≡ ss ++ p ∷ ts → js ++ ls ≡ ks ++ gs → length js ≡ suc (length xs) → IsNode R fs ys ls
  upper_node xs m ys js ls e f n = let c = cut xs m ys js ls e f n in inner_node R b fs ts gs ib nb upper_some ys ls c.upper

  pub two_become : (xs : List K) (m : K) (ys : List K) (js ls : List (Branch K V)) → xs ++ m ∷ ys ≡ ss ++ p ∷ ts → js ++ ls ≡ ks ++ gs → length js ≡ suc (length xs) → 16 ≤ length xs → length xs ≤ 32 → 16 ≤ length ys → length ys ≤ 32
      → HasBecome R 16 b.height (a.pairs ++ b.pairs) (branch_of es xs js) (Some (m, branch_of fs ys ls))
  two_become xs m ys js ls e f n q r u v =
      subst (λ x. HasBecome R 16 b.height (a.pairs ++ b.pairs) x (Some (m, branch_of fs ys ls))) (sym (inner_made R a es ss ks ia na lower_some xs js))
      (subst (λ x. HasBecome R 16 b.height (a.pairs ++ b.pairs) (branch_of [] xs js) (Some (m, x))) (sym (inner_made R b fs ts gs ib nb upper_some ys ls))
      (cut_become R b.height (a.pairs ++ b.pairs) xs m ys js ls (cut xs m ys js ls e f n) (ap flat f ∙ whole_pairs) q r u v))

  -- there are as many kids as separators and one
  pub fits_both : (length ks ≡ suc (length ss)) × (length gs ≡ suc (length ts)) × (0 < length ks)
  fits_both = let x = lower.fits in (lower.fits, upper.fits, omega (arith, x))
