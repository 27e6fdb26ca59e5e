-- A pair taken out where the pair after it isn't before a point: of a row, of a kid, and of a whole tree.
use Rattle.std.proofs.Common.{◌≡◌, ℕ, zero, suc, ◌+◌, ◌<◌, ◌≤◌, Bool, true, false, Option, Some, None, List, [], ◌∷◌, ◌++◌, length, take, drop, slice_set, get_or, refl, sym, ap, subst, ◌∙◌, arith, append_assoc}
use Rattle.std.proofs.lemmas.List.{length-set}
use Rattle.std.specs.Prelude.{min, IfSome, IsSome}
use Rattle.std.specs.List.{remove}
use Rattle.std.specs.Cmp.{IsTotalOrder}
use Rattle.std.specs.declared.cmp.Ordering.{Ordering}
use Rattle.std.specs.declared.cmp.Ordering.TheVariants.{Less, Equal}
use Rattle.std.specs.FinMap.Entries.{find}
use Rattle.btree.specs.Alone.{IsTakenAlone}
use Rattle.btree.specs.Order.{Each, Ascends, IsBefore, IsAfter, IsTakenOut, without}
use Rattle.btree.specs.Branch.{Branch}
use Rattle.btree.specs.Parts.{IsFrom, flat}
use Rattle.btree.specs.Rows.{height_of, branch_of, IsKid, IsInner, IsNode}
use Rattle.btree.proofs.Nodes.{leaf_size, leaf_height, leaf_made, inner, inner_size, inner_levels, inner_made, inner_low, inner_pairs}
use Rattle.btree.proofs.Order.{each_map, each_append, each_front, each_back, each_set, ascends_back, below_later, before_tied, not_before_up, taken_out}
use Rattle.btree.proofs.Parting.{flat_cut, flat_set, parted_put}
use Rattle.btree.proofs.Shapes.{kid_at, inner_height, inner_kid, leaf_kid}

module _ {K V : Type 0} (R : K → K → Ordering) (before : K → Bool) (key : K) where
  -- ---- of a row

  row_at : (es : List (K × V)) (i : ℕ) (d : K × V) → suc i < length es → R key (get_or es i d).0 ≡ Equal → before (get_or es (suc i) d).0 ≡ false → IsTakenAlone R before key (get_or es i d).1 es (remove es i)
  row_at [] i d p t q = absurd (omega arith)
  row_at (e ∷ []) i d p t q = absurd (omega arith)
  row_at (e ∷ f ∷ es) zero d p t q = record { front = []; stored = e.0; next = f; back = es; was = refl; is = refl; ties = t; past = q }
  row_at (e ∷ f ∷ es) (suc i) d p t q =
      let rest = row_at (f ∷ es) i d (omega arith) t q in
      record { front = e ∷ rest.front; stored = rest.stored; next = rest.next; back = rest.back; was = ap (λ zs. e ∷ zs) rest.was; is = ap (λ zs. e ∷ zs) rest.is; ties = rest.ties; past = rest.past }

  pub taken_from_row : (es fs : List (K × V)) (i : ℕ) (pair : K × V) → i + 1 < length es → pair ≡ get_or es i pair → R key (get_or es i pair).0 ≡ Equal → before (get_or es (i + 1) pair).0 ≡ false → fs ≡ remove es i → IsTakenAlone R before key pair.1 es fs
  taken_from_row es fs i pair p here t q e =
      let next : i + 1 ≡ suc i = omega arith in
      let after : before (get_or es (suc i) pair).0 ≡ false = subst (λ n. before (get_or es n pair).0 ≡ false) next q in
      subst (λ (zs : List (K × V)). IsTakenAlone R before key pair.1 es zs) (sym e)
      (subst (λ (x : K × V). IsTakenAlone R before key x.1 es (remove es i)) (sym here) (row_at es i pair (omega (arith, p)) t after))

  -- ---- between other pairs

  between : {v : V} (us es fs bs : List (K × V)) → IsTakenAlone R before key v es fs → IsTakenAlone R before key v (us ++ (es ++ bs)) (us ++ (fs ++ bs))
  between {v} us es fs bs t = record {
    front = us ++ t.front;
    stored = t.stored;
    next = t.next;
    back = t.back ++ bs;
    was = ap (λ zs. us ++ (zs ++ bs)) t.was ∙ ap (λ zs. us ++ zs) (append_assoc t.front ((t.stored, v) ∷ t.next ∷ t.back) bs) ∙ sym (append_assoc us t.front ((t.stored, v) ∷ t.next ∷ (t.back ++ bs)));
    is = ap (λ zs. us ++ (zs ++ bs)) t.is ∙ ap (λ zs. us ++ zs) (append_assoc t.front (t.next ∷ t.back) bs) ∙ sym (append_assoc us t.front (t.next ∷ (t.back ++ bs)));
    ties = t.ties;
    past = t.past;
  }

  -- what holds of all pairs holds of those that are left
  each_left : {v : V} (P : K × V → Type 0) (es fs : List (K × V)) → IsTakenAlone R before key v es fs → Each P es → Each P fs
  each_left {v} P es fs t h =
      let all = subst (Each P) t.was h in
      subst (Each P) (sym t.is) (each_append P t.front (t.next ∷ t.back) (each_front P t.front ((t.stored, v) ∷ t.next ∷ t.back) all) (each_back P t.front ((t.stored, v) ∷ t.next ∷ t.back) all).1)

  each_kept : (r : Option V) (P : K × V → Type 0) (old new : Branch K V) → IfSome r (λ v. IsTakenAlone R before key v old.pairs new.pairs) → (r ≡ None → new ≡ old) → Each P old.pairs → Each P new.pairs
  each_kept None P old new taken kept h = subst (λ (b : Branch K V). Each P b.pairs) (sym (kept refl)) h
  each_kept (Some v) P old new taken kept h = each_left P old.pairs new.pairs taken h

  -- ---- of a kid

  module _ (o : IsTotalOrder R) (ss : List K) (ks : List (Branch K V)) (is : IsInner R ss ks) (i : ℕ) (d k : Branch K V) (p : i ≤ length ss) (q : i < length ks) (lo : Each (λ s. IsFrom R s key) (take i ss)) (hi : Each (λ s. R key s ≡ Less) (drop i ss)) (r : Option V)
      (taken : IfSome r (λ v. IsTakenAlone R before key v (get_or ks i d).pairs k.pairs)) (size : IsKid (min 16 (get_or ks i d).count) (get_or ks i d).height k) (kept : r ≡ None → k ≡ get_or ks i d) where
    pub inner_left : IsInner R ss (slice_set ks i k)
    inner_left =
        let kid = kid_at R i ss ks d is q in
        let height = inner_height R ss ks is in
        let level : k.height ≡ is.level = omega (arith, size.level, kid.0, height) in
        let set = length-set ks i k in
        record {
          level = is.level;
          fits = (let f = is.fits in omega arith);
          kids = each_set (IsKid 16 is.level) ks i k is.kids record { level = level; least = (let a = size.least in let b = kid.1.least in omega arith); most = size.most; full = size.full };
          parted = parted_put R o key i ss ks d k q (λ Q h g. each_kept r (λ (e : K × V). Q e.0) (get_or ks i d) k taken kept h) is.parted lo hi;
        }

    pub height_left : height_of (slice_set ks i k) ≡ height_of ks
    unfolding inner_left
    height_left = inner_height R ss (slice_set ks i k) inner_left ∙ sym (inner_height R ss ks is)

    pub flat_left : IfSome r (λ v. IsTakenAlone R before key v (flat ks) (flat (slice_set ks i k)))
    flat_left = in_kid r taken
      where
        in_kid : (a : Option V) → IfSome a (λ v. IsTakenAlone R before key v (get_or ks i d).pairs k.pairs) → IfSome a (λ v. IsTakenAlone R before key v (flat ks) (flat (slice_set ks i k)))
        in_kid None t = tt
        in_kid (Some v) t =
            subst (λ (zs : List (K × V)). IsTakenAlone R before key v zs (flat (slice_set ks i k))) (sym (flat_cut i ks d q))
            (subst (λ (zs : List (K × V)). IsTakenAlone R before key v (flat (take i ks) ++ ((get_or ks i d).pairs ++ flat (drop (suc i) ks))) zs) (sym (flat_set i ks k q))
            (between (flat (take i ks)) (get_or ks i d).pairs k.pairs (flat (drop (suc i) ks)) t))

-- ---- of a node

module _ {K V : Type 0} (R : K → K → Ordering) (b : Branch K V) (es : List (K × V)) (ss : List K) (ks : List (Branch K V)) (is : branch_of es ss ks ≡ b) (node : IsNode R es ss ks) where
  pub leaf_left : length ks ≡ 0 → (r : Option V) (fs : List (K × V)) → b.count ≤ 32 → IfSome r (λ _. (16 ≤ length fs) × (length fs + 1 ≡ length es)) → (r ≡ None → fs ≡ es) → IsKid (min 16 b.count) b.height (branch_of fs ss ks)
  leaf_left none r fs most size kept =
      let n = leaf_size R b es ss ks is node none in
      let fits = long r size kept in
      subst (IsKid (min 16 b.count) b.height) (sym (leaf_made R b es ss ks is node none fs)) (subst (λ h. IsKid (min 16 b.count) h (branch_of fs [] [])) (sym (leaf_height R b es ss ks is node none)) (leaf_kid (min 16 b.count) fs (omega (arith, n, fits.0)) (omega (arith, n, fits.1, most))))
    where
      long : (a : Option V) → IfSome a (λ _. (16 ≤ length fs) × (length fs + 1 ≡ length es)) → (a ≡ None → fs ≡ es) → (min 16 (length es) ≤ length fs) × (length fs ≤ length es)
      long None s k = let same = ap length (k refl) in (omega (arith, same), omega (arith, same))
      long (Some v) s k = (omega (arith, s.0), omega (arith, s.1))

  pub node_left : (some : length ks ≡ 0 → ⊥) (gs : List (Branch K V)) → b.count ≤ 32 → IsInner R ss gs → height_of gs ≡ height_of ks → IsKid (min 16 b.count) b.height (branch_of es ss gs)
  node_left some gs most left height =
      let n = inner_size R b es ss ks is node some in
      subst (IsKid (min 16 b.count) b.height) (sym (inner_made R b es ss ks is node some ss gs)) (inner_kid R b.height (min 16 b.count) ss gs left (height ∙ sym (inner_levels R b es ss ks is node some)) (omega (arith, n)) (omega (arith, n, most)))

-- ---- of a tree

module _ {K V : Type 0} (R : K → K → Ordering) (o : IsTotalOrder R) (before : K → Bool) (down : (x y : K) → R x y ≡ Less → before y ≡ true → before x ≡ true) (key : K) (v : V) (es fs : List (K × V)) (sorted : Ascends R es) (t : IsTakenAlone R before key v es fs) where
  out : IsTakenOut es (t.stored, v) fs
  out = record { front = t.front; back = t.next ∷ t.back; was = t.was; is = t.is }

  pub found_alone : find R key es ≡ Some v
  found_alone = (taken_out R o key es fs (t.stored, v) sorted t.ties out).0

  pub without_alone : fs ≡ without R key es
  without_alone = (taken_out R o key es fs (t.stored, v) sorted t.ties out).1

  -- nothing behind the key stands before the point
  pub none_before : Each (λ (e : K × V). IsAfter R key e → before e.0 ≡ false) es
  none_before =
      let all = subst (Ascends R) t.was sorted in
      let rest = ascends_back R t.front ((t.stored, v) ∷ t.next ∷ t.back) all in
      subst (Each (λ (e : K × V). IsAfter R key e → before e.0 ≡ false)) (sym t.was)
      (each_append (λ (e : K × V). IsAfter R key e → before e.0 ≡ false) t.front ((t.stored, v) ∷ t.next ∷ t.back)
      (each_map (λ e l after. clash e (before_tied R o key e (t.stored, v) l t.ties) after) t.front (below_later R t.front (t.stored, v) (t.next ∷ t.back) all))
      ((λ after. let ties = t.ties in absurd (cc)), ((λ after. t.past), each_map (λ e l after. not_before_up R before down t.next.0 e.0 l t.past) t.back rest.1.0)))
    where
      clash : (e : K × V) → IsBefore R key e → IsAfter R key e → before e.0 ≡ false
      clash e low after = absurd (cc)
