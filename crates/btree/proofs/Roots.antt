-- Facts on a tree's root.
use Rattle.std.proofs.Common.{◌≡◌, ℕ, zero, suc, ◌+◌, ◌-◌, ◌*◌, ◌^◌, ◌<◌, ◌≤◌, true, false, cond, T, Ok, Err, Some, None, IfOk, OnErr, List, [], ◌∷◌, ◌++◌, length, is_some, refl, sym, ap, subst, ◌∙◌, arith, length-append, ⊎_elim}
use Rattle.std.specs.Prelude.{Result}
use Rattle.std.proofs.Math.Nat.{pow-succ', mul-le-mul_right, pow-le-pow_right}
use Rattle.std.proofs.lemmas.Bool.{cases_lt}
use Rattle.std.specs.Cmp.{IsTotalOrder}
use Rattle.std.specs.declared.cmp.Ordering.{Ordering}
use Rattle.std.specs.declared.cmp.Ordering.TheVariants.{Less}
use Rattle.std.specs.FinMap.Entries.{find, put, is_sorted, below_all, length-put, length_without}
use Rattle.btree.specs.Order.{Each, Ascends, without}
use Rattle.btree.specs.Branch.{Branch}
use Rattle.btree.specs.Rows.{IsKid, IsFull, IsSize, sizes_of, fewest_pairs}
use Rattle.btree.specs.Tree.{IsRoot}
use Rattle.btree.proofs.Order.{ascends_put}
use Rattle.btree.proofs.Shapes.{one_power, kid_long, each_size}
use Rattle.btree.proofs.Removal.{ascends_without}

-- ---- depth and number of pairs

power_most : (n : ℕ) → 16 ^ n ≤ 17 ^ n
power_most zero = omega arith
power_most (suc n) = omega (arith, power_most n, pow-succ' 17 n, pow-succ' 16 n)

module _ {K V : Type 0} (R : K → K → Ordering) (root : Branch K V) (is : IsRoot R root) where
  twice : (h : ℕ) → root.height ≡ suc h → 2 * (16 * 17 ^ h) ≤ length root.pairs
  twice h e =
      let a : 2 * (16 * 17 ^ h) ≤ suc root.count * (16 * 17 ^ h) = mul-le-mul_right (16 * 17 ^ h) (let q = is.inner (omega arith) in omega arith) in
      let b : suc root.count * (16 * 17 ^ h) ≤ length root.pairs = subst (λ n. fewest_pairs n root.count ≤ length root.pairs) e is.full.0 in
      omega arith

  wide_at : (h : ℕ) → root.height ≡ suc h → 2 * 16 ^ root.height ≤ length root.pairs
  wide_at h e = subst (λ n. 2 * 16 ^ n ≤ length root.pairs) (sym e) (omega (arith, twice h e, power_most h, pow-succ' 16 h))

  pub wide : 1 < suc root.height → 2 * 16 ^ (suc root.height - 1) ≤ length root.pairs
  wide p = let same : root.height ≡ suc root.height - 1 = omega arith in subst (λ n. 2 * 16 ^ n ≤ length root.pairs) same (wide_at (root.height - 1) (omega arith))

  low_at : (h : ℕ) → root.height ≡ h → length root.pairs < 2 ^ 64 → root.height < 16
  low_at zero e q = omega arith
  low_at (suc h) e q =
      ⊎_elim (λ p. p) (λ p.
      let a = twice h e in
      let b : 17 ^ 15 ≤ 17 ^ h = pow-le-pow_right {n = 17} (omega arith) {i = 15} {j = h} (omega (arith, p, e)) in
      absurd (omega (arith, a, b, q))) (cases_lt root.height 16)

  pub low : length root.pairs < 2 ^ 64 → root.height < 16
  low = low_at root.height refl

-- ---- sorted as std says it

module _ {K V : Type 0} (R : K → K → Ordering) where
  below_of : (x : K) (es : List (K × V)) → Each (λ (f : K × V). R x f.0 ≡ Less) es → below_all R x es ≡ true
  below_of x [] h = refl
  below_of x (e ∷ es) h = rw (h.0, below_of x es h.1)

  pub sorted_is : (es : List (K × V)) → Ascends R es → is_sorted R es ≡ true
  sorted_is [] h = refl
  sorted_is (e ∷ es) h = rw (below_of e.0 es h.0, sorted_is es h.1)

  pub sorted_of : (es : List (K × V)) → Ascends R es → T (is_sorted R es)
  sorted_of es h = subst T (sym (sorted_is es h)) tt

-- ---- an insertion

module _ {K V : Type 0} (R : K → K → Ordering) (o : IsTotalOrder R) (b : Branch K V) (is : IsRoot R b) (key : K) (v : V) where
  pub length_put : (new : List (K × V)) → new ≡ put R key v b.pairs → length new ≡ length b.pairs + (1 - cond (is_some (find R key b.pairs)) 1 0)
  length_put new e =
      ap length e ∙ length-put R o key v b.pairs (sorted_of R b.pairs is.sorted)
      ∙ elim (is_some (find R key b.pairs)) as (λ t. cond t (length b.pairs) (length b.pairs + 1) ≡ length b.pairs + (1 - cond t 1 0)) [ true ↦ omega arith | false ↦ refl ]

  pub root_kept : (new : Branch K V) → IsKid b.count b.height new → new.pairs ≡ put R key v b.pairs → IsRoot R new
  root_kept new k e = record {
    sorted = subst (Ascends R) (sym e) (ascends_put R o key v b.pairs is.sorted);
    most = k.most;
    full = k.full;
    inner = λ p. (let q = is.inner (omega (arith, k.level)) in omega (arith, k.least));
    many = λ p. (let q = is.many (omega (arith, k.level)) in omega (arith, q, length_put new.pairs e));
  }

  pub root_risen : (lower up new : Branch K V) → IsKid 16 b.height lower → IsKid 16 b.height up → lower.pairs ++ up.pairs ≡ put R key v b.pairs → 32 ≤ b.count → find R key b.pairs ≡ None → new.pairs ≡ lower.pairs ++ up.pairs → new.height ≡ suc lower.height → new.count ≡ 1 → new.sizes ≡ sizes_of (lower ∷ up ∷ []) → IsRoot R new
  root_risen lower up new k l e full fresh f h c z =
      let p = kid_long b.height lower k in
      let q = kid_long b.height up l in
      let n : new.height ≡ suc b.height = h ∙ ap suc k.level in
      let size : length new.pairs ≡ length lower.pairs + length up.pairs = ap length f ∙ length-append lower.pairs up.pairs in
      let long : 2 * (16 * 17 ^ b.height) ≤ length new.pairs = omega arith in
      record {
        sorted = subst (Ascends R) (sym (f ∙ e)) (ascends_put R o key v b.pairs is.sorted);
        most = omega arith;
        full = (subst (λ n. fewest_pairs n new.count ≤ length new.pairs) (sym n) (subst (λ n. suc n * (16 * 17 ^ b.height) ≤ length new.pairs) (sym c) long), subst (Each IsSize) (sym z) (each_size b.height (lower ∷ up ∷ []) (k, (l, tt))));
        inner = λ _. omega arith;
        many = λ _. more b.height refl (length_put new.pairs (f ∙ e)) long;
      }
    where
      none : ◌≡◌ {A = ℕ} (cond (is_some (find R key b.pairs)) 1 0) 0
      none = ap (λ o. cond (is_some o) 1 0) fresh

      more : (h : ℕ) → b.height ≡ h → length new.pairs ≡ length b.pairs + (1 - cond (is_some (find R key b.pairs)) 1 0) → 2 * (16 * 17 ^ b.height) ≤ length new.pairs → 32 < length new.pairs
      more zero e size long = let a : b.count ≤ length b.pairs = subst (λ n. fewest_pairs n b.count ≤ length b.pairs) e is.full.0 in omega (arith, a, full, size, none)
      more (suc h) e size long = let a : 2 * (16 * 17 ^ suc h) ≤ length new.pairs = subst (λ n. 2 * (16 * 17 ^ n) ≤ length new.pairs) e long in omega (arith, a, pow-succ' 17 h, power_most h, one_power h)

  -- a value in place of another, or no change
  pub root_replaced : {E : Type 0} (r : Result V E) (n : ℕ) (new : Branch K V) → n ≡ length b.pairs → IsKid b.count b.height new → IfOk r (λ before. find R key b.pairs ≡ Some before) → IfOk r (λ _. new.pairs ≡ put R key v b.pairs) → OnErr r (new ≡ b) → IsRoot R new × (n ≡ length new.pairs)
  root_replaced (Ok x) n new len kid found e same =
      let size = length_put new.pairs e in
      let there : ◌≡◌ {A = ℕ} (cond (is_some (find R key b.pairs)) 1 0) 1 = ap (λ o. cond (is_some o) 1 0) found in
      (root_kept new kid e, omega (arith, size, there, len))
  root_replaced (Err y) n new len kid found e same = (subst (IsRoot R) (sym same) is, len ∙ ap (λ (x : Branch K V). length x.pairs) (sym same))

-- ---- a removal

module _ {K V : Type 0} (R : K → K → Ordering) (b : Branch K V) (is : IsRoot R b) (key : K) where
  pub root_shrunk : (new : Branch K V) → new.pairs ≡ without R key b.pairs → new.count ≤ 32 → IsFull new → (0 < new.height → 0 < new.count) → (0 < new.height → 32 < length new.pairs) → IsRoot R new
  root_shrunk new e most full inner many = record { sorted = subst (Ascends R) (sym e) (ascends_without R key b.pairs is.sorted); most = most; full = full; inner = inner; many = many }

  pub length_taken : IsTotalOrder R → (new : List (K × V)) → new ≡ without R key b.pairs → cond (is_some (find R key b.pairs)) 1 0 + length new ≡ length b.pairs
  length_taken o new e = ap (λ zs. cond (is_some (find R key b.pairs)) 1 0 + length zs) e ∙ length_without R o key b.pairs (sorted_of R b.pairs is.sorted)
