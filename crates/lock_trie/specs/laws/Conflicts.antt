-- A loop over a map that looks for one entry; counts that have an entry.
use Rattle.std.proofs.Common.{suc, ◌≡◌, ◌<◌, ℕ, List, [], ◌∷◌, Bool, true, false, refl, sym, ap, subst, ◌∙◌, arith}
use Rattle.std.specs.Prelude.{cond, ◌||◌, nat_lt, Option, Some, None, unwrap_or}
use Rattle.std.specs.List.{All, list_any}
use Rattle.std.specs.declared.cmp.Ordering.{Ordering}
use Rattle.std.specs.Ordering.{is_eq}
use Rattle.std.specs.Cmp.{IsTotalOrder}
use Rattle.std.specs.Map.{lookup}
use Rattle.std.specs.BTreeMap.{is_at}
use Rattle.std.specs.FinMap as finmap
use Rattle.std.specs.FinMap.{FinMap, IsAntisymmetric}
use Rattle.std.proofs.lemmas.Bool.{or_left, or_right, lt-ltb}
use Rattle.collation.specs.Reference.{Resource}
use Rattle.collation.specs.laws.Order.{is_equal}
use Rattle.lock_name.specs.Locks.{Counts, count_of}
use Rattle.collation.specs.laws.Entries.{some_entry_of, entry_of}
use Rattle.lock_trie.specs.laws.Mapped.{seen}

-- what is left to look at: each entry is there, and where one passes, one of these does
abbrev pub AreThere : {K X : Type 0} {R : K → K → Ordering} → FinMap R X → List (K × X) → Type 0
AreThere m [] = Unit {0}
AreThere m (e ∷ es) = (finmap.get m e.0 ≡ Some e.1) × AreThere m es

pub record Left {K X : Type 0} {R : K → K → Ordering} (P : K × X → Bool) (m : FinMap R X) (rest : List (K × X)) : Type 0 where
  pub there : AreThere m rest
  pub passing : (k : K) (x : X) → finmap.get m k ≡ Some x → P (k, x) ≡ true → list_any P rest ≡ true

module _ {K X : Type 0} {R : K → K → Ordering} (o : IsTotalOrder R) where
  -- each entry is what the finite map has
  pub all_there : (es fs : List (K × X)) (m : FinMap R X) → finmap.from_entries es ≡ m → All (λ e. lookup (is_at (R e.0)) es ≡ Some e.1) fs → AreThere m fs
  all_there es [] m was all = tt
  all_there es (f ∷ fs) m was all = (sym (ap (λ n. finmap.get n f.0) was) ∙ seen o es f.0 ∙ all 0 f (omega arith), all_there es fs m was (λ k d h. all (suc k) d (omega arith)))

module _ {K X : Type 0} {R : K → K → Ordering} (o : IsTotalOrder R) (same : IsAntisymmetric R) where
  -- what the map answers passes among the entries
  among : (P : K × X → Bool) (es : List (K × X)) (k : K) (x : X) → lookup (is_at (R k)) es ≡ Some x → P (k, x) ≡ true → list_any P es ≡ true
  among P [] k x is p = absurd (cc)
  among P (f ∷ fs) k x is p = by_test (is_eq (R k f.0)) refl is (among P fs k x)
    where
      by_test : (b : Bool) → is_eq (R k f.0) ≡ b → cond b (Some f.1) (lookup (is_at (R k)) fs) ≡ Some x → (lookup (is_at (R k)) fs ≡ Some x → P (k, x) ≡ true → list_any P fs ≡ true) → (P f || list_any P fs) ≡ true
      by_test true e is rest =
          let k_is : k ≡ f.0 = same k f.0 (is_equal (R k f.0) e) in
          let x_is : x ≡ f.1 = cc in
          or_left (P f) _ (subst (λ z. P z ≡ true) (λ i. (k_is i, x_is i)) p)
      by_test false e is rest = or_right (P f) _ (rest is p)

  pub left_first : (P : K × X → Bool) (es : List (K × X)) (m : FinMap R X) → finmap.from_entries es ≡ m → All (λ e. lookup (is_at (R e.0)) es ≡ Some e.1) es → Left P m es
  left_first P es m was all = record { there = all_there o es es m was all; passing = λ k x is p. among P es k x (sym (seen o es k) ∙ ap (λ n. finmap.get n k) was ∙ is) p }

  pub left_next : (P : K × X → Bool) (e : K × X) (fs rest : List (K × X)) (m : FinMap R X) → rest ≡ e ∷ fs → P e ≡ false → Left P m rest → Left P m fs
  left_next P e fs rest m is p left =
      let now = subst (Left P m) is left in
      record { there = now.there.1; passing = λ k x is t. subst (λ b. (b || list_any P fs) ≡ true) p (now.passing k x is t) }

  pub decided_true : (P : K × X → Bool) (e : K × X) (fs rest : List (K × X)) (m : FinMap R X) → rest ≡ e ∷ fs → P e ≡ true → Left P m rest → list_any P (finmap.entries m) ≡ true
  decided_true P e fs rest m is p left = let now = subst (Left P m) is left in entry_of R o same P m e.0 e.1 now.there.0 p

  pub decided_false : (P : K × X → Bool) (rest : List (K × X)) (m : FinMap R X) → rest ≡ [] → Left P m rest → list_any P (finmap.entries m) ≡ false
  decided_false P rest m is left = by_test (list_any P (finmap.entries m)) refl
    where
      by_test : (b : Bool) → list_any P (finmap.entries m) ≡ b → b ≡ false
      by_test true e =
          let now : Left P m [] = subst (Left P m) is left in
          let some = some_entry_of R o same P m e in
          let p : false ≡ true = now.passing some.0 some.1.0 some.1.1 some.1.2 in
          absurd (cc)
      by_test false e = refl

-- a count above 0 has an entry
pub entry_counted : (counts : Counts) (x : Resource) → 0 < count_of counts x → (v : ℕ) × (finmap.get counts x ≡ Some v) × (nat_lt 0 v ≡ true)
entry_counted counts x h = by_found (finmap.get counts x) refl h
  where
    by_found : (o : Option ℕ) → finmap.get counts x ≡ o → 0 < unwrap_or o 0 → (v : ℕ) × (finmap.get counts x ≡ Some v) × (nat_lt 0 v ≡ true)
    by_found None is h = absurd (omega arith)
    by_found (Some v) is h = (v, is, lt-ltb 0 v h)
