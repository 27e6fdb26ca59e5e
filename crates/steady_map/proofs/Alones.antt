-- What is shown once the tree has taken a pair out of its leaf alone, or hasn't.
use Rattle.std.proofs.Common.{◌≡◌, ℕ, ◌+◌, ◌-◌, Bool, true, false, cond, Option, Some, None, List, [], ◌∷◌, length, is_some, refl, sym, ap, subst, ◌∙◌, arith}
use Rattle.std.specs.Prelude.{IfSome, IsSome}
use Rattle.std.specs.Cmp.{IsTotalOrder}
use Rattle.std.specs.declared.cmp.Ordering.{Ordering}
use Rattle.std.specs.declared.cmp.Ordering.TheVariants.{Less}
use Rattle.std.specs.FinMap.Entries.{find, is_sorted, length_without}
use Rattle.std.specs.Bool.{passes}
use Rattle.btree.specs.Order.{Each, IsAfter, without}
use Rattle.steady_map.specs.Shown.{shown, with_value, hidden_keys, joined, others}
use Rattle.steady_map.proofs.HiddenKeys.{others_without}
use Rattle.steady_map.proofs.Shows.{find_shown, shown_without, without_none}

each_shown : {K V : Type 0} (P : K → Type 0) (es : List (K × Option V)) → Each (λ (e : K × Option V). P e.0) es → Each (λ (e : K × V). P e.0) (shown es)
each_shown P [] h = tt
each_shown {K} {V} P (e ∷ es) h = by_value e.1 (each_shown P es h.1)
  where
    by_value : (w : Option V) → Each (λ (e : K × V). P e.0) (shown es) → Each (λ (e : K × V). P e.0) (with_value e.0 w (shown es))
    by_value None rest = rest
    by_value (Some w) rest = (h.0, rest)

module _ {K V : Type 0} (R : K → K → Ordering) (o : IsTotalOrder R) (key : K) (before : K → Bool) (old new : List (K × Option V)) (r : Option (Option V)) (told : Option V) (is : told ≡ joined r) where
  pub value_alone : is_sorted R old ≡ true → IfSome r (λ w. find R key old ≡ Some w) → IfSome told (λ v. find R key (shown old) ≡ Some v)
  value_alone sorted found = subst (λ (a : Option V). IfSome a (λ v. find R key (shown old) ≡ Some v)) (sym is) (by_result r found)
    where
      by_result : (a : Option (Option V)) → IfSome a (λ w. find R key old ≡ Some w) → IfSome (joined a) (λ v. find R key (shown old) ≡ Some v)
      by_result None f = tt
      by_result (Some None) f = tt
      by_result (Some (Some v)) f = find_shown R o key old sorted ∙ ap joined f

  -- where a value is told the tree has taken out its pair
  some_taken : IsSome told → IsSome r
  some_taken some = by_result r (subst IsSome is some)
    where
      by_result : (a : Option (Option V)) → IsSome (joined a) → IsSome a
      by_result None s = s
      by_result (Some None) s = refl
      by_result (Some (Some v)) s = refl

  pub pairs_alone : (IsSome r → new ≡ without R key old) → IsSome told → shown new ≡ without R key (shown old)
  pairs_alone taken some = ap shown (taken (some_taken some)) ∙ shown_without R o key old

  pub none_before_alone : (IsSome r → Each (λ (e : K × Option V). IsAfter R key e → before e.0 ≡ false) old) → IsSome told → Each (λ (e : K × V). IsAfter R key e → before e.0 ≡ false) (shown old)
  none_before_alone alone some = each_shown (λ k. R key k ≡ Less → before k ≡ false) old (alone (some_taken some))

  pub missed_alone : is_sorted R old ≡ true → IfSome r (λ w. find R key old ≡ Some w) → (IsSome r → new ≡ without R key old) → (r ≡ None → new ≡ old) → told ≡ None → shown new ≡ shown old
  missed_alone sorted found taken kept none = by_result r found taken kept (sym is ∙ none)
    where
      by_result : (a : Option (Option V)) → IfSome a (λ w. find R key old ≡ Some w) → (IsSome a → new ≡ without R key old) → (a ≡ None → new ≡ old) → joined a ≡ None → shown new ≡ shown old
      by_result None f t k n = ap shown (k refl)
      by_result (Some None) f t k n = ap shown (t refl) ∙ shown_without R o key old ∙ without_none R key (shown old) (find_shown R o key old sorted ∙ ap joined f)
      by_result (Some (Some v)) f t k n = absurd (cc)

  pub others_alone : (IsSome r → new ≡ without R key old) → (r ≡ None → new ≡ old) → others R key (hidden_keys new) ≡ others R key (hidden_keys old)
  others_alone taken kept = by_result r taken kept
    where
      by_result : (a : Option (Option V)) → (IsSome a → new ≡ without R key old) → (a ≡ None → new ≡ old) → others R key (hidden_keys new) ≡ others R key (hidden_keys old)
      by_result None t k = ap (λ es. others R key (hidden_keys es)) (k refl)
      by_result (Some w) t k = ap (λ es. others R key (hidden_keys es)) (t refl) ∙ others_without R key old

-- how many are left
pub length_alone : {K V : Type 0} (R : K → K → Ordering) (o : IsTotalOrder R) (key : K) (old new : List (K × V)) (told : Option V) (n count : ℕ) → is_sorted R old ≡ true → n ≡ length old → count ≡ cond (is_some told) 1 0
    → IfSome told (λ v. find R key old ≡ Some v) → (IsSome told → new ≡ without R key old) → (told ≡ None → new ≡ old) → n - count ≡ length new
length_alone R o key old new None n count sorted size is found taken kept = omega (arith, size, is, ap length (kept refl))
length_alone R o key old new (Some v) n count sorted size is found taken kept =
    let all = length_without R o key old (passes _ sorted) in
    let one : ◌≡◌ {A = ℕ} (cond (is_some (find R key old)) 1 0) 1 = ap (λ a. cond (is_some a) 1 0) found in
    omega (arith, size, is, all, one, ap length (taken refl))
