-- The nearest entry that passes a test, next to a bound.
use Rattle.std.specs.Prelude.{◌≡◌, Bool, true, false, cond, ◌||◌, map, filter, T, List, [], ◌∷◌, Option, None, Some, is_some}
use Rattle.std.proofs.Common.{refl, sym, ap, subst, ◌∙◌}
use Rattle.std.proofs.lemmas.Bool.{false_from_ne_true}
use Rattle.std.specs.declared.cmp.Ordering.{Ordering}
use Rattle.std.specs.declared.cmp.Ordering.TheVariants.{Less, Equal, Greater}
use Rattle.std.specs.Ordering.{is_lt, is_eq}
use Rattle.std.specs.Cmp.{IsTotalOrder, tied_itself, first_so, second_so}
use Rattle.std.specs.Option.{option_or, option_and_then}
use Rattle.std.specs.List.{find, list_any}
use Rattle.std.specs.FinMap as finmap
use Rattle.std.specs.FinMap.{FinMap, IsAntisymmetric}
use Rattle.std.specs.FinMap.Entries.{below_all, is_sorted}
use Rattle.collation.specs.laws.Order.{is_less, turned}
use Rattle.globals.specs.Entries.{find_last, nearest_entry}

-- the entry, where its key passes the test
abbrev pub keep : {K X : Type 0} → (K → Bool) → Option (K × X) → Option (K × X)
keep test None = None
keep test (Some e) = cond (test e.0) (Some e) None

-- a test that holds is true
pub true_of : (b : Bool) → T b → b ≡ true
true_of true h = refl
true_of false h = absurd h

any_found : {K X : Type 0} (P : K → Bool) (es : List (K × X)) → list_any P (map (λ e. e.0) es) ≡ is_some (find (λ e. P e.0) es)
any_found P [] = refl
any_found P (e ∷ es) = elim (P e.0) as (λ b. (b || list_any P (map (λ e. e.0) es)) ≡ is_some (cond b (Some e) (find (λ e. P e.0) es))) [ true ↦ refl | false ↦ any_found P es ]

-- after a key that fails a test of a beginning, all fail
pub still_fails : {K : Type 0} (R : K → K → Ordering) (B : K → Bool) → ((x y : K) → R x y ≡ Less → B y ≡ true → B x ≡ true) → (x y : K) → B x ≡ false → R x y ≡ Less → B y ≡ false
still_fails R B early x y b l = false_from_ne_true _ (λ c. let t = early x y l c in absurd (cc))

module _ {K X : Type 0} (R : K → K → Ordering) where
  none_after : (P : K → Bool) (x : K) (es : List (K × X)) → below_all R x es ≡ true → ((y : K) → R x y ≡ Less → P y ≡ true → ⊥) → find (λ e. P e.0) es ≡ None
  none_after P x [] h never = refl
  none_after P x (e ∷ es) h never =
      elim (P e.0) as (λ p. P e.0 ≡ p → cond p (Some e) (find (λ e. P e.0) es) ≡ None) [
        | true ↦ λ p. absurd (never e.0 (is_less _ (first_so _ _ h)) p)
        | false ↦ λ p. none_after P x es (second_so (is_lt (R x e.0)) _ h) never
      ] refl

  -- what is found after a key comes after it
  pub later_found : (P : K → Bool) (x : K) (es : List (K × X)) (e : K × X) → below_all R x es ≡ true → find (λ e. P e.0) es ≡ Some e → R x e.0 ≡ Less
  later_found P x [] e h is = absurd (cc)
  later_found P x (f ∷ fs) e h is = elim (P f.0) as (λ b. cond b (Some f) (find (λ e. P e.0) fs) ≡ Some e → R x e.0 ≡ Less) [
    | true ↦ λ is. let f_is : f ≡ e = cc in subst (λ z. R x z.0 ≡ Less) f_is (is_less _ (first_so _ _ h))
    | false ↦ λ is. later_found P x fs e (second_so (is_lt (R x f.0)) _ h) is
  ] is

  -- nothing after a key is kept by a test that fails there
  pub none_pass : (P : K → Bool) (x : K) (es : List (K × X)) → ((y : K) → R x y ≡ Less → P y ≡ false) → below_all R x es ≡ true → filter (λ e. P e.0) es ≡ []
  none_pass P x [] fails h = refl
  none_pass P x (e ∷ es) fails h = rw (fails e.0 (is_less _ (first_so _ _ h))) (none_pass P x es fails (second_so (is_lt (R x e.0)) _ h))

  -- what passes a test within a bound stands next to the bound
  pub find_within : (P B : K → Bool) → ((x : K) → P x ≡ true → B x ≡ true) → ((x y : K) → B x ≡ true → R x y ≡ Less → P y ≡ true → P x ≡ true) → (es : List (K × X)) → is_sorted R es ≡ true → find (λ e. P e.0) es ≡ keep P (find (λ e. B e.0) es)
  find_within P B inside down [] h = refl
  find_within P B inside down (e ∷ es) h =
      let rest = find_within P B inside down es (second_so (below_all R e.0 es) _ h) in
      elim (B e.0) as (λ b. B e.0 ≡ b → cond (P e.0) (Some e) (find (λ e. P e.0) es) ≡ keep P (cond b (Some e) (find (λ e. B e.0) es))) [
        | true ↦ λ b. elim (P e.0) as (λ p. P e.0 ≡ p → cond p (Some e) (find (λ e. P e.0) es) ≡ cond p (Some e) None) [
          | true ↦ λ p. refl
          | false ↦ λ p. none_after P e.0 es (first_so _ _ h) (λ y l q. let r = down e.0 y b l q in absurd (cc))
        ] refl
        | false ↦ λ b. elim (P e.0) as (λ p. P e.0 ≡ p → cond p (Some e) (find (λ e. P e.0) es) ≡ keep P (find (λ e. B e.0) es)) [
          | true ↦ λ p. let r = inside e.0 p in absurd (cc)
          | false ↦ λ p. rest
        ] refl
      ] refl

  -- what the last answer is
  record IsFound (B : K → Bool) (x : K) (es : List (K × X)) (f : K × X) : Type 0 where
    passes : B f.0 ≡ true
    after : below_all R x es ≡ true → R x f.0 ≡ Less

  found_last : (B : K → Bool) (x : K) (es : List (K × X)) (f : K × X) → find_last (λ e. B e.0) es ≡ Some f → IsFound B x es f
  found_last B x [] f is = absurd (cc)
  found_last B x (e ∷ es) f is =
      elim (find_last (λ e. B e.0) es) as (λ o. find_last (λ e. B e.0) es ≡ o → option_or o (cond (B e.0) (Some e) None) ≡ Some f → IsFound B x (e ∷ es) f) [
        | None ↦ λ was. elim (B e.0) as (λ b. B e.0 ≡ b → cond b (Some e) None ≡ Some f → IsFound B x (e ∷ es) f) [
          | true ↦ λ b is. let same : e ≡ f = cc in subst (IsFound B x (e ∷ es)) same (record { passes = b; after = λ h. is_less _ (first_so _ _ h) })
          | false ↦ λ b is. absurd (cc)
        ] refl
        | Some g ↦ λ was is.
            let there = found_last B x es f (was ∙ is) in
            record { passes = there.passes; after = λ h. there.after (second_so (is_lt (R x e.0)) _ h) }
      ] refl is

  pub find_last_within : (P B : K → Bool) → ((x : K) → P x ≡ true → B x ≡ true) → ((x y : K) → B y ≡ true → R x y ≡ Less → P x ≡ true → P y ≡ true) → (es : List (K × X)) → is_sorted R es ≡ true → find_last (λ e. P e.0) es ≡ keep P (find_last (λ e. B e.0) es)
  find_last_within P B inside up [] h = refl
  find_last_within P B inside up (e ∷ es) h =
      let rest = find_last_within P B inside up es (second_so (below_all R e.0 es) _ h) in
      ap (λ o. option_or o (cond (P e.0) (Some e) None)) rest
      ∙ elim (find_last (λ e. B e.0) es) as (λ o. find_last (λ e. B e.0) es ≡ o → option_or (keep P o) (cond (P e.0) (Some e) None) ≡ keep P (option_or o (cond (B e.0) (Some e) None))) [
        | None ↦ λ was. elim (B e.0) as (λ b. B e.0 ≡ b → cond (P e.0) (Some e) None ≡ keep P (cond b (Some e) None)) [
          | true ↦ λ b. refl
          | false ↦ λ b. elim (P e.0) as (λ p. P e.0 ≡ p → cond p (Some e) None ≡ None) [
            | true ↦ λ p. let r = inside e.0 p in absurd (cc)
            | false ↦ λ p. refl
          ] refl
        ] refl
        | Some f ↦ λ was.
            let there = found_last B e.0 es f was in
            let less = there.after (first_so _ _ h) in
            elim (P f.0) as (λ q. P f.0 ≡ q → option_or (cond q (Some f) None) (cond (P e.0) (Some e) None) ≡ cond q (Some f) None) [
              | true ↦ λ q. refl
              | false ↦ λ q. elim (P e.0) as (λ p. P e.0 ≡ p → cond p (Some e) None ≡ None) [
                | true ↦ λ p. let r = up e.0 f.0 there.passes less p in absurd (cc)
                | false ↦ λ p. refl
              ] refl
            ] refl
      ] refl

  pub nearest_after : (P B : K → Bool) → ((x : K) → P x ≡ true → B x ≡ true) → ((x y : K) → B x ≡ true → R x y ≡ Less → P y ≡ true → P x ≡ true) → (m : FinMap R X) → nearest_entry true P m ≡ keep P (nearest_entry true B m)
  nearest_after P B inside down m = find_within P B inside down (finmap.entries m) (true_of _ (finmap.entries_sorted m))

  pub nearest_before : (P B : K → Bool) → ((x : K) → P x ≡ true → B x ≡ true) → ((x y : K) → B y ≡ true → R x y ≡ Less → P x ≡ true → P y ≡ true) → (m : FinMap R X) → nearest_entry false P m ≡ keep P (nearest_entry false B m)
  nearest_before P B inside up m = find_last_within P B inside up (finmap.entries m) (true_of _ (finmap.entries_sorted m))

  find_passes : (B : K → Bool) (es : List (K × X)) (f : K × X) → find (λ e. B e.0) es ≡ Some f → B f.0 ≡ true
  find_passes B [] f is = absurd (cc)
  find_passes B (e ∷ es) f is =
      elim (B e.0) as (λ b. B e.0 ≡ b → cond b (Some e) (find (λ e. B e.0) es) ≡ Some f → B f.0 ≡ true) [
        | true ↦ λ b is. let same : e ≡ f = cc in subst (λ z. B z.0 ≡ true) same b
        | false ↦ λ b is. find_passes B es f is
      ] refl is

  -- the nearest one passes the test
  pub nearest_passes : (forward : Bool) (B : K → Bool) (m : FinMap R X) (f : K × X) → nearest_entry forward B m ≡ Some f → B f.0 ≡ true
  nearest_passes true B m f is = find_passes B (finmap.entries m) f is
  nearest_passes false B m f is = let there = found_last B f.0 (finmap.entries m) f is in there.passes

some_kept : {K X Y : Type 0} (e : K × X) (o : Option Y) (f : K → Option Y) → f e.0 ≡ o → option_and_then (λ e. f e.0) (cond (is_some o) (Some e) None) ≡ f e.0
some_kept e (Some y) f is = refl
some_kept e None f is = sym is

-- where the test says that the function answers, the test can be left out
pub answered : {K X Y : Type 0} (P B : K → Bool) (f : K → Option Y) → ((x : K) → B x ≡ true → P x ≡ is_some (f x)) → (o : Option (K × X)) → ((e : K × X) → o ≡ Some e → B e.0 ≡ true) → option_and_then (λ e. f e.0) (keep P o) ≡ option_and_then (λ e. f e.0) o
answered P B f so None within = refl
answered P B f so (Some e) within = rw (so e.0 (within e refl)) (some_kept e (f e.0) f refl)

-- whether some key passes
pub any_nearest : {K X : Type 0} {R : K → K → Ordering} (P : K → Bool) (m : FinMap R X) → list_any P (finmap.keys m) ≡ is_some (nearest_entry true P m)
any_nearest P m = any_found P (finmap.entries m)

-- ---- the nearest entry, told by what `get` answers

-- e passes and is in the map, and nothing in the map that passes stands before it (backward after it)
pub record IsNearest {K X : Type 0} {R : K → K → Ordering} (forward : Bool) (P : K → Bool) (m : FinMap R X) (e : K × X) : Type 0 where
  pub passes : P e.0 ≡ true
  pub there : finmap.get m e.0 ≡ Some e.1
  pub none_nearer : (x : K) → P x ≡ true → is_some (finmap.get m x) ≡ true → cond forward (R x e.0) (R e.0 x) ≡ Less → ⊥

module _ {K X : Type 0} (R : K → K → Ordering) (o : IsTotalOrder R) (same : IsAntisymmetric R) where
  -- what is less than each key is not found
  not_found_below : (q x : K) (es : List (K × X)) → R q x ≡ Less → below_all R x es ≡ true → finmap.find R q es ≡ None
  not_found_below q x [] l h = refl
  not_found_below q x (e ∷ es) l h =
      let less = o.trans q x e.0 l (is_less _ (first_so _ _ h)) in
      rw less (not_found_below q x es l (second_so (is_lt (R x e.0)) _ h))

  -- a key below all of a list is not in it
  pub not_found_itself : (x : K) (es : List (K × X)) → below_all R x es ≡ true → finmap.find R x es ≡ None
  not_found_itself x [] h = refl
  not_found_itself x (e ∷ es) h = rw (is_less (R x e.0) (first_so _ _ h)) (not_found_itself x es (second_so (is_lt (R x e.0)) _ h))

  -- where a key passes and the first doesn't, it is sought after the first
  behind_first : (P : K → Bool) (x : K) (f : K × X) (fs : List (K × X)) → P x ≡ true → P f.0 ≡ false → finmap.find R x (f ∷ fs) ≡ finmap.find R x fs
  behind_first P x f fs p n = by_order (R x f.0) refl
    where
      by_order : (r : Ordering) → R x f.0 ≡ r → cond (is_eq r) (Some f.1) (finmap.find R x fs) ≡ finmap.find R x fs
      by_order Less e = refl
      by_order Equal e = let t : P f.0 ≡ true = subst (λ z. P z ≡ true) (same x f.0 e) p in absurd (cc)
      by_order Greater e = refl

  none_first : (P : K → Bool) (es : List (K × X)) → find (λ e. P e.0) es ≡ None → (x : K) → P x ≡ true → finmap.find R x es ≡ None
  none_first P [] is x p = refl
  none_first P (f ∷ fs) is x p = elim (P f.0) as (λ b. P f.0 ≡ b → cond b (Some f) (find (λ e. P e.0) fs) ≡ None → finmap.find R x (f ∷ fs) ≡ None) [
    | true ↦ λ b is. absurd (cc)
    | false ↦ λ b is. behind_first P x f fs p b ∙ none_first P fs is x p
  ] refl is

  -- a key after the first is sought after it
  behind : (x : K) (f : K × X) (fs : List (K × X)) → R f.0 x ≡ Less → finmap.find R x (f ∷ fs) ≡ finmap.find R x fs
  behind x f fs l = let t : R x f.0 ≡ Greater = turned o f.0 x Less l in rw t refl

  first_there : (P : K → Bool) (es : List (K × X)) (e : K × X) → is_sorted R es ≡ true → find (λ e. P e.0) es ≡ Some e → finmap.find R e.0 es ≡ Some e.1
  first_there P [] e h is = absurd (cc)
  first_there P (f ∷ fs) e h is = elim (P f.0) as (λ b. P f.0 ≡ b → cond b (Some f) (find (λ e. P e.0) fs) ≡ Some e → finmap.find R e.0 (f ∷ fs) ≡ Some e.1) [
    | true ↦ λ b is. let f_is : f ≡ e = cc in subst (λ z. finmap.find R z.0 (f ∷ fs) ≡ Some z.1) f_is (ap (λ r. cond (is_eq r) (Some f.1) (finmap.find R f.0 fs)) (tied_itself o f.0))
    | false ↦ λ b is. behind e.0 f fs (later_found R P f.0 fs e (first_so _ _ h) is) ∙ first_there P fs e (second_so (below_all R f.0 fs) _ h) is
  ] refl is

  first_nearest : (P : K → Bool) (es : List (K × X)) (e : K × X) → is_sorted R es ≡ true → find (λ e. P e.0) es ≡ Some e → (x : K) → P x ≡ true → is_some (finmap.find R x es) ≡ true → R x e.0 ≡ Less → ⊥
  first_nearest P [] e h is x p there l = absurd (cc)
  first_nearest P (f ∷ fs) e h is x p there l = elim (P f.0) as (λ b. P f.0 ≡ b → cond b (Some f) (find (λ e. P e.0) fs) ≡ Some e → ⊥) [
    | true ↦ λ b is.
        let f_is : e ≡ f = cc in
        let less : R x f.0 ≡ Less = subst (λ z. R x z.0 ≡ Less) f_is l in
        let none : finmap.find R x (f ∷ fs) ≡ None = ap (λ r. cond (is_eq r) (Some f.1) (finmap.find R x fs)) less ∙ not_found_below x f.0 fs less (first_so _ _ h) in
        absurd (cc)
    | false ↦ λ b is. first_nearest P fs e (second_so (below_all R f.0 fs) _ h) is x p (sym (ap is_some (behind_first P x f fs p b)) ∙ there) l
  ] refl is

  none_last : (P : K → Bool) (es : List (K × X)) → find_last (λ e. P e.0) es ≡ None → (x : K) → P x ≡ true → finmap.find R x es ≡ None
  none_last P [] is x p = refl
  none_last P (f ∷ fs) is x p =
      elim (find_last (λ e. P e.0) fs) as (λ g. find_last (λ e. P e.0) fs ≡ g → option_or g (cond (P f.0) (Some f) None) ≡ None → finmap.find R x (f ∷ fs) ≡ None) [
        | Some g ↦ λ was is. absurd (cc)
        | None ↦ λ was is. elim (P f.0) as (λ b. P f.0 ≡ b → cond b (Some f) None ≡ None → finmap.find R x (f ∷ fs) ≡ None) [
          | true ↦ λ b is. absurd (cc)
          | false ↦ λ b is. behind_first P x f fs p b ∙ none_last P fs was x p
        ] refl is
      ] refl is

  last_there : (P : K → Bool) (es : List (K × X)) (e : K × X) → is_sorted R es ≡ true → find_last (λ e. P e.0) es ≡ Some e → finmap.find R e.0 es ≡ Some e.1
  last_there P [] e h is = absurd (cc)
  last_there P (f ∷ fs) e h is =
      elim (find_last (λ e. P e.0) fs) as (λ g. find_last (λ e. P e.0) fs ≡ g → option_or g (cond (P f.0) (Some f) None) ≡ Some e → finmap.find R e.0 (f ∷ fs) ≡ Some e.1) [
        | Some g ↦ λ was is.
            let g_is : g ≡ e = cc in
            let there = found_last R P f.0 fs g was in
            subst (λ z. finmap.find R z.0 (f ∷ fs) ≡ Some z.1) g_is (behind g.0 f fs (there.after (first_so _ _ h)) ∙ last_there P fs g (second_so (below_all R f.0 fs) _ h) was)
        | None ↦ λ was is. elim (P f.0) as (λ b. cond b (Some f) None ≡ Some e → finmap.find R e.0 (f ∷ fs) ≡ Some e.1) [
          | true ↦ λ is. let f_is : f ≡ e = cc in subst (λ z. finmap.find R z.0 (f ∷ fs) ≡ Some z.1) f_is (ap (λ r. cond (is_eq r) (Some f.1) (finmap.find R f.0 fs)) (tied_itself o f.0))
          | false ↦ λ is. absurd (cc)
        ] is
      ] refl is

  last_nearest : (P : K → Bool) (es : List (K × X)) (e : K × X) → is_sorted R es ≡ true → find_last (λ e. P e.0) es ≡ Some e → (x : K) → P x ≡ true → is_some (finmap.find R x es) ≡ true → R e.0 x ≡ Less → ⊥
  last_nearest P [] e h is x p there l = absurd (cc)
  last_nearest P (f ∷ fs) e h is x p there l =
      elim (find_last (λ e. P e.0) fs) as (λ g. find_last (λ e. P e.0) fs ≡ g → option_or g (cond (P f.0) (Some f) None) ≡ Some e → ⊥) [
        | Some g ↦ λ was is.
            let g_is : g ≡ e = cc in
            let after = found_last R P f.0 fs g was in
            let less : R g.0 x ≡ Less = subst (λ z. R z.0 x ≡ Less) (sym g_is) l in
            let farther : R f.0 x ≡ Less = o.trans f.0 g.0 x (after.after (first_so _ _ h)) less in
            last_nearest P fs g (second_so (below_all R f.0 fs) _ h) was x p (sym (ap is_some (behind x f fs farther)) ∙ there) less
        | None ↦ λ was is. elim (P f.0) as (λ b. cond b (Some f) None ≡ Some e → ⊥) [
          | true ↦ λ is.
              let f_is : e ≡ f = cc in
              let less : R f.0 x ≡ Less = subst (λ z. R z.0 x ≡ Less) f_is l in
              let none : finmap.find R x (f ∷ fs) ≡ None = behind x f fs less ∙ none_last P fs was x p in
              absurd (cc)
          | false ↦ λ is. absurd (cc)
        ] is
      ] refl is

  pub nearest_is : (forward : Bool) (P : K → Bool) (m : FinMap R X) (e : K × X) → nearest_entry forward P m ≡ Some e → IsNearest forward P m e
  nearest_is true P m e is =
      let sorted = true_of _ (finmap.entries_sorted m) in
      record {
        passes = nearest_passes R true P m e is;
        there = finmap.get-entries m e.0 ∙ first_there P (finmap.entries m) e sorted is;
        none_nearer = λ x p there. first_nearest P (finmap.entries m) e sorted is x p (sym (ap is_some (finmap.get-entries m x)) ∙ there);
      }
  nearest_is false P m e is =
      let sorted = true_of _ (finmap.entries_sorted m) in
      record {
        passes = nearest_passes R false P m e is;
        there = finmap.get-entries m e.0 ∙ last_there P (finmap.entries m) e sorted is;
        none_nearer = λ x p there. last_nearest P (finmap.entries m) e sorted is x p (sym (ap is_some (finmap.get-entries m x)) ∙ there);
      }

  pub nearest_none : (forward : Bool) (P : K → Bool) (m : FinMap R X) → nearest_entry forward P m ≡ None → (x : K) → P x ≡ true → finmap.get m x ≡ None
  nearest_none true P m is x p = finmap.get-entries m x ∙ none_first P (finmap.entries m) is x p
  nearest_none false P m is x p = finmap.get-entries m x ∙ none_last P (finmap.entries m) is x p
