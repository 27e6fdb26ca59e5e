-- What the newest stamp between two cuts says of the references there.
use Rattle.std.proofs.Common.{◌≡◌, ℕ, ◌≤◌, ◌<◌, List, [], ◌∷◌, refl, sym, ap, ◌∙◌, subst, arith, ◌⊎◌, inl, inr}
use Rattle.std.specs.Prelude.{Bool, true, false, cond, filter, max, leb, Option, Some, None}
use Rattle.std.specs.Ordering.{eq_by_cmp}
use Rattle.std.specs.Cmp.{first_so, second_so, eq_by_cmp_equiv}
use Rattle.std.specs.FinMap as finmap
use Rattle.std.specs.FinMap.{find, get, get-entries, is_sorted, entries_sorted}
use Rattle.std.specs.FinMap.Entries.{below_all}
use lib.Dec.{T, leb→le, le→leb}
use Rattle.collation.specs.Reference.{Reference}
use Rattle.collation.specs.Order.{ref_cmp}
use Rattle.collation.specs.laws.Order.{ref_cmp_total, ref_cmp-IsAntisymmetric, is_equal}
use Rattle.globals.specs.declared.cut.Cut.{Cut}
use Rattle.globals.specs.laws.Nearest.{true_of, not_found_itself}
use Rattle.version_chain.specs.Versions.{newest_of}
use Rattle.version_chain.specs.Chains.{listed}
use Rattle.version_store.specs.Versions.{Row, Versions, versions_of, later, newest_among, newest_between, AtMost, stands_between, IsNewestIn}
use Rattle.version_store.proofs.TiedLemmas.{same_some}

abbrev Rows : Type 0
Rows = List (Reference × Row)

most_first : (n : ℕ) (a b : Option ℕ) → a ≡ Some n → AtMost n (later a b)
most_first n None b e = absurd (cc)
most_first n (Some a) None e = let same : a ≡ n = same_some a n e in omega (arith, same)
most_first n (Some a) (Some b) e = let same : a ≡ n = same_some a n e in omega (arith, same)

most_second : (n : ℕ) (a b : Option ℕ) → AtMost n b → AtMost n (later a b)
most_second n None b le = le
most_second n (Some a) None le = absurd le
most_second n (Some a) (Some b) le = omega (arith, le)

most_in : (test : Reference → Bool) (es : Rows) (r : Reference) (vs : Row) (n : ℕ) → find ref_cmp r es ≡ Some vs → test r ≡ true → newest_of vs ≡ Some n → AtMost n (newest_among (filter (λ e. test e.0) es))
most_in test [] r vs n found t newest = absurd (cc)
most_in test (e ∷ es) r vs n found t newest = by_tie (eq_by_cmp ref_cmp r e.0) refl found (λ f. most_in test es r vs n f t newest)
  where
    on : (b : Bool) → AtMost n (newest_among (filter (λ e. test e.0) es)) → AtMost n (newest_among (cond b (e ∷ filter (λ e. test e.0) es) (filter (λ e. test e.0) es)))
    on true le = most_second n (newest_of e.1) (newest_among (filter (λ e. test e.0) es)) le
    on false le = le

    by_tie : (b : Bool) → eq_by_cmp ref_cmp r e.0 ≡ b → cond b (Some e.1) (find ref_cmp r es) ≡ Some vs → (find ref_cmp r es ≡ Some vs → AtMost n (newest_among (filter (λ e. test e.0) es))) → AtMost n (newest_among (cond (test e.0) (e ∷ filter (λ e. test e.0) es) (filter (λ e. test e.0) es)))
    by_tie true b found go =
        let same = ref_cmp-IsAntisymmetric r e.0 (is_equal _ b) in
        let row : e.1 ≡ vs = same_some e.1 vs found in
        rw (ap test (sym same) ∙ t) (most_first n (newest_of e.1) (newest_among (filter (λ e. test e.0) es)) (ap newest_of row ∙ newest))
    by_tie false b found go = on (test e.0) (go found)

record IsRowOf (test : Reference → Bool) (es : Rows) (t : ℕ) : Type 0 where
  key : Reference
  row : Row
  found : find ref_cmp key es ≡ Some row
  passes : test key ≡ true
  newest : newest_of row ≡ Some t

behind : (test : Reference → Bool) (e : Reference × Row) (es : Rows) (t : ℕ) → below_all ref_cmp e.0 es ≡ true → IsRowOf test es t → IsRowOf test (e ∷ es) t
behind test e es t h of = record {
  key = of.key;
  row = of.row;
  found = by_tie (eq_by_cmp ref_cmp of.key e.0) refl;
  passes = of.passes;
  newest = of.newest;
}
  where
    by_tie : (b : Bool) → eq_by_cmp ref_cmp of.key e.0 ≡ b → cond b (Some e.1) (find ref_cmp of.key es) ≡ Some of.row
    by_tie true b =
        let same = ref_cmp-IsAntisymmetric of.key e.0 (is_equal _ b) in
        let none = sym of.found ∙ ap (λ x. find ref_cmp x es) same ∙ not_found_itself ref_cmp ref_cmp_total ref_cmp-IsAntisymmetric e.0 es h in
        absurd (cc)
    by_tie false b = of.found

here : (test : Reference → Bool) (e : Reference × Row) (es : Rows) (t : ℕ) → test e.0 ≡ true → newest_of e.1 ≡ Some t → IsRowOf test (e ∷ es) t
here test e es t passes newest = record {
  key = e.0;
  row = e.1;
  found = ap (λ r. cond r (Some e.1) (find ref_cmp e.0 es)) (ties e.0);
  passes = passes;
  newest = newest;
}
  where
    ties : (x : Reference) → eq_by_cmp ref_cmp x x ≡ true
    ties x = let laws = eq_by_cmp_equiv ref_cmp_total in laws.refl x

above : {a b : ℕ} → (a ≤ b → ⊥) → b < a
above not_le = omega (arith, not_le)

-- which of the two is the newer
newer : (a b : Option ℕ) (t : ℕ) → later a b ≡ Some t → (a ≡ Some t) ⊎ (b ≡ Some t)
newer None b t e = inr e
newer (Some a) None t e = inl e
newer (Some a) (Some b) t e = by_order (leb a b) refl
  where
    by_order : (l : Bool) → leb a b ≡ l → (Some a ≡ Some t) ⊎ (Some b ≡ Some t)
    by_order true l = let le = leb→le a b (subst T (sym l) tt) in let m = same_some (max a b) t e in let is : b ≡ t = omega (arith, le, m) in inr (ap Some is)
    by_order false l = let gt = above (λ le. let yes = true_of _ (le→leb a b le) in absurd (cc)) in let m = same_some (max a b) t e in let is : a ≡ t = omega (arith, gt, m) in inl (ap Some is)

there_in : (test : Reference → Bool) (es : Rows) (t : ℕ) → is_sorted ref_cmp es ≡ true → newest_among (filter (λ e. test e.0) es) ≡ Some t → IsRowOf test es t
there_in test [] t h e = absurd (cc)
there_in test (f ∷ fs) t h e = by_test (test f.0) refl e (λ i. behind test f fs t (first_so (below_all ref_cmp f.0 fs) _ h) (there_in test fs t (second_so (below_all ref_cmp f.0 fs) _ h) i))
  where
    by_test : (b : Bool) → test f.0 ≡ b → newest_among (cond b (f ∷ filter (λ e. test e.0) fs) (filter (λ e. test e.0) fs)) ≡ Some t → (newest_among (filter (λ e. test e.0) fs) ≡ Some t → IsRowOf test (f ∷ fs) t) → IsRowOf test (f ∷ fs) t
    by_test true b e go = elim (newer (newest_of f.1) (newest_among (filter (λ e. test e.0) fs)) t e) as (λ _. IsRowOf test (f ∷ fs) t) [
      | inl i ↦ here test f fs t b i
      | inr i ↦ go i
    ]
    by_test false b e go = go e

some_row : (o : Option Row) (n : ℕ) → newest_of (listed o) ≡ Some n → o ≡ Some (listed o)
some_row None n e = absurd (cc)
some_row (Some vs) n e = refl

pub newest_is : (low high : Cut) (m : Versions) → IsNewestIn low high m (newest_between low high m)
newest_is low high m = record {
  most = λ r n passes newest. most_in (stands_between low high) (finmap.entries m) r (versions_of m r) n (sym (get-entries m r) ∙ some_row (get m r) n newest) passes newest;
  there = λ t e.
      let of = there_in (stands_between low high) (finmap.entries m) t (true_of _ (entries_sorted m)) e in
      record { reference = of.key; passes = of.passes; newest = ap (λ o. newest_of (listed o)) (get-entries m of.key ∙ of.found) ∙ of.newest };
}
