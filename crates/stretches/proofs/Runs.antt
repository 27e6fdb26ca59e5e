-- Runs that are gathered up to the next stretch, and behind it.
use Rattle.std.proofs.Common.{◌≡◌, ℕ, ◌≤◌, ◌<◌, Bool, true, false, List, [], ◌∷◌, ◌++◌, length, refl, sym, ap, subst, ◌∙◌, arith, append_assoc}
use Rattle.std.specs.Prelude.{cond, not, ◌&&◌, filter, Option, Some, None}
use Rattle.std.specs.List.{find}
use Rattle.std.specs.FinMap as finmap
use Rattle.collation.specs.Reference.{Reference}
use Rattle.collation.specs.Database.{Database}
use Rattle.globals.specs.declared.cut.Cut.{Cut}
use Rattle.globals.specs.Cuts.{stands_before, stands_within, up_to, entries_from, front_to, IsFront, IsRun}
use Rattle.globals.specs.laws.Ends.{front_between}
use Rattle.stretches.specs.Empty.{PartAlike, StartsBetween, IsFree}
use Rattle.stretches.proofs.Alike.{Node, alike_to, entries_alike}
use Rattle.stretches.proofs.Free.{free_within}

-- ---- beginnings

joined_front : (a b c : List Node) → IsFront a b → IsFront b c → IsFront a c
joined_front a b c first second = record {
  rest = first.rest ++ second.rest;
  parts = second.parts ∙ ap (λ l. l ++ second.rest) first.parts ∙ append_assoc a first.rest second.rest;
}

one_more : (e : Node) (a b : List Node) → IsFront a b → IsFront (e ∷ a) (e ∷ b)
one_more e a b is = record { rest = is.rest; parts = ap (λ l. e ∷ l) is.parts }

-- what stands before an earlier end is a beginning of what stands before a later one
shorter : (near : Cut) (end : Option Cut) → ((x : Reference) → stands_before near x ≡ true → stands_within end x ≡ true) → (es : List Node) → IsFront (front_to (Some near) es) (front_to end es)
shorter near end within [] = record { rest = []; parts = refl }
shorter near end within (e ∷ es) = by_test (stands_before near e.0) (stands_within end e.0) (within e.0) (shorter near end within es)
  where
    by_test : (s w : Bool) → (s ≡ true → w ≡ true) → IsFront (front_to (Some near) es) (front_to end es) → IsFront (cond s (e ∷ front_to (Some near) es) []) (cond w (e ∷ front_to end es) [])
    by_test true true so rest = one_more e (front_to (Some near) es) (front_to end es) rest
    by_test true false so rest = let never = so refl in absurd (cc)
    by_test false w so rest = record { rest = cond w (e ∷ front_to end es) []; parts = refl }

nothing_in : (es : List Node) → length es ≡ 0 → es ≡ []
nothing_in [] h = refl
nothing_in (e ∷ es) h = absurd (omega (arith, h))

none_passes : (P : Reference → Bool) (es : List Node) → filter (λ e. P e.0) es ≡ [] → find (λ e. P e.0) es ≡ None
none_passes P [] none = refl
none_passes P (e ∷ es) none = elim (P e.0) as (λ b. cond b (e ∷ filter (λ e. P e.0) es) (filter (λ e. P e.0) es) ≡ [] → cond b (Some e) (find (λ e. P e.0) es) ≡ None) [
  | true ↦ λ h. absurd (cc)
  | false ↦ λ h. none_passes P es h
] none

-- f, s: x stands before the cut, and before the start
pub same_side : (f s : Bool) → (f ≡ true → s ≡ true) → ((not f && s) ≡ true → ⊥) → f ≡ s
same_side true s behind never = sym (behind refl)
same_side false true behind never = absurd (never refl)
same_side false false behind never = refl

-- ---- a run from a cut on

module _ (cut from : Cut) (end : Option Cut) (m : Database) (alike : PartAlike cut from m) (most : ℕ) (run : List Node) where
  pub run_from : IsRun most run (entries_from from (up_to end m)) → IsRun most run (entries_from cut (up_to end m))
  run_from is = subst (IsRun most run) (sym (entries_alike cut from (up_to end m) (alike_to cut from end m alike))) is

  module _ (start : Cut) (next : StartsBetween from start end) (is : IsRun most run (entries_from from (up_to (Some start) m))) (n : ℕ) (counted : n ≡ length run) where
    front_on : IsFront run (entries_from from (up_to end m))
    front_on =
        let before : IsFront (front_to (Some start) (entries_from from m)) (front_to end (entries_from from m)) = shorter start end next.within (entries_from from m) in
        joined_front run (entries_from from (up_to (Some start) m)) (entries_from from (up_to end m)) is.front
        (subst (λ (es : List Node). IsFront es (entries_from from (up_to end m))) (front_between from (Some start) m) (subst (IsFront (front_to (Some start) (entries_from from m))) (front_between from end m) before))

    pub run_before : 0 < n → IsRun most run (entries_from cut (up_to end m))
    run_before some = run_from (record {
      front = front_on;
      bounded = is.bounded;
      ends = λ none. absurd (let l : length run ≡ 0 = ap length none in omega (arith, l, counted, some));
    })

    pub none_before : n ≤ 0 → PartAlike cut start m
    none_before zero x there =
        let nothing : entries_from from (up_to (Some start) m) ≡ [] = is.ends (nothing_in run (omega (arith, counted, zero))) in
        let free : IsFree from start m = free_within from start m (none_passes (λ y. not (stands_before from y)) (finmap.entries (up_to (Some start) m)) nothing) in
        alike x there ∙ same_side (stands_before from x) (stands_before start x) (next.behind x) (λ h. let none : finmap.contains_key m x ≡ false = free x h in absurd (cc))
