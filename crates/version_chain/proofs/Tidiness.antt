-- What is known of chains that a cut has left.
use Rattle.std.proofs.Common.{rules, ◌≡◌, ℕ, suc, ◌<◌, ◌≤◌, List, [], ◌∷◌, length, Option, Some, None, refl, sym, ap, ◌∙◌, subst, inl, inr, arith}
use Rattle.std.specs.Prelude.{leb, cond, max, ◌==◌}
use Rattle.std.proofs.lemmas.Bool.{cases_eq}
use mathlib.Core.Bool.{Bool, true, false}
use Rattle.version_chain.specs.Versions.{Entry, IsAbove}
use Rattle.version_chain.specs.Cut.{cut_of, if_value, left_after}
use Rattle.std.proofs.Common.{set}
use Rattle.version_chain.specs.Slots.{slot_at, slots_with}
use Rattle.version_chain.specs.Links.{Line, line_versions}
use Rattle.version_chain.specs.Chains.{ChainsState, versions_at, listed, lists_seen, seen_slot, Updates}
use Rattle.version_chain.proofs.ChainsLemmas.{versions_there, Updates-line, Updates-opened}
use Rattle.version_chain.specs.Tidy.{IsNewerThan, IsTidy, AreTidy, since_at}
use Rattle.version_chain.specs.laws.Versions.{leb_no}
use Rattle.version_chain.specs.laws.Cut.{cut_late, cut_early, left_after-cut_of, IsAbove-left_after}

module _ {V : Type 0} where
  -- a value alone is left by each cut
  cut_alone : (h : ℕ) (v : Entry V) (x : Option V) → v.1 ≡ x → cut_of h (if_value v x) ≡ if_value v x
  cut_alone h v None e = refl
  cut_alone h v (Some x) e = by_stamp (leb v.0 h) refl
    where
      by_stamp : (b : Bool) → leb v.0 h ≡ b → cut_of h (v ∷ []) ≡ v ∷ []
      by_stamp true at = cut_early h v [] at ∙ ap (if_value v) e
      by_stamp false at = cut_late h v [] at

  -- a cut drops nothing of what it left
  cut_twice : (h : ℕ) (vs : List (Entry V)) → cut_of h (cut_of h vs) ≡ cut_of h vs
  cut_twice h [] = refl
  cut_twice h (v ∷ vs) = by_stamp (leb v.0 h) refl (cut_twice h vs)
    where
      by_stamp : (b : Bool) → leb v.0 h ≡ b → cut_of h (cut_of h vs) ≡ cut_of h vs → cut_of h (cut_of h (v ∷ vs)) ≡ cut_of h (v ∷ vs)
      by_stamp true at more = ap (cut_of h) (cut_early h v vs at) ∙ cut_alone h v v.1 refl ∙ sym (cut_early h v vs at)
      by_stamp false at more = ap (cut_of h) (cut_late h v vs at) ∙ cut_late h v (cut_of h vs) at ∙ ap (λ us. v ∷ us) more ∙ sym (cut_late h v vs at)

  tail_same : (v : Entry V) (us vs : List (Entry V)) → v ∷ us ≡ v ∷ vs → us ≡ vs
  tail_same v us vs e = cc

  -- where a version is kept early others after it, it isn't at most the horizon
  value_only : (v : Entry V) (x : Option V) (vs : List (Entry V)) → if_value v x ≡ v ∷ vs → vs ≡ []
  value_only v None vs e = absurd cc
  value_only v (Some x) vs e = cc

  -- what a cut at g leaves as it is, it leaves so after another cut too
  cut_other : (h g : ℕ) (vs : List (Entry V)) → cut_of g vs ≡ vs → cut_of g (cut_of h vs) ≡ cut_of h vs
  cut_other h g [] same = refl
  cut_other h g (v ∷ vs) same = by_stamps (leb v.0 h) (leb v.0 g) refl refl (cut_other h g vs)
    where
      by_stamps : (b d : Bool) → leb v.0 h ≡ b → leb v.0 g ≡ d → (cut_of g vs ≡ vs → cut_of g (cut_of h vs) ≡ cut_of h vs) → cut_of g (cut_of h (v ∷ vs)) ≡ cut_of h (v ∷ vs)
      by_stamps true d at early more = ap (cut_of g) (cut_early h v vs at) ∙ cut_alone g v v.1 refl ∙ sym (cut_early h v vs at)
      by_stamps false true at early more =
          let none : vs ≡ [] = value_only v v.1 vs (sym (cut_early g v vs early) ∙ same) in
          let left : cut_of h (v ∷ vs) ≡ v ∷ vs = cut_late h v vs at ∙ ap (λ us. v ∷ cut_of h us) none ∙ ap (λ us. v ∷ us) (sym none) in
          ap (cut_of g) left ∙ same ∙ sym left
      by_stamps false false at early more =
          ap (cut_of g) (cut_late h v vs at) ∙ cut_late g v (cut_of h vs) early
          ∙ ap (λ us. v ∷ us) (more (tail_same v (cut_of g vs) vs (sym (cut_late g v vs early) ∙ same)))
          ∙ sym (cut_late h v vs at)

  -- a version after the horizon in front of a chain of which a cut drops nothing, or of none
  pub cut_pushed : (h since stamp : ℕ) (x : Option V) (vs : List (Entry V)) → h < stamp → (¬ (vs ≡ []) → IsNewerThan since vs) → (IsNewerThan since vs → cut_of h vs ≡ vs) → cut_of h ((stamp, x) ∷ vs) ≡ (stamp, x) ∷ vs
  cut_pushed h since stamp x [] late newer same = cut_late h (stamp, x) [] (leb_no stamp h (leb stamp h) refl late)
  cut_pushed h since stamp x (v ∷ vs) late newer same =
      let none : v ∷ vs ≡ [] → ⊥ = λ e. cc in
      cut_late h (stamp, x) (v ∷ vs) (leb_no stamp h (leb stamp h) refl late) ∙ ap (λ us. (stamp, x) ∷ us) (same (newer none))

  -- a cut drops nothing of a chain that is known to be tidy, or has no version
  pub cut_known : (h since : ℕ) (vs : List (Entry V)) → (¬ (vs ≡ []) → IsNewerThan since vs) → (IsNewerThan since vs → cut_of h vs ≡ vs) → vs ≡ cut_of h vs
  cut_known h since [] newer same = refl
  cut_known h since (v ∷ vs) newer same =
      let none : v ∷ vs ≡ [] → ⊥ = λ e. cc in
      sym (same (newer none))

  above_more : (m n : ℕ) (vs : List (Entry V)) → m ≤ n → IsAbove m vs → IsAbove n vs
  above_more m n [] le above = tt
  above_more m n (v ∷ vs) le above = omega (arith, le, above)

  newer_before : (m n : ℕ) (vs : List (Entry V)) → m ≤ n → IsNewerThan n vs → IsNewerThan m vs
  newer_before m n [] le newer = newer
  newer_before m n (v ∷ vs) le newer = omega (arith, le, newer)

  newer_uncut : (h n : ℕ) (vs : List (Entry V)) → IsNewerThan n (cut_of h vs) → IsNewerThan n vs
  newer_uncut h n [] newer = newer
  newer_uncut h n (v ∷ vs) newer = by_stamp (leb v.0 h) newer
    where
      by_value : (x : Option V) → IsNewerThan n (if_value v x) → n < v.0
      by_value None never = absurd never
      by_value (Some x) late = late

      by_stamp : (b : Bool) → IsNewerThan n (cond b (if_value v v.1) (v ∷ cut_of h vs)) → n < v.0
      by_stamp true late = by_value v.1 late
      by_stamp false late = late

  not_newer : (n m : ℕ) (vs : List (Entry V)) → IsAbove (suc n) vs → n ≤ m → IsNewerThan m vs → ⊥
  not_newer n m [] low le newer = newer
  not_newer n m (v ∷ vs) low le newer = absurd (omega (arith, low, le, newer))

  -- less is known
  pub tidy_wider : (h since latest more last : ℕ) (vs : List (Entry V)) → since ≤ more → latest ≤ last → IsTidy h since latest vs → IsTidy h more last vs
  tidy_wider h since latest more last vs le most is = (above_more (suc latest) (suc last) vs (omega (arith, most)) is.0, λ newer. is.1 (newer_before since more vs le newer))

  -- a version of which nothing is known
  pub tidy_new : (h since latest stamp : ℕ) (x : Option V) (vs : List (Entry V)) → stamp ≤ since → stamp ≤ latest → IsTidy h since latest ((stamp, x) ∷ vs)
  tidy_new h since latest stamp x vs le most = (omega (arith, most), λ newer. absurd (omega (arith, le, newer)))

  -- once writes cut at another horizon
  pub tidy_at : (now h since latest : ℕ) (vs : List (Entry V)) → IsTidy h since latest vs → IsTidy now (since_at now h since latest) latest vs
  tidy_at now h since latest vs is = (is.0, by_horizon (now == h) refl)
    where
      by_horizon : (b : Bool) → (now == h) ≡ b → IsNewerThan (cond b since (max latest now)) vs → cut_of now vs ≡ vs
      by_horizon true e newer = let same : now ≡ h = search rules in subst (λ g. cut_of g vs ≡ vs) (sym same) (is.1 newer)
      by_horizon false e newer = absurd (not_newer latest (max latest now) vs is.0 (search rules) newer)

  -- a chain that is cut at any horizon
  pub tidy_cut : (h g since latest : ℕ) (vs : List (Entry V)) → IsTidy g since latest vs → IsTidy g since latest (left_after h vs)
  tidy_cut h g since latest vs is = (
    IsAbove-left_after h (suc latest) vs is.0,
    subst (λ us. IsNewerThan since us → cut_of g us ≡ us) (sym (left_after-cut_of h vs)) (λ newer. cut_other h g vs (is.1 (newer_uncut h since vs newer))),
  )

  -- a chain that is cut at just this horizon
  pub tidy_left : (h since latest : ℕ) (vs : List (Entry V)) → IsAbove (suc latest) vs → IsTidy h since latest (left_after h vs)
  tidy_left h since latest vs low =
      (IsAbove-left_after h (suc latest) vs low, subst (λ us. IsNewerThan since us → cut_of h us ≡ us) (sym (left_after-cut_of h vs)) (λ newer. cut_twice h vs))

  -- a chain is changed
  pub tidy_updated : (h since latest : ℕ) (old new : ChainsState V) (id : ℕ) (chain : Option (List (Entry V))) → Updates old new id chain → AreTidy h since latest old → IsTidy h since latest (listed chain) → AreTidy h since latest new
  tidy_updated h since latest old new id chain u all one i = elim (cases_eq i id) [
    | inl e ↦ subst (λ k. IsTidy h since latest (versions_at new k)) (sym e) (subst (IsTidy h since latest) (sym (ap listed u.changed)) one)
    | inr ne ↦ subst (IsTidy h since latest) (sym (ap listed (u.others i ne))) (all i)
  ]

  -- chains as callers see them
  abbrev pub state_of : List (Option (Line V)) → ℕ → ChainsState V
  state_of slots spare = record { chains = lists_seen slots; spare = spare }

  -- a line is replaced
  pub tidy_line : (h since latest : ℕ) (slots now : List (Option (Line V))) (id : ℕ) (x : Option (Line V)) (o : Line V) → slot_at slots id ≡ Some o → now ≡ set slots id x → (spare new_spare : ℕ)
      → AreTidy h since latest (state_of slots spare) → IsTidy h since latest (listed (seen_slot x)) → AreTidy h since latest (state_of now new_spare)
  tidy_line h since latest slots now id x o found made spare new_spare all one =
      tidy_updated h since latest (state_of slots spare) (state_of now new_spare) id (seen_slot x) (Updates-line slots now id x o found made (state_of slots spare) spare new_spare refl (seen_slot x) refl) all one

  -- a line is opened
  pub tidy_opened : (h since latest : ℕ) (slots now : List (Option (Line V))) (id : ℕ) → id ≤ length slots → now ≡ slots_with slots id (Some None) → (spare : ℕ) → AreTidy h since latest (state_of slots spare) → AreTidy h since latest (state_of now spare)
  tidy_opened h since latest slots now id within made spare all =
      tidy_updated h since latest (state_of slots spare) (state_of now spare) id (Some []) (Updates-opened slots now id within made (state_of slots spare) spare spare refl) all (tt, λ never. absurd never)

  -- a line that a number finds
  pub tidy_there : (h since latest : ℕ) (slots : List (Option (Line V))) (id : ℕ) (o : Line V) → slot_at slots id ≡ Some o → (spare : ℕ) → AreTidy h since latest (state_of slots spare) → IsTidy h since latest (line_versions o)
  tidy_there h since latest slots id o found spare all = subst (IsTidy h since latest) (versions_there slots id o found (state_of slots spare) spare refl) (all id)
