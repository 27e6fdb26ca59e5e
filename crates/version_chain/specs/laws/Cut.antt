-- Laws of a cut, for callers. Read left_after-cut_of, at_of-left_after and left_after-settled.
use Rattle.std.proofs.Common.{length, ◌≡◌, ℕ, ◌+◌, ◌<◌, ◌≤◌, List, [], ◌∷◌, Option, Some, None, refl, sym, ap, ◌∙◌, subst, arith}
use Rattle.std.specs.Prelude.{leb, cond, is_none}
use mathlib.Core.Bool.{Bool, true, false}
use Rattle.version_chain.specs.Versions.{Entry, newest_of, at_of, is_one_value, IsAbove, IsFalling, cells_of}
use Rattle.version_chain.specs.laws.Versions.{leb_yes, leb_no, below_of}
use Rattle.version_chain.specs.Cut.{covers, uncovered, without_old_absence, left_after, cut_of, if_value, newest_value}

module _ {V : Type 0} where
  -- after a version that is not after the horizon nothing is left
  covered_all : (h : ℕ) (newer vs : List (Entry V)) → covers h newer ≡ true → uncovered h newer vs ≡ []
  covered_all h newer [] e = refl
  covered_all h newer (v ∷ vs) e =
      ap (λ b. cond b (uncovered h (v ∷ newer) vs) (v ∷ uncovered h (v ∷ newer) vs)) e ∙ covered_all h (v ∷ newer) vs (more (leb v.0 h))
    where
      more : (b : Bool) → cond b true (covers h newer) ≡ true
      more true = refl
      more false = e

  next_left : (h : ℕ) (newer : List (Entry V)) (v : Entry V) (vs : List (Entry V)) → covers h newer ≡ false → uncovered h newer (v ∷ vs) ≡ v ∷ uncovered h (v ∷ newer) vs
  next_left h newer v vs e = ap (λ b. cond b (uncovered h (v ∷ newer) vs) (v ∷ uncovered h (v ∷ newer) vs)) e

  -- a version after the horizon is no old absence
  past_late : (h : ℕ) (v : Entry V) (us : List (Entry V)) → leb v.0 h ≡ false → without_old_absence h (v ∷ us) ≡ v ∷ without_old_absence h us
  past_late h v [] e = ap (λ b. cond (cond b (is_none v.1) false) [] (v ∷ [])) e
  past_late h v (u ∷ us) e = refl

  alone : (v : Entry V) (x : Option V) → cond (is_none x) [] (v ∷ []) ≡ if_value v x
  alone v None = refl
  alone v (Some x) = refl

  pub cut_late : (h : ℕ) (v : Entry V) (vs : List (Entry V)) → leb v.0 h ≡ false → cut_of h (v ∷ vs) ≡ v ∷ cut_of h vs
  cut_late h v vs e = ap (λ b. cond b (if_value v v.1) (v ∷ cut_of h vs)) e

  pub cut_early : (h : ℕ) (v : Entry V) (vs : List (Entry V)) → leb v.0 h ≡ true → cut_of h (v ∷ vs) ≡ if_value v v.1
  cut_early h v vs e = ap (λ b. cond b (if_value v v.1) (v ∷ cut_of h vs)) e

  left_behind : (h : ℕ) (newer vs : List (Entry V)) → covers h newer ≡ false → without_old_absence h (uncovered h newer vs) ≡ cut_of h vs
  left_behind h newer [] e = refl
  left_behind h newer (v ∷ vs) e = ap (without_old_absence h) (next_left h newer v vs e) ∙ by_stamp (leb v.0 h) refl (left_behind h (v ∷ newer) vs)
    where
      by_stamp : (b : Bool) → leb v.0 h ≡ b → (covers h (v ∷ newer) ≡ false → without_old_absence h (uncovered h (v ∷ newer) vs) ≡ cut_of h vs) → without_old_absence h (v ∷ uncovered h (v ∷ newer) vs) ≡ cut_of h (v ∷ vs)
      by_stamp true at behind =
          ap (λ us. without_old_absence h (v ∷ us)) (covered_all h (v ∷ newer) vs (ap (λ b. cond b true (covers h newer)) at))
          ∙ ap (λ b. cond (cond b (is_none v.1) false) [] (v ∷ [])) at ∙ alone v v.1 ∙ sym (cut_early h v vs at)
      by_stamp false at behind =
          past_late h v (uncovered h (v ∷ newer) vs) at
          ∙ ap (λ us. v ∷ us) (behind (ap (λ b. cond b true (covers h newer)) at ∙ e))
          ∙ sym (cut_late h v vs at)

  -- what a cut leaves, in one pass
  pub left_after-cut_of : (h : ℕ) (vs : List (Entry V)) → left_after h vs ≡ cut_of h vs
  left_after-cut_of h vs = left_behind h [] vs refl

  at_alone : (s : ℕ) (v : Entry V) (x : Option V) → leb v.0 s ≡ true → v.1 ≡ x → at_of s (if_value v x) ≡ x
  at_alone s v None e same = refl
  at_alone s v (Some x) e same = ap (λ b. cond b v.1 None) e ∙ same

  -- a cut changes nothing that is seen from the horizon on
  pub at_of-cut_of : (h s : ℕ) (vs : List (Entry V)) → h ≤ s → at_of s (cut_of h vs) ≡ at_of s vs
  at_of-cut_of h s [] le = refl
  at_of-cut_of h s (v ∷ vs) le = by_stamp (leb v.0 h) refl (at_of-cut_of h s vs le)
    where
      by_stamp : (b : Bool) → leb v.0 h ≡ b → at_of s (cut_of h vs) ≡ at_of s vs → at_of s (cut_of h (v ∷ vs)) ≡ at_of s (v ∷ vs)
      by_stamp true at behind =
          let seen = leb_yes v.0 s (omega (arith, below_of v.0 h at)) in
          ap (at_of s) (cut_early h v vs at) ∙ at_alone s v v.1 seen refl ∙ sym (ap (λ b. cond b v.1 (at_of s vs)) seen)
      by_stamp false at behind = ap (at_of s) (cut_late h v vs at) ∙ ap (cond (leb v.0 s) v.1) behind

  above_alone : (s : ℕ) (v : Entry V) (x : Option V) → v.0 < s → IsAbove s (if_value v x)
  above_alone s v None lt = tt
  above_alone s v (Some x) lt = lt

  falls_alone : (v : Entry V) (x : Option V) → IsFalling (if_value v x)
  falls_alone v None = tt
  falls_alone v (Some x) = (tt, tt)

  above_cut : (h s : ℕ) (vs : List (Entry V)) → IsAbove s vs → IsAbove s (cut_of h vs)
  above_cut h s [] above = tt
  above_cut h s (v ∷ vs) above = by_stamp (leb v.0 h) refl
    where
      by_stamp : (b : Bool) → leb v.0 h ≡ b → IsAbove s (cut_of h (v ∷ vs))
      by_stamp true at = subst (IsAbove s) (sym (cut_early h v vs at)) (above_alone s v v.1 above)
      by_stamp false at = subst (IsAbove s) (sym (cut_late h v vs at)) above

  -- after a cut the stamps still fall
  pub IsFalling-cut_of : (h : ℕ) (vs : List (Entry V)) → IsFalling vs → IsFalling (cut_of h vs)
  IsFalling-cut_of h [] falls = tt
  IsFalling-cut_of h (v ∷ vs) falls = by_stamp (leb v.0 h) refl (IsFalling-cut_of h vs falls.1)
    where
      by_stamp : (b : Bool) → leb v.0 h ≡ b → IsFalling (cut_of h vs) → IsFalling (cut_of h (v ∷ vs))
      by_stamp true at behind = subst IsFalling (sym (cut_early h v vs at)) (falls_alone v v.1)
      by_stamp false at behind = subst IsFalling (sym (cut_late h v vs at)) (above_cut h v.0 vs falls.0, behind)

  pub at_of-left_after : (h s : ℕ) (vs : List (Entry V)) → h ≤ s → at_of s (left_after h vs) ≡ at_of s vs
  at_of-left_after h s vs le = ap (at_of s) (left_after-cut_of h vs) ∙ at_of-cut_of h s vs le

  -- a cut that no version is after leaves the newest alone, if it is a value
  pub left_after-settled : (h : ℕ) (vs : List (Entry V)) → IsAbove (h + 1) vs → left_after h vs ≡ newest_value vs
  left_after-settled h [] low = refl
  left_after-settled h (v ∷ vs) low = left_after-cut_of h (v ∷ vs) ∙ cut_early h v vs (leb_yes v.0 h (omega (arith, low)))

  -- a cut drops nothing of one version that is a value
  pub left_after-one : (h : ℕ) (vs : List (Entry V)) → is_one_value vs ≡ true → left_after h vs ≡ vs
  left_after-one h [] e = absurd (cc)
  left_after-one h ((s, None) ∷ vs) e = absurd (cc)
  left_after-one h ((s, Some x) ∷ []) e = left_after-cut_of h ((s, Some x) ∷ []) ∙ by_stamp (leb s h)
    where
      by_stamp : (b : Bool) → cond b (if_value (s, Some x) (Some x)) ((s, Some x) ∷ []) ≡ (s, Some x) ∷ []
      by_stamp true = refl
      by_stamp false = refl
  left_after-one h ((s, Some x) ∷ v ∷ vs) e = absurd (cc)

  -- a stamp after all versions is after those that are left
  pub IsAbove-left_after : (h s : ℕ) (vs : List (Entry V)) → IsAbove s vs → IsAbove s (left_after h vs)
  IsAbove-left_after h s vs above = subst (IsAbove s) (sym (left_after-cut_of h vs)) (above_cut h s vs above)

  pub IsFalling-left_after : (h : ℕ) (vs : List (Entry V)) → IsFalling vs → IsFalling (left_after h vs)
  IsFalling-left_after h vs falls = subst IsFalling (sym (left_after-cut_of h vs)) (IsFalling-cut_of h vs falls)

  newest_alone : (v : Entry V) (x : Option V) (n : ℕ) → newest_of (if_value v x) ≡ Some n → Some v.0 ≡ Some n
  newest_alone v None n e = absurd (cc)
  newest_alone v (Some x) n e = e

  -- the newest version that is left was the newest
  pub newest_of-left : (h n : ℕ) (vs : List (Entry V)) → newest_of (left_after h vs) ≡ Some n → newest_of vs ≡ Some n
  newest_of-left h n vs e = by_list vs (ap newest_of (sym (left_after-cut_of h vs)) ∙ e)
    where
      by_stamp : (v : Entry V) (us : List (Entry V)) (b : Bool) → newest_of (cond b (if_value v v.1) (v ∷ us)) ≡ Some n → Some v.0 ≡ Some n
      by_stamp v us true at = newest_alone v v.1 n at
      by_stamp v us false at = at

      by_list : (us : List (Entry V)) → newest_of (cut_of h us) ≡ Some n → newest_of us ≡ Some n
      by_list [] at = at
      by_list (v ∷ us) at = by_stamp v (cut_of h us) (leb v.0 h) at

  -- and a newest version after the horizon is left
  pub newest_of-left_after : (h n : ℕ) (vs : List (Entry V)) → h < n → newest_of vs ≡ Some n → newest_of (left_after h vs) ≡ Some n
  newest_of-left_after h n [] late e = e
  newest_of-left_after h n (v ∷ vs) late e =
      let same : v.0 ≡ n = cc in
      ap newest_of (left_after-cut_of h (v ∷ vs) ∙ cut_late h v vs (leb_no v.0 h (leb v.0 h) refl (omega (arith, late, same)))) ∙ e

  -- a cut leaves no more versions
  length_cut : (h : ℕ) (vs : List (Entry V)) → length (cut_of h vs) ≤ length vs
  length_cut h [] = omega arith
  length_cut h (v ∷ vs) = by_stamp (leb v.0 h) (length_cut h vs)
    where
      by_value : (x : Option V) → length (if_value v x) ≤ 1
      by_value None = omega arith
      by_value (Some x) = omega arith

      by_stamp : (b : Bool) → length (cut_of h vs) ≤ length vs → length (cond b (if_value v v.1) (v ∷ cut_of h vs)) ≤ length (v ∷ vs)
      by_stamp true less = let few = by_value v.1 in omega (arith, few)
      by_stamp false less = omega (arith, less)

  -- a new version and a cut take one cell more at most
  pub cells_of-left_after : (h stamp : ℕ) (x : Option V) (vs : List (Entry V)) → cells_of (left_after h ((stamp, x) ∷ vs)) ≤ cells_of vs + 1
  cells_of-left_after h stamp x vs = subst (λ us. cells_of us ≤ cells_of vs + 1) (sym (left_after-cut_of h ((stamp, x) ∷ vs))) (by_stamp (leb stamp h))
    where
      by_value : (y : Option V) → cells_of (if_value (stamp, x) y) ≤ cells_of vs + 1
      by_value None = omega arith
      by_value (Some y) = omega arith

      behind : (us : List (Entry V)) → length (cut_of h us) ≤ cells_of us + 1
      behind [] = omega arith
      behind (u ∷ us) = let less = length_cut h (u ∷ us) in omega (arith, less)

      by_stamp : (b : Bool) → cells_of (cond b (if_value (stamp, x) x) ((stamp, x) ∷ cut_of h vs)) ≤ cells_of vs + 1
      by_stamp true = by_value x
      by_stamp false = behind vs

  -- fewer versions take no more cells
  pub cells_of-fewer : (vs us : List (Entry V)) (n : ℕ) → n + length us ≡ length vs → cells_of us ≤ cells_of vs
  cells_of-fewer vs [] n e = omega arith
  cells_of-fewer [] (u ∷ us) n e = absurd (omega (arith, e))
  cells_of-fewer (v ∷ vs) (u ∷ us) n e = omega (arith, e)
