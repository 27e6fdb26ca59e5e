-- What leaves empty stretches empty.
use Rattle.std.proofs.Common.{◌≡◌, ℕ, Bool, true, false, List, [], refl, sym, ap, ◌∙◌}
use Rattle.std.specs.Prelude.{cond, not, ◌&&◌, ◌||◌, is_some, Option, Some, None}
use Rattle.std.specs.Option.{option_or}
use Rattle.std.specs.Ordering.{is_lt}
use Rattle.std.specs.Cmp.{tied_itself}
use Rattle.std.specs.FinMap as finmap
use Rattle.collation.specs.Reference.{Reference}
use Rattle.collation.specs.Order.{ref_cmp, ref_eq}
use Rattle.collation.specs.laws.Order.{ref_cmp_total, ref_eq_decides}
use Rattle.collation.specs.Levels.{is_before}
use Rattle.collation.specs.Answers.{moved}
use Rattle.collation.specs.Database.{Database, is_under}
use Rattle.command.specs.declared.access.DataCommand.TheVariants.{Set, Kill, Merge}
use Rattle.command.specs.Data.{data_after, takes}
use Rattle.command.specs.declared.access.Extent.{Extent}
use Rattle.globals.specs.laws.Cuts.{under_between}
use Rattle.globals.specs.laws.Changing.{set_one, kill_taken, merge_subtree}
use Rattle.read_ranges.specs.declared.range.ReadRange.{ReadRange}
use Rattle.read_ranges.specs.Ranges.{is_in, is_in_one}
use Rattle.stretches.specs.declared.left.Left.{Left}
use Rattle.stretches.specs.Empty.{stays, AreEmpty, AreEmptyBut, AreNoMore, IsEmpty}

another : {A : Type 0} (b : Bool) (v : A) (o : Option A) → b ≡ false → is_some o ≡ false → is_some (cond b (Some v) o) ≡ false
another true v o is none = absurd (cc)
another false v o is none = none

pub stay_after_set : (rs : List ReadRange) (r : Reference) (v : List ℕ) → is_in_one rs r ≡ false → (m : Database) → AreEmpty rs m → AreEmpty rs (data_after (Set r v) m)
stay_after_set rs r v out m empty x h = ap is_some (set_one m r v x) ∙ another (ref_eq x r) v (finmap.get m x) (by_same (ref_eq x r) refl) (empty x h)
  where
    by_same : (b : Bool) → ref_eq x r ≡ b → b ≡ false
    by_same true is =
        let one : x ≡ r = (ref_eq_decides x r).0 is in
        let none : is_in_one rs x ≡ false = ap (is_in_one rs) one ∙ out in
        absurd (cc)
    by_same false is = refl

fewer : {A : Type 0} (b : Bool) (o : Option A) → is_some o ≡ false → is_some (cond b None o) ≡ false
fewer true o none = refl
fewer false o none = none

pub stay_after_kill : (rs : List ReadRange) (r : Reference) (extent : Extent) (m : Database) → AreEmpty rs m → AreEmpty rs (data_after (Kill r extent) m)
stay_after_kill rs r extent m empty x h = ap is_some (kill_taken m r extent x) ∙ fewer (takes extent r x) (finmap.get m x) (empty x h)

-- ---- one stretch

pub gone_after_kill : (s : ReadRange) (r : Reference) (extent : Extent) → ((x : Reference) → is_in s x ≡ true → takes extent r x ≡ true) → (m : Database) → IsEmpty s (data_after (Kill r extent) m)
gone_after_kill s r extent under m x h = ap is_some (kill_taken m r extent x ∙ ap (λ u. cond u None (finmap.get m x)) (under x h))

pub empty_after_merge : (s : ReadRange) (a b : Reference) (m : Database) → IsEmpty s m → ((x : Reference) → is_in s x ≡ true → is_under a x ≡ false) → IsEmpty s (data_after (Merge a b) m)
empty_after_merge s a b m is beside x h =
    ap is_some (merge_subtree m a b x ∙ ap (λ u. cond u (option_or (finmap.get m (moved b a x)) (finmap.get m x)) (finmap.get m x)) (beside x h)) ∙ is x h

-- ---- what is left but what is to be taken out

-- what lies between the cuts before and after a reference, and before and past it
abbrev pub is_at : Reference → Reference → Bool
is_at r x = not (is_lt (ref_cmp x r)) && not (is_lt (ref_cmp r x))

pub at_itself : (r : Reference) → is_at r r ≡ true
at_itself r = ap (λ o. not (is_lt o) && not (is_lt o)) (tied_itself ref_cmp_total r)

abbrev pub is_at_or_under : Reference → Reference → Bool
is_at_or_under r x = not (is_lt (ref_cmp x r)) && is_before true r x

pub at_or_under_is : (r x : Reference) → is_at_or_under r x ≡ is_under r x
at_or_under_is r x = sym (under_between r x)

-- P says what that has at least
module _ (P : Reference → Bool) (rs : List ReadRange) (left : Left) (out : (x : Reference) → P x ≡ true → stays left x ≡ false) (m : Database) (were : AreEmpty rs m) where
  apart : (x : Reference) → stays left x ≡ true → P x ≡ false
  apart x stay = by_case (P x) refl
    where
      by_case : (b : Bool) → P x ≡ b → b ≡ false
      by_case false is = refl
      by_case true is = let gone : stays left x ≡ false = out x is in absurd (cc)

  pub but_after_set : (r : Reference) (v : List ℕ) → P r ≡ true → AreEmptyBut left rs (data_after (Set r v) m)
  but_after_set r v itself x inside stay = ap is_some (set_one m r v x) ∙ another (ref_eq x r) v (finmap.get m x) (by_same (ref_eq x r) refl) (were x inside)
    where
      by_same : (b : Bool) → ref_eq x r ≡ b → b ≡ false
      by_same true is =
          let there : P x ≡ true = ap P ((ref_eq_decides x r).0 is) ∙ itself in
          let none : P x ≡ false = apart x stay in
          absurd (cc)
      by_same false is = refl

  pub but_after_merge : (a b : Reference) → ((x : Reference) → P x ≡ is_under a x) → AreEmptyBut left rs (data_after (Merge a b) m)
  but_after_merge a b under x inside stay =
      ap is_some (merge_subtree m a b x ∙ ap (λ u. cond u (option_or (finmap.get m (moved b a x)) (finmap.get m x)) (finmap.get m x)) (sym (under x) ∙ apart x stay))
      ∙ were x inside

-- ---- no stretches, and one more

pub none_are_empty : (m : Database) → AreEmpty [] m
none_are_empty m x h = absurd (cc)

pub stay_after_note : (s : ReadRange) (old new : List ReadRange) → AreNoMore s old new → (m : Database) → AreEmpty old m → IsEmpty s m → AreEmpty new m
stay_after_note s old new more m were is x h = by_old (is_in_one old x) refl (more x h)
  where
    by_old : (b : Bool) → is_in_one old x ≡ b → (b || is_in s x) ≡ true → finmap.contains_key m x ≡ false
    by_old true inside h = were x inside
    by_old false outside h = is x h
