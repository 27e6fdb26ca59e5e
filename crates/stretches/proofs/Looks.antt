-- Look-ups that end where a stretch begins, and go on behind it.
use Rattle.std.proofs.Common.{◌≡◌, Bool, true, false, refl, sym, ◌∙◌}
use Rattle.std.specs.Prelude.{cond, not, Option, Some, None}
use Rattle.std.specs.FinMap as finmap
use Rattle.collation.specs.Reference.{Reference}
use Rattle.collation.specs.Database.{Database}
use Rattle.globals.specs.declared.cut.Cut.{Cut}
use Rattle.globals.specs.Cuts.{stands_before, stands_within, stands_under, up_to, down_to, first_from_cut, last_before_cut}
use Rattle.globals.specs.laws.Nearest.{keep}
use Rattle.globals.specs.laws.Ends.{first_to, last_to}
use Rattle.stretches.specs.Empty.{PartAlike, StartsBetween, EndsBetween, IsFree}
use Rattle.stretches.proofs.Alike.{Node, alike_to, alike_down, first_alike, last_alike}
use Rattle.stretches.proofs.Free.{free_within, free_behind}
use Rattle.stretches.proofs.Runs.{same_side}

-- what the narrower test keeps the wider one keeps
kept_too : (P Q : Reference → Bool) → ((x : Reference) → P x ≡ true → Q x ≡ true) → (o : Option Node) (e : Node) → keep P o ≡ Some e → keep Q o ≡ Some e
kept_too P Q wider None e is = absurd (cc)
kept_too P Q wider (Some f) e is = elim (P f.0) as (λ p. P f.0 ≡ p → cond p (Some f) None ≡ Some e → cond (Q f.0) (Some f) None ≡ Some e) [
  | true ↦ λ p is. rw (wider f.0 p) is
  | false ↦ λ p is. absurd (cc)
] refl is

not_too : (f u : Bool) → (u ≡ true → f ≡ true) → not f ≡ true → not u ≡ true
not_too f false within h = refl
not_too f true within h = let t = within refl in absurd (cc)

module _ (cut from : Cut) (end : Option Cut) (m : Database) (alike : PartAlike cut from m) (start : Cut) (next : StartsBetween from start end) where
  pub first_before : (e : Node) → first_from_cut from (up_to (Some start) m) ≡ Some e → first_from_cut cut (up_to end m) ≡ Some e
  first_before e is =
      first_alike cut from (up_to end m) (alike_to cut from end m alike) ∙ first_to from end m
      ∙ kept_too (stands_before start) (stands_within end) next.within (first_from_cut from m) e (sym (first_to from (Some start) m) ∙ is)

  pub none_up_to : first_from_cut from (up_to (Some start) m) ≡ None → PartAlike cut start m
  none_up_to none x there =
      let free : IsFree from start m = free_within from start m none in
      alike x there ∙ same_side (stands_before from x) (stands_before start x) (next.behind x) (λ h. let gone : finmap.contains_key m x ≡ false = free x h in absurd (cc))

module _ (cut to : Cut) (floor : Option Cut) (m : Database) (alike : PartAlike cut to m) (end : Cut) (next : EndsBetween to end floor) where
  pub last_behind : (e : Node) → last_before_cut to (down_to (Some end) m) ≡ Some e → last_before_cut cut (down_to floor m) ≡ Some e
  last_behind e is =
      last_alike cut to (down_to floor m) (alike_down cut to floor m alike) ∙ last_to to floor m
      ∙ kept_too (λ x. not (stands_before end x)) (λ x. not (stands_under floor x)) (λ x. not_too (stands_before end x) (stands_under floor x) (next.within x)) (last_before_cut to m) e
      (sym (last_to to (Some end) m) ∙ is)

  pub none_down_to : last_before_cut to (down_to (Some end) m) ≡ None → PartAlike cut end m
  none_down_to none x there =
      let free : IsFree end to m = free_behind end to m none in
      alike x there ∙ sym (same_side (stands_before end x) (stands_before to x) (next.ahead x) (λ h. let gone : finmap.contains_key m x ≡ false = free x h in absurd (cc)))
