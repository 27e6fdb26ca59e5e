-- How a script went.
use Rattle.std.proofs.Common.{◌≡◌, Bool, ◌||◌, List, [], ◌∷◌, ◌++◌, sym, ap, ◌∙◌}
use Rattle.std.proofs.lemmas.List.Folds.{list_any-append}
use Rattle.std.proofs.Math.Bool.{or-false, or_assoc}
use Rattle.serial.specs.Memory.{is_out_of_memory}
use Rattle.command.specs.Replies.{is_refused}
use Rattle.script_run.specs.Output.{Answer, some_refused, some_wanting, with_reply, noted}
use Rattle.script_run.specs.declared.outcome.Outcome.{Outcome}

-- fields alone
pub outcome_is : (a b : Outcome) → a.refused ≡ b.refused → a.wanting ≡ b.wanting → a ≡ b
outcome_is a b refused wanting = λ i. record { refused = refused i; wanting = wanting i }

pub noted-none : (o : Outcome) → noted [] o ≡ o
noted-none o = outcome_is (noted [] o) o (or-false o.refused) (or-false o.wanting)

pub noted-one : (a : Answer) (o : Outcome) → with_reply a.1 o ≡ noted (a ∷ []) o
noted-one a o = outcome_is (with_reply a.1 o) (noted (a ∷ []) o)
    (ap (λ (b : Bool). o.refused || b) (sym (or-false (is_refused a.1))))
    (ap (λ (b : Bool). o.wanting || b) (sym (or-false (is_out_of_memory a.1))))

pub noted-then : (xs ys : List Answer) (o : Outcome) → noted ys (noted xs o) ≡ noted (xs ++ ys) o
noted-then xs ys o = outcome_is (noted ys (noted xs o)) (noted (xs ++ ys) o)
    (or_assoc o.refused (some_refused xs) (some_refused ys) ∙ ap (λ (b : Bool). o.refused || b) (sym (list_any-append _ xs ys)))
    (or_assoc o.wanting (some_wanting xs) (some_wanting ys) ∙ ap (λ (b : Bool). o.wanting || b) (sym (list_any-append _ xs ys)))
