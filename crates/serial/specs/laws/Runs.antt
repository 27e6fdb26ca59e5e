-- A run is the story of its steps and replies.
use Rattle.std.proofs.Common.{◌≡◌, inl, inr, ℕ, Bool, true, false, List, [], ◌∷◌, length, refl, sym, ap, subst, ◌∙◌, arith}
use Rattle.std.specs.Prelude.{cond, not}
use Rattle.command.specs.declared.request.Command.{Command}
use Rattle.command.specs.declared.request.Reply.{Reply}
use Rattle.command.specs.declared.request.Reply.TheVariants.{Refused}
use Rattle.journal.specs.Story.{Machine, told, story_of}
use Rattle.serial.specs.Machine.{step_of, run_of, replies_of, IsReply, AreReplies}
use Rattle.serial.specs.Memory.{is_out_of_memory, steps_done, replies_done}
use Rattle.serial.specs.Soundness.{IsGood}
use Rattle.serial.specs.laws.Good.{good_step}

pub one_reply_each : (steps : List (ℕ × Command)) (s : Machine) → length (replies_of steps s) ≡ length steps
one_reply_each [] s = refl
one_reply_each (step ∷ steps) s = let rest = one_reply_each steps (step_of step.0 step.1 s) in omega arith

pub story_of_run : (steps : List (ℕ × Command)) (s : Machine) → story_of steps (replies_of steps s) s ≡ run_of steps s
story_of_run [] s = refl
story_of_run (step ∷ steps) s = story_of_run steps (step_of step.0 step.1 s)

-- ---- where memory may be refused

-- what such steps leave is what those for which memory was there leave, and their replies are the machine's
pub record IsRunOfDone (steps : List (ℕ × Command)) (replies : List Reply) (s : Machine) : Type 0 where
  pub story : story_of steps replies s ≡ run_of (steps_done steps replies) s
  pub given : replies_done replies ≡ replies_of (steps_done steps replies) s

one_done : (step : ℕ × Command) (steps : List (ℕ × Command)) (reply : Reply) (replies : List Reply) (s : Machine) →
    IsReply step.0 step.1 reply s → IsRunOfDone steps replies (told step.0 step.1 reply s) → IsRunOfDone (step ∷ steps) (reply ∷ replies) s
one_done step steps reply replies s (inr none) rest =
    subst (λ r. IsRunOfDone steps replies (told step.0 step.1 r s) → IsRunOfDone (step ∷ steps) (r ∷ replies) s) (sym none.0) (λ h. record { story = h.story; given = h.given }) rest
one_done step steps reply replies s (inl is) rest = by_memory (is_out_of_memory reply) refl
  where
    unchanged : (r : Reply) → is_out_of_memory r ≡ true → told step.0 step.1 r s ≡ s
    unchanged (Refused refusal) e = refl
    unchanged r e = absurd (cc)

    by_memory : (b : Bool) → is_out_of_memory reply ≡ b → IsRunOfDone (step ∷ steps) (reply ∷ replies) s
    by_memory true e = record {
      story = rest.story ∙ ap (run_of (steps_done steps replies)) (unchanged reply e) ∙ ap (λ b. run_of (cond b (steps_done steps replies) (step ∷ steps_done steps replies)) s) (sym e);
      given = ap (λ b. cond (not b) (reply ∷ replies_done replies) (replies_done replies)) e ∙ rest.given ∙ ap (replies_of (steps_done steps replies)) (unchanged reply e) ∙ ap (λ b. replies_of (cond b (steps_done steps replies) (step ∷ steps_done steps replies)) s) (sym e);
    }
    by_memory false e = record {
      story = rest.story ∙ ap (λ r. run_of (steps_done steps replies) (told step.0 step.1 r s)) is ∙ ap (λ b. run_of (cond b (steps_done steps replies) (step ∷ steps_done steps replies)) s) (sym e);
      given = ap (λ b. cond (not b) (reply ∷ replies_done replies) (replies_done replies)) e
          ∙ (λ i. is i ∷ (rest.given ∙ ap (λ r. replies_of (steps_done steps replies) (told step.0 step.1 r s)) is) i)
          ∙ ap (λ b. replies_of (cond b (steps_done steps replies) (step ∷ steps_done steps replies)) s) (sym e);
    }

pub run_of_done : (steps : List (ℕ × Command)) (replies : List Reply) (s : Machine) → AreReplies steps replies s → IsRunOfDone steps replies s
run_of_done [] [] s h = record { story = refl; given = refl }
run_of_done [] (reply ∷ replies) s h = absurd h
run_of_done (step ∷ steps) [] s h = absurd h
run_of_done (step ∷ steps) (reply ∷ replies) s h = one_done step steps reply replies s h.0 (run_of_done steps replies (told step.0 step.1 reply s) h.1)

-- each step keeps the machine good, memory or not
pub good_reply : (step : ℕ × Command) (reply : Reply) (s : Machine) → IsReply step.0 step.1 reply s → IsGood s → IsGood (told step.0 step.1 reply s)
good_reply step reply s (inl is) good = subst (λ r. IsGood (told step.0 step.1 r s)) (sym is) (good_step step.0 step.1 s good)
good_reply step reply s (inr none) good = subst (λ r. IsGood (told step.0 step.1 r s)) (sym none.0) good

pub good_replies : (steps : List (ℕ × Command)) (replies : List Reply) (s : Machine) → AreReplies steps replies s → IsGood s → IsGood (story_of steps replies s)
good_replies [] [] s h good = good
good_replies [] (reply ∷ replies) s h good = absurd h
good_replies (step ∷ steps) [] s h good = absurd h
good_replies (step ∷ steps) (reply ∷ replies) s h good = good_replies steps replies (told step.0 step.1 reply s) h.1 (good_reply step reply s h.0 good)
