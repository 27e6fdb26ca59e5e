use Rattle.std.proofs.Common.{refl, sym, arith}
use Rattle.command.specs.declared.access.Answer.TheVariants.{Done}
use Rattle.command.specs.declared.request.Reply.TheVariants.{Answered}
use Rattle.job_core.specs.Lent.{done_answer}
use Rattle.shared_engine.specs.Blocks.{said}
use Rattle.std.proofs.lemmas.List.Elements.{All-head, All-same}
use Rattle.shared_engine.specs.Holds.{IsSet}
use Rattle.shared_engine.proofs.Serving.{inside_done, done_said}
use Rattle.shared_engine.proofs.inner.InnerSession.set_whole.Goals as goal

pub set_of-set-requires-clause-set : goal.set_of-set-requires-clause-set
set_of-set-requires-clause-set c = All-head IsSet _ _ (All-same IsSet _ _ (sym c.take_other-command.ensures.taken) c.requires.set)

pub returns-clause-served : goal.returns-clause-served
returns-clause-served c =
    let did = c.set_of-set.ensures in
    let taken = c.take_other-command.ensures in
    record {
      command = c.take_other-command.result;
      reply = said (λ _. Answered Done) c.set_of-set.result;
      first = taken.taken;
      done = inside_done _ (done_answer c.set_of-set.result) _ _ _ _ (done_said _) c.requires.level did.begun did.answered did.same did.others refl;
      replied = c.push_done.ensures.served;
      room = c.push_done.ensures.rest.0;
      spare = taken.rest.0;
      answers = omega (arith, taken.rest.1, c.push_done.ensures.rest.1);
    }
