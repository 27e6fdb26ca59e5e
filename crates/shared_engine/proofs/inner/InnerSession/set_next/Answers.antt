use Rattle.std.proofs.Common.{◌∙◌, [], refl, arith}
use Rattle.command.specs.declared.access.DataCommand.TheVariants.{Set}
use Rattle.command.specs.declared.access.Answer.TheVariants.{Done}
use Rattle.command.specs.declared.request.Reply.TheVariants.{Answered}
use Rattle.job_core.specs.Lent.{done_answer}
use Rattle.shared_engine.specs.Blocks.{said}
use Rattle.shared_engine.proofs.Serving.{set_first, inside_done, done_said}
use Rattle.shared_engine.proofs.inner.InnerSession.set_next.Goals as goal

pub returns-clause-served : goal.returns-clause-served
returns-clause-served c =
    let first = c.requires.command in
    let taken = c.take_text-text.ensures in
    let texts = taken.text first.0 first.1 first.2 first.3 in
    let key = c.key.ensures.set first.0 [] first.2 texts.1 in
    let passed = c.pass_set.ensures.passed (Set first.0 []) first.2 texts.1 in
    let did = c.set_lent-set.ensures in
    record {
      command = Set c.key.result.now c.take_text-text.result;
      reply = said (λ _. Answered Done) c.set_lent-set.result;
      first = set_first _ _ _ _ _ _ _ first.3 key texts.0 passed;
      done = inside_done _ (done_answer c.set_lent-set.result) _ _ _ _ (done_said _) c.requires.level did.begun did.answered did.same did.others refl;
      replied = c.push_done.ensures.served;
      room = c.push_done.ensures.rest.0;
      spare = c.pass_set.ensures.rest.0 ∙ taken.rest.1.0;
      answers = omega (arith, c.pass_set.ensures.rest.1, taken.rest.1.1, c.push_done.ensures.rest.1);
    }
