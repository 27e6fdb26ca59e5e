use Rattle.std.proofs.Common.{refl, arith}
use Rattle.command.specs.declared.request.Reply.TheVariants.{Answered}
use Rattle.shared_engine.specs.Blocks.{said}
use Rattle.shared_engine.proofs.Serving.{inside_done}
use Rattle.shared_engine.proofs.locked.Locked.read_other.Goals as goal

pub returns-clause-served : goal.returns-clause-served
returns-clause-served c =
    let did = c.read_met-answer.ensures in
    let taken = c.take_other-command.ensures in
    record {
      command = c.take_other-command.result;
      reply = said Answered c.read_met-answer.result;
      first = taken.taken;
      done = inside_done _ c.read_met-answer.result _ _ _ _ refl c.requires.level did.«open» did.answered did.same did.others c.requires.seen;
      replied = c.push_answered.ensures.served;
      room = c.push_answered.ensures.rest.0;
      spare = taken.rest.0;
      answers = omega (arith, taken.rest.1, c.push_answered.ensures.rest.1);
    }
