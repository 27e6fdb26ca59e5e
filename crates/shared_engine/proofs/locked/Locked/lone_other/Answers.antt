use Rattle.std.proofs.Common.{arith}
use Rattle.command.specs.declared.request.Reply.TheVariants.{Answered}
use Rattle.shared_engine.specs.Blocks.{said}
use Rattle.shared_engine.proofs.Serving.{lone_done}
use Rattle.shared_engine.proofs.locked.Locked.lone_other.Goals as goal

pub returns-clause-served : goal.returns-clause-served
returns-clause-served c =
    let did = c.lone-answer.ensures in
    let taken = c.take_other-command.ensures in
    record {
      command = c.take_other-command.result;
      reply = said Answered c.lone-answer.result;
      first = taken.taken;
      done = lone_done _ _ _ _ _ _ c.requires.level did.answer did.accepted did.units did.receipt did.refused did.early did.cause;
      replied = c.push_answered.ensures.served;
      room = c.push_answered.ensures.rest.0;
      spare = taken.rest.0;
      answers = omega (arith, taken.rest.1, c.push_answered.ensures.rest.1);
    }
