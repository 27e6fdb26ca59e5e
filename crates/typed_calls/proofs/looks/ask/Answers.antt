use Rattle.std.proofs.Common.{◌∙◌, refl}
use Rattle.typed_calls.proofs.Asked.{same_core}
use Rattle.typed_calls.proofs.looks.ask.Goals as goal

pub returns : goal.returns
returns c =
    record {
      reply = c.step-reply.result;
      answer = c.step-reply.ensures.exact;
      kept = record { core = same_core _ _ (c.step-reply.ensures.machine ∙ c.requires c.step-reply.result) c.step-reply.ensures.base; last = refl; listed = refl; journal_place = refl };
      told = c.of.ensures;
      number_told = c.number_of.ensures;
    }
