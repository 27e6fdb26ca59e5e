use Rattle.std.proofs.Common.{subst}
use Rattle.script.specs.Asked.{IsAsked}
use Rattle.script.specs.declared.sentence.DataSentence.{DataSentence}
use Rattle.script.specs.declared.sentence.Sentence.TheVariants.{Access}
use Rattle.job_server.proofs.gathering.push_asked.Goals as goal

pub returns-in-Set-clause-one : goal.returns-in-Set-clause-one
returns-in-Set-clause-one c = λ line asked. c.push_set.ensures.one line (subst (λ (s : DataSentence). IsAsked line c.args.drafts.now c.args.job (Access s)) c.in-Set.is asked)

pub returns-in-Get-clause-one : goal.returns-in-Get-clause-one
returns-in-Get-clause-one c = λ line asked. c.push_get.ensures.one line (subst (λ (s : DataSentence). IsAsked line c.args.drafts.now c.args.job (Access s)) c.in-Get.is asked)
