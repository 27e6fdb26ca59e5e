use Rattle.script.proofs.Left.{value_gone, names_gone}
use Rattle.script.specs.Sentence.{leaves_names, leaves_value}
use Rattle.script.proofs.line.read_line.Goals as goal

pub finish_request-requires : goal.finish_request-requires
finish_request-requires c = let asked = c.in-Ok.ensures.request in record { command = asked.command; spelled = asked.said }

pub returns-in-Ok-finish_request-clause-value_taken : goal.returns-in-Ok-finish_request-clause-value_taken
returns-in-Ok-finish_request-clause-value_taken c = value_gone (leaves_value c.in-Ok.asked.1) c.args.drafts.now.value _ _ c.in-Ok.ensures.value_kept c.in-Ok-finish_request.ensures.value_kept c.in-Ok-finish_request.ensures.value_taken

pub returns-in-Ok-finish_request-clause-names_taken : goal.returns-in-Ok-finish_request-clause-names_taken
returns-in-Ok-finish_request-clause-names_taken c = names_gone (leaves_names c.in-Ok.asked.1) c.args.drafts.now.names _ _ c.in-Ok.ensures.names_kept c.in-Ok-finish_request.ensures.names_kept c.in-Ok-finish_request.ensures.names_taken
