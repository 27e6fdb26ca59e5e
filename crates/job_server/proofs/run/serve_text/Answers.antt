use Rattle.std.proofs.Common.{ap, ◌∙◌}
use Rattle.job_scripts.specs.Groups.{groups_in}
use Rattle.job_server.proofs.Faulting.{on_fault, unserved_is, unserved_unread, unserved_unwritten}
use Rattle.job_server.proofs.Outputs.{served}
use Rattle.job_server.proofs.run.serve_text.Goals as goal

pub returns-clause-served : goal.returns-clause-served
returns-clause-served g c = served c.args.listing.now c.in_ok-scripts.scripts.items _ _ c.args.text.items c.in_ok-served.ensures.served (c.in_ok-scripts.ensures ∙ ap groups_in c.deref.ensures.value) c.journal-journal.ensures.legal

pub returns-in_err-served-clause-unwritten : goal.returns-in_err-served-clause-unwritten
returns-in_err-served-clause-unwritten g c = unserved_unwritten _ c.in_err-served.field-0.0 c.from_residual-in_err-served.ensures.1

pub returns-in_err-served-clause-unloaded : goal.returns-in_err-served-clause-unloaded
returns-in_err-served-clause-unloaded g c = on_fault _ _ _ c.from_residual-in_err-served.ensures.1 (unserved_is c.args.listing.now c.in_err-served.field-0.0 c.in_err-served.ensures.fault)

pub returns-in_err-served-clause-unread : goal.returns-in_err-served-clause-unread
returns-in_err-served-clause-unread g c = unserved_unread _ c.in_err-served.field-0.0 c.from_residual-in_err-served.ensures.1
