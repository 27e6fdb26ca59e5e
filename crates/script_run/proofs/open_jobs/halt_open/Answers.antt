use Rattle.std.proofs.Common.{◌∙◌, sym}
use Rattle.script_run.proofs.Halts.{halts_keep}
use Rattle.script_run.proofs.open_jobs.halt_open.Goals as goal

pub returns-clause-nodes : goal.returns-clause-nodes
returns-clause-nodes c = c.jobs.invariant.nodes ∙ sym (halts_keep c.args.jobs.now c.args.core.now.machine)
