use Rattle.std.proofs.Common.{ap, refl, ◌∙◌}
use Rattle.journal.specs.History.{initial, after}
use Rattle.journal.specs.Story.{Machine}
use Rattle.script_run.proofs.Halts.{halted_one, same_nodes}
use Rattle.script_run.proofs.open_jobs.halt.Goals as goal

pub returns-clause-halted : goal.returns-clause-halted
returns-clause-halted c = halted_one _ _ _ _ c.step.ensures.machine c.step.ensures.exact (c.step.ensures.sure refl)

pub returns-clause-nodes : goal.returns-clause-nodes
returns-clause-nodes c = ap (λ (s : Machine). (after s.units initial).map) c.step.ensures.machine ∙ same_nodes c.args.job c.step.result c.args.core.now.machine
