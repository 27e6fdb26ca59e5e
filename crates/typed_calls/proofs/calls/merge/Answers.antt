use Rattle.typed_calls.specs.Typed.{IsMemory}
use Rattle.typed_calls.proofs.Within.{typed_within, within_memory}
use Rattle.typed_calls.proofs.calls.merge.Goals as goal

pub returns-in-Ok : goal.returns-in-Ok
returns-in-Ok c = typed_within IsMemory c.args.job _ _ _ _ _ c.in-Ok.ensures.ok within_memory c.run_command.ensures
