use Rattle.std.proofs.Common.{ap, ◌∙◌}
use Rattle.collation.specs.Names.{bare}
use Rattle.globals.proofs.names.key_of_name.Goals as goal

pub returns-in-Ok : goal.returns-in-Ok
returns-in-Ok c =
    let made = c.in-Ok.ensures.ok _ c.in_ok-begin.ensures in
    made.1 ∙ ap bare c.as_slice.ensures.value
