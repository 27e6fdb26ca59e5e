use Rattle.std.proofs.Common.{◌∙◌, sym, ap, length}
use Rattle.globals.proofs.Runs.{nodes_length}
use Rattle.globals.proofs.run.Run.len.Goals as goal

pub returns-clause-length : goal.returns-clause-length
returns-clause-length c = c.len.ensures.value ∙ sym (nodes_length c.self.inside.places.items c.self.invariant) ∙ ap length c.self.view_is
