use Rattle.journal.proofs.Merges.{passed_by}
use Rattle.journal.proofs.merging.Merging.pass.Goals as goal

pub returns-then-is_empty : goal.returns-then-is_empty
returns-then-is_empty c = passed_by c.args.self.now c.self.inside.nodes.items c.self.inside.waiting.items c.self.inside.done c.self.inside.next c.self.inside.room c.self.view_is
