use Rattle.std.proofs.Common.{rules, refl, ◌≡◌, false, length}
use Rattle.std.specs.Prelude.{nat_lt}
use Rattle.journal.proofs.Merges.{none_waits}
use Rattle.journal.proofs.Rising.{keeps_in_place}
use Rattle.journal.proofs.merging.Merging.keep_first.Goals as goal

pub returns-then-is_empty : goal.returns-then-is_empty
returns-then-is_empty c =
    let none : nat_lt 0 (length c.self.inside.waiting.items) ≡ false = search rules in
    keeps_in_place c.self.inside.nodes.items c.self.inside.waiting.items c.args.self.now c.args.count c.self.inside.done c.self.inside.next c.self.inside.room _ _ c.self.view_is c.if-self.true
    (none_waits c.self.inside.waiting.items none) refl refl
