use Rattle.std.proofs.Common.{ap, sym, ◌∙◌}
use Rattle.workspace.specs.Copies.{all_taken_back}
use Rattle.workspace.proofs.TakenBack.{back_pushed}
use Rattle.workspace.proofs.copies.take_all_back.Goals as goal

pub loop-key-preserved : goal.loop-key-preserved
loop-key-preserved c =
    ap (all_taken_back c.pop.new.self.items) c.take_back.ensures ∙ sym (back_pushed c.pop.new.self.items (c.in-Some.key, c.in-Some.before) c.loop-key.written)
    ∙ ap (λ ds. all_taken_back ds c.loop-key.written) (sym c.in-Some.ensures.items) ∙ c.loop-key.invariant
