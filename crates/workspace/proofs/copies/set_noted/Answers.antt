use Rattle.std.proofs.Common.{◌∷◌, [], ◌++◌, ◌∙◌, ap, sym}
use Rattle.workspace.specs.Copies.{all_taken_back}
use Rattle.workspace.proofs.TakenBack.{back_set}
use Rattle.workspace.proofs.copies.set_noted.Goals as goal

pub returns-clause-back : goal.returns-clause-back
returns-clause-back c =
    back_set _ _ c.args.key c.args.value c.args.written.now c.insert.new.self c.in_ok-before.before
    (c.push_reserved.ensures.items ∙ ap (λ k. c.reserve.new.self.items ++ (k, c.in_ok-before.before) ∷ []) (sym c.in_ok-copy.ensures.cases)) c.in_ok-before.ensures.map c.in_ok-before.ensures.before
    ∙ ap (λ ds. all_taken_back ds c.args.written.now) c.reserve.ensures.items
