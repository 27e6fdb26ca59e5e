use Rattle.std.proofs.Common.{ap, sym, ◌∙◌}
use Rattle.workspace.specs.Copies.{taken_back}
use Rattle.workspace.proofs.TakenBack.{given_back}
use Rattle.workspace.proofs.copies.take_back.Goals as goal

pub returns-in-Some : goal.returns-in-Some
returns-in-Some c =
    given_back c.replace.result c.args.key.now c.in-Some.value c.args.written.now c.replace.new.self c.replace.ensures.before c.replace.ensures.map c.replace.ensures.missed c.replace.ensures.kept
    ∙ ap (λ before. taken_back (c.args.key.now, before) c.args.written.now) (sym c.in-Some.is)
