use Rattle.std.proofs.Common.{sym, ◌∙◌}
use Rattle.std.specs.Prelude.{not}
use Rattle.std.specs.FinMap as finmap
use Rattle.command.specs.Data.{takes}
use Rattle.workspace.specs.laws.Layering.{left_alone, left_below}
use Rattle.workspace.proofs.writes.remove_taken.Goals as goal

pub returns-in-Value : goal.returns-in-Value
returns-in-Value c =
    c.remove.ensures.map ∙ left_alone c.args.written.now c.args.root.now
    ∙ (λ i. finmap.retain_keys c.args.written.now (λ x. not (takes (sym c.in-Value.is i) c.args.root.now x)))

pub returns-in-Below : goal.returns-in-Below
returns-in-Below c =
    c.remove_below.ensures ∙ left_below c.args.written.now c.args.root.now
    ∙ (λ i. finmap.retain_keys c.args.written.now (λ x. not (takes (sym c.in-Below.is i) c.args.root.now x)))
