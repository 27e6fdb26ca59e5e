use Rattle.std.proofs.Common.{ap, ◌∙◌, ◌++◌, ◌∷◌, []}
use Rattle.command.specs.declared.request.Reply.TheVariants.{Answered}
use Rattle.command.specs.declared.access.Answer.TheVariants.{Done}
use Rattle.shared_engine.specs.declared.told.Tag.{Tag}
use Rattle.shared_engine.specs.Blocks.{said}
use Rattle.shared_engine.proofs.Holding.{done_told}
use Rattle.shared_engine.proofs.told.Tolds.push_done.Goals as goal

pub invariant_of-self : goal.invariant_of-self
invariant_of-self c =
    (done_told c.self.inside.tags.items _ c.self.inside.values.items c.self.inside.answers.items c.args.tried (c.push_reserved.ensures.items ∙ ap (λ (t : Tag). c.self.inside.tags.items ++ t ∷ []) c.tag_of_done.ensures) c.self.invariant).0

pub returns-clause-served : goal.returns-clause-served
returns-clause-served c =
    (done_told c.self.inside.tags.items _ c.self.inside.values.items c.self.inside.answers.items c.args.tried (c.push_reserved.ensures.items ∙ ap (λ (t : Tag). c.self.inside.tags.items ++ t ∷ []) c.tag_of_done.ensures) c.self.invariant).1
    ∙ ap (λ t. t.served ++ said (λ _. Answered Done) c.args.tried ∷ []) c.self.view_is
