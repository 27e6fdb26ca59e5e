use Rattle.std.proofs.Common.{ap, ◌∙◌, ◌++◌, ◌∷◌, []}
use Rattle.command.specs.declared.request.Reply.TheVariants.{Answered, Refused}
use Rattle.shared_engine.proofs.Holding.{answered_told, refused_told}
use Rattle.shared_engine.proofs.told.Tolds.push_answered.Goals as goal

pub invariant_of-self : goal.invariant_of-self
invariant_of-self c = (answered_told c.self.inside.tags.items _ c.self.inside.values.items c.self.inside.answers.items _ c.in-Ok.answer c.push_reserved-in-Ok.ensures.items c.push_reserved.ensures.items c.self.invariant).0

pub invariant_of-self-in-Err : goal.invariant_of-self-in-Err
invariant_of-self-in-Err c = (refused_told c.self.inside.tags.items _ c.self.inside.values.items c.self.inside.answers.items c.in-Err.refusal c.push_reserved-in-Err.ensures.items c.self.invariant).0

pub returns-in-Ok-clause-served : goal.returns-in-Ok-clause-served
returns-in-Ok-clause-served c =
    rw c.in-Ok.is ((answered_told c.self.inside.tags.items _ c.self.inside.values.items c.self.inside.answers.items _ c.in-Ok.answer c.push_reserved-in-Ok.ensures.items c.push_reserved.ensures.items c.self.invariant).1
    ∙ ap (λ t. t.served ++ Answered c.in-Ok.answer ∷ []) c.self.view_is)

pub returns-in-Err-clause-served : goal.returns-in-Err-clause-served
returns-in-Err-clause-served c =
    rw c.in-Err.is ((refused_told c.self.inside.tags.items _ c.self.inside.values.items c.self.inside.answers.items c.in-Err.refusal c.push_reserved-in-Err.ensures.items c.self.invariant).1
    ∙ ap (λ t. t.served ++ Refused c.in-Err.refusal ∷ []) c.self.view_is)
