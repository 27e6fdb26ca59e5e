use Rattle.std.proofs.Common.{◌≡◌, List, ℕ, refl, sym, ap, subst, ◌∙◌}
use Rattle.std.specs.Prelude.{Option, Some, None}
use Rattle.std.specs.Option.{option_map}
use Rattle.collation.specs.Answers.{is_forward}
use Rattle.collation.specs.Names.{bare, name_next}
use Rattle.command.specs.declared.access.Look.{Look as LookCommand}
use Rattle.command.specs.declared.access.Answer.{Answer}
use Rattle.command.specs.Data.{found_reply, look_reply}
use Rattle.globals.specs.Fitting.{IsLookAnswer, IsNameAnswer, IsQueryAnswer}
use Rattle.globals.specs.laws.Fitting.{query_fits}
use Rattle.globals.proofs.answering.look.Goals as goal

pub returns-in_ok-found-in-Query-clause-fits : goal.returns-in_ok-found-in-Query-clause-fits
returns-in_ok-found-in-Query-clause-fits g c =
    let p = c.in-Query.place in
    let fits = query_fits (is_forward c.in-Query.direction) p (g.V.OrderedView.content c.args.view.now) in
    subst (λ (l : LookCommand). IsLookAnswer l c.in_ok-found-in-Query.found) (sym c.in-Query.is)
    (subst (λ (a : Answer). IsQueryAnswer p a) (sym (c.in_ok-found-in-Query.ensures ∙ ap found_reply c.query.ensures)) fits)

name_fits : (o : Option (List ℕ)) → IsNameAnswer (found_reply (option_map bare o))
name_fits None = tt
name_fits (Some n) = refl

pub returns-in_ok-found-in-Name-clause-fits : goal.returns-in_ok-found-in-Name-clause-fits
returns-in_ok-found-in-Name-clause-fits g c =
    subst (λ (l : LookCommand). IsLookAnswer l c.name_answer.result) (sym c.in-Name.is)
    (subst IsNameAnswer (sym (c.name_answer.ensures ∙ ap found_reply c.in_ok-found-in-Name.ensures))
    (name_fits (name_next (is_forward c.in-Name.direction) c.in-Name.start (g.V.OrderedView.content c.args.view.now))))

pub returns-in_ok-found-in-Name-clause-answer : goal.returns-in_ok-found-in-Name-clause-answer
returns-in_ok-found-in-Name-clause-answer g c =
    c.name_answer.ensures ∙ ap found_reply c.in_ok-found-in-Name.ensures ∙ ap (λ (l : LookCommand). look_reply l (g.V.OrderedView.content c.args.view.now)) (sym c.in-Name.is)
