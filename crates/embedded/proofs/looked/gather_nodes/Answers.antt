use Rattle.std.proofs.Common.{sym, ap, refl, ◌∙◌, arith}
use Rattle.globals.specs.Cuts.{up_to}
use Rattle.embedded.proofs.Walked.{ended, front, front_left, none_left, none_within, first_left, some_left, gathered_one, gathered_more, behind_nothing, on_err}
use Rattle.embedded.proofs.looked.gather_nodes.Goals as goal

pub returns-in_default-clause-ok : goal.returns-in_default-clause-ok
returns-in_default-clause-ok g c =
    let left = ap (front _) c.walk_between-walk.ensures ∙ front_left _ _ c.start_of.result (up_to c.end_of.result (g.V.OrderedView.content c.args.view.now)) c.start_of.ensures ∙ ended _ _ c.end_of.result (g.V.OrderedView.content c.args.view.now) c.end_of.ensures in
    none_left _ _ _ left c.in_default.ensures.steps.0

pub returns-then-not-is_inside-clause-ok : goal.returns-then-not-is_inside-clause-ok
returns-then-not-is_inside-clause-ok g c =
    let left = ap (front _) c.walk_between-walk.ensures ∙ front_left _ _ c.start_of.result (up_to c.end_of.result (g.V.OrderedView.content c.args.view.now)) c.start_of.ensures ∙ ended _ _ c.end_of.result (g.V.OrderedView.content c.args.view.now) c.end_of.ensures in
    none_within _ _ _ _ _ left c.in-Some.ensures.steps (sym c.is_inside.ensures ∙ c.if-not-is_inside.true)

pub returns-in_err-push_record-clause-err : goal.returns-in_err-push_record-clause-err
returns-in_err-push_record-clause-err g c =
    let left = ap (front _) c.walk_between-walk.ensures ∙ front_left _ _ c.start_of.result (up_to c.end_of.result (g.V.OrderedView.content c.args.view.now)) c.start_of.ensures ∙ ended _ _ c.end_of.result (g.V.OrderedView.content c.args.view.now) c.end_of.ensures in
    on_err _ _ (some_left _ _ _ (first_left _ _ _ _ _ left c.in-Some.ensures.steps (sym c.is_inside.ensures ∙ c.if-not-is_inside.false)))

pub returns-then-len-room-clause-ok : goal.returns-then-len-room-clause-ok
returns-then-len-room-clause-ok g c =
    let left = ap (front _) c.walk_between-walk.ensures ∙ front_left _ _ c.start_of.result (up_to c.end_of.result (g.V.OrderedView.content c.args.view.now)) c.start_of.ensures ∙ ended _ _ c.end_of.result (g.V.OrderedView.content c.args.view.now) c.end_of.ensures in
    let first = first_left _ _ _ _ _ left c.in-Some.ensures.steps (sym c.is_inside.ensures ∙ c.if-not-is_inside.false) in
    gathered_one _ _ _ _ _ _ first (behind_nothing _ _ _ c.in_ok-push_record.ensures c.clear.ensures.items) (omega (arith, c.len.ensures, c.if-len-room.true)) refl

pub returns-in-Ok-clause-ok : goal.returns-in-Ok-clause-ok
returns-in-Ok-clause-ok g c =
    let left = ap (front _) c.walk_between-walk.ensures ∙ front_left _ _ c.start_of.result (up_to c.end_of.result (g.V.OrderedView.content c.args.view.now)) c.start_of.ensures ∙ ended _ _ c.end_of.result (g.V.OrderedView.content c.args.view.now) c.end_of.ensures in
    let first = first_left _ _ _ _ _ left c.in-Some.ensures.steps (sym c.is_inside.ensures ∙ c.if-not-is_inside.false) in
    gathered_more _ _ _ _ _ _ _ _ _ first (behind_nothing _ _ _ c.in_ok-push_record.ensures c.clear.ensures.items) refl c.in-Ok.ensures

pub returns-in-Err-clause-err : goal.returns-in-Err-clause-err
returns-in-Err-clause-err g c =
    let left = ap (front _) c.walk_between-walk.ensures ∙ front_left _ _ c.start_of.result (up_to c.end_of.result (g.V.OrderedView.content c.args.view.now)) c.start_of.ensures ∙ ended _ _ c.end_of.result (g.V.OrderedView.content c.args.view.now) c.end_of.ensures in
    some_left _ _ _ (first_left _ _ _ _ _ left c.in-Some.ensures.steps (sym c.is_inside.ensures ∙ c.if-not-is_inside.false))
