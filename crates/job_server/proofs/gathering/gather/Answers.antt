use Rattle.std.proofs.Common.{◌≤◌, ◌∷◌, inl, ap, arith, le_refl, length, refl, sym, subst, ◌∙◌}
use Rattle.std.specs.Prelude.{take}
use Rattle.std.proofs.lemmas.List.Elements.{All-nil, All-same}
use Rattle.script.specs.Asked.{IsAsked}
use Rattle.script.specs.declared.sentence.Sentence.{Sentence}
use Rattle.shared_engine.specs.Holds.{Lines, IsSet}
use Rattle.job_scripts.specs.Lines.{lent_lines}
use Rattle.job_server.specs.declared.gathering.Front.{Front}
use Rattle.job_server.proofs.OneMore.{AreSoFar, so_far_one, so_far_first, so_far_refused, few_first, first_refused, first_accepted, accepted_still, none_more}
use Rattle.job_server.proofs.gathering.gather.Goals.{in-Ok-Access+in_ok-push_asked-in-Ok-Access, in-Err}
use Rattle.job_server.proofs.gathering.gather.Goals as goal

pub lines-init : goal.lines-init
lines-init c =
    let pushed = c.in_ok-push_asked.ensures in
    let line = c.args.line in record {
      so_far = so_far_first c.args.job line.text.now (lent_lines line.next.lines.now) c.most-most.result c.begin.new.self c.push_asked.new.hold c.in_ok-begin.ensures.room (pushed.one line.text.now c.requires.asked) pushed.counted pushed.none;
      fewer = le_refl (length line.next.lines.now);
      sets = λ is. pushed.sets (c.requires.sets is) (All-same IsSet _ _ (ap (λ (h : Lines). h.commands) c.in_ok-begin.ensures.room) (All-nil IsSet));
      way = refl;
      accepted = first_accepted c.args.job line.text.now c.most-most.result c.begin.new.self c.push_asked.new.hold c.first_refusal.result c.in_ok-begin.ensures.room (pushed.one line.text.now c.requires.asked) c.first_refusal.ensures c.in_default.is;
    }

pub lines-preserved : goal.lines-preserved
lines-preserved c =
    let job = c.args.job in
    let before = c.lines.invariant in
    let all = c.args.line.text.now ∷ lent_lines c.args.line.next.lines.now in
    let rest = lent_lines c.in-Some-next_line.rest.now in
    let most = c.most-most.result in
    let text = c.in-Some-next_line.text.now in
    let first = c.in-Some-next_line.ensures.first in
    let fewer : length c.in-Some-next_line.rest.now ≤ length c.args.line.next.lines.now = omega (arith, c.in-Some-next_line.ensures.shorter, before.fewer) in
    elim c.match-request_for.branch [
      | in-Ok-Access+in_ok-push_asked-in-Ok-Access w ↦
          let pushed = w.in_ok-push_asked-in-Ok-Access.ensures in
          let new = w.push_asked-in-Ok-Access.new.hold in
          let one = pushed.one text (subst (λ (s : Sentence). IsAsked text c.request_for.new.drafts job s) w.in-Ok-Access.field-0-is w.in-Ok-Access.ensures) in record {
            so_far = subst (AreSoFar job all rest most) (sym w.hold-is) (so_far_one job all (lent_lines c.lines.front.rest.now) rest text most c.lines.hold new before.so_far first one pushed.counted pushed.none);
            fewer = fewer;
            sets = λ is. none_more new.commands c.match-request_for.hold.commands (ap (λ (h : Lines). h.commands) w.hold-is) (pushed.sets (w.takes.ensures w.if-takes.true is) (before.sets is));
            way = ap (λ (f : Front). f.way) w.front-is ∙ before.way;
            accepted = ap (λ (h : Lines). take 1 h.places) w.hold-is ∙ accepted_still job text c.lines.hold new one before.accepted;
          }
      | in-Err w ↦
          let new = w.push_refused.new.self in record {
            so_far = subst (AreSoFar job all rest most) (sym w.hold-is) (so_far_refused job all (lent_lines c.lines.front.rest.now) rest text w.in-Err.refusal most c.lines.hold new before.so_far first w.in-Err.ensures (omega (arith, c.lines-test.true, c.len.ensures)) w.push_refused.ensures);
            fewer = fewer;
            sets = λ is. none_more c.lines.hold.commands c.match-request_for.hold.commands (ap (λ (h : Lines). h.commands) (w.hold-is ∙ w.push_refused.ensures)) (before.sets is);
            way = ap (λ (f : Front). f.way) w.front-is ∙ before.way;
            accepted = ap (λ (h : Lines). take 1 h.places) w.hold-is ∙ accepted_still job text c.lines.hold new (inl (w.in-Err.refusal, w.in-Err.ensures, w.push_refused.ensures)) before.accepted;
          }
    ]

pub returns-in-Some-clause-asked : goal.returns-in-Some-clause-asked
returns-in-Some-clause-asked c =
    let pushed = c.in_ok-push_asked.ensures in
    let text = c.args.line.text.now in
    first_refused c.args.job text c.most-most.result c.begin.new.self c.push_asked.new.hold c.first_refusal.result c.in-Some.refusal c.in_ok-begin.ensures.room (pushed.one text c.requires.asked) c.first_refusal.ensures c.in-Some.is

pub returns-in-Some-clause-few : goal.returns-in-Some-clause-few
returns-in-Some-clause-few c = few_first c.most-most.result _ c.begin.new.self c.push_asked.new.hold c.in_ok-begin.ensures.room c.in_ok-push_asked.ensures.counted c.most-most.ensures.few
