use Rattle.std.proofs.Common.{refl, subst}
use Rattle.job_server.specs.declared.blocks.Tried.TheVariants.{Over}
use Rattle.job_server.specs.Telling.{Running, running, AdvancesWithin, WasOvertaken, HasTried}
use Rattle.job_server.proofs.GoingOn.{ended_advances, ended_within, was_overtaken}
use Rattle.job_server.proofs.worker.Worker.try_end.Goals as goal

pub returns-then-is_restarted : goal.returns-then-is_restarted
returns-then-is_restarted g c =
    let line = c.args.line.text.now in
    let inside = running c.run.inside.replies.replies c.run.inside.sessions in
    let new = running c.run.inside.replies.replies c.do_line.new.sessions in
    subst (λ (x : Running). WasOvertaken c.args.job line x new) c.run.view_is
    (was_overtaken c.args.job line c.args.command c.in_ok-reply.reply inside new c.requires c.in_ok-reply.ensures (c.is_restarted.ensures.anew c.if-is_restarted.true) refl)

pub returns-then-over : goal.returns-then-over
returns-then-over g c =
    let line = c.args.line in
    let inside = running c.run.inside.replies.replies c.run.inside.sessions in
    let new = running c.note_reply.new.replies.replies c.do_line.new.sessions in
    subst (λ (x : Running). HasTried c.args.job line (Over line.next) x new) c.run.view_is (
      ended_advances c.args.job line c.args.command c.in_ok-reply.reply inside new c.requires (c.is_restarted.ensures.kept c.if-is_restarted.false) c.in_ok-note_reply.ensures c.in_ok-reply.ensures,
      (c.in_ok-reply.reply, c.is_over-over.ensures.over c.if-over.true, c.in_ok-note_reply.ensures),
    )

pub returns : goal.returns
returns g c =
    let line = c.args.line in
    let inside = running c.run.inside.replies.replies c.run.inside.sessions in
    let new = running c.note_reply.new.replies.replies c.do_line.new.sessions in
    subst (λ (x : Running). AdvancesWithin c.args.job line line.next x new) c.run.view_is
    (ended_within c.args.job line c.args.command c.in_ok-reply.reply inside new c.requires (c.is_restarted.ensures.kept c.if-is_restarted.false) (c.is_over-over.ensures.goes_on c.if-over.false) c.in_ok-note_reply.ensures c.in_ok-reply.ensures)
