use Rattle.std.proofs.Common.{subst}
use Rattle.job_server.specs.Telling.{Running, running, Advances, AdvancesWithin}
use Rattle.job_server.proofs.GoingOn.{passed, passed_within}
use Rattle.job_server.proofs.worker.Worker.pass_line.Goals as goal

pub returns-clause-served : goal.returns-clause-served
returns-clause-served g c =
    let line = c.args.line in
    let inside = running c.run.inside.replies.replies c.run.inside.sessions in
    let new = running c.note_reply.new.replies.replies c.do_line.new.sessions in
    subst (λ (x : Running). Advances c.args.job line line.next x new) c.run.view_is
    (passed c.args.job line c.args.asked c.in_ok-reply.reply inside new c.requires.asks c.requires.other c.in_ok-note_reply.ensures c.in_ok-reply.ensures)

pub returns-clause-within : goal.returns-clause-within
returns-clause-within g c = λ none.
    let line = c.args.line in
    let inside = running c.run.inside.replies.replies c.run.inside.sessions in
    let new = running c.note_reply.new.replies.replies c.do_line.new.sessions in
    subst (λ (x : Running). AdvancesWithin c.args.job line line.next x new) c.run.view_is
    (passed_within c.args.job line c.args.asked c.in_ok-reply.reply inside new c.requires.asks c.requires.other none c.in_ok-note_reply.ensures c.in_ok-reply.ensures)
