use Rattle.std.proofs.Common.{subst}
use Rattle.command.specs.declared.request.Command.TheVariants.{Start}
use Rattle.std.specs.Prelude.{Ok}
use Rattle.job_server.specs.Telling.{Running, running, Advances}
use Rattle.job_server.proofs.GoingOn.{passed, begun_where, unbegun_where}
use Rattle.job_server.proofs.worker.Worker.begin_block.Goals as goal

pub returns-clause-passed : goal.returns-clause-passed
returns-clause-passed g c =
    let line = c.args.line in
    let inside = running c.run.inside.replies.replies c.run.inside.sessions in
    let new = running c.note_reply.new.replies.replies c.do_line.new.sessions in
    subst (λ (x : Running). Advances c.args.job line line.next x new) c.run.view_is
    (passed c.args.job line (Ok Start) c.in_ok-reply.reply inside new c.requires (λ e. absurd (cc)) c.in_ok-note_reply.ensures c.in_ok-reply.ensures)

pub returns-clause-begun : goal.returns-clause-begun
returns-clause-begun g c =
    let inside = running c.run.inside.replies.replies c.run.inside.sessions in
    let new = running c.note_reply.new.replies.replies c.do_line.new.sessions in
    begun_where c.args.job c.args.line c.in_ok-reply.reply c.is_begun-begun.result c.args.run.now inside new c.run.view_is c.requires c.is_begun-begun.ensures.begun c.in_ok-note_reply.ensures c.in_ok-reply.ensures

pub returns-clause-unbegun : goal.returns-clause-unbegun
returns-clause-unbegun g c =
    let inside = running c.run.inside.replies.replies c.run.inside.sessions in
    let new = running c.note_reply.new.replies.replies c.do_line.new.sessions in
    unbegun_where c.in_ok-reply.reply c.is_begun-begun.result c.args.run.now inside new c.run.view_is c.is_begun-begun.ensures.not c.in_ok-note_reply.ensures
