use Rattle.std.proofs.Common.{◌≡◌, ◌∙◌, Bool, List, refl, sym, subst}
use Rattle.std.specs.Prelude.{Some}
use Rattle.job_scripts.specs.Lines.{lent_lines}
use Rattle.job_server.specs.Steps.{past, sessions_so_far}
use Rattle.job_server.specs.Telling.{Running, running, HasRunAnew, IsBackAt, HasTriedAlone}
use Rattle.shared_engine.specs.declared.serial_run.SerialRun.{SerialRun}
use Rattle.job_server.proofs.AtOnce.{IsAll}
use Rattle.job_server.proofs.Waiting.{blocked_back, anew_reaches}
use Rattle.job_server.proofs.worker.Worker.try_serially.Goals as goal

pub returns-in-Ok-Done : goal.returns-in-Ok-Done
returns-in-Ok-Done g c =
    let job = c.args.job in
    let text = c.args.begin.lines.now in
    let block = c.in_ok-block.block in
    let sessions = c.run-inside.inside.0.0 in
    let replies = c.run-inside.inside.0.1.0.replies in
    let p = past sessions.since sessions.passes.items in
    let behind = c.in_ok-behind-in-Ok-Done.behind in
    let new = running c.note_block.new.replies.replies (sessions_so_far p c.run_block_anew.new.session) in
    let same : running replies (sessions_so_far p sessions.open) ≡ c.args.run.now = (λ i. running (c.run-inside.view_is i).replies.replies (c.run-inside.view_is i).sessions) ∙ c.run.view_is in
    let ran = subst (λ (ms : List Bool). HasRunAnew ms block.commands.items c.in-Ok-Done.field-0 sessions.open c.run_block_anew.new.session) c.deref-2.ensures.value c.in-Ok-Done.ensures in
    subst (λ (x : Running). HasTriedAlone job text (Some behind) x new) same
    (anew_reaches job text block.rest.now behind block.places.items block.commands.items block.musts.items c.in-Ok-Done.field-0 c.in-Ok-Done.served.items replies c.note_block.new.replies.replies p sessions.open c.run_block_anew.new.session c.in_ok-block.ensures.rest c.in_ok-behind-in-Ok-Done.ensures.rest c.in_ok-block.ensures.asked ran
    (subst (λ (r : SerialRun). IsAll r c.in-Ok-Done.served.items) (sym c.in-Ok-Done.field-0-is) refl) c.in_ok-behind-in-Ok-Done.ensures.replies)

pub returns-in-Ok-Blocked : goal.returns-in-Ok-Blocked
returns-in-Ok-Blocked g c =
    let job = c.args.job in
    let text = c.args.begin.lines.now in
    let block = c.in_ok-block.block in
    let sessions = c.run-inside.inside.0.0 in
    let replies = c.run-inside.inside.0.1.0.replies in
    let p = past sessions.since sessions.passes.items in
    let new = running replies (sessions_so_far p c.wait_for.new.session) in
    let same : running replies (sessions_so_far p sessions.open) ≡ c.args.run.now = (λ i. running (c.run-inside.view_is i).replies.replies (c.run-inside.view_is i).sessions) ∙ c.run.view_is in
    let ran = subst (λ (ms : List Bool). HasRunAnew ms block.commands.items c.in-Ok-Blocked.field-0 sessions.open c.run_block_anew.new.session) c.deref-2.ensures.value c.in-Ok-Blocked.ensures in
    subst (λ (x : Running). IsBackAt job text x new) same
    (blocked_back job text (lent_lines block.rest.now) block.places.items block.commands.items block.musts.items c.in-Ok-Blocked.field-0 c.in-Ok-Blocked.place c.in_ok-command-in-Ok-Blocked.command replies replies p sessions.open c.run_block_anew.new.session c.wait_for.new.session c.in_ok-block.ensures.asked
    c.in_ok-block.ensures.one ran c.in-Ok-Blocked.field-0-is c.in_ok-command-in-Ok-Blocked.ensures c.in_ok-wait_for-in-Ok-Blocked.ensures refl)
