use Rattle.std.proofs.Common.{◌≡◌, ◌∙◌, ◌++◌, refl, subst, ap, List}
use Rattle.std.specs.Prelude.{Option}
use Rattle.refusal.specs.declared.Refusal.{Refusal}
use Rattle.job_scripts.specs.Blocks.{in_place}
use Rattle.job_server.specs.declared.cursor.Cursor.{Cursor}
use Rattle.job_server.specs.Steps.{past, sessions_so_far}
use Rattle.job_server.specs.Telling.{Running, running, AdvancesWithin}
use Rattle.job_server.proofs.AtOnce.{held_advances}
use Rattle.job_server.proofs.worker.Worker.serve_held.Goals as goal

pub returns : goal.returns
returns g c =
    let sessions = c.run-inside.inside.0.0 in
    let replies = c.run-inside.inside.0.1.0.replies in
    let p = past sessions.since sessions.passes.items in
    let hold = c.args.self.now.hold in
    let held = c.in_ok-hold.ensures in
    let told = c.hold.new.hold.served in
    let behind : Cursor = record { lines = c.args.front.rest; number = c.saturating_add.result } in
    let new = running c.note_hold.new.replies.replies (sessions_so_far p c.hold.new.session) in
    let same : running replies (sessions_so_far p sessions.open) ≡ c.args.run.now = ◌∙◌ {b = running c.run.inside.replies.replies c.run.inside.sessions} (λ i. running (c.run-inside.view_is i).replies.replies (c.run-inside.view_is i).sessions) c.run.view_is in
    let is = ◌∙◌ {b = replies ++ in_place c.hold.new.hold.places told} c.in_ok-note_hold.ensures (ap (λ (ps : List (Option Refusal)). replies ++ in_place ps told) held.places) in
    subst (λ (x : Running). AdvancesWithin c.args.job c.args.line behind x new) same
    (held_advances c.args.job c.args.line c.args.front behind hold told replies c.note_hold.new.replies.replies p sessions.open c.hold.new.session c.requires held.held refl is)
