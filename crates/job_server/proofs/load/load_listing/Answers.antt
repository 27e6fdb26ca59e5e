use Rattle.std.proofs.Common.{◌≡◌, ◌∷◌, ◌++◌, [], ap, ◌∙◌}
use Rattle.loading.specs.Settings.{before}
use Rattle.loading.specs.Pending.{asked_of}
use Rattle.job_server.proofs.Loads.{none_loaded, book_loaded}
use Rattle.job_server.proofs.Answering.{where_none, where_some}
use Rattle.job_server.proofs.load.load_listing.Goals.{in-Some+in_ok-pass+in_ok-push, in_default}
use Rattle.job_server.proofs.load.load_listing.Goals as goal

pub returns-clause-loaded : goal.returns-clause-loaded
returns-clause-loaded g c = elim c.match-branch-2.branch [
  | in-Some+in_ok-pass+in_ok-push w ↦ rw w.passes-is (
      book_loaded c.args.listing.now w.in-Some.first c.new-settings.result c.next_setting.new.settings w.in_ok-pass.pass _ c.new-settings.ensures
      (where_some c.in_ok-first.field-0 w.in-Some.first (λ s. asked_of c.new-settings.result ≡ before (s ∷ []) (asked_of c.next_setting.new.settings)) c.in_ok-first.ensures.setting w.in-Some.is)
      w.in_ok-pass.ensures.booked (w.in_ok-push.ensures.items ∙ ap (λ bs. bs ++ w.in_ok-pass.pass ∷ []) c.new-passes.ensures.items)
      )
  | in_default w ↦ rw (w.passes-is, c.new-passes.ensures.items) (none_loaded c.args.listing.now c.new-settings.result c.new-settings.ensures (where_none c.in_ok-first.field-0 c.in_ok-first.ensures.end w.in_default.is))
]
