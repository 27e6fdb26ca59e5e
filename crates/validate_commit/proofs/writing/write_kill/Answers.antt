use Rattle.std.proofs.Common.{◌≡◌, ◌+◌, length, sym, ap, subst, ◌∙◌}
use Rattle.std.specs.Prelude.{not}
use Rattle.std.specs.FinMap.{retain_keys}
use Rattle.collation.specs.Database.{is_under}
use Rattle.version_store.specs.Versions.{content_at, AddsNoneBare}
use Rattle.validate_commit.specs.laws.Agreement.{one_more}
use Rattle.validate_commit.proofs.Killing.{agreed_killed, none_bare}
use Rattle.validate_commit.proofs.writing.write_kill.Goals as goal

pub returns-clause-agreed : goal.returns-clause-agreed
returns-clause-agreed c =
    let units = c.args.journal.now.units in
    let old = c.args.store.now in
    let new = c.kill.new.self in
    let now = c.now-stamp.ensures in
    let stamp : c.now-stamp.result + 1 ≡ length units + 1 = ap (λ n. n + 1) (now.present ∙ c.requires.agreed.present) in
    let content = subst (λ n. content_at new.versions n ≡ retain_keys (content_at old.versions old.present) (λ x. not (is_under c.args.root.now x))) stamp c.kill.ensures.content in
    agreed_killed c.args.journal.now.prepared c.args.root.now old new units c.push_prepared-receipt.new.self.units c.requires.prepared c.push_prepared-receipt.ensures.units c.requires.next c.requires.agreed
    now.settled now.falls (c.kill.ensures.present ∙ stamp) (c.kill.ensures.cut ∙ stamp) content c.kill.ensures.rows c.requires.counted

pub returns-clause-cut : goal.returns-clause-cut
returns-clause-cut c =
    let units = c.args.journal.now.units in
    let more = one_more c.args.journal.now.prepared units c.push_prepared-receipt.new.self.units c.requires.prepared c.push_prepared-receipt.ensures.units in
    c.kill.ensures.cut ∙ ap (λ n. n + 1) (c.now-stamp.ensures.present ∙ c.requires.agreed.present) ∙ sym more

pub returns-clause-bare : goal.returns-clause-bare
returns-clause-bare c = subst (AddsNoneBare c.args.store.now.versions) (sym c.kill.ensures.versions) (none_bare c.args.root.now c.args.store.now.versions)
