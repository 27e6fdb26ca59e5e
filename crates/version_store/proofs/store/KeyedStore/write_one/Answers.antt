use Rattle.std.proofs.Common.{sym, ap, ◌∙◌}
use Rattle.version_store.specs.Versions.{tidied, with_version}
use Rattle.version_store.proofs.SetLemmas.{tidied_absence}
use Rattle.version_store.proofs.store.KeyedStore.write_one.Goals as goal

pub returns-then-stamp-horizon-clause-versions : goal.returns-then-stamp-horizon-clause-versions
returns-then-stamp-horizon-clause-versions c =
    let m = c.args.self.now.versions in
    c.take_out.ensures.versions
    ∙ sym (ap (λ v. tidied c.args.horizon c.args.key.now (with_version c.args.stamp (c.args.key.now, v) m)) c.in-None.is ∙ tidied_absence c.args.horizon c.args.stamp c.args.key.now m c.if-stamp-horizon.true)
