use Rattle.std.proofs.Common.{ap, ◌∙◌}
use Rattle.std.specs.FinMap as finmap
use Rattle.version_store.specs.Versions.{Stored}
use Rattle.version_store.proofs.PlaceLemmas.{none_added}
use Rattle.version_store.proofs.store.KeyedStore.place_keys.Goals as goal

pub returns-then-is_err-clause-bare : goal.returns-then-is_err-clause-bare
returns-then-is_err-clause-bare c =
    none_added c.args.changes.now _ c.count_placed-placed.result c.args.self.now.versions c.place_each.new.self.versions c.unplace.new.self.versions c.place_each.ensures.others c.unplace.ensures.bare

pub returns-then-is_err-2-clause-bare : goal.returns-then-is_err-2-clause-bare
returns-then-is_err-2-clause-bare c =
    none_added c.args.changes.now _ c.count_placed-placed.result c.args.self.now.versions c.reserve.new.self.versions c.unplace-then-is_err-2.new.self.versions
    (λ x none. ap (λ (s : Stored). finmap.get s.versions x) c.reserve.ensures.kept ∙ c.place_each.ensures.others x none) c.unplace-then-is_err-2.ensures.bare
