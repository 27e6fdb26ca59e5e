use Rattle.std.proofs.Common.{sym, ap, ◌∙◌, ◌-◌, ◌^◌, min}
use Rattle.version_store.specs.Versions.{Stored, count_in, version_count}
use Rattle.version_store.specs.Tied.{rows}
use Rattle.version_store.proofs.SeekLemmas.{open_in}
use Rattle.version_store.proofs.TiedLemmas.{entries_in}
use Rattle.version_store.proofs.store.KeyedStore.versions.Goals as goal

pub count_versions-requires : goal.count_versions-requires
count_versions-requires c = rw c.iter.ensures (open_in c.self.inside.chains c.self.inside.tree.pairs c.self.inside.present c.self.invariant.0)

pub returns : goal.returns
returns c =
    let listed = ap count_in (sym (entries_in c.self.inside.chains c.self.inside.tree.pairs c.self.invariant.0.sorted)) ∙ ap (λ (s : Stored). version_count s.versions) c.self.view_is in
    c.count_versions.ensures ∙ ap (λ ps. min (count_in (rows c.self.inside.chains ps)) (2 ^ 64 - 1)) c.iter.ensures ∙ ap (λ n. min n (2 ^ 64 - 1)) listed
