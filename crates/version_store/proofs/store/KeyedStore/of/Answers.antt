use Rattle.version_store.specs.Tied.{versions_in}
use Rattle.version_store.proofs.TiedLemmas.{low_in}
use Rattle.version_store.proofs.NotedLemmas.{noted_all}
use Rattle.version_store.proofs.store.KeyedStore.of.Goals as goal

pub invariant_of-result : goal.invariant_of-result
invariant_of-result c =
    let chains = c.args.chains in
    let pairs = c.args.tree.pairs in
    (c.requires.tied, c.requires.kept, noted_all c.args.cut c.new-2.result.stamps (versions_in chains pairs) c.args.present c.new-2.ensures (low_in chains pairs c.args.present c.requires.tied))
