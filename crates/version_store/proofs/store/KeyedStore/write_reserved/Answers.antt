use Rattle.std.proofs.Common.{◌∙◌, ap, arith}
use Rattle.version_store.specs.Versions.{changed}
use Rattle.version_store.specs.Tied.{versions_in}
use Rattle.version_store.specs.laws.Content.{below_of, content_written, content_before, content_settled, rows_written}
use Rattle.version_store.proofs.TiedLemmas.{low_in}
use Rattle.version_store.proofs.store.KeyedStore.write_reserved.Goals as goal

pub push_all-requires-clause-newest : goal.push_all-requires-clause-newest
push_all-requires-clause-newest c =
    let s = c.self.inside in
    let above = rw (← c.self.view_is) at c.requires.stamp in
    below_of (versions_in s.chains s.tree.pairs) s.present c.args.stamp c.args.changes.items (low_in s.chains s.tree.pairs s.present c.self.invariant.0) above

pub returns-clause-content : goal.returns-clause-content
returns-clause-content c =
    let s = c.self.inside in
    let m = versions_in s.chains s.tree.pairs in
    let above = rw (← c.self.view_is) at c.requires.stamp in
    let low = low_in s.chains s.tree.pairs s.present c.self.invariant.0 in
    rw (c.push_all.ensures.versions, ← c.self.view_is)
    (content_written c.args.stamp c.args.changes.items m ∙ ap (changed c.args.changes.items) (content_settled m s.present c.args.stamp low (omega (arith, above))))

pub returns-clause-before : goal.returns-clause-before
returns-clause-before c = λ n less.
    let s = c.self.inside in
    rw (c.push_all.ensures.versions, ← c.self.view_is) (content_before c.args.stamp n c.args.changes.items (versions_in s.chains s.tree.pairs) less)

pub returns-clause-rows : goal.returns-clause-rows
returns-clause-rows c = λ r.
    let s = c.self.inside in
    rw (c.push_all.ensures.versions, ← c.self.view_is) (rows_written c.args.stamp c.args.changes.items (versions_in s.chains s.tree.pairs) r c.requires.apart)
