use Rattle.std.proofs.Common.{◌≤◌, ◌∙◌, ap, arith}
use Rattle.version_store.specs.Versions.{changed}
use Rattle.version_store.specs.Tied.{versions_in}
use Rattle.version_store.specs.laws.Content.{below_of, content_written, content_before, content_settled}
use Rattle.version_store.specs.laws.Cutting.{rows_cut, content_cut_at}
use Rattle.version_store.proofs.TiedLemmas.{low_in}
use Rattle.version_store.proofs.store.KeyedStore.write_and_cut.Goals as goal

pub push_and_cut_all-requires-clause-newest : goal.push_and_cut_all-requires-clause-newest
push_and_cut_all-requires-clause-newest c =
    let s = c.self.inside in
    let above = rw (← c.self.view_is) at c.requires.stamp in
    below_of (versions_in s.chains s.tree.pairs) s.present c.args.stamp c.args.changes.items (low_in s.chains s.tree.pairs s.present c.self.invariant.0) above

pub returns-clause-content : goal.returns-clause-content
returns-clause-content c =
    let s = c.self.inside in
    let m = versions_in s.chains s.tree.pairs in
    let cs = c.args.changes.items in
    let above = rw (← c.self.view_is) at c.requires.stamp in
    let low = low_in s.chains s.tree.pairs s.present c.self.invariant.0 in
    let within : c.max-cut.result ≤ c.args.stamp = omega (arith, c.requires.horizon, above, c.max-cut.ensures, c.self.invariant.1) in
    rw (c.push_and_cut_all.ensures.versions, ← c.self.view_is)
    (content_cut_at c.args.stamp c.max-cut.result c.args.stamp cs m c.requires.apart within
    ∙ content_written c.args.stamp cs m ∙ ap (changed cs) (content_settled m s.present c.args.stamp low (omega (arith, above))))

pub returns-clause-before : goal.returns-clause-before
returns-clause-before c = λ n from less.
    let s = c.self.inside in
    let m = versions_in s.chains s.tree.pairs in
    let cs = c.args.changes.items in
    rw (c.push_and_cut_all.ensures.versions, ← c.self.view_is)
    (content_cut_at c.args.stamp c.max-cut.result n cs m c.requires.apart (omega (arith, from, c.push_and_cut_all.ensures.cut)) ∙ content_before c.args.stamp n cs m less)

pub returns-clause-rows : goal.returns-clause-rows
returns-clause-rows c = λ r.
    let s = c.self.inside in
    rw (c.push_and_cut_all.ensures.versions, c.push_and_cut_all.ensures.cut, ← c.self.view_is)
    (rows_cut c.args.stamp c.max-cut.result c.args.changes.items (versions_in s.chains s.tree.pairs) r c.requires.apart)
