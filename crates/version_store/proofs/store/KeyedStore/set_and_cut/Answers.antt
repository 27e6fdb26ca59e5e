use Rattle.std.proofs.Common.{◌≤◌, arith}
use Rattle.version_store.proofs.TiedLemmas.{low_in}
use Rattle.version_store.proofs.SetLemmas.{where_done, set_content, set_before, set_rows}
use Rattle.version_store.proofs.store.KeyedStore.set_and_cut.Goals as goal

pub returns-clause-content : goal.returns-clause-content
returns-clause-content c =
    let s = c.self.inside in
    let above = c.requires.stamp in
    let low = low_in s.chains s.tree.pairs s.present c.self.invariant.0 in
    let within : c.max-cut.result ≤ c.args.stamp = omega (arith, c.requires.horizon, rw (← c.self.view_is) at above, c.max-cut.ensures, c.self.invariant.1) in
    where_done _ c.place_and_set.ensures.ok (λ is. set_content c.args.self.now c.place_and_set.new.self c.args.stamp c.max-cut.result _ is within (rw (← c.self.view_is) low) above)

pub returns-clause-before : goal.returns-clause-before
returns-clause-before c =
    let above = rw (← c.self.view_is) at c.requires.stamp in
    let within : c.max-cut.result ≤ c.args.stamp = omega (arith, c.requires.horizon, above, c.max-cut.ensures, c.self.invariant.1) in
    where_done _ c.place_and_set.ensures.ok (λ is. set_before c.args.self.now c.place_and_set.new.self c.args.stamp c.max-cut.result _ is within)

pub returns-clause-rows : goal.returns-clause-rows
returns-clause-rows c =
    let above = rw (← c.self.view_is) at c.requires.stamp in
    let within : c.max-cut.result ≤ c.args.stamp = omega (arith, c.requires.horizon, above, c.max-cut.ensures, c.self.invariant.1) in
    where_done _ c.place_and_set.ensures.ok (λ is. set_rows c.args.self.now c.place_and_set.new.self c.args.stamp c.max-cut.result _ is within)
