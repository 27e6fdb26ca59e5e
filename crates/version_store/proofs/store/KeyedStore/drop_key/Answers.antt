use Rattle.std.proofs.Common.{◌≡◌, arith, sym, ap}
use Rattle.version_chain.specs.Versions.{cells_of}
use Rattle.version_chain.specs.Chains.{versions_at, cells_at}
use Rattle.version_store.specs.Versions.{is_bare}
use Rattle.version_store.specs.Tied.{versions_in}
use Rattle.version_store.specs.laws.Content.{content_dropped}
use Rattle.version_store.proofs.TiedLemmas.{no_versions, bare_in, not_bare_in, no_bare_in, tied_without, versions_without}
use Rattle.version_store.proofs.NotedLemmas.{noted_out}
use Rattle.version_store.proofs.store.KeyedStore.drop_key.Goals as goal

pub invariant_of-self : goal.invariant_of-self
invariant_of-self c =
    let s = c.self.inside in
    let at = rw c.in-Some.is at c.get.ensures.found in
    rw c.remove.ensures.pairs (tied_without s.chains c.close.new.self s.tree.pairs s.present c.in-Some.id.now c.args.key.now c.self.invariant.0 at c.close.ensures.chains, c.self.invariant.1, noted_out s.cut s.recent.stamps (versions_in s.chains s.tree.pairs) _ c.args.key.now c.self.invariant.2 (versions_without s.chains c.close.new.self s.tree.pairs s.present c.in-Some.id.now c.args.key.now c.self.invariant.0 at c.close.ensures.chains))

pub returns-in-Some-newest-clause-bare : goal.returns-in-Some-newest-clause-bare
returns-in-Some-newest-clause-bare c =
    let s = c.self.inside in
    let at = rw c.in-Some.is at c.get.ensures.found in
    let some = rw c.in-Some-newest.is at c.newest.ensures.newest in
    rw (← c.self.view_is) (not_bare_in s.chains s.tree.pairs c.args.key.now c.in-Some.id.now _ c.self.invariant.0.sorted at some)

pub returns-in-None-newest-clause-bare : goal.returns-in-None-newest-clause-bare
returns-in-None-newest-clause-bare c =
    let s = c.self.inside in
    let at = rw c.in-Some.is at c.get.ensures.found in
    let none = rw c.in-None-newest.is at c.newest.ensures.newest in
    rw (← c.self.view_is) (sym (ap is_bare (bare_in s.chains s.tree.pairs c.args.key.now c.in-Some.id.now c.self.invariant.0.sorted at none)))

pub returns-in-None-newest-clause-stored : goal.returns-in-None-newest-clause-stored
returns-in-None-newest-clause-stored c =
    let s = c.self.inside in
    let at = rw c.in-Some.is at c.get.ensures.found in
    let none = rw c.in-None-newest.is at c.newest.ensures.newest in
    let none_out : cells_at s.chains c.in-Some.id.now ≡ 0 = ap cells_of (no_versions (versions_at s.chains c.in-Some.id.now) none) in
    let spare : c.close.new.self.spare ≡ s.chains.spare = omega (arith, c.close.ensures.spare, none_out) in
    let same = versions_without s.chains c.close.new.self s.tree.pairs s.present c.in-Some.id.now c.args.key.now c.self.invariant.0 at c.close.ensures.chains in
    rw (← c.self.view_is, c.remove.ensures.pairs) (λ i. record { versions = same i; present = s.present; cut = s.cut; spare = spare i; mark = s.mark })

pub returns-in-None-newest-clause-content : goal.returns-in-None-newest-clause-content
returns-in-None-newest-clause-content c = λ n.
    let s = c.self.inside in
    let at = rw c.in-Some.is at c.get.ensures.found in
    let none = rw c.in-None-newest.is at c.newest.ensures.newest in
    let same = versions_without s.chains c.close.new.self s.tree.pairs s.present c.in-Some.id.now c.args.key.now c.self.invariant.0 at c.close.ensures.chains in
    rw (← c.self.view_is, c.remove.ensures.pairs, same) (content_dropped (versions_in s.chains s.tree.pairs) c.args.key.now n (bare_in s.chains s.tree.pairs c.args.key.now c.in-Some.id.now c.self.invariant.0.sorted at none))

pub returns-in-None-clause-bare : goal.returns-in-None-clause-bare
returns-in-None-clause-bare c =
    let s = c.self.inside in
    let at = rw c.in-None.is at c.get.ensures.found in
    rw (← c.self.view_is) (no_bare_in s.chains s.tree.pairs c.args.key.now c.self.invariant.0.sorted at)
