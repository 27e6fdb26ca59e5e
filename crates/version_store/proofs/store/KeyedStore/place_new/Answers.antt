use Rattle.std.proofs.Common.{[]}
use Rattle.collation.specs.laws.Order.{ref_cmp-IsAntisymmetric}
use Rattle.version_store.specs.Tied.{versions_in}
use Rattle.version_store.proofs.TiedLemmas.{versions_put, tied_put, tied_back, versions_back, not_in}
use Rattle.version_store.proofs.NotedLemmas.{noted_put, noted_same}
use Rattle.version_store.proofs.store.KeyedStore.place_new.Goals as goal

pub invariant_of-self : goal.invariant_of-self
invariant_of-self c =
    let s = c.self.inside in
    let put = (rw c.in-Ok-insert_by.is at c.insert_by.ensures.put) ref_cmp-IsAntisymmetric in
    let none = not_in s.chains s.tree.pairs c.args.key c.self.invariant.0.sorted (rw (← c.self.view_is) at c.requires) in
    rw put (tied_put s.chains c.open.new.self s.tree.pairs s.present c.in-Ok.id c.args.key c.self.invariant.0 none c.in-Ok.ensures.vacant c.in-Ok.ensures.chains, c.self.invariant.1, noted_put s.cut s.recent.stamps (versions_in s.chains s.tree.pairs) _ c.args.key [] c.self.invariant.2 tt (versions_put s.chains c.open.new.self s.tree.pairs s.present c.in-Ok.id c.args.key c.self.invariant.0 c.in-Ok.ensures.vacant c.in-Ok.ensures.chains))

pub returns-in-Ok-insert_by-clause-ok : goal.returns-in-Ok-insert_by-clause-ok
returns-in-Ok-insert_by-clause-ok c =
    let s = c.self.inside in
    let put = (rw c.in-Ok-insert_by.is at c.insert_by.ensures.put) ref_cmp-IsAntisymmetric in
    let same = versions_put s.chains c.open.new.self s.tree.pairs s.present c.in-Ok.id c.args.key c.self.invariant.0 c.in-Ok.ensures.vacant c.in-Ok.ensures.chains in
    rw (put, ← c.self.view_is) (λ i. record { versions = same i; present = s.present; cut = s.cut; spare = c.in-Ok.ensures.spare i; mark = s.mark })

pub invariant_of-self-in-Err-insert_by : goal.invariant_of-self-in-Err-insert_by
invariant_of-self-in-Err-insert_by c =
    let s = c.self.inside in
    let back = tied_back s.chains c.open.new.self c.close.new.self s.tree.pairs s.present c.in-Ok.id c.self.invariant.0 c.in-Ok.ensures.vacant c.in-Ok.ensures.chains c.close.ensures.chains in
    rw c.in-Err-insert_by.ensures.refused (back, c.self.invariant.1, noted_same s.cut s.recent.stamps (versions_in s.chains s.tree.pairs) _ c.self.invariant.2 (versions_back s.chains c.open.new.self c.close.new.self s.tree.pairs s.present c.in-Ok.id c.self.invariant.0 c.in-Ok.ensures.vacant c.in-Ok.ensures.chains c.close.ensures.chains))
