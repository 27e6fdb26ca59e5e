use Rattle.std.proofs.Common.{◌<◌, ◌≤◌, refl, sym, arith}
use Rattle.std.specs.Prelude.{Some}
use Rattle.version_store.specs.Tied.{versions_in, IsTied}
use Rattle.version_store.proofs.TiedLemmas.{low_in, tied_later, none_in}
use Rattle.version_store.proofs.CutLemmas.{cut_at_once}
use Rattle.version_store.proofs.SetLemmas.{above_at, set_there}
use Rattle.version_store.proofs.CellLemmas.{cells_in}
use Rattle.version_store.proofs.NotedLemmas.{noted_grown, noted_pushed_and_cut}
use Rattle.version_store.proofs.store.KeyedStore.set_placed.Goals as goal

pub push_and_cut-requires-clause-newest : goal.push_and_cut-requires-clause-newest
push_and_cut-requires-clause-newest c =
    let s = c.self.inside in
    let at = rw c.in-Some.is at c.look_up.ensures.found in
    let later = rw (← c.self.view_is) at c.requires.stamp in
    above_at s.present c.args.stamp _ later (c.self.invariant.0.settled c.args.key.now c.in-Some.id.now (sym at))

pub invariant_of-self : goal.invariant_of-self
invariant_of-self c =
    let s = c.self.inside in
    let raised : s.cut ≤ c.args.cut = rw (← c.self.view_is) at c.requires.raised in
    let at = rw c.in-Some.is at c.look_up.ensures.found in
    let later : s.present < c.args.stamp = rw (← c.self.view_is) at c.requires.stamp in
    let low = low_in s.chains s.tree.pairs s.present c.self.invariant.0 c.args.key.now in
    let tied : IsTied s.tree.pairs s.chains c.args.stamp = tied_later s.chains s.tree.pairs s.present c.args.stamp c.self.invariant.0 (omega (arith, later)) in
    let is = cut_at_once s.chains c.push_and_cut.new.self s.tree.pairs c.args.stamp c.in-Some.id.now c.args.stamp c.args.cut c.args.key.now (Some c.replace-value.result) tied at c.push_and_cut.ensures.chains (omega (arith, later)) (omega arith) (above_at s.present c.args.stamp _ later low) in
    (is.tied, c.requires.cut, noted_pushed_and_cut c.args.cut c.note.new.self.stamps (versions_in s.chains s.tree.pairs) _ c.args.stamp c.args.cut c.args.key.now (Some c.replace-value.result) (noted_grown s.cut c.args.cut s.recent.stamps c.note.new.self.stamps (versions_in s.chains s.tree.pairs) c.self.invariant.2 raised c.note.ensures.grows) c.note.ensures.noted is.versions)

pub returns-in-Some-clause-set : goal.returns-in-Some-clause-set
returns-in-Some-clause-set c =
    let s = c.self.inside in
    let at = rw c.in-Some.is at c.look_up.ensures.found in
    let later : s.present < c.args.stamp = rw (← c.self.view_is) at c.requires.stamp in
    let low = low_in s.chains s.tree.pairs s.present c.self.invariant.0 c.args.key.now in
    let tied : IsTied s.tree.pairs s.chains c.args.stamp = tied_later s.chains s.tree.pairs s.present c.args.stamp c.self.invariant.0 (omega (arith, later)) in
    let is = cut_at_once s.chains c.push_and_cut.new.self s.tree.pairs c.args.stamp c.in-Some.id.now c.args.stamp c.args.cut c.args.key.now (Some c.replace-value.result) tied at c.push_and_cut.ensures.chains (omega (arith, later)) (omega arith) (above_at s.present c.args.stamp _ later low) in
    rw (← c.self.view_is, ← c.replace-value.ensures.value) (record {
      versions = set_there c.args.cut c.args.stamp c.args.key.now c.replace-value.result (versions_in s.chains s.tree.pairs) _ is.versions;
      present = refl;
      cut_is = refl;
      mark = refl;
    })

pub returns-in-None-clause-set : goal.returns-in-None-clause-set
returns-in-None-clause-set c =
    let s = c.self.inside in
    let at = rw c.in-None.is at c.look_up.ensures.found in
    (refl, rw (← c.self.view_is) (none_in s.chains s.tree.pairs c.args.key.now c.self.invariant.0.sorted at), refl)

pub returns-in-Some-clause-cells : goal.returns-in-Some-clause-cells
returns-in-Some-clause-cells c =
    let s = c.self.inside in
    let at = rw c.in-Some.is at c.look_up.ensures.found in
    let was = cells_in s.chains s.tree.pairs c.args.key.now c.in-Some.id.now c.self.invariant.0.sorted at in
    let is = cells_in c.push_and_cut.new.self s.tree.pairs c.args.key.now c.in-Some.id.now c.self.invariant.0.sorted at in
    rw (← c.self.view_is) (omega (arith, was, is, c.push_and_cut.ensures.spare))
