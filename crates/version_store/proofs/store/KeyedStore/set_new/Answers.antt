use Rattle.std.proofs.Common.{◌<◌, ◌≤◌, refl, arith}
use Rattle.std.specs.Prelude.{Some}
use Rattle.std.specs.FinMap.{put}
use Rattle.collation.specs.Order.{ref_cmp}
use Rattle.version_store.specs.Tied.{versions_in}
use Rattle.collation.specs.laws.Order.{ref_cmp-IsAntisymmetric}
use Rattle.version_store.proofs.TiedLemmas.{versions_put, versions_back, tied_put, tied_back, tied_later, not_in}
use Rattle.version_store.proofs.SetLemmas.{versions_set, tied_set, pushed_fresh, found_put}
use Rattle.version_store.proofs.CellLemmas.{cells_in, no_cells, no_cells_at}
use Rattle.version_store.proofs.NotedLemmas.{noted_grown, noted_same, noted_set}
use Rattle.version_store.proofs.store.KeyedStore.set_new.Goals as goal

pub invariant_of-self-in-Ok-insert_by : goal.invariant_of-self-in-Ok-insert_by
invariant_of-self-in-Ok-insert_by c =
    let s = c.self.inside in
    let all = (rw c.in-Ok-insert_by.is at c.insert_by.ensures.put) ref_cmp-IsAntisymmetric in
    let none = not_in s.chains s.tree.pairs c.args.key c.self.invariant.0.sorted (rw (← c.self.view_is) at c.requires.none) in
    let later : s.present < c.args.stamp = rw (← c.self.view_is) at c.requires.stamp in
    let raised : s.cut ≤ c.args.cut = rw (← c.self.view_is) at c.requires.raised in
    let vacant = rw (← c.self.view_is) at c.requires.none in
    let now = tied_put s.chains c.open.new.self s.tree.pairs s.present c.in-Ok.id c.args.key c.self.invariant.0 none c.in-Ok.ensures.vacant c.in-Ok.ensures.chains in
    let placed = versions_put s.chains c.open.new.self s.tree.pairs s.present c.in-Ok.id c.args.key c.self.invariant.0 c.in-Ok.ensures.vacant c.in-Ok.ensures.chains in
    let tied = tied_later c.open.new.self (put ref_cmp c.args.key c.in-Ok.id s.tree.pairs) s.present c.args.stamp now (omega (arith, later)) in
    rw all (tied_set c.open.new.self c.push_and_cut.new.self s.tree.pairs c.args.stamp c.in-Ok.id c.args.stamp c.args.cut c.args.key c.args.value tied (pushed_fresh c.open.new.self c.push_and_cut.new.self c.in-Ok.id c.args.stamp c.args.cut c.args.value c.in-Ok.ensures.chains.changed c.push_and_cut.ensures.chains) (omega (arith, later)) (omega arith) c.in-Ok.ensures.chains.changed, c.requires.cut, noted_set c.args.cut c.note.new.self.stamps (versions_in s.chains s.tree.pairs) _ c.args.stamp c.args.cut c.args.key (Some c.args.value) (noted_grown s.cut c.args.cut s.recent.stamps c.note.new.self.stamps (versions_in s.chains s.tree.pairs) c.self.invariant.2 raised c.note.ensures.grows) c.note.ensures.noted (versions_set c.open.new.self c.push_and_cut.new.self s.tree.pairs s.present c.in-Ok.id c.args.stamp c.args.cut c.args.key c.args.value now (pushed_fresh c.open.new.self c.push_and_cut.new.self c.in-Ok.id c.args.stamp c.args.cut c.args.value c.in-Ok.ensures.chains.changed c.push_and_cut.ensures.chains) (versions_in s.chains s.tree.pairs) placed vacant))

pub invariant_of-self-in-Err-insert_by : goal.invariant_of-self-in-Err-insert_by
invariant_of-self-in-Err-insert_by c =
    let s = c.self.inside in
    let back = tied_back s.chains c.open.new.self c.close.new.self s.tree.pairs s.present c.in-Ok.id c.self.invariant.0 c.in-Ok.ensures.vacant c.in-Ok.ensures.chains c.close.ensures.chains in
    let grown = noted_grown s.cut s.cut s.recent.stamps c.note.new.self.stamps (versions_in s.chains s.tree.pairs) c.self.invariant.2 (omega arith) c.note.ensures.grows in
    let same = versions_back s.chains c.open.new.self c.close.new.self s.tree.pairs s.present c.in-Ok.id c.self.invariant.0 c.in-Ok.ensures.vacant c.in-Ok.ensures.chains c.close.ensures.chains in
    rw c.in-Err-insert_by.ensures.refused (back, c.self.invariant.1, noted_same s.cut c.note.new.self.stamps (versions_in s.chains s.tree.pairs) _ grown same)

pub returns-in-Ok-insert_by-clause-ok : goal.returns-in-Ok-insert_by-clause-ok
returns-in-Ok-insert_by-clause-ok c =
    let s = c.self.inside in
    let all = (rw c.in-Ok-insert_by.is at c.insert_by.ensures.put) ref_cmp-IsAntisymmetric in
    let vacant = rw (← c.self.view_is) at c.requires.none in
    let none = not_in s.chains s.tree.pairs c.args.key c.self.invariant.0.sorted vacant in
    let later : s.present < c.args.stamp = rw (← c.self.view_is) at c.requires.stamp in
    let now = tied_put s.chains c.open.new.self s.tree.pairs s.present c.in-Ok.id c.args.key c.self.invariant.0 none c.in-Ok.ensures.vacant c.in-Ok.ensures.chains in
    let placed = versions_put s.chains c.open.new.self s.tree.pairs s.present c.in-Ok.id c.args.key c.self.invariant.0 c.in-Ok.ensures.vacant c.in-Ok.ensures.chains in
    rw (all, ← c.self.view_is) (record {
      versions = versions_set c.open.new.self c.push_and_cut.new.self s.tree.pairs s.present c.in-Ok.id c.args.stamp c.args.cut c.args.key c.args.value now (pushed_fresh c.open.new.self c.push_and_cut.new.self c.in-Ok.id c.args.stamp c.args.cut c.args.value c.in-Ok.ensures.chains.changed c.push_and_cut.ensures.chains) (versions_in s.chains s.tree.pairs) placed vacant;
      present = refl;
      cut_is = refl;
      mark = refl;
    })

pub returns-in-Ok-insert_by-clause-cells : goal.returns-in-Ok-insert_by-clause-cells
returns-in-Ok-insert_by-clause-cells c =
    let s = c.self.inside in
    let all = (rw c.in-Ok-insert_by.is at c.insert_by.ensures.put) ref_cmp-IsAntisymmetric in
    let vacant = rw (← c.self.view_is) at c.requires.none in
    let none = not_in s.chains s.tree.pairs c.args.key c.self.invariant.0.sorted vacant in
    let now = tied_put s.chains c.open.new.self s.tree.pairs s.present c.in-Ok.id c.args.key c.self.invariant.0 none c.in-Ok.ensures.vacant c.in-Ok.ensures.chains in
    let was = no_cells (versions_in s.chains s.tree.pairs) c.args.key vacant in
    let fresh = no_cells_at c.open.new.self c.in-Ok.id c.in-Ok.ensures.chains.changed in
    let is = cells_in c.push_and_cut.new.self (put ref_cmp c.args.key c.in-Ok.id s.tree.pairs) c.args.key c.in-Ok.id now.sorted (found_put c.args.key c.in-Ok.id s.tree.pairs) in
    rw (all, ← c.self.view_is) (omega (arith, was, fresh, is, c.in-Ok.ensures.spare, c.push_and_cut.ensures.spare))
