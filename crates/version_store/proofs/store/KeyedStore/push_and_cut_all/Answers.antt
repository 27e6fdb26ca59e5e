use Rattle.std.proofs.Common.{◌≡◌, ◌∷◌, ◌∙◌, arith, rules}
use Rattle.std.specs.Vec.Iter.{into_iter_items}
use Rattle.version_store.specs.Versions.{tidied, with_version}
use Rattle.version_store.specs.laws.Cutting.{placed_cut, below_cut, get_one}
use Rattle.version_store.proofs.CellLemmas.{cells_elsewhere, cells_last_cut}
use Rattle.version_store.proofs.store.KeyedStore.push_and_cut_all.Goals as goal

pub loop-key-preserved : goal.loop-key-preserved
loop-key-preserved c =
    let now = c.loop-key.invariant in
    let steps : into_iter_items c.loop-key.key-iterator ≡ (c.in-Some.key, c.in-Some.value) ∷ into_iter_items c.next.new.self = search rules in
    let placed = rw steps at now.placed in
    let apart = rw steps at now.apart in
    let newest = rw steps at now.newest in
    let versions = rw steps at now.versions in
    let room = rw steps at now.room in
    let spare = rw steps at now.spare in
    let cells = rw steps at now.cells in
    let m = c.loop-key.self.versions in
    let kept = rw c.write_one.ensures.versions at c.write_one.ensures.cells in
    let others = cells_elsewhere c.in-Some.key m (tidied c.args.horizon c.in-Some.key (with_version c.args.stamp (c.in-Some.key, c.in-Some.value) m)) _ (get_one c.args.stamp c.args.horizon (c.in-Some.key, c.in-Some.value) m) apart.0 in
    let last = cells_last_cut c.args.stamp c.args.horizon _ (tidied c.args.horizon c.in-Some.key (with_version c.args.stamp (c.in-Some.key, c.in-Some.value) m)) _ c.in-Some.key apart.1 apart.0 versions in
    rw c.write_one.ensures.versions (record {
      can_next = tt;
      is_finite = tt;
      placed = placed_cut c.args.stamp c.args.horizon (c.in-Some.key, c.in-Some.value) m _ apart.0 placed.1;
      apart = apart.1;
      newest = below_cut c.args.stamp c.args.horizon (c.in-Some.key, c.in-Some.value) m _ apart.0 newest.1;
      versions = versions;
      present = c.write_one.ensures.present ∙ now.present;
      cut = c.write_one.ensures.cut ∙ now.cut;
      mark = c.write_one.ensures.mark ∙ now.mark;
      room = omega (arith, room, c.write_one.ensures.spare);
      spare = omega (arith, spare, room, c.write_one.ensures.spare);
      cells = omega (arith, cells, kept, others, last);
    })
