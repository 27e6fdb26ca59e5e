use Rattle.std.proofs.Common.{◌≡◌, ◌∷◌, ◌∙◌, arith, rules}
use Rattle.std.specs.Vec.Iter.{into_iter_items}
use Rattle.version_store.specs.Versions.{versions_of}
use Rattle.version_store.specs.laws.Content.{placed_on, below_on}
use Rattle.version_store.proofs.short.ShortStore.push_all.Goals as goal

pub loop-key-preserved : goal.loop-key-preserved
loop-key-preserved c =
    let now = c.loop-key.invariant in
    let steps : into_iter_items c.loop-key.key-iterator ≡ (c.in-Some.key, c.in-Some.value) ∷ into_iter_items c.next.new.self = search rules in
    let placed = rw steps at now.placed in
    let apart = rw steps at now.apart in
    let newest = rw steps at now.newest in
    let versions = rw steps at now.versions in
    let room = rw steps at now.room in
    let spare = rw steps at now.spare in
    let m = c.loop-key.self.versions in
    let row = (c.args.stamp, c.in-Some.value) ∷ versions_of m c.in-Some.key in
    rw c.push_one.ensures.versions (record {
      can_next = tt;
      is_finite = tt;
      placed = placed_on m c.in-Some.key row _ apart.0 placed.1;
      apart = apart.1;
      newest = below_on c.args.stamp m c.in-Some.key row _ apart.0 newest.1;
      versions = versions;
      present = c.push_one.ensures.present ∙ now.present;
      cut = c.push_one.ensures.cut ∙ now.cut;
      mark = c.push_one.ensures.mark ∙ now.mark;
      room = omega (arith, room, c.push_one.ensures.spare);
      spare = omega (arith, spare, room, c.push_one.ensures.spare);
    })
