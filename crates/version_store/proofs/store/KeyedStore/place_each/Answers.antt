use Rattle.std.proofs.Common.{◌+◌, drop, map, ap, rules, ◌∙◌}
use Rattle.version_store.specs.Versions.{Stored, all_placed}
use Rattle.version_store.proofs.PlaceLemmas.{apart_at, placed_next}
use Rattle.version_store.proofs.store.KeyedStore.place_each.Goals as goal

pub loop-key-preserved : goal.loop-key-preserved
loop-key-preserved c =
    let before = c.loop-key.invariant in
    let cs = c.args.changes.now in
    let i = c.loop-key.key-index in
    record {
      placed =
          ap (λ (s : Stored). all_placed (map (λ d. d.0) (drop (i + 1) cs)) s.versions) c.in_ok-place.ensures.ok
          ∙ placed_next c.loop-key.self.versions cs i c.loop-key-item.result c.loop-key-test.true c.loop-key-item.is ∙ before.placed;
      others = λ x none. c.place.ensures.others x (apart_at x cs i c.loop-key-item.result none c.loop-key-test.true c.loop-key-item.is) ∙ before.others x none;
      rows = λ r. c.place.ensures.rows r ∙ before.rows r;
      content = λ s. c.place.ensures.content s ∙ before.content s;
      present = search rules;
      cut = search rules;
      mark = search rules;
      spare = search rules;
    }
