use Rattle.std.proofs.Common.{◌≡◌, false, true, sym, ap, ◌∙◌}
use Rattle.std.specs.Ordering.{eq_by_cmp}
use Rattle.std.specs.FinMap as finmap
use Rattle.std.specs.FinMap.{find}
use Rattle.std.proofs.lemmas.List.{drop_all}
use Rattle.collation.specs.Reference.{Reference}
use Rattle.collation.specs.Order.{ref_cmp}
use Rattle.version_store.specs.Versions.{Stored, is_bare, versions_of}
use Rattle.version_store.proofs.PlaceLemmas.{apart_of_next, taken_out, rows_out}
use Rattle.version_store.proofs.store.KeyedStore.unplace.Goals as goal

pub loop-key-preserved : goal.loop-key-preserved
loop-key-preserved c =
    let before = c.loop-key.invariant in
    let cs = c.args.changes.now in
    let i = c.loop-key.key-index in
    let m = c.loop-key.self.versions in
    let key = c.loop-key-item.result.0 in
    let out = c.drop_key.ensures in
    let there : (x : Reference) → is_bare (finmap.get c.drop_key.new.self.versions x) ≡ true → (eq_by_cmp ref_cmp x key ≡ false) × (is_bare (finmap.get m x) ≡ true) =
    λ x bare. taken_out m key x c.drop_key.result out.bare (sym (ap (λ (s : Stored). is_bare (finmap.get s.versions x)) out.stored) ∙ bare) in
    record {
      kept = λ x bare. let was = there x bare in before.kept x was.1;
      left = λ x bare none. let was = there x bare in before.left x was.1 (apart_of_next x cs i c.loop-key-item.result c.loop-key-test.true c.loop-key-item.is was.0 none);
      rows = λ r. ap (λ (s : Stored). versions_of s.versions r) out.stored ∙ rows_out m key c.drop_key.result out.bare r ∙ before.rows r;
      content = λ s. out.content s ∙ before.content s;
      present = ap (λ (s : Stored). s.present) out.stored ∙ before.present;
      cut = ap (λ (s : Stored). s.cut) out.stored ∙ before.cut;
      mark = ap (λ (s : Stored). s.mark) out.stored ∙ before.mark;
      spare = ap (λ (s : Stored). s.spare) out.stored ∙ before.spare;
    }

pub returns-clause-bare : goal.returns-clause-bare
returns-clause-bare c = λ x bare.
    let after = c.loop-key.invariant in
    (after.kept x bare, after.left x bare (ap (find ref_cmp x) (drop_all c.loop-key.key-index c.args.changes.now c.loop-key-test.false)))
