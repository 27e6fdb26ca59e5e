use Rattle.std.proofs.Common.{◌≡◌, ℕ, drop, map, None}
use Rattle.std.specs.FinMap as finmap
use Rattle.std.specs.FinMap.{find}
use Rattle.collation.specs.Order.{ref_cmp}
use Rattle.collation.specs.Reference.{Reference}
use Rattle.version_store.specs.Versions.{all_placed, versions_of, content_at}
use Rattle.version_store.proofs.store.KeyedStore.place_each.Given as goal

abbrev pub invariant-loop-key : goal.invariant-loop-key
invariant-loop-key l = record {
  placed : all_placed (map (λ c. c.0) (drop l.key-index l.changes)) l.self.versions ≡ all_placed (map (λ c. c.0) l.changes) l.fn.self.versions;
  others : (x : Reference) → find ref_cmp x l.changes ≡ None → finmap.get l.self.versions x ≡ finmap.get l.fn.self.versions x;
  rows : (r : Reference) → versions_of l.self.versions r ≡ versions_of l.fn.self.versions r;
  content : (s : ℕ) → content_at l.self.versions s ≡ content_at l.fn.self.versions s;
  present : l.self.present ≡ l.fn.self.present;
  cut : l.self.cut ≡ l.fn.self.cut;
  mark : l.self.mark ≡ l.fn.self.mark;
  spare : l.self.spare ≡ l.initial.self.spare;
}
