use Rattle.std.proofs.Common.{◌≡◌, ℕ, true, drop, None}
use Rattle.std.specs.FinMap as finmap
use Rattle.std.specs.FinMap.{find}
use Rattle.collation.specs.Reference.{Reference}
use Rattle.collation.specs.Order.{ref_cmp}
use Rattle.version_store.specs.Versions.{versions_of, content_at, is_bare}
use Rattle.version_store.proofs.store.KeyedStore.unplace.Given as goal

abbrev pub invariant-loop-key : goal.invariant-loop-key
invariant-loop-key l = record {
  kept : (x : Reference) → is_bare (finmap.get l.self.versions x) ≡ true → is_bare (finmap.get l.fn.self.versions x) ≡ true;
  left : (x : Reference) → is_bare (finmap.get l.self.versions x) ≡ true → find ref_cmp x (drop l.key-index l.changes) ≡ None → find ref_cmp x l.changes ≡ None;
  rows : (r : Reference) → versions_of l.self.versions r ≡ versions_of l.fn.self.versions r;
  content : (s : ℕ) → content_at l.self.versions s ≡ content_at l.fn.self.versions s;
  present : l.self.present ≡ l.fn.self.present;
  cut : l.self.cut ≡ l.fn.self.cut;
  mark : l.self.mark ≡ l.fn.self.mark;
  spare : l.self.spare ≡ l.initial.self.spare;
}
