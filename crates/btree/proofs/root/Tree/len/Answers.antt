use Rattle.std.proofs.Common.{◌≡◌, true, ◌<◌, ◌≤◌, ◌*◌, ◌^◌, ◌-◌, length, subst}
use Rattle.std.specs.FinMap.Entries.{is_sorted}
use Rattle.btree.specs.Tree.{Content}
use Rattle.btree.proofs.Roots.{wide, sorted_is}
use Rattle.btree.proofs.root.Tree.len.Goals as goal

pub returns-clause-wide : goal.returns-clause-wide
returns-clause-wide g c = subst (λ (t : Content g.row.K.Denot g.row.V.Denot). 1 < t.depth → 2 * 16 ^ (t.depth - 1) ≤ length t.pairs) c.self.view_is (wide g.K.Ord.cmp c.self.inside.root c.self.invariant.0)

pub returns-clause-sorted : goal.returns-clause-sorted
returns-clause-sorted g c = subst (λ (t : Content g.row.K.Denot g.row.V.Denot). is_sorted g.K.Ord.cmp t.pairs ≡ true) c.self.view_is (sorted_is g.K.Ord.cmp c.self.inside.root.pairs c.self.invariant.0.sorted)
