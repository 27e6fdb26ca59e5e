use Rattle.std.proofs.Common.{◌≤◌, ◌<◌, ◌-◌, slice_index_or, arith}
use Rattle.lock_trie.specs.Holders.{counted}
use Rattle.lock_trie.proofs.Holding.{IsLeft, written, count_now, small_now, left_put, left_without}
use Rattle.lock_trie.proofs.several.Several.take.Goals as goal

left : (c : goal.After-self-1) → IsLeft c.args.self.now (written c.self.inside.list.items c.deref_mut.result.now c.in-Some.i ((slice_index_or c.deref_mut.result.now c.in-Some.i (0, 0)).1 - c.args.n)) c.args.job (counted c.args.self.now c.args.job - c.args.n)
left c =
    let was = count_now c.self.inside.list.items c.deref.result.now c.deref-in-Some.result.now c.args.self.now c.args.job c.in-Some.i c.deref.ensures c.deref-in-Some.ensures c.self.view_is c.in-Some.ensures.some c.self.invariant in
    let is = count_now c.self.inside.list.items c.deref.result.now c.deref_mut.result.now c.args.self.now c.args.job c.in-Some.i c.deref.ensures c.deref_mut.ensures.value c.self.view_is c.in-Some.ensures.some c.self.invariant in
    let small = small_now c.self.inside.list.items c.deref.result.now c.deref_mut.result.now c.args.self.now c.args.job c.in-Some.i c.deref.ensures c.deref_mut.ensures.value c.self.view_is c.in-Some.ensures.some c.self.invariant in
    let most : (slice_index_or c.deref_mut.result.now c.in-Some.i (0, 0)).1 ≤ 65535 = small.1 in
    let more : c.args.n < (slice_index_or c.deref-in-Some.result.now c.in-Some.i (0, 0)).1 = c.if-deref-i.true in
    left_put c.self.inside.list.items c.deref.result.now c.deref_mut.result.now c.args.self.now c.args.job c.in-Some.i c.deref.ensures c.deref_mut.ensures.value c.self.view_is c.in-Some.ensures.some c.self.invariant
    _ (counted c.args.self.now c.args.job - c.args.n) (omega arith) (omega arith) (omega arith)

gone : (c : goal.After-remove) → IsLeft c.args.self.now c.remove.new.self.items c.args.job (counted c.args.self.now c.args.job - c.args.n)
gone c =
    let was = count_now c.self.inside.list.items c.deref.result.now c.deref-in-Some.result.now c.args.self.now c.args.job c.in-Some.i c.deref.ensures c.deref-in-Some.ensures c.self.view_is c.in-Some.ensures.some c.self.invariant in
    let few : (slice_index_or c.deref-in-Some.result.now c.in-Some.i (0, 0)).1 ≤ c.args.n = c.if-deref-i.false in
    left_without c.self.inside.list.items c.deref.result.now c.deref-in-Some.result.now c.args.self.now c.args.job c.in-Some.i c.deref.ensures c.deref-in-Some.ensures c.self.view_is c.in-Some.ensures.some c.self.invariant
    c.remove.new.self.items (counted c.args.self.now c.args.job - c.args.n) (omega arith) c.remove.ensures.items

pub invariant_of-self : goal.invariant_of-self
invariant_of-self c = let l = left c in l.are

pub returns-then-deref-i-clause-count : goal.returns-then-deref-i-clause-count
returns-then-deref-i-clause-count c = let l = left c in l.count

pub returns-then-deref-i-clause-held : goal.returns-then-deref-i-clause-held
returns-then-deref-i-clause-held c = let l = left c in l.are

pub invariant_of-self-else-deref-i : goal.invariant_of-self-else-deref-i
invariant_of-self-else-deref-i c = let l = gone c in l.are

pub returns-else-deref-i-clause-count : goal.returns-else-deref-i-clause-count
returns-else-deref-i-clause-count c = let l = gone c in l.count

pub returns-else-deref-i-clause-held : goal.returns-else-deref-i-clause-held
returns-else-deref-i-clause-held c = let l = gone c in l.are
