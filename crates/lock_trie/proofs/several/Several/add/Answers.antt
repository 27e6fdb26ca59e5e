use Rattle.std.proofs.Common.{◌≡◌, ◌≤◌, ◌<◌, ◌+◌, slice_index_or, refl, arith}
use Rattle.lock_trie.specs.Holders.{counted}
use Rattle.lock_trie.proofs.Holding.{IsLeft, written, count_now, left_put, left_added, some_left}
use Rattle.lock_trie.proofs.several.Several.add.Goals as goal

is_now : (c : goal.After-self-1) → (slice_index_or c.deref_mut.result.now c.in-Some.i (0, 0)).1 ≡ counted c.args.self.now c.args.job
is_now c = count_now c.self.inside.list.items c.deref.result.now c.deref_mut.result.now c.args.self.now c.args.job c.in-Some.i c.deref.ensures c.deref_mut.ensures.value c.self.view_is c.in-Some.ensures.some c.self.invariant

left : (c : goal.After-self-1) → IsLeft c.args.self.now (written c.self.inside.list.items c.deref_mut.result.now c.in-Some.i ((slice_index_or c.deref_mut.result.now c.in-Some.i (0, 0)).1 + c.args.n)) c.args.job (counted c.args.self.now c.args.job + c.args.n)
left c =
    let is = is_now c in
    let some : 0 < c.args.n = c.requires.some in
    let small : counted c.args.self.now c.args.job + c.args.n ≤ 65535 = c.requires.small in
    left_put c.self.inside.list.items c.deref.result.now c.deref_mut.result.now c.args.self.now c.args.job c.in-Some.i c.deref.ensures c.deref_mut.ensures.value c.self.view_is c.in-Some.ensures.some c.self.invariant
    _ (counted c.args.self.now c.args.job + c.args.n) (omega arith) (omega arith) (omega arith)

more : (c : goal.After-self-1) → 0 < counted c.args.self.now c.args.job + c.args.n
more c = let some : 0 < c.args.n = c.requires.some in omega arith

pub overflow_add-deref_mut : goal.overflow_add-deref_mut
overflow_add-deref_mut c =
    let is = count_now c.self.inside.list.items c.deref.result.now c.deref_mut.result.now c.args.self.now c.args.job c.in-Some.i c.deref.ensures c.deref_mut.ensures.value c.self.view_is c.in-Some.ensures.some c.self.invariant in
    omega (arith, c.requires.small)

pub invariant_of-self : goal.invariant_of-self
invariant_of-self c = let l = left c in l.are

pub returns-in-Some-clause-ok : goal.returns-in-Some-clause-ok
returns-in-Some-clause-ok c = let l = left c in l.count

pub returns-in-Some-clause-held : goal.returns-in-Some-clause-held
returns-in-Some-clause-held c = let l = left c in (some_left _ _ c.args.job _ l (more c), l.are)

added : (c : goal.In_ok-push-in-None) → IsLeft c.args.self.now c.push.new.self.items c.args.job (counted c.args.self.now c.args.job + c.args.n)
added c =
    let small : counted c.args.self.now c.args.job + c.args.n ≤ 65535 = c.requires.small in
    left_added c.self.inside.list.items c.deref.result.now c.args.self.now c.push.new.self.items c.args.job c.args.n c.deref.ensures c.self.view_is (c.in-None.ensures.none refl) c.self.invariant c.requires.some (omega arith) c.in_ok-push-in-None.ensures.ok

pub invariant_of-self-in-None : goal.invariant_of-self-in-None
invariant_of-self-in-None c = let l = added c in l.are

pub returns-in_ok-push-in-None-clause-ok : goal.returns-in_ok-push-in-None-clause-ok
returns-in_ok-push-in-None-clause-ok c = let l = added c in l.count

pub returns-in_ok-push-in-None-clause-held : goal.returns-in_ok-push-in-None-clause-held
returns-in_ok-push-in-None-clause-held c =
    let l = added c in
    let some : 0 < c.args.n = c.requires.some in
    (some_left _ _ c.args.job _ l (omega arith), l.are)
