use Rattle.std.proofs.Common.{inl, inr, ap, ◌∙◌, ◌≡◌, drop, take}
use Rattle.lock_name.specs.Locks.{more_of, fewer_of}
use Rattle.lock_name.specs.laws.Zeros.{taken_back}
use Rattle.lock_table.proofs.Lists.{over_at}
use Rattle.lock_table.proofs.counts.Counts.add_all.Goals as goal

pub returns-in-Err-clause-full : goal.returns-in-Err-clause-full
returns-in-Err-clause-full c = elim c.in-Err.ensures.full [
  | inl e ↦ inl e
  | inr p ↦ inr (p.0, over_at c.args.names.now c.args.self.now c.loop-i.self c.loop-i.i c.index-names-i.result c.loop-i-test.true c.index-names-i.is c.loop-i.invariant.whole p.1)
]

pub returns-in-Err-clause-err : goal.returns-in-Err-clause-err
returns-in-Err-clause-err c =
    let same : c.add_one.new.self ≡ c.loop-i.self = c.in-Err.ensures.err in
    let back : fewer_of (take c.loop-i.i c.args.names.now) c.add_one.new.self ≡ c.args.self.now = taken_back c.args.names.now c.loop-i.i c.args.self.now c.add_one.new.self
    (let old = c.look.ensures in old.some) (let now = c.look-in-Err.ensures in now.some) (ap (more_of (drop c.loop-i.i c.args.names.now)) same ∙ c.loop-i.invariant.whole) in
    c.take_all.ensures ∙ back
