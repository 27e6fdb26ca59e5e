use Rattle.std.proofs.Common.{inl, inr, sym, ap, ◌∙◌}
use Rattle.std.specs.Prelude.{cond}
use Rattle.lock_name.specs.Locks.{more_of}
use Rattle.lock_table.proofs.Rows.{undone, added_full}
use Rattle.lock_table.proofs.inside.hold_over.Goals as goal

pub returns-in-Err-clause-full : goal.returns-in-Err-clause-full
returns-in-Err-clause-full c = elim c.in-Err.ensures.full [
  | inl e ↦ inl e
  | inr p ↦ inr (p.0, added_full c.args.held.now c.args.added.now c.args.over.now c.requires.within p.1)
]

pub returns-in-Err-hold_more-clause-err : goal.returns-in-Err-hold_more-clause-err
returns-in-Err-hold_more-clause-err c = undone c.args.added.now c.add_all.new.self c.take_all.new.self c.args.over.now (let a = c.look.ensures in a.some) c.in-Ok.ensures.ok c.take_all.ensures

pub returns-clause-added : goal.returns-clause-added
returns-clause-added c = undone c.args.added.now c.add_all.new.self c.take_all-2.new.self c.args.over.now (let a = c.look.ensures in a.some) c.in-Ok.ensures.ok c.take_all-2.ensures ∙ ap (λ b. cond b (more_of c.args.over.now c.args.added.now) c.args.added.now) (sym c.if-had.false)
