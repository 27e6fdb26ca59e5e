use Rattle.std.proofs.Common.{inl, inr, true, false, sym, subst}
use Rattle.lock_table.specs.Rows.{inside_locks, IsWithin}
use Rattle.lock_table.proofs.Rows.{no_start, first_wants, first_judged, within_first}
use Rattle.lock_table.proofs.row.Row.first.Goals as goal

pub lock_inside-requires-clause-within : goal.lock_inside-requires-clause-within
lock_inside-requires-clause-within c = within_first c.self.inside.held c.new-inside.result.wanted c.new-inside.result.added c.new-inside.ensures.wanted c.new-inside.ensures.added

pub invariant_of-self-in-Err-1 : goal.invariant_of-self-in-Err-1
invariant_of-self-in-Err-1 c = subst (λ h. IsWithin h c.self.inside.inside) (sym c.in-Err.ensures.same) c.self.invariant

pub returns-in-Ok-clause-ok : goal.returns-in-Ok-clause-ok
returns-in-Ok-clause-ok c = first_wants c.args.self.now (inside_locks c.lock_inside.new.held c.lock_inside.new.inside) c.self.inside.held c.new-inside.result c.args.form c.args.names.now (let a = c.look.ensures in a.some) (no_start c.args.self.now c.self.inside.held c.self.inside.inside c.self.view_is c.requires.out)
    c.new-inside.ensures.wanted c.new-inside.ensures.added c.in-Ok.ensures.ok

pub returns-in-Ok-clause-allowed : goal.returns-in-Ok-clause-allowed
returns-in-Ok-clause-allowed c = first_judged c.args.self.now c.self.inside.held c.new-inside.result.wanted c.args.form c.args.names.now false (let a = c.look.ensures in a.some) (no_start c.args.self.now c.self.inside.held c.self.inside.inside c.self.view_is c.requires.out) c.new-inside.ensures.wanted c.in-Ok.ensures.allowed

pub returns-in-Err-clause-full : goal.returns-in-Err-clause-full
returns-in-Err-clause-full c = elim c.in-Err.ensures.full [
  | inl e ↦ inl e
  | inr p ↦ inr (p.0, first_judged c.args.self.now c.self.inside.held c.new-inside.result.wanted c.args.form c.args.names.now true (let a = c.look.ensures in a.some) (no_start c.args.self.now c.self.inside.held c.self.inside.inside c.self.view_is c.requires.out) c.new-inside.ensures.wanted p.1)
]
