use Rattle.std.proofs.Common.{◌++◌, ◌∷◌, List, arith, take, drop, sym, ap, subst, ◌∙◌}
use Rattle.read_ranges.specs.declared.range.ReadRange.{ReadRange}
use Rattle.stretches.specs.Empty.{AreKept, ArePut, FitsIn}
use Rattle.stretches.proofs.Places.{kept_more, put_between, put_nowhere}
use Rattle.stretches.proofs.stretches_kept.Stretches.put_more.Goals.{in-Ok, in-Err}
use Rattle.stretches.proofs.stretches_kept.Stretches.put_more.Goals as goal

pub returns-then-len-ge-MOST : goal.returns-then-len-ge-MOST
returns-then-len-ge-MOST c = put_nowhere c.args.place c.args.stretch c.args.self.now

pub invariant_of-self : goal.invariant_of-self
invariant_of-self c = elim c.match-insert.branch [
  | in-Ok w ↦ kept_more c.args.place c.args.stretch c.self.inside.list.items c.insert.new.self.items (omega (arith, c.if-len-ge-MOST.false, c.len.ensures, c.self.inside.list.ok.0)) c.self.invariant
      c.requires.right (subst (λ (rs : List ReadRange). FitsIn c.args.place c.args.place c.args.stretch rs) (sym c.self.view_is) c.requires.fits) w.in-Ok.ensures.items
  | in-Err w ↦ subst AreKept (sym w.in-Err.ensures.items) c.self.invariant
]

pub returns : goal.returns
returns c = elim c.match-insert.branch [
  | in-Ok w ↦ put_between c.args.place c.args.place c.args.self.now c.insert.new.self.items c.args.stretch
      (w.in-Ok.ensures.items ∙ ap (λ rs. take c.args.place rs ++ c.args.stretch ∷ drop c.args.place rs) c.self.view_is)
  | in-Err w ↦ subst (λ (rs : List ReadRange). ArePut c.args.place c.args.place c.args.stretch c.args.self.now rs) (sym (w.in-Err.ensures.items ∙ c.self.view_is)) (put_nowhere c.args.place c.args.stretch c.args.self.now)
]
