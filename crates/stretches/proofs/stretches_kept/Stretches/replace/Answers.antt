use Rattle.std.proofs.Common.{arith, length, sym, ap, subst, List}
use Rattle.read_ranges.specs.declared.range.ReadRange.{ReadRange}
use Rattle.stretches.specs.Empty.{FitsIn}
use Rattle.stretches.proofs.Places.{kept_between}
use Rattle.stretches.proofs.stretches_kept.Stretches.replace.Goals as goal

pub invariant_of-self : goal.invariant_of-self
invariant_of-self c =
    kept_between c.args.first c.args.last c.args.stretch c.self.inside.list.items c.put_in_place.new.list.items c.requires.order (omega (arith, c.requires.within, ap length c.self.view_is)) c.self.invariant c.requires.right
    (subst (λ (rs : List ReadRange). FitsIn c.args.first c.args.last c.args.stretch rs) (sym c.self.view_is) c.requires.fits) c.put_in_place.ensures
