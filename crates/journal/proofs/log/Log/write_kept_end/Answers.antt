use Rattle.std.proofs.Common.{refl, ap, ◌∙◌, ◌-◌, arith}
use Rattle.journal.specs.declared.unit.Unit.TheVariants.{End}
use Rattle.journal.proofs.Logs.{written_there}
use Rattle.journal.proofs.log.Log.write_kept_end.Goals as goal

pub invariant_of-self : goal.invariant_of-self
invariant_of-self c =
    let s = c.self.inside in
    let h = written_there s.bytes.items c.write_end.new.bytes.items s.end s.count c.args.job (End c.args.job) c.self.invariant.0 (ap (λ k. k.behind) c.self.view_is ∙ c.requires.behind) c.write_end.ensures.bytes c.write_end.ensures.fits refl in
    (h.stays.keeps, omega (arith, c.self.invariant.1, c.requires.room, ap (λ k. k.ends) c.self.view_is, c.write_end.ensures.len, c.write_end.ensures.capacity))

pub returns : goal.returns
returns c =
    let s = c.self.inside in
    let h = written_there s.bytes.items c.write_end.new.bytes.items s.end s.count c.args.job (End c.args.job) c.self.invariant.0 (ap (λ k. k.behind) c.self.view_is ∙ c.requires.behind) c.write_end.ensures.bytes c.write_end.ensures.fits refl in
    record { units = h.stays.units ∙ ap (λ k. k.units) c.self.view_is; ends = ap (λ k. k.ends - 1) c.self.view_is; written = h.is }
