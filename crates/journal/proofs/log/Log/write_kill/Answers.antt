use Rattle.std.proofs.Common.{refl, ap, ◌∙◌, rules}
use Rattle.journal.specs.declared.unit.Unit.TheVariants.{Lone}
use Rattle.command.specs.declared.access.DataCommand.TheVariants.{Kill}
use Rattle.command.specs.declared.access.Answer.TheVariants.{Done}
use Rattle.journal.proofs.Logs.{settled, room_left}
use Rattle.journal.proofs.log.Log.write_kill.Goals as goal

pub invariant_of-self : goal.invariant_of-self
invariant_of-self c =
    let s = c.self.inside in
    let h = settled c.settle.result c.push_kill-written.result s.bytes.items c.push_kill-written.new.bytes.items c.settle.new.bytes.items s.end s.count c.args.job (Lone c.args.job (Kill c.args.key.now c.args.extent) Done) c.self.invariant.0 (ap (λ k. k.behind) c.self.view_is ∙ c.requires) c.push_kill-written.ensures.bytes c.push_kill-written.ensures.fits c.push_kill-written.ensures.kept c.settle.ensures.ok c.settle.ensures.err refl in
    (h.stays.keeps, c.settle.ensures.room)

pub returns : goal.returns
returns c =
    let s = c.self.inside in
    let h = settled c.settle.result c.push_kill-written.result s.bytes.items c.push_kill-written.new.bytes.items c.settle.new.bytes.items s.end s.count c.args.job (Lone c.args.job (Kill c.args.key.now c.args.extent) Done) c.self.invariant.0 (ap (λ k. k.behind) c.self.view_is ∙ c.requires) c.push_kill-written.ensures.bytes c.push_kill-written.ensures.fits c.push_kill-written.ensures.kept c.settle.ensures.ok c.settle.ensures.err refl in
    record { units = h.stays.units ∙ ap (λ k. k.units) c.self.view_is; ends = ap (λ k. k.ends) c.self.view_is; ok = h.ok; err = h.err }

pub settle-requires : goal.settle-requires
settle-requires c = room_left _ _ _ _ _ _ c.self.invariant.1 c.self.invariant.0.within (search rules) c.push_kill-written.ensures.capacity
