use Rattle.std.proofs.Common.{sym}
use Rattle.lock_table.proofs.Smalls.{small_insert, small_along, replaced}
use Rattle.lock_table.proofs.counts.Counts.change.Goals as goal

pub invariant_of-self : goal.invariant_of-self
invariant_of-self c =
    small_along _ _ (replaced c.replace.result c.self.inside.map c.args.self.now c.replace.new.self c.args.name.now c.args.n c.self.view_is c.requires.had c.replace.ensures.map c.replace.ensures.missed)
    (small_insert c.args.self.now c.args.name.now c.args.n c.requires.small c.requires.some (small_along _ _ (sym c.self.view_is) c.self.invariant))

pub returns : goal.returns
returns c = replaced c.replace.result c.self.inside.map c.args.self.now c.replace.new.self c.args.name.now c.args.n c.self.view_is c.requires.had c.replace.ensures.map c.replace.ensures.missed
