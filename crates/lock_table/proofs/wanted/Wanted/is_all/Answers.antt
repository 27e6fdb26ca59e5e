use Rattle.lock_table.proofs.Wants.{none_out}
use Rattle.lock_table.proofs.wanted.Wanted.is_all.Goals as goal

pub returns-in-AllBut : goal.returns-in-AllBut
returns-in-AllBut c h held = none_out held c.in-AllBut.fewer c.args.self.now c.in-AllBut.is (c.is_empty.ensures h)
