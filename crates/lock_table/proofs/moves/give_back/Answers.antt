use Rattle.lock_table.proofs.Less.{is_less}
use Rattle.lock_table.proofs.moves.give_back.Goals as goal

pub returns-clause-held : goal.returns-clause-held
returns-clause-held c = is_less c.args.held.now c.give.new.self c.args.others.now (let a = c.look.ensures in a.some) (let a = c.look-2.ensures in a.some) c.give.ensures
