use Rattle.lock_table.proofs.Wants.{left_out, out_within}
use Rattle.lock_table.proofs.wanted.leave_out.Goals as goal

pub returns-in-Ok-clause-ok : goal.returns-in-Ok-clause-ok
returns-in-Ok-clause-ok c = left_out c.args.held.now c.args.fewer.now c.add_all.new.self c.args.names.now c.in_ok-gone.gone.items (let a = c.look.ensures in a.some) c.requires c.in_ok-gone.ensures
    (rw c.as_slice.ensures.value at c.in-Ok.ensures.ok)

pub returns-in-Ok-clause-within : goal.returns-in-Ok-clause-within
returns-in-Ok-clause-within c = out_within c.args.held.now c.args.fewer.now c.add_all.new.self c.args.names.now c.in_ok-gone.gone.items c.requires c.in_ok-gone.ensures
    (rw c.as_slice.ensures.value at c.in-Ok.ensures.ok)
