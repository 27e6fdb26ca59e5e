use Rattle.std.proofs.Common.{rules}
use Rattle.vorgushan_c.proofs.Called.{called, back_is, held_is, put_is, same_walk}
use Rattle.vorgushan_c.proofs.looks.vorgushan_walk.Goals as goal

pub returns-clause-called : goal.returns-clause-called
returns-clause-called c =
    called _ _ _ _ _ c.deref_mut.result.now c.copy_nodes-outcome.new.self c.copy_nodes-outcome.result (search rules) (search rules) (search rules)
    (same_walk _ _ _ _ _ _ _ _ _ _ _ _ _ (held_is _ _ _ c.take-within.ensures.taken) (held_is _ _ _ c.take-behind.ensures.taken) (put_is _ _ _ _ c.put_back-2.ensures c.take-behind.ensures.left) c.copy_nodes-outcome.ensures)

pub returns-clause-root : goal.returns-clause-root
returns-clause-root c = back_is _ _ _ _ _ c.take-within.ensures.taken c.put_back.ensures c.take-within.ensures.left
