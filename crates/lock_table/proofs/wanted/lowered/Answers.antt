use Rattle.lock_table.specs.Counted.{less}
use Rattle.lock_trie.specs.laws.Results.{if_ok_onward}
use Rattle.lock_table.proofs.Less.{lowered_list}
use Rattle.lock_table.proofs.wanted.lowered.Goals as goal

pub returns : goal.returns
returns c = if_ok_onward c.within.result (λ gone is. lowered_list c.in_ok-left.left (less c.args.held.now c.args.fewer.now) c.args.names.now gone.items c.in_ok-left.ensures is) c.within.ensures
