use Rattle.std.specs.Prelude.{◌-◌}
use Rattle.lock_name.specs.Locks.{count_of}
use Rattle.lock_trie.specs.laws.Results.{if_ok_onward}
use Rattle.lock_table.specs.Rows.{want_of}
use Rattle.lock_table.proofs.Less.{raised_list}
use Rattle.lock_table.proofs.wanted.Wanted.raised.Goals as goal

pub returns : goal.returns
returns c = if_ok_onward c.beyond.result (λ over is. raised_list c.in_ok-left.left (λ x. count_of c.args.held.now x - count_of (want_of c.args.held.now c.args.self.now) x) c.args.names.now over.items c.in_ok-left.ensures is) c.beyond.ensures
