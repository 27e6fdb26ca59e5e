use Rattle.std.proofs.Common.{sym}
use Rattle.lock_table.proofs.Smalls.{put_small, put_over}
use Rattle.lock_table.proofs.counts.Counts.put.Goals as goal

pub invariant_of-self : goal.invariant_of-self
invariant_of-self c = put_small c.insert_by.result c.self.inside.map c.insert_by.new.self c.in_ok-key.key c.args.n c.requires.small c.requires.some c.insert_by.ensures.map c.insert_by.ensures.refused c.self.invariant

pub returns-clause-ok : goal.returns-clause-ok
returns-clause-ok c = put_over c.insert_by.result c.self.inside.map c.args.self.now c.insert_by.new.self c.in_ok-key.key c.args.name.now c.args.n c.self.view_is (sym c.in_ok-key.ensures.cases) c.insert_by.ensures.map
