use Rattle.lock_trie.specs.laws.Results.{if_ok_onward}
use Rattle.lock_table.proofs.Wants.{out_spare, just_spare}
use Rattle.lock_table.proofs.wanted.Wanted.spare.Goals as goal

pub returns-in-AllBut : goal.returns-in-AllBut
returns-in-AllBut c = if_ok_onward c.among.result (λ some. out_spare c.args.held.now c.in-AllBut.fewer some c.args.self.now c.args.names.now c.in-AllBut.is c.requires) c.among.ensures

pub returns-in-Just : goal.returns-in-Just
returns-in-Just c = if_ok_onward c.surplus_among.result (λ some. just_spare c.args.held.now c.in-Just.want some c.args.self.now c.args.names.now c.in-Just.is) c.surplus_among.ensures
