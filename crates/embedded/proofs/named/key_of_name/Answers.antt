use Rattle.embedded.proofs.named.key_of_name.Goals as goal

pub returns-clause-ok : goal.returns-clause-ok
returns-clause-ok c = c.key.ensures.ok _ c.in_ok-begin.ensures

pub returns-clause-err : goal.returns-clause-err
returns-clause-err c = c.key.ensures.err _ c.in_ok-begin.ensures
