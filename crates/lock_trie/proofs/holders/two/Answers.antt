use Rattle.lock_trie.proofs.Single.{two_counted}
use Rattle.lock_trie.proofs.holders.two.Goals as goal

pub returns-clause-count : goal.returns-clause-count
returns-clause-count c = two_counted c.boxed.result c.none-several.result c.add.new.self c.add-2.new.self c.args.held c.args.count c.args.job c.args.n c.none-several.ensures c.in_ok-add.ensures.ok c.in_ok-add-2.ensures.ok c.boxed.ensures
