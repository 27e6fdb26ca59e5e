use Rattle.lock_trie.proofs.Recounting.{settled_put, settled_gone, replaced, none_of, some_of}
use Rattle.lock_trie.proofs.trie.settle.Goals as goal

pub returns-then-is_empty : goal.returns-then-is_empty
returns-then-is_empty c = settled_gone c.args.map.now c.remove.new.self c.args.name.now c.args.holders c.remove.ensures.map (none_of c.args.holders c.is_empty.result c.is_empty.ensures c.if-is_empty.true)

pub returns-else-is_empty : goal.returns-else-is_empty
returns-else-is_empty c =
    settled_put c.args.map.now c.replace.new.self c.args.name.now c.args.holders (replaced c.replace.result c.args.map.now c.replace.new.self c.args.name.now c.args.holders c.requires c.replace.ensures.map c.replace.ensures.missed)
    (some_of c.args.holders c.is_empty.result c.is_empty.ensures c.if-is_empty.false)
