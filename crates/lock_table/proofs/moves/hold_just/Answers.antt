use Rattle.lock_table.proofs.Kept.{just_kept}
use Rattle.lock_table.proofs.moves.hold_just.Goals as goal

pub returns-clause-kept : goal.returns-clause-kept
returns-clause-kept c = just_kept c.args.trie.now c.lower_in.new.trie c.args.job c.args.held.now c.replace-before.result c.replace-before.new.dest c.args.want c.replace-before.ensures.value c.replace-before.ensures.after c.requires.fewer c.requires.kept c.lower_in.ensures.lowered c.lower_in.ensures.reached
