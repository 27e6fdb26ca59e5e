use Rattle.std.proofs.Common.{sym, ap, ◌∙◌}
use Rattle.std.specs.Prelude.{cond}
use Rattle.lock_name.specs.Locks.{more_of}
use Rattle.lock_table.proofs.Rows.{undone}
use Rattle.lock_table.proofs.Kept.{kept_again, borne_by, held_fits, kept_more, kept_undone, roomy}
use Rattle.lock_table.proofs.moves.hold_more.Goals as goal

pub returns-then-have_room-clause-allowed : goal.returns-then-have_room-clause-allowed
returns-then-have_room-clause-allowed c = roomy c.args.held.now c.args.names.now c.look.ensures (c.have_room.ensures c.if-have_room.true)

pub returns-then-not-had-2-clause-ok : goal.returns-then-not-had-2-clause-ok
returns-then-not-had-2-clause-ok c = undone c.args.held.now c.add_all.new.self c.take_all.new.self c.args.names.now (let a = c.look.ensures in a.some) c.in-Ok.ensures.ok c.take_all.ensures ∙ ap (λ b. cond b (more_of c.args.names.now c.args.held.now) c.args.held.now) (sym c.if-not-had-2.true)

pub returns-then-not-had-2-clause-kept : goal.returns-then-not-had-2-clause-kept
returns-then-not-had-2-clause-kept c = kept_again c.args.trie.now c.args.job c.args.held.now c.take_all.new.self (undone c.args.held.now c.add_all.new.self c.take_all.new.self c.args.names.now (let a = c.look.ensures in a.some) c.in-Ok.ensures.ok c.take_all.ensures) c.requires

pub returns-then-not-had-2-clause-allowed : goal.returns-then-not-had-2-clause-allowed
returns-then-not-had-2-clause-allowed c = borne_by c.args.held.now c.add_all.new.self c.args.names.now c.in-Ok.ensures.ok c.look-2.ensures

pub add_names-requires : goal.add_names-requires
add_names-requires c = held_fits c.args.trie.now c.args.job c.args.held.now c.args.names.now c.requires (borne_by c.args.held.now c.add_all.new.self c.args.names.now c.in-Ok.ensures.ok c.look-2.ensures)

pub returns-in-Ok-add_names-clause-kept : goal.returns-in-Ok-add_names-clause-kept
returns-in-Ok-add_names-clause-kept c = kept_more c.args.trie.now c.add_names.new.trie c.args.job c.args.held.now c.add_all.new.self c.args.names.now c.in-Ok.ensures.ok c.requires c.in-Ok-add_names.ensures.ok

pub returns-in-Ok-add_names-clause-allowed : goal.returns-in-Ok-add_names-clause-allowed
returns-in-Ok-add_names-clause-allowed c = borne_by c.args.held.now c.add_all.new.self c.args.names.now c.in-Ok.ensures.ok c.look-2.ensures

pub returns-in-Err-add_names-clause-err : goal.returns-in-Err-add_names-clause-err
returns-in-Err-add_names-clause-err c = undone c.args.held.now c.add_all.new.self c.take_all-in-Err-add_names.new.self c.args.names.now (let a = c.look.ensures in a.some) c.in-Ok.ensures.ok c.take_all-in-Err-add_names.ensures

pub returns-in-Err-add_names-clause-kept : goal.returns-in-Err-add_names-clause-kept
returns-in-Err-add_names-clause-kept c = kept_undone c.args.trie.now c.add_names.new.trie c.args.job c.args.held.now c.take_all-in-Err-add_names.new.self (undone c.args.held.now c.add_all.new.self c.take_all-in-Err-add_names.new.self c.args.names.now (let a = c.look.ensures in a.some) c.in-Ok.ensures.ok c.take_all-in-Err-add_names.ensures)
    c.requires c.in-Err-add_names.ensures.err
