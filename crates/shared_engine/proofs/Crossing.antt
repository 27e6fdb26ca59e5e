-- What crosses threads, part by part: the search for the whole of a core ends at its limit.
use denote.RattleType.{RattleType}
use denote.Param.Send.{IsSend, IsSync, sendable, struct_send, struct_sync}
use denote.Struct.Declared.{shape}
use Rattle.std.proofs.Crossing as heap
use Rattle.std.proofs.MapsCrossing as maps
use Rattle.btree.proofs.node.Node.TheLaws.TheKnot as nodes
use Rattle.version_chain.proofs.version.Version.TheLaws.TheKnot as versions
use Rattle.journal.proofs.past.Past.TheLaws.TheKnot as past
use Rattle.journal.proofs.past.Adopted.TheSendSync as adopted
use Rattle.journal.proofs.before.Before.TheSendSync as before
use Rattle.journal.specs.contracts.base.Base as Base
use Rattle.journal.proofs.tallies.Tallies.TheSendSync as tallies
use Rattle.journal.proofs.log.Log.TheSendSync as log
use Rattle.journal.specs.contracts.list.Journal as Journal
use Rattle.lock_table.specs.contracts.table.LockTable as LockTable
use Rattle.lock_table.specs.contracts.table.LockTable.TheInside as LocksInside
use Rattle.lock_trie.specs.contracts.trie.LockTrie as LockTrie
use Rattle.lock_table.specs.contracts.counts.Counts as Counts
use Rattle.lock_table.specs.contracts.row.Row as Row
use Rattle.lock_name.proofs.lock.LockName.TheSendSync as lock_name
use Rattle.lock_trie.proofs.holders.Holders.TheSendSync as holders
use Rattle.key_codec.proofs.key.Key.TheSendSync as key
use Rattle.collation.proofs.text.Text.TheSendSync as text
use Rattle.cell_pool.proofs.pool.Pool.TheSendSync as pool
use Rattle.cell_pool.proofs.cell.Cell.TheSendSync as cell
use Rattle.version_store.proofs.near.Near.TheSendSync as near
use Rattle.version_store.specs.contracts.store.KeyedStore as KeyedStore
use Rattle.version_store.specs.contracts.store.KeyedStore.TheInside as StoreInside
use Rattle.job_core.specs.contracts.kernel.Core as Core
use Rattle.job_core.specs.contracts.passing.Passing as Passing
use Rattle.job_core.specs.contracts.state.JobState as JobState
use Rattle.workspace.specs.contracts.writes.Workspace as Workspace
use Rattle.shared_engine.specs.contracts.session.Session as Session
use Rattle.shared_engine.specs.contracts.session.Session.TheInside as SessionInside
use Rattle.shared_engine.specs.declared.name.BoardName.{Ghosts as BoardGhosts}
use Rattle.shared_engine.specs.contracts.inner.InnerSession as InnerSession
use Rattle.shared_engine.specs.contracts.inner.InnerSession.TheInside as InnerInside
use Rattle.shared_engine.specs.contracts.under.Under as Under
use Rattle.pin_board.proofs.board.Pin.TheSendSync as pin
use Rattle.pin_board.proofs.desk.Desk.TheSendSync as desk
use Rattle.pin_board.proofs.board.Board.TheSendSync as board
use Rattle.shared_engine.proofs.seats.Seats.TheSendSync as seats
use Rattle.shared_engine.specs.contracts.locked.Locked as Locked
use Rattle.shared_engine.proofs.adaptive.AdaptiveLock.TheSendSync as adaptive
use Rattle.shared_engine.specs.contracts.shared.Shared as Shared
use Rattle.job_core.specs.contracts.kernel.Core.TheInside as Inside

pub store_send : IsSend KeyedStore.the_row
store_send = search (heap.crosses, nodes.crosses, versions.crosses, key.the_send, key.the_sync, text.the_send, text.the_sync, pool.the_send, pool.the_sync, cell.the_send, cell.the_sync, near.the_send, near.the_sync, sendable) depth 60 fits 20000

pub store_sync : IsSync KeyedStore.the_row
store_sync =
    let c = struct_sync (shape StoreInside.the_type) (
      search (heap.crosses, nodes.crosses, key.the_sync, sendable) depth 60 fits 20000,
      (
        search (heap.crosses, versions.crosses, text.the_send, text.the_sync, pool.the_sync, cell.the_sync, sendable) depth 60 fits 20000,
        (search sendable, (search sendable, (search (heap.crosses, key.the_sync, sendable) depth 60, (search (near.the_sync, sendable) depth 60, (search sendable depth 60, (search sendable, tt)))))),
      ),
    ) in
    record { shared = λ d b o κ x. (c.shared (StoreInside.the_type.to x.0) b o κ, tt) }

names_send : IsSend LockTrie.the_row
names_send = search (heap.crosses, nodes.crosses, holders.the_send, holders.the_sync, lock_name.the_send, lock_name.the_sync, sendable) depth 60 fits 20000

names_sync : IsSync LockTrie.the_row
names_sync = search (heap.crosses, nodes.crosses, holders.the_send, holders.the_sync, lock_name.the_send, lock_name.the_sync, sendable) depth 60 fits 20000

counts_send : IsSend Counts.the_row
counts_send = search (heap.crosses, nodes.crosses, lock_name.the_send, lock_name.the_sync, sendable) depth 60 fits 20000

counts_sync : IsSync Counts.the_row
counts_sync = search (heap.crosses, nodes.crosses, lock_name.the_send, lock_name.the_sync, sendable) depth 60 fits 20000

row_send : IsSend Row.the_row
row_send = search (heap.crosses, counts_send, counts_sync, sendable) depth 60 fits 20000

row_sync : IsSync Row.the_row
row_sync = search (heap.crosses, counts_send, counts_sync, sendable) depth 60 fits 20000

locks_send : IsSend LockTable.the_row
locks_send =
    let c = struct_send (shape LocksInside.the_type) (search (heap.crosses, maps.crosses, row_send, sendable) depth 60, (names_send, (search (heap.crosses, sendable) depth 60, tt))) in
    record { owned = λ d vs x. (c.owned (LocksInside.the_type.to x.0) vs, tt); leaving = λ k d w. tt }

locks_sync : IsSync LockTable.the_row
locks_sync =
    let c = struct_sync (shape LocksInside.the_type) (search (heap.crosses, maps.crosses, row_sync, sendable) depth 60, (names_sync, (search (heap.crosses, sendable) depth 60, tt))) in
    record { shared = λ d b o κ x. (c.shared (LocksInside.the_type.to x.0) b o κ, tt) }

base_send : IsSend Base.the_row
base_send = search (heap.crosses, locks_send, tallies.the_send, key.the_send, text.the_send, sendable) depth 60 fits 20000

base_sync : IsSync Base.the_row
base_sync = search (heap.crosses, locks_sync, tallies.the_sync, key.the_sync, text.the_sync, sendable) depth 60 fits 20000

pub journal_send : IsSend Journal.the_row
journal_send = search (heap.crosses, past.crosses, adopted.the_send, adopted.the_sync, before.the_send, before.the_sync, base_send, base_sync, log.the_send, log.the_sync, sendable) depth 60 fits 20000

pub journal_sync : IsSync Journal.the_row
journal_sync = search (heap.crosses, past.crosses, before.the_send, before.the_sync, base_sync, log.the_sync, sendable) depth 60 fits 20000

passing_send : IsSend Passing.the_row
passing_send = search (heap.crosses, key.the_send, sendable) depth 60 fits 20000

passing_sync : IsSync Passing.the_row
passing_sync = search (heap.crosses, key.the_sync, sendable) depth 60 fits 20000

pub core_send : IsSend Core.the_row
core_send =
    let c = struct_send (shape Inside.the_type) (search (heap.crosses, sendable) depth 60, (store_send, (journal_send, (locks_send, (passing_send, tt))))) in
    record { owned = λ d vs x. (c.owned (Inside.the_type.to x.0) vs, tt); leaving = λ k d w. tt }

pub core_sync : IsSync Core.the_row
core_sync =
    let c = struct_sync (shape Inside.the_type) (search (heap.crosses, sendable) depth 60, (store_sync, (journal_sync, (locks_sync, (passing_sync, tt))))) in
    record { shared = λ d b o κ x. (c.shared (Inside.the_type.to x.0) b o κ, tt) }

workspace_send : IsSend Workspace.the_row
workspace_send = search (heap.crosses, nodes.crosses, key.the_send, key.the_sync, text.the_send, text.the_sync, sendable) depth 60 fits 20000

pub state_send : IsSend JobState.the_row
state_send = search (heap.crosses, workspace_send, key.the_send, key.the_sync, text.the_send, text.the_sync, sendable) depth 60 fits 20000

pub inner_send : IsSend InnerSession.the_row
inner_send =
    let c = struct_send (shape InnerInside.the_type) (state_send, (pin.the_send, (search (heap.crosses, sendable) depth 60, tt))) in
    record { owned = λ d vs x. (c.owned (InnerInside.the_type.to x.0) vs, tt); leaving = λ k d w. tt }

pub session_send : (B : RattleType) (g : BoardGhosts B.Denot) → IsSend (Session.the_row B g)
session_send B g =
    let c = struct_send (shape (SessionInside.the_type B g)) (inner_send, (search sendable, tt)) in
    record { owned = λ d vs x. (c.owned ((SessionInside.the_type B g).to x.0) vs, tt); leaving = λ k d w. tt }

pub locked_send : IsSend (Locked.the_field).row
locked_send = struct_send (shape Locked.the_type) (seats.the_send, (search sendable, (search sendable, (search sendable depth 60, (core_send, tt)))))

pub locked_sync : IsSync (Locked.the_field).row
locked_sync = struct_sync (shape Locked.the_type) (seats.the_sync, (search sendable, (search sendable, (search sendable depth 60, (core_sync, tt)))))

under_send : (B : RattleType) (g : BoardGhosts B.Denot) → IsSend (Under.the_row B g)
under_send B g =
    let c = struct_send (shape (Under.the_type B g)) (search sendable, (locked_send, (desk.the_send, (search sendable, tt)))) in
    record { owned = λ d vs. c.owned ((Under.the_type B g).to d) vs; leaving = λ k d w. c.leaving k ((Under.the_type B g).to d) w }

under_sync : (B : RattleType) (g : BoardGhosts B.Denot) → IsSync (Under.the_row B g)
under_sync B g =
    let c = struct_sync (shape (Under.the_type B g)) (search sendable, (locked_sync, (desk.the_sync, (search sendable, tt)))) in
    record { shared = λ d b o κ. c.shared ((Under.the_type B g).to d) b o κ }

pub shared_sync : (B : RattleType) (g : BoardGhosts B.Denot) → IsSync (Shared.the_row B g)
shared_sync B g =
    let c = struct_sync (shape (Shared.the_type B g)) (board.the_sync, (adaptive.the_field_sync (Under.the_row B g) (under_send B g) (under_sync B g), tt)) in
    record { shared = λ d b o κ. c.shared ((Shared.the_type B g).to d) b o κ }
