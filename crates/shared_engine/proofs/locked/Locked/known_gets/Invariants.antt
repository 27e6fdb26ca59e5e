use Rattle.std.proofs.Common.{◌≡◌, ◌≤◌, ◌+◌, length}
use Rattle.std.specs.Prelude.{vec_len, vec_capacity}
use Rattle.shared_engine.specs.Sessions.{and_receipts}
use Rattle.shared_engine.proofs.Knowing.{AreNoted}
use Rattle.shared_engine.proofs.locked.Locked.known_gets.Given as goal

-- the units of the receipts left stand behind those on the board, and there is room for their numbers
abbrev pub invariant-receipts : goal.invariant-receipts
invariant-receipts l = record {
  noted : AreNoted l.session-inside.state l.self.core.units l.receipts l.desk.knows.log l.session-inside.pin.knows l.session-inside.numbers.items (and_receipts l.fn.self.core.units l.gets.units l.fn.session.held);
  room : vec_len l.session-inside.numbers + length l.receipts ≤ vec_capacity l.session-inside.numbers;
  desk : l.desk.knows ≡ record l.fn.desk.knows { log = l.desk.knows.log };
  tables : (l.desk.table ≡ l.fn.desk.table) × (l.session-inside.pin.table ≡ l.fn.session.table);
}

abbrev pub decreases-receipts : goal.decreases-receipts
decreases-receipts l = length l.receipts
