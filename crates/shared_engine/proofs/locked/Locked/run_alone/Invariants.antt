use Rattle.std.proofs.Common.{◌≡◌, ◌≢◌, ◌≤◌, ◌+◌, length, vec_capacity}
use Rattle.std.specs.List.{All}
use Rattle.std.specs.Vec.Iter.{into_iter_items}
use Rattle.command.specs.declared.request.Command.{Command}
use Rattle.command.specs.declared.request.Command.TheVariants.{Halt}
use Rattle.shared_engine.specs.Blocks.{AreHad}
use Rattle.shared_engine.specs.Engines.{IsLocked}
use Rattle.shared_engine.specs.Writes.{IsAlone}
use Rattle.shared_engine.proofs.Blocks.{IsSoFar}
use Rattle.shared_engine.proofs.locked.Locked.run_alone.Given as goal

-- what is in front of the rest was done, no LOCK was blocked that has to have its names, nobody touched anything since
-- the transaction's start, there is room for the replies to come,
-- and what lies under the lock goes with the desk
abbrev pub invariant-block : goal.invariant-block
invariant-block l = record {
  so_far : IsSoFar l.fn.block.items (into_iter_items l.command-iterator) l.replies.items l.fn.self.core.units l.self.core.units l.fn.session.held l.session.held;
  had : AreHad l.fn.musts l.replies.items;
  alone : IsAlone l.session.held l.self.core.units;
  seen : l.session.held.seen ≡ l.self.core.units;
  goes_on : All (λ (c : Command). c ≢ Halt) (into_iter_items l.command-iterator);
  room : length l.replies.items + length (into_iter_items l.command-iterator) ≤ vec_capacity l.replies;
  opened : l.desk.knows.given ≡ l.fn.desk.knows.given;
  tables : (l.desk.table ≡ l.fn.desk.table) × (l.session.table ≡ l.fn.session.table);
  stands : IsLocked l.self.core l.desk l.self.seats l.self.horizon l.self.opened;
  seats : l.self.seats ≡ l.fn.self.seats;
}
