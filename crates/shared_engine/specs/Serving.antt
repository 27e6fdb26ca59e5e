-- One step through the commands of a hold.
use Rattle.std.specs.Prelude.{◌≡◌, ◌+◌, ◌≤◌, List, [], ◌∷◌, ◌++◌}
use Rattle.command.specs.declared.access.DataCommand.{DataCommand}
use Rattle.command.specs.declared.request.Command.TheVariants.{Access}
use Rattle.command.specs.declared.request.Reply.{Reply}
use Rattle.journal.specs.declared.unit.Unit.{Unit as JournalUnit}
use Rattle.shared_engine.specs.Sessions.{Held}
use Rattle.shared_engine.specs.Blocks.{HasDone}
use Rattle.shared_engine.specs.Holds.{Asking, Telling}

-- the first of the commands left was done, and its reply is behind the others; there is room for those that follow
pub record HasServed (asked left : Asking) (told more : Telling) (units after : List JournalUnit) (old new : Held) : Type 0 where
  pub command : DataCommand
  pub reply : Reply
  pub first : asked.commands ≡ command ∷ left.commands
  pub done : HasDone (Access command) reply units after old new
  pub replied : more.served ≡ told.served ++ reply ∷ []
  pub room : more.room + 1 ≡ told.room
  pub spare : left.room ≡ asked.room
  pub answers : left.others + told.answers ≤ asked.others + more.answers
