use Rattle.serial.specs.laws.Standing.{lone_stands, locks_stand, stands_whole}
use Rattle.serial.proofs.runs.answers_stand_in_the_journal.Goals as goal

pub returns-clause-lone : goal.returns-clause-lone
returns-clause-lone c = lone_stands

pub returns-clause-locks : goal.returns-clause-locks
returns-clause-locks c = locks_stand

pub returns-clause-whole : goal.returns-clause-whole
returns-clause-whole c = stands_whole
