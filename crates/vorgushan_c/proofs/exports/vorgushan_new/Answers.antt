use Rattle.std.proofs.Common.{rules}
use Rattle.vorgushan_c.proofs.Called.{made_new}
use Rattle.vorgushan_c.proofs.exports.vorgushan_new.Goals as goal

pub returns-in-Ok : goal.returns-in-Ok
returns-in-Ok c = made_new _ _ _ c.new.result (search rules) (search rules) c.new.ensures.core c.new.ensures.last c.new.ensures.listed c.new.ensures.journal_place (search rules)
