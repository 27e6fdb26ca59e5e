use Rattle.std.proofs.Common.{arith, ◌+◌}
use Rattle.shared_engine.proofs.Lending.{some_session}
use Rattle.shared_engine.proofs.locked.Locked.find_end.Goals as goal

pub returns-then-show_lent-clause-kept : goal.returns-then-show_lent-clause-kept
returns-then-show_lent-clause-kept c = λ shown. omega (arith, some_session c.args.self.now.seats (c.session.inside.pin.knows.place + 1) (c.show_lent.ensures.lent c.if-show_lent.true), c.requires.stands.ends)
