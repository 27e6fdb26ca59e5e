use Rattle.std.proofs.Common.{sym, ltb-true, ltb-false}
use Rattle.globals.proofs.Runs.{same_at, same_none}
use Rattle.globals.proofs.run.Run.node.Goals as goal

pub returns-in-Some : goal.returns-in-Some
returns-in-Some c =
    same_at c.self.inside.places.items c.deref.result.now c.args.self.now c.args.index c.in-Some.place.now c.self.invariant c.self.view_is c.deref.ensures.0
    (ltb-true _ _ (sym c.in-Some.ensures.lookup.0)) c.in-Some.ensures.lookup.1

pub returns-in-None : goal.returns-in-None
returns-in-None c =
    same_none c.self.inside.places.items c.deref.result.now c.args.self.now c.args.index c.self.invariant c.self.view_is c.deref.ensures.0 (ltb-false _ _ (sym c.in-None.ensures.lookup.0))
