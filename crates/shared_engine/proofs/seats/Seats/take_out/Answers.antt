use Rattle.std.proofs.Common.{sym, ap, subst, ◌∙◌, ◌+◌, arith, length}
use Rattle.shared_engine.specs.Engines.{SameSessions, AreInPlace, sessions_in}
use Rattle.shared_engine.proofs.Lending.{lent_out}
use Rattle.shared_engine.proofs.seats.Seats.take_out.Goals as goal

pub returns-clause-place : goal.returns-clause-place
returns-clause-place c =
    let out = lent_out c.args.board.now.table _ _ _ _ _ _ (subst (SameSessions c.args.self.now) (sym c.self.view_is) c.in_ok-reach.ensures.same) (subst (AreInPlace c.args.board.now.table) (sym c.self.view_is) c.in_ok-reach.ensures.own.1) (omega (arith, c.number.ensures.value, c.number.ensures.low)) (omega (arith, c.in_ok-reach.ensures.reached, ap length c.self.view_is)) c.index_mut.ensures.value (sym c.take.ensures.value ∙ c.in-Some.is) in
    out.here

pub returns-clause-lent : goal.returns-clause-lent
returns-clause-lent c =
    let out = lent_out c.args.board.now.table _ _ _ _ _ _ (subst (SameSessions c.args.self.now) (sym c.self.view_is) c.in_ok-reach.ensures.same) (subst (AreInPlace c.args.board.now.table) (sym c.self.view_is) c.in_ok-reach.ensures.own.1) (omega (arith, c.number.ensures.value, c.number.ensures.low)) (omega (arith, c.in_ok-reach.ensures.reached, ap length c.self.view_is)) c.index_mut.ensures.value (sym c.take.ensures.value ∙ c.in-Some.is) in
    rw c.take.ensures.after out.lent

pub returns-clause-free : goal.returns-clause-free
returns-clause-free c =
    let out = lent_out c.args.board.now.table _ _ _ _ _ _ (subst (SameSessions c.args.self.now) (sym c.self.view_is) c.in_ok-reach.ensures.same) (subst (AreInPlace c.args.board.now.table) (sym c.self.view_is) c.in_ok-reach.ensures.own.1) (omega (arith, c.number.ensures.value, c.number.ensures.low)) (omega (arith, c.in_ok-reach.ensures.reached, ap length c.self.view_is)) c.index_mut.ensures.value (sym c.take.ensures.value ∙ c.in-Some.is) in
    out.free

pub returns-clause-one_more : goal.returns-clause-one_more
returns-clause-one_more c =
    let out = lent_out c.args.board.now.table c.args.self.now c.self.inside.places.items _ c.args.job _ _ (subst (SameSessions c.args.self.now) (sym c.self.view_is) c.in_ok-reach.ensures.same) (subst (AreInPlace c.args.board.now.table) (sym c.self.view_is) c.in_ok-reach.ensures.own.1) (omega (arith, c.number.ensures.value, c.number.ensures.low)) (omega (arith, c.in_ok-reach.ensures.reached, ap length c.self.view_is)) c.index_mut.ensures.value (sym c.take.ensures.value ∙ c.in-Some.is) in
    rw c.take.ensures.after (out.one_more ∙ ap (λ n. n + 1) (ap sessions_in c.self.view_is ∙ c.in_ok-reach.ensures.as_many))
