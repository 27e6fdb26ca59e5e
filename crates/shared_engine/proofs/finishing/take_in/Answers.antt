use Rattle.std.proofs.Common.{◌++◌, ◌∷◌, [], sym, ap, subst}
use Rattle.shared_engine.specs.Receipts.{Book}
use Rattle.shared_engine.specs.Engines.{IsDue}
use Rattle.shared_engine.proofs.Closing.{due_step}
use Rattle.shared_engine.proofs.finishing.take_in.Goals as goal

pub returns-clause-due : goal.returns-clause-due
returns-clause-due c = λ all rest d.
    rw (ap (λ w. w.back) c.return_slip.ensures.knows, ap (λ w. w.known) c.return_slip.ensures.knows)
    (due_step all rest _ _ c.args.tally.now.knows.back c.pass.inside.slip.knows.mine c.args.tally.now.knows.known c.pass.inside.slip.knows.known c.pass.invariant.book
    (subst (λ (b : Book). IsDue all (rest ++ b ∷ []) c.args.tally.now.knows.back c.args.tally.now.knows.known) (sym (ap (λ p. p.book) c.pass.view_is)) d))
