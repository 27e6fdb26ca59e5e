use Rattle.std.proofs.Common.{◌∙◌, ◌++◌, ap, length-append, arith}
use Rattle.shared_engine.specs.Sessions.{Held, knowing}
use Rattle.shared_engine.specs.laws.Prefixes.{begins_through}
use Rattle.shared_engine.proofs.Knowing.{asked_on, some_on}
use Rattle.shared_engine.proofs.shared.Shared.read_ahead.Goals as goal

pub pieces-preserved : goal.pieces-preserved
pieces-preserved g c =
    let was = c.pieces.invariant in
    let h = c.in_ok-gather_on.ensures in
    let before = was.done.0 in
    let left = c.pieces.left.now in
    let piece = c.split_at.result.0.now in
    let behind = c.split_at.result.1.now in
    let seen = c.gather_on.new.session.held.seen in
    let split = c.split_at.ensures.by_index.0 in
    record {
      own = h.table ∙ was.own;
      same = h.same ∙ ap (λ (s : Held). knowing seen s) was.same;
      goes_on = begins_through seen c.pieces.session.held.seen c.args.session.now.held.seen h.goes_on was.goes_on;
      done = (
        before ++ piece,
        asked_on _ before left piece behind split was.done.1,
        some_on before left piece behind split was.done.2,
        h.gathered c.args.session.now.held.state.work.job before was.done.3,
        omega (arith, h.room, was.done.4, length-append before piece),
      );
    }
