use Rattle.std.proofs.Common.{[], ◌++◌, ◌∷◌}
use Rattle.script.proofs.Naming.{name_after, no_name}
use Rattle.script.proofs.lock.read_name.Goals as goal

pub returns-in_ok-push-in-Ok : goal.returns-in_ok-push-in-Ok
returns-in_ok-push-in-Ok c = λ ns named.
    let read = c.in-Ok.ensures in
    let split = c.split_caret-has_caret in
    (ns ++ record { has_caret = split.result.0; reference = read.0 } ∷ [], name_after c.args.text.now split.result.1.now c.in-Ok.rest.now split.result.0 read.0 ns split.ensures.caret split.ensures.rest read.1, c.in_ok-push-in-Ok.ensures ns read.0 named read.2)

pub returns-in-Err : goal.returns-in-Err
returns-in-Err c = λ ns named. no_name c.in-Err.refusal c.args.text.now c.split_caret-has_caret.result.1.now ns c.split_caret-has_caret.ensures.rest c.in-Err.ensures
