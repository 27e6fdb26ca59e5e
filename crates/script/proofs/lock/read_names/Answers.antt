use Rattle.std.proofs.Common.{[]}
use Rattle.script.proofs.Naming.{names_closed, names_unclosed, names_refused, name_alone}
use Rattle.script.proofs.lock.read_names.Goals as goal

pub returns-in-Some-after : goal.returns-in-Some-after
returns-in-Some-after c =
    let read = c.in-Ok.ensures [] c.clear.ensures in
    (read.0, names_closed c.args.text.now c.in-Some.list.now c.in-Ok.rest.now c.in-Some-after.rest.now read.0 c.in-Some.ensures.0 c.in-Some.ensures.1 read.1 c.in-Some-after.ensures.0 c.in-Some-after.ensures.1, read.2)

pub returns-in-None-after : goal.returns-in-None-after
returns-in-None-after c =
    let read = c.in-Ok.ensures [] c.clear.ensures in
    names_unclosed c.args.text.now c.in-Some.list.now c.in-Ok.rest.now read.0 c.in-Some.ensures.0 c.in-Some.ensures.1 read.1 c.in-None-after.ensures

pub returns-in-Err : goal.returns-in-Err
returns-in-Err c = names_refused c.in-Err.refusal c.args.text.now c.in-Some.list.now c.in-Some.ensures.0 c.in-Some.ensures.1 (c.in-Err.ensures [] c.clear.ensures)

pub returns-in-None : goal.returns-in-None
returns-in-None c = name_alone c.read_name.new.names c.args.text.now c.read_name.result c.in-None.ensures (c.read_name.ensures [] c.clear.ensures)
