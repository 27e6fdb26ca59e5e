use Rattle.std.proofs.Common.{List, ℕ, subst, []}
use Rattle.key_codec.specs.Draft.{IsDraft}
use Rattle.m_text.proofs.Drafted.{list_closed, list_unclosed, list_refused, no_list}
use Rattle.m_text.proofs.place.read_subscripts.Goals as goal

pub returns-in-Some-after : goal.returns-in-Some-after
returns-in-Some-after c = λ r is none.
    let read = c.in-Ok.ensures r is in
    (read.0, list_closed c.args.text.now c.in-Some.list.now c.in-Ok.rest.now c.in-Some-after.rest.now r.subscripts read.0 c.in-Some.ensures.0 c.in-Some.ensures.1 none read.1 c.in-Some-after.ensures.0 c.in-Some-after.ensures.1, read.2)

pub returns-in-None-after : goal.returns-in-None-after
returns-in-None-after c = λ r is none.
    let read = c.in-Ok.ensures r is in
    list_unclosed c.args.text.now c.in-Some.list.now c.in-Ok.rest.now r.subscripts read.0 c.in-Some.ensures.0 c.in-Some.ensures.1 none read.1 c.in-None-after.ensures

pub returns-in-Err : goal.returns-in-Err
returns-in-Err c = λ r is none. list_refused c.in-Err.refusal c.args.text.now c.in-Some.list.now r.subscripts c.in-Some.ensures.0 c.in-Some.ensures.1 none (c.in-Err.ensures r is)

pub returns-in-None : goal.returns-in-None
returns-in-None c = λ r is none. ([], no_list c.args.text.now c.in-None.ensures, subst (λ (ss : List (List ℕ)). IsDraft c.args.draft.now (record { name = r.name; subscripts = ss })) none is)
