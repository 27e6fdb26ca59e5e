use Rattle.std.proofs.Common.{arith, refl, sym, ◌∙◌, subst, ◌-◌, ◌<◌, length, List}
use Rattle.journal.specs.declared.unit.Unit.{Unit as JournalUnit}
use Rattle.journal.proofs.Logs.{reads, never_unread, stands_empty, none_in, shorter, some_left, fewer_left}
use Rattle.journal.proofs.units.UnitsIterator.next.Goals as goal

pub invariant_of-self : goal.invariant_of-self
invariant_of-self c =
    let h = reads c.self.inside.bytes.now c.in-Ok.rest.now c.self.inside.left (c.self.inside.left - 1) c.in-Ok.unit c.self.invariant (omega arith) c.in-Ok.ensures.some in
    h.stands

pub invariant_of-self-in-Err-Memory : goal.invariant_of-self-in-Err-Memory
invariant_of-self-in-Err-Memory c = stands_empty _ refl

pub unreachable-requires : goal.unreachable-requires
unreachable-requires c = never_unread c.self.inside.bytes.now c.self.inside.left (c.self.inside.left - 1) c.self.invariant (omega arith) (c.in-Err-Form.ensures.none c.in-Err-Form.field-0-is)

pub returns-in-Ok-clause-steps : goal.returns-in-Ok-clause-steps
returns-in-Ok-clause-steps c =
    let h = reads c.self.inside.bytes.now c.in-Ok.rest.now c.self.inside.left (c.self.inside.left - 1) c.in-Ok.unit c.self.invariant (omega arith) c.in-Ok.ensures.some in
    sym c.self.view_is ∙ h.units

pub returns-in-Ok-clause-goes : goal.returns-in-Ok-clause-goes
returns-in-Ok-clause-goes c =
    let h = reads c.self.inside.bytes.now c.in-Ok.rest.now c.self.inside.left (c.self.inside.left - 1) c.in-Ok.unit c.self.invariant (omega arith) c.in-Ok.ensures.some in
    let less = shorter _ _ _ (sym c.self.view_is ∙ h.units) in
    record { on = λ _. (tt, tt, less); keeps = tt; rests = λ _. tt }

pub returns-in-Err-Memory-clause-steps : goal.returns-in-Err-Memory-clause-steps
returns-in-Err-Memory-clause-steps c =
    let some = some_left c.self.inside.bytes.now c.self.inside.left (c.self.inside.left - 1) c.self.invariant (omega arith) in
    (subst (λ (us : List JournalUnit). 0 < length us) c.self.view_is some, none_in _)

pub returns-in-Err-Memory-clause-goes : goal.returns-in-Err-Memory-clause-goes
returns-in-Err-Memory-clause-goes c =
    let some = some_left c.self.inside.bytes.now c.self.inside.left (c.self.inside.left - 1) c.self.invariant (omega arith) in
    let less = subst (λ (us : List JournalUnit). 0 < length us) c.self.view_is some in
    record { on = λ _. (tt, tt, fewer_left _ _ less); keeps = tt; rests = λ _. tt }
