use Rattle.std.proofs.Common.{arith, sym, ap, ◌-◌, take, drop}
use Rattle.std.proofs.lemmas.List.{take-append-drop}
use Rattle.collation.specs.Changes.{changed}
use Rattle.journal.specs.Based.{map_in}
use Rattle.journal.specs.Dropped.{joined}
use Rattle.journal.specs.Log.{Recorded}
use Rattle.journal.proofs.Moves.{checked, leads_on}
use Rattle.journal.proofs.chronicle.Chronicle.checkpoint.Goals as goal

pub keep_rest-requires-clause-rest : goal.keep_rest-requires-clause-rest
keep_rest-requires-clause-rest c =
    let k = c.args.number - c.number.result in
    let us = c.begin.new.self.units in
    (take k us, drop k us, (sym (take-append-drop k us), c.in_ok-rest.ensures.rest))

pub invariant_of-self-2 : goal.invariant_of-self-2
invariant_of-self-2 c =
    let s = c.self.inside in
    let new = c.move_on.new.self in
    let told = c.in_ok-rest.ensures in
    (checked s.base new c.args.number (c.args.number - c.number.result) c.in_ok-rest.rest.left (joined s.past) (joined c.with-past.result) s.log.units c.begin.new.self.units c.keep_rest.new.self.units c.args.self.now.units (changed c.args.changes.items (map_in s.base)) c.in_ok-rest.rest.bytes.items
    c.self.invariant (ap (λ b. c.args.number - b) c.number.ensures) (omega (arith, c.requires.from, ap (λ (k : Recorded). k.base) c.self.view_is)) c.requires.to (ap (λ (k : Recorded). k.units) c.self.view_is)
    (leads_on s.base c.args.changes.items c.args.number c.args.self.now (joined s.past) s.log.units c.self.invariant (ap (λ (k : Recorded). k.base) c.self.view_is) (ap (λ (k : Recorded). k.units) c.self.view_is) c.requires.changes) c.begin.ensures.units
    (record { number = told.number; state = told.state; tallies = told.tallies }) c.with-past.ensures told.rest c.keep_rest.ensures.units).keeps

pub returns-clause-units : goal.returns-clause-units
returns-clause-units c =
    let s = c.self.inside in
    let new = c.move_on.new.self in
    let told = c.in_ok-rest.ensures in
    (checked s.base new c.args.number (c.args.number - c.number.result) c.in_ok-rest.rest.left (joined s.past) (joined c.with-past.result) s.log.units c.begin.new.self.units c.keep_rest.new.self.units c.args.self.now.units (changed c.args.changes.items (map_in s.base)) c.in_ok-rest.rest.bytes.items
    c.self.invariant (ap (λ b. c.args.number - b) c.number.ensures) (omega (arith, c.requires.from, ap (λ (k : Recorded). k.base) c.self.view_is)) c.requires.to (ap (λ (k : Recorded). k.units) c.self.view_is)
    (leads_on s.base c.args.changes.items c.args.number c.args.self.now (joined s.past) s.log.units c.self.invariant (ap (λ (k : Recorded). k.base) c.self.view_is) (ap (λ (k : Recorded). k.units) c.self.view_is) c.requires.changes) c.begin.ensures.units
    (record { number = told.number; state = told.state; tallies = told.tallies }) c.with-past.ensures told.rest c.keep_rest.ensures.units).whole

pub keep_rest-requires-clause-room : goal.keep_rest-requires-clause-room
keep_rest-requires-clause-room c = c.in_ok-rest.ensures.room
