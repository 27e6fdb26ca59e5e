use Rattle.std.proofs.Common.{ap, sym, ◌∙◌, ◌≡◌, ◌++◌, length, take}
use Rattle.std.specs.Prelude.{List}
use Rattle.journal.specs.declared.unit.Unit.{Unit as JournalUnit}
use Rattle.journal.specs.Based.{database_of}
use Rattle.journal.specs.Dropped.{joined}
use Rattle.journal.specs.History.{initial, after}
use Rattle.journal.specs.Log.{Recorded}
use Rattle.journal.specs.laws.Adopted.{sorted_entries}
use Rattle.journal.proofs.Moves.{all_dropped}
use Rattle.journal.proofs.chronicle.Chronicle.checkpoint_all.Goals as goal

pub of_all-requires : goal.of_all-requires
of_all-requires c = sorted_entries c.args.nodes.items (after c.args.self.now.units initial).map c.requires.nodes

pub invariant_of-self : goal.invariant_of-self
invariant_of-self c =
    let s = c.self.inside in
    let past_is : joined c.with-past.result ≡ joined s.past ++ take (length s.log.units) s.log.units = c.with-past.ensures ∙ ap (λ k. joined s.past ++ take k s.log.units) c.len.ensures in
    (all_dropped s.base c.of_all.result (joined s.past) s.log.units (joined c.with-past.result) c.clear.new.self.units c.args.self.now.units c.args.nodes.items c.args.locks c.args.tallies c.self.invariant (ap (λ (k : Recorded). k.units) c.self.view_is)
    (c.of_all.ensures.number ∙ c.len-number.ensures) c.of_all.ensures.state c.of_all.ensures.tallies c.requires.nodes c.requires.locks c.requires.tallies past_is c.clear.ensures.units).0

pub returns-clause-units : goal.returns-clause-units
returns-clause-units c =
    let s = c.self.inside in
    let past_is : joined c.with-past.result ≡ joined s.past ++ take (length s.log.units) s.log.units = c.with-past.ensures ∙ ap (λ k. joined s.past ++ take k s.log.units) c.len.ensures in
    (all_dropped s.base c.of_all.result (joined s.past) s.log.units (joined c.with-past.result) c.clear.new.self.units c.args.self.now.units c.args.nodes.items c.args.locks c.args.tallies c.self.invariant (ap (λ (k : Recorded). k.units) c.self.view_is)
    (c.of_all.ensures.number ∙ c.len-number.ensures) c.of_all.ensures.state c.of_all.ensures.tallies c.requires.nodes c.requires.locks c.requires.tallies past_is c.clear.ensures.units).1
