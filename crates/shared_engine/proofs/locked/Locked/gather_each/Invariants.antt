use Rattle.std.proofs.Common.{◌≡◌, ◌≤◌, ◌+◌, ◌++◌, length, take}
use Rattle.std.specs.Prelude.{vec_capacity}
use Rattle.journal.specs.History.{initial, after}
use Rattle.shared_engine.specs.Holds.{gets_on, values_on, served_of, AreTold}
use Rattle.shared_engine.proofs.locked.Locked.gather_each.Given as goal

-- those of the keys before this one are gathered behind the others, and what they are told lies there
abbrev pub invariant-loop-key : goal.invariant-loop-key
invariant-loop-key l = record {
  in_range : l.key-index ≤ length l.keys;
  job : l.gets.job ≡ l.fn.gets.job;
  gathered : l.gets.units ≡ l.fn.gets.units ++ gets_on l.fn.gets.job (after l.self.core.units initial).map (take l.key-index l.keys);
  told : AreTold l.told-inside.tags.items l.told-inside.values.items l.told-inside.answers.items;
  served : served_of l.told-inside.tags.items l.told-inside.values.items l.told-inside.answers.items ≡ l.fn.told.served ++ values_on (after l.self.core.units initial).map (take l.key-index l.keys);
  count : length l.told-inside.tags.items ≡ length l.initial.told-inside.tags.items + l.key-index;
  capacity : vec_capacity l.told-inside.tags ≡ vec_capacity l.initial.told-inside.tags;
  answers : (vec_capacity l.told-inside.answers ≡ vec_capacity l.initial.told-inside.answers);
}
