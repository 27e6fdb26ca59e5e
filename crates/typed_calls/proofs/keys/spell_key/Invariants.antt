use Rattle.std.proofs.Common.{◌≡◌, [], None, length, take, drop}
use Rattle.collation.specs.Faults.{reference_fault}
use Rattle.key_codec.specs.Draft.{IsDraft}
use Rattle.typed_calls.specs.Spelled.{due_in_turn, texts_of}
use Rattle.typed_calls.proofs.keys.spell_key.Given as goal

-- the name and the subscripts so far are spelled, none is at fault, and what is due is what is due of the calls that are left
abbrev pub invariant-loop-text : goal.invariant-loop-text
invariant-loop-text l = record {
  draft : IsDraft l.draft (record { name = l.name; subscripts = texts_of (take l.text-index l.subscripts) });
  faultless : reference_fault (texts_of (take l.text-index l.subscripts)) ≡ None;
  counted : l.depth ≡ length (texts_of (take l.text-index l.subscripts));
  due : due_in_turn (record { name = l.name; subscripts = [] }) (texts_of l.subscripts) ≡ due_in_turn (record { name = l.name; subscripts = texts_of (take l.text-index l.subscripts) }) (texts_of (drop l.text-index l.subscripts));
}
