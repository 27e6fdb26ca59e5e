use Rattle.std.proofs.Common.{◌≡◌, ◌≤◌, ◌++◌, drop}
use Rattle.std.specs.Vec.{vec_capacity}
use Rattle.std.specs.List.{flat_map}
use Rattle.key_codec.specs.Grown.{GoesOnFrom}
use Rattle.journal.specs.Format.{name_bytes}
use Rattle.journal.specs.Stored.{Each, FitsName}
use Rattle.journal.proofs.write.push_each.Given as goal

-- with the bytes of the names that are left it will be the whole, where those fit, all do, and what stood there still stands
abbrev pub invariant-loop-name : goal.invariant-loop-name
invariant-loop-name l =
    (l.bytes.items ++ flat_map name_bytes (drop l.name-index l.names) ≡ l.initial.bytes.items ++ flat_map name_bytes l.names) × (Each FitsName (drop l.name-index l.names) → Each FitsName l.names) × GoesOnFrom l.initial.bytes.items l.bytes.items × (vec_capacity l.initial.bytes ≤ vec_capacity l.bytes)
