use Rattle.std.proofs.Common.{◌≡◌, ◌-◌, length}
use Rattle.m_text.specs.Reading.{rest_of, some_at}
use Rattle.m_text.specs.Place.{subscript_at}
use Rattle.m_text.proofs.place.skip_list.Given as goal

-- the same follows the rest as the whole
abbrev pub invariant-subscripts : goal.invariant-subscripts
invariant-subscripts l = rest_of (some_at subscript_at 44 (length l.text - l.counter) l.rest) ≡ rest_of (some_at subscript_at 44 (length l.text) l.text)
