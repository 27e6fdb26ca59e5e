-- The order of subscripts and of references.
use Rattle.std.specs.Prelude.{ℕ, Bool, ◌&&◌, nat_eq, List, ℤ, pos, if◌then◌else◌}
use Rattle.std.specs.declared.cmp.Ordering.{Ordering}
use Rattle.std.specs.Ordering.{nat_cmp, int_cmp, on, then_cmp}
use Rattle.std.specs.Cmp.Lexicographic.{slice_cmp, pointwise}
use Rattle.std.specs.Bool.{beq}
use Rattle.canonic_number.specs.Number.{is_canonic, value_of}
use Rattle.collation.specs.Reference.{Reference, Spot}

-- canonic numbers stand before other texts
abbrev pub class_of : List ℕ → ℕ
class_of s = if is_canonic s then 0 else 1

-- the value of a canonic number, and zero for another text
abbrev pub number_of : List ℕ → ℤ
number_of s = if is_canonic s then value_of s else pos 0

-- canonic numbers before other texts, numbers by value, and others by their bytes (of numbers of one value too, where they pass the limit)
unfoldable pub subscript_cmp : List ℕ → List ℕ → Ordering
subscript_cmp = then_cmp (on class_of nat_cmp) (then_cmp (on number_of int_cmp) (slice_cmp nat_cmp))

-- by the bytes of the names, and then by the lists of subscripts, a beginning first
unfoldable pub ref_cmp : Reference → Reference → Ordering
ref_cmp = then_cmp (on (λ r. r.name) (slice_cmp nat_cmp)) (on (λ r. r.subscripts) (slice_cmp subscript_cmp))

-- byte by byte
abbrev pub ref_eq : Reference → Reference → Bool
ref_eq x y = pointwise nat_eq x.name y.name && pointwise (pointwise nat_eq) x.subscripts y.subscripts

abbrev pub spot_eq : Spot → Spot → Bool
spot_eq p q = ref_eq p.reference q.reference && beq p.is_open q.is_open
