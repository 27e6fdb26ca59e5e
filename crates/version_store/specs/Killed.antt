-- What is told of the pairs at and under a reference, before they are taken out.
use Rattle.std.specs.Prelude.{◌≡◌, Bool, true, false, ℕ, List}
use Rattle.collation.specs.Reference.{Reference}
use Rattle.collation.specs.Order.{ref_cmp}
use Rattle.btree.specs.Order.{without}
use Rattle.version_store.specs.declared.kill.Placed.{Placed}
use Rattle.version_store.specs.declared.kill.Placed.TheVariants.{Nothing, Itself, More}

-- one more, which is the reference itself or isn't
abbrev pub with_one : Placed → Bool → Placed
with_one Nothing true = Itself
with_one Nothing false = More
with_one Itself is_itself = More
with_one More is_itself = More

-- the second list is what is left of the first
abbrev pub Tells : Placed → Reference → List (Reference × ℕ) → List (Reference × ℕ) → Type 0
Tells Nothing r all left = left ≡ all
Tells Itself r all left = left ≡ without ref_cmp r all
Tells More r all left = Unit {0}
