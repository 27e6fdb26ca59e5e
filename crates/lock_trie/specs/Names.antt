-- Beginnings of lock names.
use Rattle.std.specs.Prelude.{ℕ, ◌≡◌, Bool, true, ◌&&◌, nat_lt, length, take, IsSome}
use Rattle.std.specs.Bool.{beq}
use Rattle.std.specs.Coded.{Coded}
use Rattle.std.specs.FinMap as finmap
use Rattle.std.specs.FinMap.{FinMap}
use Rattle.collation.specs.Reference.{Resource}
use Rattle.collation.specs.Database.{is_under}
use Rattle.lock_name.specs.Locks.{resource_cmp}
use Rattle.lock_name.specs.contracts.lock.LockName as name

-- how a lock name is stored
abbrev pub resource_code : Coded Resource
resource_code = name.the_row.coded

-- its caret or none, its name and its first i subscripts
abbrev pub beginning : Resource → ℕ → Resource
beginning n i = record { has_caret = n.has_caret; reference = record { name = n.reference.name; subscripts = take i n.reference.subscripts } }

-- x is r or one of its descendants
abbrev pub is_at_or_under : Resource → Resource → Bool
is_at_or_under r x = beq r.has_caret x.has_caret && is_under r.reference x.reference

-- x is a shorter beginning of n
abbrev pub is_above : Resource → Resource → Bool
is_above n x = is_at_or_under x n && nat_lt (length x.reference.subscripts) (length n.reference.subscripts)

-- no name of the map is a shorter beginning of n
abbrev pub HasNoneAbove : {X : Type 0} → FinMap resource_cmp X → Resource → Type 0
HasNoneAbove m n = (x : Resource) → IsSome (finmap.get m x) → is_above n x ≡ true → ⊥

-- each that is one is at or above p too
abbrev pub HaveSameAbove : {X : Type 0} → FinMap resource_cmp X → Resource → Resource → Type 0
HaveSameAbove m n p = (x : Resource) → IsSome (finmap.get m x) → is_above n x ≡ true → is_at_or_under x p ≡ true
