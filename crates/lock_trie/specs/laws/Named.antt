-- Lock names in their order.
use Rattle.std.specs.Prelude.{◌≡◌, true}
use Rattle.std.proofs.Common.{ap}
use Rattle.std.specs.declared.cmp.Ordering.TheVariants.{Less}
use Rattle.std.specs.Ordering.{is_lt}
use Rattle.collation.specs.Reference.{Resource}
use Rattle.lock_name.specs.Locks.{resource_cmp}
use Rattle.collation.specs.laws.Order.{is_less}
use Rattle.lock_name.specs.laws.Counting.{resource_cmp_total}

-- what comes before a name that stands before a point stands before it too
pub before_earlier : (p x y : Resource) → resource_cmp x y ≡ Less → is_lt (resource_cmp y p) ≡ true → is_lt (resource_cmp x p) ≡ true
before_earlier p x y l h = ap is_lt (resource_cmp_total.trans x y p l (is_less _ h))
