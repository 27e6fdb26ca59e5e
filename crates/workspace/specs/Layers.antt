-- What a transaction has written, and what it sees: its writes laid over a database.
-- Read Layer, laid_over, decides; the contracts of workspace and overlay_view cite these three.
use Rattle.std.specs.Prelude.{◌≡◌, Bool, true, false, not, ◌&&◌, ◌||◌, List, [], ◌++◌, Option, Some, None, refl}
use Rattle.std.specs.List.{list_any}
use Rattle.std.specs.FinMap as finmap
use Rattle.std.specs.FinMap.{FinMap}
use Rattle.std.specs.Coded.{Coded, code_by, coded×, coded_list}
use Rattle.collation.specs.Reference.{Reference}
use Rattle.collation.specs.Order.{ref_cmp, ref_eq}
use Rattle.collation.specs.Database.{Database, reference_code, database_code}
use Rattle.command.specs.Data.{takes}
use Rattle.command.specs.declared.access.Extent.{Extent}
use Rattle.command.specs.declared.access.Extent.TheVariants.{All, Value as ValueAlone, Below}
use Rattle.command.specs.contracts.access.Extent as e

-- the values that it set and didn't kill later, and the references that it killed, each with what it killed of it and its descendants
pub record Layer : Type 0 where
  pub written : Database
  pub killed : List (Reference × Extent)

abbrev pub layer_code : Coded Layer
layer_code =
    code_by (Database × List (Reference × Extent)) (coded× database_code (coded_list (coded× reference_code e.the_row.coded))) (λ w. (w.written, w.killed)) (λ p. record { written = p.0; killed = p.1 })
    (λ _. refl)

-- nothing is written and nothing killed
abbrev pub nothing_written : Layer
nothing_written = record { written = finmap.empty; killed = [] }

-- one of these kills takes x
abbrev pub is_killed : List (Reference × Extent) → Reference → Bool
is_killed ks x = list_any (λ k. takes k.1 k.0 x) ks

-- one of these kills, of another reference, takes x
abbrev pub is_covered : List (Reference × Extent) → Reference → Bool
is_covered ks x = list_any (λ k. takes k.1 k.0 x && not (ref_eq k.0 x)) ks

-- the database without what was killed, and over it the written values: where both have one, the written one counts
unfoldable pub laid_over : Layer → Database → Database
laid_over w m = finmap.from_entries (finmap.entries w.written ++ finmap.entries (finmap.retain_keys m (λ x. not (is_killed w.killed x))))

-- what x has doesn't depend on the database below
abbrev pub decides : Layer → Reference → Bool
decides w x = finmap.contains_key w.written x || is_killed w.killed x

-- no key is taken by the kill of another
pub record NoneUnderAnother (d : FinMap ref_cmp Extent) : Type 0 where
  pub apart : (r s : Reference) (extent : Extent) → finmap.get d r ≡ Some extent → finmap.contains_key d s ≡ true → takes extent r s ≡ true → r ≡ s

-- the kill of r takes x, all that it takes is killed, and no other kill takes r
pub record IsKiller (ks : List (Reference × Extent)) (x r : Reference) (extent : Extent) : Type 0 where
  pub above : takes extent r x ≡ true
  pub all : (y : Reference) → takes extent r y ≡ true → is_killed ks y ≡ true
  pub free : is_covered ks r ≡ false

-- ---- one more

-- two kills of one reference together
abbrev pub both : Extent → Extent → Extent
both All extent = All
both ValueAlone All = All
both ValueAlone ValueAlone = ValueAlone
both ValueAlone Below = All
both Below All = All
both Below ValueAlone = All
both Below Below = Below

-- the first takes all that the second takes
abbrev pub includes : Extent → Extent → Bool
includes All extent = true
includes ValueAlone All = false
includes ValueAlone ValueAlone = true
includes ValueAlone Below = false
includes Below All = false
includes Below ValueAlone = false
includes Below Below = true

abbrev pub joined : Option Extent → Extent → Extent
joined None extent = extent
joined (Some before) extent = both before extent

-- a reference is killed too, and those that this takes needn't be
abbrev pub with_killed : FinMap ref_cmp Extent → Reference → Extent → FinMap ref_cmp Extent
with_killed d r extent = finmap.retain_keys (finmap.insert d r (joined (finmap.get d r) extent)) (λ x. ref_eq x r || not (takes extent r x))
