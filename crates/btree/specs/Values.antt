-- Pairs that lose their values.
use Rattle.std.specs.Prelude.{Bool, cond, map}
use Rattle.btree.specs.Branch.{Branch}
use Rattle.btree.specs.Stretch.{is_in_run}

-- a pair with the value that stands for none, if its key is not before one point and is before another. from and to are the points' tests
abbrev pub emptied : {K V : Type 0} → V → (K → Bool) → (K → Bool) → K × V → K × V
emptied none from to e = (e.0, cond (is_in_run from to e) none e.1)

-- a node without the values of such pairs
abbrev pub without_values : {K V : Type 0} → V → (K → Bool) → (K → Bool) → Branch K V → Branch K V
without_values none from to b = record { pairs = map (emptied none from to) b.pairs; height = b.height; count = b.count; sizes = b.sizes }
