-- What a form of keys must keep so that all laws of keys hold.
use Rattle.std.specs.Prelude.{◌≡◌, ℕ, ◌+◌, ◌*◌, ◌≤◌, true, List, ◌++◌, length}
use Rattle.std.specs.Ordering.{nat_cmp, int_cmp, ordering_then}
use Rattle.std.specs.Cmp.Lexicographic.{slice_cmp}
use Rattle.canonic_number.specs.Number.{is_canonic, value_at, value_of}
use Rattle.key_codec.specs.Key.{KeyForm}

-- (1) places compare as their bytes do, whatever follows; (2) the form's scale shows the order of values
pub record IsKeyForm (form : KeyForm) : Type 0 where
  pub places : (m n : ℕ) (u v : List ℕ) → m ≤ 2 * form.fraction + 3 → n ≤ 2 * form.fraction + 3 → slice_cmp nat_cmp (form.place_bytes m ++ u) (form.place_bytes n ++ v) ≡ ordering_then (nat_cmp m n) (slice_cmp nat_cmp u v)
  pub values : (x y : List ℕ) → is_canonic x ≡ true → is_canonic y ≡ true → length x ≤ form.fraction + 1 → length y ≤ form.fraction + 1 → int_cmp (value_of x) (value_of y) ≡ int_cmp (value_at form.fraction x) (value_at form.fraction y)
