-- A range of one reference has that reference alone.
use Rattle.std.proofs.Common.{◌≡◌, Bool, true, false, [], refl, sym, ◌∙◌}
use Rattle.std.specs.Prelude.{◌&&◌, None}
use Rattle.collation.specs.Reference.{Reference}
use Rattle.collation.specs.Order.{ref_eq}
use Rattle.collation.specs.laws.Order.{ref_eq_decides}
use Rattle.command.specs.declared.access.Answer.TheVariants.{Value}
use Rattle.serial.specs.laws.ReadRanges.{reads_range}
use Rattle.read_ranges.specs.declared.range.ReadRange.TheVariants.{One}
use Rattle.read_ranges.specs.Ranges.{is_in}

and_true : (b : Bool) → (b && true) ≡ b
and_true true = refl
and_true false = refl

pub one_alone : (k x : Reference) → ref_eq x k ≡ is_in (One k) x
one_alone k x = let law = reads_range (λ _. false) x in sym (and_true (ref_eq x k)) ∙ law.get_of k None (Value []) refl

pub one_has : (k : Reference) → is_in (One k) k ≡ true
one_has k = sym (one_alone k k) ∙ (ref_eq_decides k k).1 refl

pub only_one : (k x : Reference) → is_in (One k) x ≡ true → x ≡ k
only_one k x inside = (ref_eq_decides x k).0 (one_alone k x ∙ inside)
