-- What lies beside all at and under a reference.
use Rattle.std.proofs.Common.{◌≡◌, Bool, true, false, refl, ap, ◌∙◌}
use Rattle.std.specs.Prelude.{not, ◌&&◌}
use Rattle.std.specs.Ordering.{is_lt}
use Rattle.collation.specs.Reference.{Reference}
use Rattle.collation.specs.Order.{ref_cmp}
use Rattle.collation.specs.Database.{is_under}
use Rattle.collation.specs.Levels.{is_before}
use Rattle.globals.specs.laws.Cuts.{under_between}

and_false : (b : Bool) → (b && false) ≡ false
and_false true = refl
and_false false = refl

pub not_earlier : (p l : Bool) → (p ≡ true → l ≡ true) → not l ≡ true → p ≡ false
not_earlier true l earlier h = let is = earlier refl in absurd (cc)
not_earlier false l earlier h = refl

pub apart_before : (r x : Reference) → is_lt (ref_cmp x r) ≡ true → is_under r x ≡ false
apart_before r x h = under_between r x ∙ ap (λ b. not b && is_before true r x) h

pub apart_behind : (r x : Reference) → is_before true r x ≡ false → is_under r x ≡ false
apart_behind r x h = under_between r x ∙ ap (λ b. not (is_lt (ref_cmp x r)) && b) h ∙ and_false (not (is_lt (ref_cmp x r)))
