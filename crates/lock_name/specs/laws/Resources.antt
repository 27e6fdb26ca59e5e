-- Only equal resources tie.
use Rattle.std.specs.Prelude.{◌≡◌, Bool, true, false}
use Rattle.std.proofs.Common.{refl, ap, subst}
use Rattle.std.specs.Bool.{beq, Decides}
use Rattle.std.specs.Cmp.{first_so, second_so, IsEquivalence, and_equiv, on_equiv, bool_eq_equiv}
use Rattle.std.specs.Ordering.{eq_by_cmp}
use Rattle.std.proofs.lemmas.Bool.{and_from}
use Rattle.collation.specs.Reference.{Resource}
use Rattle.collation.specs.laws.Order.{ref_eq_decides, ties_of, ref_eq_laws}
use Rattle.lock_name.specs.Locks.{resource_cmp, resource_eq}
use Rattle.lock_name.specs.laws.Counting.{resource_cmp_total, resource_cmp-IsAntisymmetric}

pub resource_eq_laws : IsEquivalence resource_eq
resource_eq_laws = and_equiv (on_equiv (λ n. n.has_caret) bool_eq_equiv) (on_equiv (λ n. n.reference) ref_eq_laws)

beq_same : (a b : Bool) → beq a b ≡ true → a ≡ b
beq_same true true e = refl
beq_same true false e = absurd (cc)
beq_same false true e = absurd (cc)
beq_same false false e = refl

beq_itself : (a : Bool) → beq a a ≡ true
beq_itself true = refl
beq_itself false = refl

joined : (x y : Resource) → x.has_caret ≡ y.has_caret → x.reference ≡ y.reference → x ≡ y
joined x y carets references i = record { has_caret = carets i; reference = references i }

pub resource_eq_decides : (x y : Resource) → Decides (resource_eq x y) (x ≡ y)
resource_eq_decides x y =
    let references = ref_eq_decides x.reference y.reference in (
      λ e. joined x y (beq_same _ _ (first_so _ _ e)) (references.0 (second_so (beq x.has_caret y.has_caret) _ e)),
      λ e. and_from _ _ (subst (λ c. beq x.has_caret c ≡ true) (ap (λ r. r.has_caret) e) (beq_itself x.has_caret)) (references.1 (ap (λ r. r.reference) e)),
    )

pub resource_ties : (x y : Resource) → resource_eq x y ≡ eq_by_cmp resource_cmp x y
resource_ties = ties_of resource_cmp_total resource_cmp-IsAntisymmetric resource_eq_decides
