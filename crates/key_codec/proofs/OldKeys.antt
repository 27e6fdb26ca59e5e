-- Old keys, as they are written, read and compared.
use Rattle.std.proofs.Common.{◌≡◌, ℕ, Bool, List, true, false, ap, sym, subst, ◌∙◌, Option, Some, None}
use Rattle.std.specs.Prelude.{IfSome, IfNone, nat_eq}
use Rattle.std.specs.Bool.{one_answer}
use Rattle.std.specs.Cmp.Lexicographic.{pointwise, bytes_decides}
use Rattle.collation.specs.Reference.{Reference}
use Rattle.collation.specs.Order.{ref_eq}
use Rattle.collation.specs.laws.Order.{ref_eq_decides}
use Rattle.key_codec.specs.Key.{key_of, IsFaultless}
use Rattle.key_codec.specs.Short.{are_short, IsShortReference, short_key_of, lengthened}
use Rattle.key_codec.specs.declared.lengthen.Stage.TheVariants.{Before}
use Rattle.key_codec.specs.laws.Short.{key_lengthened, one_lengthened, one_short_key}
use Rattle.key_codec.specs.laws.Bounds.{equal_keys}

-- what was found by the key, and is within the old limit
abbrev pub IsFoundShort : Option Reference → Option Reference → Type 0
IsFoundShort found result = IfSome result (λ r. (found ≡ Some r) × (are_short r.subscripts ≡ true))

abbrev pub HasKey : List ℕ → Option Reference → Type 0
HasKey key found = IfSome found (λ r. key_of r ≡ key)

pub found_form : (found result : Option Reference) → IfSome found IsFaultless → IsFoundShort found result → IfSome result IsShortReference
found_form found None form is = tt
found_form found (Some r) form is = record { form = subst (λ o. IfSome o IsFaultless) is.0 form; short = is.1 }

pub found_key : (bytes key : List ℕ) (found result : Option Reference) → key ≡ lengthened bytes → HasKey key found → IfSome found IsFaultless → IsFoundShort found result → IfSome result (λ r. short_key_of r ≡ bytes)
found_key bytes key found None k some form is = tt
found_key bytes key found (Some r) k some form is =
    let short : IsShortReference r = record { form = subst (λ o. IfSome o IsFaultless) is.0 form; short = is.1 } in
    let has : key_of r ≡ key = subst (HasKey key) is.0 some in
    one_lengthened (Before 0) (short_key_of r) bytes (key_lengthened r short ∙ has ∙ k)

-- where none was found, no reference has the old key
pub none_found : (bytes key : List ℕ) (found result : Option Reference) → key ≡ lengthened bytes → HasKey key found → IfSome found IsFaultless
    → IfNone found ((x : Reference) → IsFaultless x → key ≡ key_of x → ⊥) → IfNone result (IfSome found (λ r. are_short r.subscripts ≡ false))
    → IfNone result ((x : Reference) → IsShortReference x → bytes ≡ short_key_of x → ⊥)
none_found bytes key found (Some r) k some form none is = tt
none_found bytes key None None k some form none is = λ x a e. none x a.form (k ∙ ap lengthened e ∙ key_lengthened x a)
none_found bytes key (Some r) None k some form none is = λ x a e.
    let same : r ≡ x = equal_keys r x form a.form (some ∙ k ∙ ap lengthened e ∙ key_lengthened x a) in
    let clash : false ≡ true = sym is ∙ ap (λ (y : Reference). are_short y.subscripts) same ∙ a.short in
    cc

-- the equality of old keys is that of references
pub equal_short_tested : (x y : Reference) (s t : List ℕ) (b : Bool) → IsShortReference x → IsShortReference y → s ≡ short_key_of x → t ≡ short_key_of y → b ≡ pointwise nat_eq s t → b ≡ ref_eq x y
equal_short_tested x y s t b p q e f h =
    h ∙ one_answer _ _ (bytes_decides s t) (
      λ r. e ∙ ap short_key_of ((ref_eq_decides x y).0 r) ∙ sym f,
      λ g. (ref_eq_decides x y).1 (one_short_key x y p q (sym e ∙ g ∙ f)),
    )
