-- Where one key goes on from another, and with which subscript.
use Rattle.std.proofs.Common.{◌≡◌, ◌≢◌, ℕ, append-nil, ◌+◌, ◌≤◌, Bool, List, [], ◌∷◌, ◌++◌, true, false, refl, ap, sym, subst, ◌∙◌, Option, Some, None, cond, Bor, length, take, drop, arith}
use Rattle.std.proofs.lemmas.List.{append_cancel_left}
use Rattle.std.proofs.lemmas.Bool.{and_from}
use Rattle.std.proofs.lemmas.Bool.Decides.{nat_tests, Decides-eqb}
use Rattle.std.proofs.lemmas.Slice.Eq.{strip_prefix_is}
use Rattle.std.specs.Bool.{Decides, one_answer}
use Rattle.std.specs.Prelude.{is_some, ◌&&◌, ◌||◌, ◌==◌, nat_eq, nat_le, nat_lt, IfSome, IfNone, MatchOption}
use Rattle.std.specs.Char.{is_ascii_alphabetic}
use Rattle.std.specs.List.{list_all}
use Rattle.collation.specs.Name.{is_name, is_letter_or_digit}
use Rattle.collation.specs.Faults.{reference_fault}
use Rattle.collation.specs.Order.{ref_eq}
use Rattle.collation.specs.laws.Order.{ref_eq_decides}
use Rattle.std.specs.Cmp.{first_so, second_so}
use Rattle.std.specs.Cmp.Lexicographic.{pointwise, bytes_decides}
use Rattle.collation.specs.Reference.{Reference}
use Rattle.collation.specs.Database.{begins_with, is_under}
use Rattle.collation.specs.Levels.{child, child_of, without_last}
use Rattle.key_codec.specs.Key.{IsFaultless, IsSubscriptWithin, key_of, long_form, subscript_key, subscripts_key, AreSubscriptsWithin}
use Rattle.key_codec.specs.laws.Key.{long_form_is, are_subscripts, no_fault, not_over, not_too_many, fits_long, begins_under, key_of-append, under_begins}
use Rattle.key_codec.specs.laws.Bounds.{equal_keys}
use Rattle.key_codec.specs.Back.{reference_of}
use Rattle.key_codec.specs.laws.Back.{key_again, is_reference_again, reference_of_key}
use Rattle.key_codec.specs.Kept.{Keeps}
use Rattle.key_codec.specs.Shown.{first}

-- the second list is the first and more after it
pub record HasMore (rs xs : List (List ℕ)) : Type 0 where
  pub more : List (List ℕ)
  pub all : xs ≡ rs ++ more
  pub child : child rs xs ≡ first more

child_first : (xs : List (List ℕ)) → child [] xs ≡ first xs
child_first [] = refl
child_first (x ∷ xs) = refl

more_behind : (xs rs : List (List ℕ)) → begins_with xs rs ≡ true → HasMore rs xs
more_behind xs [] e = record { more = xs; all = refl; child = child_first xs }
more_behind [] (r ∷ rs) e = cc
more_behind (x ∷ xs) (r ∷ rs) e =
    let same : x ≡ r = (bytes_decides x r).0 (first_so _ _ e) in
    let tied : pointwise nat_eq r x ≡ true = (bytes_decides r x).1 (sym same) in
    let on = more_behind xs rs (second_so (pointwise nat_eq x r) _ e) in
    record { more = on.more; all = λ i. same i ∷ on.all i; child = ap (λ b. cond b (child rs xs) None) tied ∙ on.child }

behind_some : (rs more : List (List ℕ)) → AreSubscriptsWithin long_form (rs ++ more) → AreSubscriptsWithin long_form more
behind_some [] more a = a
behind_some (r ∷ rs) more a = behind_some rs more a.1

-- the bytes after a key that begins another
pub record Behind (r x : Reference) (rest : List ℕ) : Type 0 where
  pub name : r.name ≡ x.name
  pub more : List (List ℕ)
  pub bounds : AreSubscriptsWithin long_form more
  pub bytes : rest ≡ subscripts_key long_form more
  pub all : x.subscripts ≡ r.subscripts ++ more
  pub child : child_of r x ≡ first more

pub behind : (r x : Reference) (rest : List ℕ) → IsFaultless r → IsFaultless x → key_of x ≡ key_of r ++ rest → Behind r x rest
behind r x rest a b e =
    let under : is_under r x ≡ true = begins_under long_form long_form_is r x rest (fits_long r a) (fits_long x b) e in
    let named : pointwise nat_eq r.name x.name ≡ true = first_so _ _ under in
    let names : x.name ≡ r.name = sym ((bytes_decides r.name x.name).0 named) in
    let on = more_behind x.subscripts r.subscripts (second_so (pointwise nat_eq r.name x.name) _ under) in
    let fits = fits_long x b in
    let whole : key_of x ≡ key_of r ++ subscripts_key long_form on.more = (λ i. key_of (record { name = names i; subscripts = on.all i })) ∙ key_of-append r on.more in
    record {
      name = sym names;
      more = on.more;
      bounds = behind_some r.subscripts on.more (subst (AreSubscriptsWithin long_form) on.all fits.subscripts);
      bytes = append_cancel_left (key_of r) rest (subscripts_key long_form on.more) (sym e ∙ whole);
      all = on.all;
      child = ap (λ t. cond t (child r.subscripts x.subscripts) None) named ∙ on.child;
    }

-- what isn't under a reference has no child of it on its way
child_begins : (rs xs : List (List ℕ)) → is_some (child rs xs) ≡ true → begins_with xs rs ≡ true
child_begins [] xs e = refl
child_begins (r ∷ rs) [] e = cc
child_begins (r ∷ rs) (x ∷ xs) e =
    elim (pointwise nat_eq r x) as (λ t. pointwise nat_eq r x ≡ t → is_some (cond t (child rs xs) None) ≡ true → begins_with (x ∷ xs) (r ∷ rs) ≡ true) [
      | true ↦ λ p h. and_from (pointwise nat_eq x r) _ ((bytes_decides x r).1 (sym ((bytes_decides r x).0 p))) (child_begins rs xs h)
      | false ↦ λ p h. cc
    ] refl e

child_is_under : (r x : Reference) → is_some (child_of r x) ≡ true → is_under r x ≡ true
child_is_under r x e =
    elim (pointwise nat_eq r.name x.name) as (λ t. is_some (cond t (child r.subscripts x.subscripts) None) ≡ true → (t && begins_with x.subscripts r.subscripts) ≡ true) [
      | true ↦ λ h. child_begins r.subscripts x.subscripts h
      | false ↦ λ h. cc
    ] e

-- what doesn't begin with a key isn't under its reference
pub apart : (r x : Reference) → ((rest : List ℕ) → key_of x ≢ key_of r ++ rest) → is_under r x ≡ false
apart r x h = at (is_under r x) refl
  where
    at : (t : Bool) → is_under r x ≡ t → is_under r x ≡ false
    at true e = let on = under_begins long_form r x e in absurd (h (subscripts_key long_form on.more) on.is)
    at false e = e

pub no_child : (r x : Reference) → is_under r x ≡ false → None ≡ child_of r x
no_child r x e = at (child_of r x) refl
  where
    at : (o : Option (List ℕ)) → child_of r x ≡ o → None ≡ child_of r x
    at None p = sym p
    at (Some s) p = let clash : true ≡ false = sym (child_is_under r x (ap is_some p)) ∙ e in absurd (cc)

-- what `strip_prefix` says, of keys
bytes_tell : (x y : ℕ) → Decides (nat_eq x y) (x ≡ y)
bytes_tell x y = Decides-eqb x y

pub stripped_some : (s p k q : List ℕ) (r : Option (Bor (List ℕ))) → s ≡ k → p ≡ q
    → MatchOption r (pointwise nat_eq (take (length p) s) p ≡ false) (λ x. (pointwise nat_eq (take (length p) s) p ≡ true) × (x.now ≡ drop (length p) s) × (length x.now + length p ≡ length s))
    → IfSome r (λ rest. k ≡ q ++ rest.now)
stripped_some s p k q None e f m = tt
stripped_some s p k q (Some x) e f m = sym e ∙ strip_prefix_is bytes_tell s p (Some x) m ∙ ap (λ t. t ++ x.now) f

pub stripped_none : (s p k q : List ℕ) (r : Option (Bor (List ℕ))) → s ≡ k → p ≡ q
    → MatchOption r (pointwise nat_eq (take (length p) s) p ≡ false) (λ x. (pointwise nat_eq (take (length p) s) p ≡ true) × (x.now ≡ drop (length p) s) × (length x.now + length p ≡ length s))
    → IfNone r ((rest : List ℕ) → k ≢ q ++ rest)
stripped_none s p k q None e f m = λ rest h. strip_prefix_is bytes_tell s p None m rest (e ∙ h ∙ ap (λ t. t ++ rest) (sym f))
stripped_none s p k q (Some x) e f m = tt

-- what begins with a key is under its reference, and nothing else
pub under_tested : (r x : Reference) (o : Option (Bor (List ℕ))) (b : Bool) → IsFaultless r → IsFaultless x
    → IfSome o (λ rest. key_of x ≡ key_of r ++ rest.now) → IfNone o ((rest : List ℕ) → key_of x ≢ key_of r ++ rest) → b ≡ is_some o → b ≡ is_under r x
under_tested r x None b p q some none e = e ∙ sym (apart r x none)
under_tested r x (Some rest) b p q some none e = e ∙ sym (begins_under long_form long_form_is r x rest.now (fits_long r p) (fits_long x q) some)

-- the equality of keys is that of references
pub equal_tested : (x y : Reference) (s t : List ℕ) (b : Bool) → IsFaultless x → IsFaultless y → s ≡ key_of x → t ≡ key_of y → b ≡ pointwise nat_eq s t → b ≡ ref_eq x y
equal_tested x y s t b p q e f h =
    h ∙ one_answer _ _ (bytes_decides s t) (
      λ r. e ∙ ap key_of ((ref_eq_decides x y).0 r) ∙ sym f,
      λ g. (ref_eq_decides x y).1 (equal_keys x y p q (sym e ∙ g ∙ f)),
    )

-- what is written as a reference's key keeps it
pub kept : (bytes : List ℕ) (r : Reference) → IsFaultless r → bytes ≡ key_of r → Keeps bytes (reference_of bytes)
kept bytes r is e = record { key = sym (key_again bytes r is e); form = is_reference_again bytes r is e }

pub reads_back : (bytes : List ℕ) (r : Reference) → IsFaultless r → bytes ≡ key_of r → reference_of bytes ≡ r
reads_back bytes r is e = ap reference_of e ∙ reference_of_key r is

front_shorter : (xs : List (List ℕ)) → length (without_last xs) ≤ length xs
front_shorter [] = omega arith
front_shorter (x ∷ []) = omega arith
front_shorter (x ∷ y ∷ ys) = omega (arith, front_shorter (y ∷ ys))

front_some : (xs : List (List ℕ)) → AreSubscriptsWithin long_form xs → AreSubscriptsWithin long_form (without_last xs)
front_some [] a = tt
front_some (x ∷ []) a = tt
front_some (x ∷ y ∷ ys) a = (a.0, front_some (y ∷ ys) a.1)

pub front_faultless : (xs : List (List ℕ)) → reference_fault xs ≡ None → reference_fault (without_last xs) ≡ None
front_faultless xs e =
    let few : nat_lt 31 (length xs) ≡ false = (not_over (nat_lt 31 (length xs)) _ e).0 in
    let fewer : nat_lt 31 (length (without_last xs)) ≡ false = grind (arith, nat_tests, front_shorter xs) in
    rw fewer (no_fault (without_last xs) (front_some xs (are_subscripts xs (not_too_many xs e))))

-- ---- one level below

last_is : (xs : List (List ℕ)) (t : List ℕ) → AreSubscriptsWithin long_form (xs ++ t ∷ []) → IsSubscriptWithin long_form t
last_is [] t a = a.0
last_is (x ∷ xs) t a = last_is xs t a.1

pub last_fits : (r : Reference) (t : List ℕ) → IsFaultless (record { name = r.name; subscripts = r.subscripts ++ t ∷ [] }) → IsSubscriptWithin long_form t
last_fits r t is = let fits = fits_long (record { name = r.name; subscripts = r.subscripts ++ t ∷ [] }) is in last_is r.subscripts t fits.subscripts

pub below_key_is : (r : Reference) (t level bytes : List ℕ) → level ≡ key_of r → bytes ≡ level ++ subscript_key long_form t → bytes ≡ key_of (record { name = r.name; subscripts = r.subscripts ++ t ∷ [] })
below_key_is r t level bytes l e =
    e ∙ (λ i. l i ++ sym (append-nil (subscript_key long_form t)) i) ∙ sym (key_of-append r (t ∷ []))

pub root_is : (r : Reference) → is_name r.name ≡ true → IsFaultless (record { name = r.name; subscripts = [] })
root_is r is = record { name = is; subscripts = refl }

-- a name has at most 31 bytes
pub name_short : (xs : List ℕ) → is_name xs ≡ true → length xs ≤ 31
name_short [] e = omega arith
name_short (b ∷ bs) e =
    let fits : nat_le (length (b ∷ bs)) 31 ≡ true = second_so (list_all is_letter_or_digit bs) _ (second_so (b == 37 || is_ascii_alphabetic b) _ e) in
    grind (arith, nat_tests)
