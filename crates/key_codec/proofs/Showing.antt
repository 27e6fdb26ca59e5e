-- What the parts of a subscript's key show.
use Rattle.std.proofs.Common.{◌≡◌, subst, Option, Result, Ok, Err, cond, length-append, ℕ, ◌-◌, ◌<◌, ◌≤◌, Bool, List, [], ◌∷◌, ◌++◌, length, map, not, true, false, refl, ap, sym, ◌∙◌, arith, zero, suc, Some, None, take, drop, append_assoc}
use Rattle.std.proofs.lemmas.Option.{same_Some}
use Rattle.std.proofs.Math.Seq.{take-append_seam}
use Rattle.collation.specs.Name.{is_name}
use Rattle.key_codec.specs.Key.{IsFaultless, key_of, long_form, two_bytes, subscript_key, subscripts_key, AreSubscriptsWithin}
use Rattle.key_codec.specs.laws.Key.{fits_long, no_fault, HasTag, has_tag}
use Rattle.key_codec.proofs.Children.{front_faultless, Behind}
use Rattle.key_codec.proofs.Moved.{few_subscripts}
use Rattle.key_codec.proofs.Reading.{HasReference, HasNumber, has_number, HasText, has_text, pointed_short, pointed_long}
use Rattle.std.proofs.lemmas.List.{take-map, drop-map, length-map}
use Rattle.std.proofs.lemmas.Bool.Decides.{nat_tests}
use Rattle.std.specs.Prelude.{◌==◌, ◌||◌, nat_eq, nat_lt, replicate, IfSome, IfOk}
use Rattle.std.specs.List.{list_all, list_any}
use Rattle.canonic_number.specs.Number.{is_canonic}
use Rattle.canonic_number.specs.Place.{pointed}
use Rattle.collation.specs.Reference.{Reference, Spot}
use Rattle.collation.specs.Levels.{child_of, below, without_last, parent_of}
use Rattle.key_codec.specs.Back.{unescaped, number_text_from, first_number, first_subscript_of, FirstSubscript, subscripts_up_to}
use Rattle.key_codec.specs.laws.Back.{front_back, rest_back, subscript_back, subscripts_back}
use Rattle.key_codec.specs.Reading.{tag_of, number_end}
use Rattle.key_codec.specs.laws.Bytes.{word_back}
use Rattle.key_codec.specs.Shown.{HasFirst, AreKeys, first}

-- a number's parts
pub number_front : (n : Bool) (word : ℕ) (bytes behind digits rest : List ℕ) → bytes ≡ two_bytes word ++ behind → list_all (λ b. not (nat_eq b (number_end n))) digits ≡ true → behind ≡ digits ++ number_end n ∷ rest →
    first_number n bytes ≡ record { subscript = number_text_from n word digits; rest = rest }
number_front n word bytes behind digits rest e free b =
    ap (first_number n) (e ∙ ap (λ t. two_bytes word ++ t) b)
    ∙ (λ i. record { subscript = number_text_from n (word_back word i) (front_back (number_end n) digits rest free i); rest = rest_back (number_end n) digits rest free i })

first_tagged : (n : Bool) (bytes : List ℕ) → first_subscript_of (tag_of n ∷ bytes) ≡ first_number n bytes
first_tagged true bytes = refl
first_tagged false bytes = refl

first_itself : (bytes : List ℕ) (h : HasFirst bytes) → first_subscript_of bytes ≡ record { subscript = h.subscript; rest = h.rest }
first_itself bytes h = ap first_subscript_of h.key ∙ subscript_back h.subscript h.rest h.form

pub number_canonic : (n : Bool) (bytes text rest : List ℕ) → HasFirst (tag_of n ∷ bytes) → first_number n bytes ≡ record { subscript = text; rest = rest } → is_canonic text ≡ true
number_canonic n bytes text rest h e =
    let same : h.subscript ≡ text = ap (λ (f : FirstSubscript). f.subscript) (sym (first_itself (tag_of n ∷ bytes) h) ∙ first_tagged n bytes ∙ e) in
    let has : HasNumber n bytes h.subscript h.rest = has_number n bytes h.subscript h.rest h.form h.key in
    ap is_canonic (sym same) ∙ has.canonic

-- a text's
pub other_front : (bytes escaped rest : List ℕ) → list_all (λ b. not (nat_eq b 0)) escaped ≡ true → bytes ≡ escaped ++ 0 ∷ rest → first_subscript_of (5 ∷ bytes) ≡ record { subscript = unescaped escaped; rest = rest }
other_front bytes escaped rest free b =
    ap (λ t. first_subscript_of (5 ∷ t)) b ∙ (λ i. record { subscript = unescaped (front_back 0 escaped rest free i); rest = rest_back 0 escaped rest free i })

pub other_not_canonic : (bytes text rest : List ℕ) → HasFirst (5 ∷ bytes) → first_subscript_of (5 ∷ bytes) ≡ record { subscript = text; rest = rest } → is_canonic text ≡ false
other_not_canonic bytes text rest h e =
    let same : h.subscript ≡ text = ap (λ (f : FirstSubscript). f.subscript) (sym (first_itself (5 ∷ bytes) h) ∙ e) in
    let has : HasText bytes h.subscript h.rest = has_text bytes h.subscript h.rest h.form h.key in
    ap is_canonic (sym same) ∙ has.other

pub not_empty : (bytes : List ℕ) → HasFirst bytes → bytes ≡ [] → ⊥
not_empty bytes h e =
    let key : HasTag (subscript_key long_form h.subscript) = has_tag long_form h.subscript in
    let both : [] ≡ key.tag ∷ (key.rest ++ h.rest) = sym e ∙ h.key ∙ ap (λ t. t ++ h.rest) key.is in cc

-- the first of some keys, and the others
pub record HasNext (bytes : List ℕ) : Type 0 where
  pub first : HasFirst bytes
  pub rest : AreKeys (first_subscript_of bytes).rest
  pub steps : subscripts_up_to (length bytes) bytes ≡ (first_subscript_of bytes).subscript ∷ subscripts_up_to (length (first_subscript_of bytes).rest) (first_subscript_of bytes).rest

pub next_of : (bytes : List ℕ) → AreKeys bytes → (length bytes == 0) ≡ false → HasNext bytes
next_of bytes keys full = at keys.subscripts keys.form keys.keys
  where
    at : (ss : List (List ℕ)) → AreSubscriptsWithin long_form ss → bytes ≡ subscripts_key long_form ss → HasNext bytes
    at [] a e = let none : length bytes ≡ 0 = ap length e in absurd (grind (arith, nat_tests))
    at (s ∷ ss) a e =
        let first : HasFirst bytes = record { subscript = s; rest = subscripts_key long_form ss; form = a.0; key = e } in
        let is : first_subscript_of bytes ≡ record { subscript = s; rest = subscripts_key long_form ss } = first_itself bytes first in
        let rest : (first_subscript_of bytes).rest ≡ subscripts_key long_form ss = ap (λ (f : FirstSubscript). f.rest) is in
        let all : subscripts_up_to (length bytes) bytes ≡ s ∷ ss = ap (λ t. subscripts_up_to (length t) t) e ∙ subscripts_back (length (subscripts_key long_form (s ∷ ss))) (s ∷ ss) a (omega arith) in
        let others : subscripts_up_to (length (first_subscript_of bytes).rest) (first_subscript_of bytes).rest ≡ ss = ap (λ t. subscripts_up_to (length t) t) rest ∙ subscripts_back (length (subscripts_key long_form ss)) ss a.1 (omega arith) in
        record {
          first = first;
          rest = record { subscripts = ss; form = a.1; keys = rest };
          steps = all ∙ (λ i. ap (λ (f : FirstSubscript). f.subscript) (sym is) i ∷ sym others i);
        }

pub none_left : (bytes : List ℕ) → (length bytes == 0) ≡ true → subscripts_up_to (length bytes) bytes ≡ []
none_left [] e = refl
none_left (b ∷ bytes) e = let some : length (b ∷ bytes) ≡ suc (length bytes) = refl in absurd (grind (arith, nat_tests))

-- bytes without an escape are the text
pub plain : (bytes : List ℕ) → list_any (λ b. nat_eq b 1) bytes ≡ false → unescaped bytes ≡ bytes
plain [] e = refl
plain (zero ∷ bytes) e = ap (λ t. 0 ∷ t) (plain bytes e)
plain (suc zero ∷ bytes) e = cc
plain (suc (suc b) ∷ bytes) e =
    let other : nat_eq (suc (suc b)) 1 ≡ false = grind (arith, nat_tests) in
    ap (λ t. suc (suc b) ∷ t) (plain bytes (sym (ap (λ t. t || list_any (λ b. nat_eq b 1) bytes) other) ∙ e))

-- zeros, one more
pub zeros_more : (a b : List ℕ) (k m : ℕ) → b ≡ a ++ 48 ∷ [] → k ≡ suc m → b ++ replicate m 48 ≡ a ++ replicate k 48
zeros_more a b k m e f = ap (λ t. t ++ replicate m 48) e ∙ append_assoc a (48 ∷ []) (replicate m 48) ∙ ap (λ n. a ++ replicate n 48) (sym f)

-- a number's digits round its point, from their bytes
pub pointed_few : (f : ℕ → ℕ) (whole : ℕ) (bytes : List ℕ) → length bytes ≤ whole → pointed whole (map f bytes) ≡ map f bytes ++ replicate (whole - length bytes) 48
pointed_few f whole bytes h =
    pointed_short whole (map f bytes) (omega (arith, h, length-map bytes f)) ∙ ap (λ n. map f bytes ++ replicate (whole - n) 48) (length-map bytes f)

pub pointed_many : (f : ℕ → ℕ) (whole : ℕ) (bytes : List ℕ) → whole < length bytes → pointed whole (map f bytes) ≡ map f (take whole bytes) ++ 46 ∷ map f (drop whole bytes)
pointed_many f whole bytes h =
    pointed_long whole (map f bytes) (omega (arith, h, length-map bytes f)) ∙ (λ i. take-map f whole bytes i ++ 46 ∷ drop-map f whole bytes i)

-- one less is left
pub all_of : (bytes text rest : List ℕ) → HasNext bytes → text ≡ (first_subscript_of bytes).subscript → rest ≡ (first_subscript_of bytes).rest → subscripts_up_to (length bytes) bytes ≡ text ∷ subscripts_up_to (length rest) rest
all_of bytes text rest next t r = next.steps ∙ (λ i. sym t i ∷ ap (λ u. subscripts_up_to (length u) u) (sym r) i)

pub fewer : {A : Type 0} (xs ys : List A) (x : A) → xs ≡ x ∷ ys → length ys < length xs
fewer xs ys x e = let n : length xs ≡ length (x ∷ ys) = ap length e in omega (arith, n)

-- the subscripts of a key
pub all_keys : (keys : List ℕ) (ss : List (List ℕ)) → AreSubscriptsWithin long_form ss → keys ≡ subscripts_key long_form ss → subscripts_up_to (length keys) keys ≡ ss
all_keys keys ss a e = ap (λ t. subscripts_up_to (length t) t) e ∙ subscripts_back (length (subscripts_key long_form ss)) ss a (omega arith)

-- what stands next after a key is the child
pub child_first : (r x : Reference) (rest : List ℕ) (o : Option (List ℕ)) → Behind r x rest → o ≡ first (subscripts_up_to (length rest) rest) → o ≡ child_of r x
child_first r x rest o is e = e ∙ ap first (all_keys rest is.more is.bounds is.bytes) ∙ sym is.child

-- one level below what stands before it
start_some : (xs ys : List (List ℕ)) (s : List ℕ) → AreSubscriptsWithin long_form (xs ++ s ∷ ys) → AreSubscriptsWithin long_form (xs ++ s ∷ [])
start_some [] ys s a = (a.0, tt)
start_some (x ∷ xs) ys s a = (a.0, start_some xs ys s a.1)

below_fits : (r x : Reference) (s : List ℕ) (ys : List (List ℕ)) → IsFaultless x → r.name ≡ x.name → x.subscripts ≡ r.subscripts ++ s ∷ ys → IsFaultless (below r s)
below_fits r x s ys is n e =
    let fits = fits_long x is in
    let all : AreSubscriptsWithin long_form (r.subscripts ++ s ∷ []) = start_some r.subscripts ys s (subst (AreSubscriptsWithin long_form) e fits.subscripts) in
    let few : length x.subscripts ≤ 31 = few_subscripts x is in
    let more : length x.subscripts ≡ length (r.subscripts ++ s ∷ ys) = ap length e in
    let lesser : length (r.subscripts ++ s ∷ []) ≤ 31 = omega (arith, few, more, length-append r.subscripts (s ∷ ys), length-append r.subscripts (s ∷ [])) in
    let within : nat_lt 31 (length (r.subscripts ++ s ∷ [])) ≡ false = grind (arith, nat_tests) in
    record { name = ap is_name n ∙ is.name; subscripts = rw within (no_fault _ all) }

pub child_fits : (r x : Reference) (rest : List ℕ) (o : Option (List ℕ)) → IsFaultless r → IsFaultless x → Behind r x rest → o ≡ first (subscripts_up_to (length rest) rest) → IfSome o (λ s. IsFaultless (below r s))
child_fits r x rest None p q is e = tt
child_fits r x rest (Some s) p q is e = at is.more is.all (e ∙ ap first (all_keys rest is.more is.bounds is.bytes))
  where
    at : (more : List (List ℕ)) → x.subscripts ≡ r.subscripts ++ more → Some s ≡ first more → IsFaultless (below r s)
    at [] a f = absurd (cc)
    at (m ∷ more) a f = let same : s ≡ m = same_Some s m f in subst (λ t. IsFaultless (below r t)) (sym same) (below_fits r x m more q is.name a)

-- the last subscript's key
first_rest : (keys s : List ℕ) (ss : List (List ℕ)) → AreSubscriptsWithin long_form (s ∷ ss) → keys ≡ subscripts_key long_form (s ∷ ss) → (first_subscript_of keys).rest ≡ subscripts_key long_form ss
first_rest keys s ss a e = ap (λ (f : FirstSubscript). f.rest) (ap first_subscript_of e ∙ subscript_back s (subscripts_key long_form ss) a.0)

some_keys : (t : List ℕ) (ts : List (List ℕ)) → 0 < length (subscripts_key long_form (t ∷ ts))
some_keys t ts =
    let key : HasTag (subscript_key long_form t) = has_tag long_form t in
    let whole : subscript_key long_form t ++ subscripts_key long_form ts ≡ key.tag ∷ (key.rest ++ subscripts_key long_form ts) = ap (λ u. u ++ subscripts_key long_form ts) key.is in
    omega (arith, ap length whole)

pub last_alone : (keys : List ℕ) (ss : List (List ℕ)) → AreSubscriptsWithin long_form ss → keys ≡ subscripts_key long_form ss → (length (first_subscript_of keys).rest == 0) ≡ true → keys ≡ subscripts_key long_form (without_last ss) ++ keys
last_alone keys [] a e none = refl
last_alone keys (s ∷ []) a e none = refl
last_alone keys (s ∷ t ∷ ts) a e none =
    let rest = ap length (first_rest keys s (t ∷ ts) a e) in
    let some = some_keys t ts in
    absurd (grind (arith, nat_tests))

pub last_later : (keys last : List ℕ) (ss : List (List ℕ)) → AreSubscriptsWithin long_form ss → keys ≡ subscripts_key long_form ss → (length keys == 0) ≡ false → (length (first_subscript_of keys).rest == 0) ≡ false
    → ((rs : List (List ℕ)) → AreSubscriptsWithin long_form rs → (first_subscript_of keys).rest ≡ subscripts_key long_form rs → (first_subscript_of keys).rest ≡ subscripts_key long_form (without_last rs) ++ last)
    → keys ≡ subscripts_key long_form (without_last ss) ++ last
last_later keys last [] a e full some later = let none : length keys ≡ 0 = ap length e in absurd (grind (arith, nat_tests))
last_later keys last (s ∷ []) a e full some later = let none : length (first_subscript_of keys).rest ≡ 0 = ap length (first_rest keys s [] a e) in absurd (grind (arith, nat_tests))
last_later keys last (s ∷ t ∷ ts) a e full some later =
    let rest = first_rest keys s (t ∷ ts) a e in
    e ∙ ap (λ u. subscript_key long_form s ++ u) (sym rest ∙ later (t ∷ ts) a.1 rest) ∙ sym (append_assoc (subscript_key long_form s) (subscripts_key long_form (without_last (t ∷ ts))) last)

pub none_last : (keys : List ℕ) (ss : List (List ℕ)) → AreSubscriptsWithin long_form ss → keys ≡ subscripts_key long_form ss → (length keys == 0) ≡ true → keys ≡ subscripts_key long_form (without_last ss) ++ keys
none_last keys [] a e none = refl
none_last keys (s ∷ []) a e none = refl
none_last keys (s ∷ t ∷ ts) a e none = let some = some_keys s (t ∷ ts) in let size = ap length e in absurd (grind (arith, nat_tests))

-- the key of a name and the first of some subscripts, where the bytes of the others stand last
pub cut_key : (bytes name keys last : List ℕ) (ups : List (List ℕ)) (x : Reference) → bytes ≡ name ++ 0 ∷ keys → HasReference name keys x → keys ≡ subscripts_key long_form ups ++ last → take (length bytes - length last) bytes ≡ key_of (record { name = x.name; subscripts = ups })
cut_key bytes name keys last ups x b has k =
    let up : List ℕ = x.name ++ 0 ∷ subscripts_key long_form ups in
    let whole : bytes ≡ up ++ last = b ∙ (λ i. has.name i ++ 0 ∷ k i) ∙ sym (append_assoc x.name (0 ∷ subscripts_key long_form ups) last) in
    let size : length bytes - length last ≡ length up = omega (arith, ap length whole, length-append up last) in
    (λ i. take (size i) (whole i)) ∙ take-append_seam up last

pub level_fits : (x : Reference) → IsFaultless x → IsFaultless (record { name = x.name; subscripts = without_last x.subscripts })
level_fits x is = record { name = is.name; subscripts = front_faultless x.subscripts is.subscripts }

pub rest_less : (keys : List ℕ) → HasFirst keys → length (first_subscript_of keys).rest < length keys
rest_less keys h =
    let rest : (first_subscript_of keys).rest ≡ h.rest = ap (λ (f : FirstSubscript). f.rest) (first_itself keys h) in
    let key : HasTag (subscript_key long_form h.subscript) = has_tag long_form h.subscript in
    let whole : keys ≡ key.tag ∷ (key.rest ++ h.rest) = h.key ∙ ap (λ u. u ++ h.rest) key.is in
    omega (arith, ap length rest, ap length whole, length-append key.rest h.rest)

-- the level of a place that isn't open
pub closed_parent : (k : Reference) (o : Bool) (p : Spot) → record { reference = k; is_open = o } ≡ p → o ≡ false → record { name = k.name; subscripts = without_last k.subscripts } ≡ parent_of p
closed_parent k o p v e = ap (λ b. cond b k (record { name = k.name; subscripts = without_last k.subscripts })) (sym e) ∙ ap parent_of v

pub child_first_ok : {E : Type 0} (r x : Reference) (rest : List ℕ) (o : Result (Option (List ℕ)) E) → Behind r x rest → IfOk o (λ c. c ≡ first (subscripts_up_to (length rest) rest)) → IfOk o (λ c. c ≡ child_of r x)
child_first_ok r x rest (Ok o) is e = child_first r x rest o is e
child_first_ok r x rest (Err e) is h = tt

pub child_fits_ok : {E : Type 0} (r x : Reference) (rest : List ℕ) (o : Result (Option (List ℕ)) E) → IsFaultless r → IsFaultless x → Behind r x rest → IfOk o (λ c. c ≡ first (subscripts_up_to (length rest) rest)) → IfOk o (λ c. IfSome c (λ s. IsFaultless (below r s)))
child_fits_ok r x rest (Ok o) p q is e = child_fits r x rest o p q is e
child_fits_ok r x rest (Err e) p q is h = tt

pub last_shorter : (bytes name keys without_last last : List ℕ) → bytes ≡ name ++ 0 ∷ keys → keys ≡ without_last ++ last → length last ≤ length bytes
last_shorter bytes name keys without_last last b k = omega (arith, ap length b, ap length k, length-append name (0 ∷ keys), length-append without_last last)
