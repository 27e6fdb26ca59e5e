-- What stands after LOCK's word: what is read of it is spelled so, and what is spelled so is read.
use Rattle.std.proofs.Common.{◌≡◌, ℕ, ◌<◌, ◌≤◌, Bool, true, false, cond, List, [], ◌∷◌, ◌++◌, length, drop, Option, Some, None, refl, sym, ap, ◌∙◌, append_assoc, arith, length-append}
use Rattle.std.proofs.lemmas.Bool.{eqb-true, and_parts, and_from, ltb-true, leb-true, lt-ltb, le-leb}
use Rattle.std.proofs.lemmas.Option.{some_pair_parts, cond_some}
use Rattle.std.specs.Prelude.{◌==◌, nat_lt, nat_le}
use Rattle.std.specs.List.{list_all}
use Rattle.std.specs.Option.{option_map}
use Rattle.std.specs.Char.{is_ascii_digit}
use Rattle.collation.specs.Reference.{Reference, Resource}
use Rattle.lock_name.specs.declared.lock.LockCommand.{LockCommand}
use Rattle.m_text.specs.Reading.{◌>>=◌, begins_with_byte, parted_at, then_closing}
use Rattle.m_text.specs.Literal.{is_no_digit, front_digits, past_digits}
use Rattle.m_text.specs.Place.{named_at}
use Rattle.m_text.specs.Forms.{IsNamed, IsReferenceBreak, is_word_byte}
use Rattle.m_text.specs.laws.Front.{Ends, run_passes, run_parts, run_is}
use Rattle.m_text.specs.laws.Parted.{Found, begins, parted_found, parted_read}
use Rattle.m_text.specs.laws.Parts.{digits_kind, closed_found}
use Rattle.m_text.specs.laws.Place.{FoundOf, named_found, named_read}
use Rattle.script.specs.declared.lock.Form.{Form}
use Rattle.script.specs.declared.lock.Form.TheVariants as forms
use Rattle.script.specs.Locking.{locking, form_of, past_form, lock_name_at, lock_names_at, are_few, digits_at, seconds_at, timeout_at, locking_at}
use Rattle.script.specs.Grammar.{IsLockName, IsOneName, AreLockNames, IsSign, AreFewDigits, IsTimeout, IsLocking}
use Rattle.script.specs.Grammar.IsLockName.{with_caret, without_caret}
use Rattle.script.specs.Grammar.AreLockNames.{one_name, names}
use Rattle.script.specs.Grammar.IsSign.{no_sign, plus, minus}
use Rattle.script.specs.Grammar.IsTimeout.{no_timeout, whole, fraction}
use Rattle.script.specs.laws.Commands.{and_then_some, joined, found_is}

-- names

-- what was read by way of something else
mapped : {A B : Type 0} → (f : A → B) (read : Option (A × List ℕ)) (y : B) (rest : List ℕ) → ◌≡◌ {A = Option (B × List ℕ)} (option_map (λ x. (f x.0, x.1)) read) (Some (y, rest)) → (a : A) × (read ≡ Some (a, rest)) × (f a ≡ y)
mapped f None y rest e = absurd cc
mapped f (Some (a, r)) y rest e = let p = some_pair_parts (f a) y r rest e in (a, ap (λ (u : List ℕ). Some (a, u)) p.1, p.0)

-- one resource as a list
abbrev listed : Bool → Reference → List Resource
listed caret r = record { has_caret = caret; reference = r } ∷ []

lock_name_found : (bytes : List ℕ) (ns : List Resource) (rest : List ℕ) → lock_name_at bytes ≡ Some (ns, rest) → Found IsOneName bytes ns rest
unfolding lock_name_at
lock_name_found bytes ns rest e = at (begins_with_byte 94 bytes) refl e
  where
    at : (t : Bool) → begins_with_byte 94 bytes ≡ t → ◌≡◌ {A = Option (List Resource × List ℕ)} (option_map (λ x. (listed t x.0, x.1)) (named_at (cond t (drop 1 bytes) bytes))) (Some (ns, rest)) → Found IsOneName bytes ns rest
    at true f e =
        let m = mapped (listed true) (named_at (drop 1 bytes)) ns rest e in
        let found = named_found (drop 1 bytes) m.0 rest m.1 in
        record {
          text = 94 ∷ found.text;
          form = record { name = record { has_caret = true; reference = m.0 }; spelled = with_caret (record { named = found.text; spelled = found.form; parts = refl }); alone = sym m.2 };
          parts = begins 94 bytes f ∙ ap (λ u. 94 ∷ u) found.parts;
        }
    at false f e =
        let m = mapped (listed false) (named_at bytes) ns rest e in
        let found = named_found bytes m.0 rest m.1 in
        record { text = found.text; form = record { name = record { has_caret = false; reference = m.0 }; spelled = without_caret found.form; alone = sym m.2 }; parts = found.parts }

-- a byte of a name word isn't one that no name word has
other_byte : (k b : ℕ) → is_word_byte k ≡ false → is_word_byte b ≡ true → (b == k) ≡ false
other_byte k b no_word word = at (b == k) refl
  where
    at : (t : Bool) → (b == k) ≡ t → t ≡ false
    at true e = let same : b ≡ k = eqb-true b k e in absurd (let none : true ≡ false = sym word ∙ ap is_word_byte same ∙ no_word in cc)
    at false e = refl

-- the first byte of a name without its caret
record HasHead (text : List ℕ) : Type 0 where
  head : ℕ
  more : List ℕ
  word : is_word_byte head ≡ true
  parts : text ≡ head ∷ more

named_head : (text : List ℕ) (r : Reference) → IsNamed text r → HasHead text
named_head text r form = at r.name form.word form.some form.parts
  where
    at : (name : List ℕ) → list_all is_word_byte name ≡ true → 0 < length name → text ≡ name ++ form.texts → HasHead text
    at [] all some e = absurd (omega (arith, some))
    at (b ∷ bs) all some e = record { head = b; more = bs ++ form.texts; word = (and_parts (is_word_byte b) _ all).0; parts = e }

no_caret : (text rest : List ℕ) → HasHead text → begins_with_byte 94 (text ++ rest) ≡ false
no_caret text rest h = rw h.parts (other_byte 94 h.head refl h.word)

name_read : {text : List ℕ} {n : Resource} (rest : List ℕ) → IsReferenceBreak rest → IsLockName text n → lock_name_at (text ++ rest) ≡ Some (n ∷ [], rest)
unfolding lock_name_at
name_read rest ends (with_caret {text} {r} form) = rw (form.parts, named_read form.named r rest form.spelled ends) refl
name_read rest ends (without_caret {text} {r} form) = rw (no_caret text rest (named_head text r form), named_read text r rest form ends) refl

lock_name_read : (text : List ℕ) (ns : List Resource) (rest : List ℕ) → IsOneName text ns → IsReferenceBreak rest → lock_name_at (text ++ rest) ≡ Some (ns, rest)
lock_name_read text ns rest form ends = name_read rest ends form.spelled ∙ ap (λ (xs : List Resource). Some (xs, rest)) (sym form.alone)

name_some : {text : List ℕ} {n : Resource} → IsLockName text n → 0 < length text
name_some (with_caret {text} {r} form) = rw form.parts (omega arith)
name_some (without_caret {text} {r} form) = let h = named_head text r form in rw h.parts (omega arith)

lock_name_some : (text : List ℕ) (ns : List Resource) → IsOneName text ns → 0 < length text
lock_name_some text ns form = name_some form.spelled

-- lists of names

names_found : (bytes : List ℕ) (ns : List Resource) (rest : List ℕ) → lock_names_at bytes ≡ Some (ns, rest) → FoundOf AreLockNames bytes ns rest
unfolding lock_names_at
names_found bytes ns rest e = at (begins_with_byte 40 bytes) refl e
  where
    at : (t : Bool) → begins_with_byte 40 bytes ≡ t → cond t (then_closing (parted_at lock_name_at 44 (drop 1 bytes))) (lock_name_at bytes) ≡ Some (ns, rest) → FoundOf AreLockNames bytes ns rest
    at true f e =
        let list = parted_found lock_name_at IsOneName 44 lock_name_found (drop 1 bytes) ns (41 ∷ rest) (closed_found _ ns rest e) in
        record { text = 40 ∷ (list.text ++ 41 ∷ []); form = names list.form; parts = begins 40 bytes f ∙ ap (λ u. 40 ∷ u) (list.parts ∙ sym (append_assoc list.text (41 ∷ []) rest)) }
    at false f e = let found = lock_name_found bytes ns rest e in record { text = found.text; form = one_name found.form; parts = found.parts }

-- what may stand in front of names: a parenthesis, a caret or a byte of a name word
name_opens : {text : List ℕ} {n : Resource} (k : ℕ) (rest : List ℕ) → is_word_byte k ≡ false → (94 == k) ≡ false → IsLockName text n → begins_with_byte k (text ++ rest) ≡ false
name_opens k rest no_word caret (with_caret {text} {r} form) = rw form.parts caret
name_opens k rest no_word caret (without_caret {text} {r} form) = let h = named_head text r form in rw h.parts (other_byte k h.head no_word h.word)

names_open : {text : List ℕ} {ns : List Resource} (k : ℕ) (rest : List ℕ) → is_word_byte k ≡ false → (94 == k) ≡ false → (40 == k) ≡ false → AreLockNames text ns → begins_with_byte k (text ++ rest) ≡ false
names_open k rest no_word caret open_list (one_name form) = name_opens k rest no_word caret form.spelled
names_open k rest no_word caret open_list (names forms) = open_list

names_read : {text : List ℕ} {ns : List Resource} (rest : List ℕ) → AreLockNames text ns → IsReferenceBreak rest → lock_names_at (text ++ rest) ≡ Some (ns, rest)
unfolding lock_names_at
names_read rest (one_name {text} {ns} form) ends = rw (name_opens 40 rest refl refl form.spelled) (lock_name_read text ns rest form ends)
names_read rest (names {texts} {ns} forms) ends =
    let list : parted_at lock_name_at 44 ((texts ++ 41 ∷ []) ++ rest) ≡ Some (ns, 41 ∷ rest) =
    ap (parted_at lock_name_at 44) (append_assoc texts (41 ∷ []) rest) ∙ parted_read lock_name_at IsOneName 44 IsReferenceBreak lock_name_read (λ r. refl) lock_name_some texts ns (41 ∷ rest) forms refl refl in
    rw list refl

names_some : {text : List ℕ} {ns : List Resource} → AreLockNames text ns → 0 < length text
names_some (one_name {text} {ns} form) = lock_name_some text ns form
names_some (names {texts} forms) = omega arith

-- signs

record HasSign (bytes : List ℕ) : Type 0 where
  sign : List ℕ
  signed : IsSign sign (form_of bytes)
  parts : bytes ≡ sign ++ past_form bytes

sign_found : (bytes : List ℕ) → HasSign bytes
sign_found [] = record { sign = []; signed = no_sign; parts = refl }
sign_found (b ∷ bs) = at (b == 43) (b == 45) refl refl
  where
    at : (t u : Bool) → (b == 43) ≡ t → (b == 45) ≡ u → HasSign (b ∷ bs)
    at true u e f = let same : b ≡ 43 = eqb-true b 43 e in rw same (record { sign = 43 ∷ []; signed = plus; parts = refl })
    at false true e f = let same : b ≡ 45 = eqb-true b 45 f in rw same (record { sign = 45 ∷ []; signed = minus; parts = refl })
    at false false e f = record { sign = []; signed = rw (e, f) no_sign; parts = rw (e, f) refl }

unsigned : (text : List ℕ) → begins_with_byte 43 text ≡ false → begins_with_byte 45 text ≡ false → (form_of text ≡ forms.Only) × (past_form text ≡ text)
unsigned [] e f = (refl, refl)
unsigned (b ∷ bs) e f = (rw (e, f) refl, rw (e, f) refl)

sign_read : {sign : List ℕ} {form : Form} (text : List ℕ) → IsSign sign form → begins_with_byte 43 text ≡ false → begins_with_byte 45 text ≡ false → (form_of (sign ++ text) ≡ form) × (past_form (sign ++ text) ≡ text)
sign_read text no_sign e f = unsigned text e f
sign_read text plus e f = (refl, refl)
sign_read text minus e f = (refl, refl)

-- timeouts

-- a choice that finds something
cond_at : (b : Bool) (found : Option (List ℕ)) (rest : List ℕ) → cond b found None ≡ Some rest → (b ≡ true) × (found ≡ Some rest)
cond_at true found rest e = (refl, e)
cond_at false found rest e = absurd (cc)

record HasTimeout (bytes rest : List ℕ) : Type 0 where
  ending : List ℕ
  timed : IsTimeout ending
  parts : bytes ≡ ending ++ rest

-- digits, where their number is right
record HasDigits (bytes rest : List ℕ) : Type 0 where
  few : AreFewDigits (front_digits bytes)
  behind : past_digits bytes ≡ rest

few_digits : (bytes : List ℕ) → are_few (front_digits bytes) ≡ true → AreFewDigits (front_digits bytes)
few_digits bytes e =
    let p = and_parts (nat_lt 0 (length (front_digits bytes))) (nat_le (length (front_digits bytes)) 9) e in
    record { bytes = run_passes is_no_digit is_ascii_digit digits_kind bytes; some = ltb-true _ _ p.0; few = leb-true _ _ p.1 }

digits_found : (bytes rest : List ℕ) → digits_at bytes ≡ Some rest → HasDigits bytes rest
unfolding digits_at
digits_found bytes rest e = let g = cond_some (are_few (front_digits bytes)) (past_digits bytes) rest e in record { few = few_digits bytes g.0; behind = g.1 }

digits_before : (bytes : List ℕ) → bytes ≡ front_digits bytes ++ past_digits bytes
digits_before bytes = run_parts is_no_digit bytes

seconds_found : (bytes rest : List ℕ) → seconds_at bytes ≡ Some rest → HasTimeout (58 ∷ bytes) rest
unfolding seconds_at
seconds_found bytes rest e = at (begins_with_byte 46 (past_digits bytes)) refl e
  where
    at : (t : Bool) → begins_with_byte 46 (past_digits bytes) ≡ t → cond t (cond (nat_le (length (front_digits bytes)) 9) (digits_at (drop 1 (past_digits bytes))) None) (digits_at bytes) ≡ Some rest → HasTimeout (58 ∷ bytes) rest
    at true f e =
        let behind : List ℕ = drop 1 (past_digits bytes) in
        let g = cond_at (nat_le (length (front_digits bytes)) 9) (digits_at behind) rest e in
        let d = digits_found behind rest g.1 in
        record {
          ending = 58 ∷ (front_digits bytes ++ 46 ∷ front_digits behind);
          timed = fraction (front_digits bytes) (run_passes is_no_digit is_ascii_digit digits_kind bytes) (leb-true _ _ g.0) d.few;
          parts = ap (λ u. 58 ∷ u) (digits_before bytes ∙ ap (λ u. front_digits bytes ++ u) (begins 46 (past_digits bytes) f ∙ ap (λ u. 46 ∷ u) (digits_before behind ∙ ap (λ u. front_digits behind ++ u) d.behind))
              ∙ sym (append_assoc (front_digits bytes) (46 ∷ front_digits behind) rest));
        }
    at false f e =
        let d = digits_found bytes rest e in
        record { ending = 58 ∷ front_digits bytes; timed = whole d.few; parts = ap (λ u. 58 ∷ u) (digits_before bytes ∙ ap (λ u. front_digits bytes ++ u) d.behind) }

timeout_found : (bytes rest : List ℕ) → timeout_at bytes ≡ Some rest → HasTimeout bytes rest
unfolding timeout_at
timeout_found bytes rest e = at (begins_with_byte 58 bytes) refl e
  where
    at : (t : Bool) → begins_with_byte 58 bytes ≡ t → cond t (seconds_at (drop 1 bytes)) (Some bytes) ≡ Some rest → HasTimeout bytes rest
    at true f e =
        let found = seconds_found (drop 1 bytes) rest e in
        record { ending = found.ending; timed = found.timed; parts = begins 58 bytes f ∙ found.parts }
    at false f e = let same : bytes ≡ rest = cc in record { ending = []; timed = no_timeout; parts = same }

digits_read : (digits rest : List ℕ) → AreFewDigits digits → Ends is_no_digit rest → digits_at (digits ++ rest) ≡ Some rest
unfolding digits_at
digits_read digits rest are ends =
    let p = run_is is_no_digit is_ascii_digit digits_kind digits rest are.bytes ends in
    let short : are_few digits ≡ true = and_from (nat_lt 0 (length digits)) (nat_le (length digits) 9) (lt-ltb _ _ are.some) (le-leb _ _ are.few) in
    rw (p.0, p.1, short) refl

whole_read : (digits rest : List ℕ) → AreFewDigits digits → begins_with_byte 46 rest ≡ false → Ends is_no_digit rest → seconds_at (digits ++ rest) ≡ Some rest
unfolding seconds_at
whole_read digits rest are pointless ends =
    let p = run_is is_no_digit is_ascii_digit digits_kind digits rest are.bytes ends in
    let none : begins_with_byte 46 (past_digits (digits ++ rest)) ≡ false = ap (begins_with_byte 46) p.1 ∙ pointless in
    rw none (digits_read digits rest are ends)

fraction_read : (digits parts rest : List ℕ) → list_all is_ascii_digit digits ≡ true → length digits ≤ 9 → AreFewDigits parts → Ends is_no_digit rest → seconds_at (digits ++ (46 ∷ (parts ++ rest))) ≡ Some rest
unfolding seconds_at
fraction_read digits parts rest all few are ends =
    let p = run_is is_no_digit is_ascii_digit digits_kind digits (46 ∷ (parts ++ rest)) all refl in
    rw (p.0, p.1, le-leb _ _ few) (digits_read parts rest are ends)

timeout_read : {ending : List ℕ} (rest : List ℕ) → IsTimeout ending → begins_with_byte 58 rest ≡ false → begins_with_byte 46 rest ≡ false → Ends is_no_digit rest → timeout_at (ending ++ rest) ≡ Some rest
unfolding timeout_at
timeout_read rest no_timeout plain pointless ends = rw plain refl
timeout_read rest (whole {digits} are) plain pointless ends = whole_read digits rest are pointless ends
timeout_read rest (fraction digits {parts} all few are) plain pointless ends =
    ap seconds_at (append_assoc digits (46 ∷ parts) rest) ∙ fraction_read digits parts rest all few are ends

timeout_breaks : {ending : List ℕ} (rest : List ℕ) → IsTimeout ending → IsReferenceBreak rest → IsReferenceBreak (ending ++ rest)
timeout_breaks rest no_timeout ends = ends
timeout_breaks rest (whole are) ends = refl
timeout_breaks rest (fraction digits all few are) ends = refl

-- a sign, names and a timeout

pub locking_found : (bytes : List ℕ) (c : LockCommand) (rest : List ℕ) → locking_at bytes ≡ Some (c, rest) → FoundOf IsLocking bytes c rest
unfolding locking_at
locking_found bytes c rest e =
    let a = and_then_some {B = LockCommand × List ℕ} (lock_names_at (past_form bytes)) (λ names. timeout_at names.1 >>= λ rest. Some (locking (form_of bytes) names.0, rest)) (c, rest) e in
    let b = and_then_some {B = LockCommand × List ℕ} (timeout_at a.0.1) (λ rest. Some (locking (form_of bytes) a.0.0, rest)) (c, rest) a.2 in
    let p = some_pair_parts (locking (form_of bytes) a.0.0) c b.0 rest b.2 in
    let sign = sign_found bytes in
    let named = names_found (past_form bytes) a.0.0 a.0.1 a.1 in
    let ending = timeout_found a.0.1 b.0 b.1 in
    let inner : past_form bytes ≡ (named.text ++ ending.ending) ++ b.0 = joined (past_form bytes) named.text a.0.1 ending.ending b.0 named.parts ending.parts in
    found_is IsLocking bytes (locking (form_of bytes) a.0.0) c b.0 rest p.0 p.1 (record {
      text = sign.sign ++ (named.text ++ ending.ending);
      form = record {
        sign = sign.sign;
        listed = named.text;
        ending = ending.ending;
        form = form_of bytes;
        resources = a.0.0;
        signed = sign.signed;
        spelled = named.form;
        timed = ending.timed;
        asked = refl;
        parts = refl;
      };
      parts = joined bytes sign.sign (past_form bytes) (named.text ++ ending.ending) b.0 sign.parts inner;
    })

-- a LOCK's names begin with no blank, whatever its sign
sign_opens : {sign listed : List ℕ} {form : Form} {ns : List Resource} (k : ℕ) (rest : List ℕ) → (43 == k) ≡ false → (45 == k) ≡ false → (94 == k) ≡ false → (40 == k) ≡ false → is_word_byte k ≡ false → IsSign sign form → AreLockNames listed ns
    → begins_with_byte k (sign ++ (listed ++ rest)) ≡ false
sign_opens k rest more fewer caret open_list no_word no_sign named = names_open k rest no_word caret open_list named
sign_opens k rest more fewer caret open_list no_word plus named = more
sign_opens k rest more fewer caret open_list no_word minus named = fewer

pub locking_opens : (k : ℕ) (text : List ℕ) (c : LockCommand) (rest : List ℕ) → (43 == k) ≡ false → (45 == k) ≡ false → (94 == k) ≡ false → (40 == k) ≡ false → is_word_byte k ≡ false → IsLocking text c → begins_with_byte k (text ++ rest) ≡ false
locking_opens k text c rest more fewer caret open_list no_word form =
    ap (λ (u : List ℕ). begins_with_byte k (u ++ rest)) form.parts ∙ ap (begins_with_byte k) (append_assoc form.sign (form.listed ++ form.ending) rest ∙ ap (λ u. form.sign ++ u) (append_assoc form.listed form.ending rest))
    ∙ sign_opens k (form.ending ++ rest) more fewer caret open_list no_word form.signed form.spelled

pub locking_some : (text : List ℕ) (c : LockCommand) → IsLocking text c → 0 < length text
locking_some text c form = rw form.parts (omega (arith, length-append form.sign (form.listed ++ form.ending), length-append form.listed form.ending, names_some form.spelled))

pub locking_read : (text : List ℕ) (c : LockCommand) (rest : List ℕ) → IsLocking text c → IsReferenceBreak rest → begins_with_byte 58 rest ≡ false → begins_with_byte 46 rest ≡ false → Ends is_no_digit rest → locking_at (text ++ rest) ≡ Some (c, rest)
unfolding locking_at
locking_read text c rest form stops plain pointless ends =
    let regrouped : text ++ rest ≡ form.sign ++ (form.listed ++ (form.ending ++ rest)) = ap (λ u. u ++ rest) form.parts ∙ append_assoc form.sign (form.listed ++ form.ending) rest ∙ ap (λ u. form.sign ++ u) (append_assoc form.listed form.ending rest) in
    let behind : List ℕ = form.ending ++ rest in
    let sign = sign_read (form.listed ++ behind) form.signed (names_open 43 behind refl refl refl form.spelled) (names_open 45 behind refl refl refl form.spelled) in
    rw (regrouped, sign.0, sign.1, names_read behind form.spelled (timeout_breaks rest form.timed stops), timeout_read rest form.timed plain pointless ends, form.asked) refl
