-- Parts of a string: what is read of them is spelled so, and what is spelled so is read.
use Rattle.std.proofs.Common.{◌≡◌, inl, inr, ℕ, ◌<◌, Bool, true, false, cond, eqb, List, [], ◌∷◌, ◌++◌, length, drop, Option, Some, None, refl, sym, ap, ◌∙◌, append_assoc, arith, length-append}
use Rattle.std.proofs.lemmas.Bool.{eqb-true, and_parts, and_from, ltb-true, leb-true, lt-ltb, le-leb, or_cases}
use Rattle.std.proofs.lemmas.Bool.Decides.{nat_tests}
use Rattle.std.proofs.lemmas.Option.{some_pair_parts, cond_some}
use Rattle.std.specs.Prelude.{not, ◌&&◌, ◌==◌, codes, nat_lt, nat_le}
use Rattle.std.specs.List.{flat_map, list_all}
use Rattle.std.specs.Char.{is_ascii_digit, is_ascii_alphabetic, to_ascii_uppercase}
use Rattle.m_text.specs.Reading.{with_front, begins_with_byte, parted_at, then_closing}
use Rattle.m_text.specs.Literal.{quoted_at, is_no_digit, front_digits, past_digits, number_from, is_code, code_at, ends_letters, front_letters, past_letters, is_word, is_char_word, chars_at, part_at}
use Rattle.m_text.specs.Written.{doubled, quoted}
use Rattle.m_text.specs.Forms.{IsParted, IsCode, IsChars, IsPart}
use Rattle.m_text.specs.laws.Front.{Ends, run_passes, run_parts, run_is}
use Rattle.m_text.specs.laws.Parted.{Found, front_some, begins, parted_found, parted_read}

-- quoted texts

ended : (b : ℕ) (bs s rest : List ℕ) → b ≡ 34 → ◌≡◌ {A = Option (List ℕ × List ℕ)} (Some ([], bs)) (Some (s, rest)) → b ∷ bs ≡ flat_map doubled s ++ 34 ∷ rest
ended b bs s rest h e = let p = some_pair_parts [] s bs rest e in rw (h, p.1, ← p.0) refl

went_on : (b : ℕ) (bs t s rest : List ℕ) → bs ≡ doubled b ++ (flat_map doubled t ++ 34 ∷ rest) → s ≡ b ∷ t → bs ≡ flat_map doubled s ++ 34 ∷ rest
went_on b bs t s rest e s-is = e ∙ sym (append_assoc (doubled b) (flat_map doubled t) (34 ∷ rest)) ∙ ap (λ (u : List ℕ). flat_map doubled u ++ 34 ∷ rest) (sym s-is)

heads : (b c : ℕ) (bs more : List ℕ) → b ≡ 34 → c ≡ 34 → bs ≡ more → b ∷ c ∷ bs ≡ 34 ∷ 34 ∷ more
heads b c bs more p q r = ap (λ (x : ℕ). x ∷ c ∷ bs) p ∙ ap (λ (x : ℕ). 34 ∷ x ∷ bs) q ∙ ap (λ (x : List ℕ). 34 ∷ 34 ∷ x) r

abbrev IfTaken : List ℕ → Type 0
IfTaken bs = (s rest : List ℕ) → quoted_at bs ≡ Some (s, rest) → bs ≡ flat_map doubled s ++ 34 ∷ rest

by_cases : (b c : ℕ) (bs s rest : List ℕ) (quote double : Bool) → eqb b 34 ≡ quote → eqb c 34 ≡ double → IfTaken bs → IfTaken (c ∷ bs)
    → cond quote (cond double (with_front (34 ∷ []) (quoted_at bs)) (Some ([], c ∷ bs))) (with_front (b ∷ []) (quoted_at (c ∷ bs))) ≡ Some (s, rest) → b ∷ c ∷ bs ≡ flat_map doubled s ++ 34 ∷ rest
by_cases b c bs s rest true true q d ih ih' e =
    let f = front_some (34 ∷ []) (quoted_at bs) s rest e in
    went_on 34 (b ∷ c ∷ bs) f.0 s rest (heads b c bs (flat_map doubled f.0 ++ 34 ∷ rest) (eqb-true _ _ q) (eqb-true _ _ d) (ih f.0 rest f.1)) f.2
by_cases b c bs s rest true false q d ih ih' e = ended b (c ∷ bs) s rest (eqb-true _ _ q) e
by_cases b c bs s rest false double q d ih ih' e =
    let f = front_some (b ∷ []) (quoted_at (c ∷ bs)) s rest e in
    went_on b (b ∷ c ∷ bs) f.0 s rest (rw q (ap (λ (u : List ℕ). b ∷ u) (ih' f.0 rest f.1))) f.2

last_case : (b : ℕ) (s rest : List ℕ) (quote : Bool) → eqb b 34 ≡ quote → ◌≡◌ {A = Option (List ℕ × List ℕ)} (cond quote (Some ([], [])) None) (Some (s, rest)) → b ∷ [] ≡ flat_map doubled s ++ 34 ∷ rest
last_case b s rest true q e = ended b [] s rest (eqb-true _ _ q) e
last_case b s rest false q e = absurd cc

quoted_takes : (bs s rest : List ℕ) → quoted_at bs ≡ Some (s, rest) → bs ≡ flat_map doubled s ++ 34 ∷ rest
unfolding quoted_at
quoted_takes [] s rest e = absurd cc
quoted_takes (b ∷ []) s rest e = last_case b s rest (eqb b 34) refl e
quoted_takes (b ∷ c ∷ bs) s rest e = by_cases b c bs s rest (eqb b 34) (eqb c 34) refl refl (quoted_takes bs) (quoted_takes (c ∷ bs)) e

-- no quote follows
abbrev pub NoQuote : List ℕ → Type 0
NoQuote rest = begins_with_byte 34 rest ≡ false

-- a byte that is no quote stands for itself
pub plain_step : (b : ℕ) (bs : List ℕ) → 0 < length bs → eqb b 34 ≡ false → quoted_at (b ∷ bs) ≡ with_front (b ∷ []) (quoted_at bs)
unfolding quoted_at
plain_step b [] h q = absurd (omega (arith, h))
plain_step b (c ∷ bs) h q = rw q refl

quote_step : (bs : List ℕ) → quoted_at (34 ∷ 34 ∷ bs) ≡ with_front (34 ∷ []) (quoted_at bs)
unfolding quoted_at
quote_step bs = refl

end_step : (rest : List ℕ) → NoQuote rest → quoted_at (34 ∷ rest) ≡ Some ([], rest)
unfolding quoted_at
end_step [] h = refl
end_step (c ∷ rest) h = rw h refl

again_one : (b : ℕ) (quote : Bool) (more s rest : List ℕ) → eqb b 34 ≡ quote → 0 < length more → quoted_at more ≡ Some (s, rest) → quoted_at (doubled b ++ more) ≡ Some (b ∷ s, rest)
again_one b true more s rest q h e = let same = eqb-true b 34 q in rw (same, quote_step more, e) refl
again_one b false more s rest q h e = rw (q, plain_step b more h q, e) refl

quoted_again : (s rest : List ℕ) → NoQuote rest → quoted_at (flat_map doubled s ++ 34 ∷ rest) ≡ Some (s, rest)
quoted_again [] rest h = end_step rest h
quoted_again (b ∷ s) rest h =
    let ih = quoted_again s rest h in
    ap quoted_at (append_assoc (doubled b) (flat_map doubled s) (34 ∷ rest))
    ∙ again_one b (eqb b 34) (flat_map doubled s ++ 34 ∷ rest) s rest refl (omega (arith, length-append (flat_map doubled s) (34 ∷ rest))) ih

-- codes

-- what ends digits is no digit
pub digits_kind : (b : ℕ) → is_no_digit b ≡ not (is_ascii_digit b)
digits_kind b = refl

code_found : (bytes x rest : List ℕ) → code_at bytes ≡ Some (x, rest) → Found IsCode bytes x rest
code_found bytes x rest e =
    let g = cond_some (is_code (front_digits bytes)) (number_from 0 (front_digits bytes) ∷ [], past_digits bytes) (x, rest) e in
    let p = some_pair_parts (number_from 0 (front_digits bytes) ∷ []) x (past_digits bytes) rest (ap (λ (y : List ℕ × List ℕ). Some y) g.1) in
    let some = and_parts (nat_lt 0 (length (front_digits bytes))) _ g.0 in
    let rest_of = and_parts (nat_le (length (front_digits bytes)) 3) _ some.1 in
    record {
      text = front_digits bytes;
      form = record { digits = run_passes is_no_digit is_ascii_digit digits_kind bytes; some = ltb-true _ _ some.0; few = leb-true _ _ rest_of.0; small = leb-true _ _ rest_of.1; byte = sym p.0 };
      parts = run_parts is_no_digit bytes ∙ ap (λ r. front_digits bytes ++ r) p.1;
    }

code_read : (text x rest : List ℕ) → IsCode text x → Ends is_no_digit rest → code_at (text ++ rest) ≡ Some (x, rest)
code_read text x rest form ends =
    let p = run_is is_no_digit is_ascii_digit digits_kind text rest form.digits ends in
    let good : is_code text ≡ true = and_from _ _ (lt-ltb _ _ form.some) (and_from _ _ (le-leb _ _ form.few) (le-leb _ _ form.small)) in
    rw (p.0, p.1, good, form.byte) refl

codes_found : (bytes s rest : List ℕ) → parted_at code_at 44 bytes ≡ Some (s, rest) → Found (IsParted IsCode 44) bytes s rest
codes_found bytes s rest e = parted_found code_at IsCode 44 code_found bytes s rest e

codes_read : (codes s rest : List ℕ) → IsParted IsCode 44 codes s → parted_at code_at 44 (codes ++ 41 ∷ rest) ≡ Some (s, 41 ∷ rest)
codes_read codes s rest forms = parted_read code_at IsCode 44 (Ends is_no_digit) code_read (λ r. refl) (λ t x form. form.some) codes s (41 ∷ rest) forms refl refl

-- codes after $C

guarded : {X : Type 0} → (t : Bool) (x : Option X) (y : X) → cond t x None ≡ Some y → (t ≡ true) × (x ≡ Some y)
guarded true x y e = (refl, e)
guarded false x y e = absurd cc

pub closed_found : {X : Type 0} → (read : Option (X × List ℕ)) (x : X) (rest : List ℕ) → then_closing read ≡ Some (x, rest) → read ≡ Some (x, 41 ∷ rest)
closed_found None x rest e = absurd cc
closed_found {X} (Some (y, r)) x rest e =
    let g = guarded (begins_with_byte 41 r) (Some (y, drop 1 r)) (x, rest) e in
    let p = some_pair_parts y x (drop 1 r) rest g.1 in
    ap (λ (z : List ℕ). Some (y, z)) (begins 41 r g.0 ∙ ap (λ (z : List ℕ). 41 ∷ z) p.1) ∙ ap (λ (z : X). Some (z, 41 ∷ rest)) p.0

-- letters that are those of a word in capitals
letter : (b w : ℕ) → nat_le 65 w ≡ true → nat_le w 90 ≡ true → to_ascii_uppercase b ≡ w → is_ascii_alphabetic b ≡ true
letter b w low high e = grind (arith, nat_tests)

pub word_letters : (ws letters : List ℕ) → list_all (λ w. nat_le 65 w && nat_le w 90) ws ≡ true → is_word ws letters ≡ true → list_all is_ascii_alphabetic letters ≡ true
word_letters [] [] caps e = refl
word_letters [] (b ∷ bs) caps e = absurd cc
word_letters (w ∷ ws) [] caps e = absurd cc
word_letters (w ∷ ws) (b ∷ bs) caps e =
    let c = and_parts (nat_le 65 w && nat_le w 90) _ caps in
    let d = and_parts (nat_le 65 w) (nat_le w 90) c.0 in
    let p = and_parts (to_ascii_uppercase b == w) _ e in
    and_from _ _ (letter b w d.0 d.1 (eqb-true _ _ p.0)) (word_letters ws bs c.1 p.1)

char_letters : (word : List ℕ) → is_char_word word ≡ true → list_all is_ascii_alphabetic word ≡ true
char_letters word e = elim (or_cases _ _ e) [ inl p ↦ word_letters (codes "C") word refl p | inr p ↦ word_letters (codes "CHAR") word refl p ]

-- what ends letters is no letter
pub letters_kind : (b : ℕ) → ends_letters b ≡ not (is_ascii_alphabetic b)
letters_kind b = refl

regroup : (word list rest : List ℕ) → (word ++ (40 ∷ (list ++ 41 ∷ []))) ++ rest ≡ word ++ (40 ∷ (list ++ 41 ∷ rest))
regroup word list rest = append_assoc word (40 ∷ (list ++ 41 ∷ [])) rest ∙ ap (λ u. word ++ (40 ∷ u)) (append_assoc list (41 ∷ []) rest)

chars_found : (bytes s rest : List ℕ) → chars_at bytes ≡ Some (s, rest) → Found IsChars (36 ∷ bytes) s rest
unfolding chars_at
chars_found bytes s rest e =
    let g = guarded (is_char_word (front_letters bytes) && begins_with_byte 40 (past_letters bytes)) _ (s, rest) e in
    let tests = and_parts (is_char_word (front_letters bytes)) _ g.0 in
    let list = codes_found (drop 1 (past_letters bytes)) s (41 ∷ rest) (closed_found _ s rest g.1) in
    let parts : bytes ≡ front_letters bytes ++ (40 ∷ (list.text ++ 41 ∷ rest)) =
    run_parts ends_letters bytes ∙ ap (λ u. front_letters bytes ++ u) (begins 40 (past_letters bytes) tests.1 ∙ ap (λ u. 40 ∷ u) list.parts) in
    record {
      text = 36 ∷ (front_letters bytes ++ (40 ∷ (list.text ++ 41 ∷ [])));
      form = record { word = front_letters bytes; codes = list.text; named = tests.0; listed = list.form; parts = refl };
      parts = ap (λ u. 36 ∷ u) (parts ∙ sym (regroup (front_letters bytes) list.text rest));
    }

chars_read : (word list s rest : List ℕ) → is_char_word word ≡ true → IsParted IsCode 44 list s → chars_at (word ++ (40 ∷ (list ++ 41 ∷ rest))) ≡ Some (s, rest)
unfolding chars_at
chars_read word list s rest named listed =
    let p = run_is ends_letters is_ascii_alphabetic letters_kind word (40 ∷ (list ++ 41 ∷ rest)) (char_letters word named) refl in
    rw (p.0, p.1, named, codes_read list s rest listed) refl

-- parts

pub part_found : (bytes s rest : List ℕ) → part_at bytes ≡ Some (s, rest) → Found IsPart bytes s rest
unfolding part_at
part_found [] s rest e = absurd cc
part_found (b ∷ bs) s rest e = at (eqb b 34) (eqb b 36) refl refl e
  where
    at : (t u : Bool) → eqb b 34 ≡ t → eqb b 36 ≡ u → cond t (quoted_at bs) (cond u (chars_at bs) None) ≡ Some (s, rest) → Found IsPart (b ∷ bs) s rest
    at true u f g e =
        let parts : b ∷ bs ≡ quoted s ++ rest = ap (λ x. x ∷ bs) (eqb-true b 34 f) ∙ ap (λ u. 34 ∷ u) (quoted_takes bs s rest e ∙ sym (append_assoc (flat_map doubled s) (34 ∷ []) rest)) in
        record { text = quoted s; form = inl refl; parts = parts }
    at false true f g e =
        let found = chars_found bs s rest e in
        record { text = found.text; form = inr found.form; parts = ap (λ x. x ∷ bs) (eqb-true b 36 g) ∙ found.parts }
    at false false f g e = absurd cc

pub part_read : (text s rest : List ℕ) → IsPart text s → NoQuote rest → part_at (text ++ rest) ≡ Some (s, rest)
unfolding part_at
part_read text s rest (inl e) ends = rw (e, append_assoc (flat_map doubled s) (34 ∷ []) rest) (quoted_again s rest ends)
part_read text s rest (inr c) ends = rw (c.parts, regroup c.word c.codes rest) (chars_read c.word c.codes s rest c.named c.listed)

pub part_some : (text s : List ℕ) → IsPart text s → 0 < length text
part_some text s (inl e) = rw e (omega arith)
part_some text s (inr c) = rw c.parts (omega arith)
