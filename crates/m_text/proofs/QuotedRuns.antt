-- Quoted texts, run after run.
use Rattle.std.proofs.Common.{◌≡◌, ℕ, suc, ◌+◌, ◌<◌, ◌≤◌, Bool, true, false, not, cond, List, [], ◌∷◌, ◌++◌, length, take, drop, Option, Some, None, refl, sym, ap, ◌∙◌, arith, ◌==◌}
use Rattle.std.proofs.Math.Numerals.{add-one, one-add}
use Rattle.std.proofs.lemmas.Bool.{eqb-true}
use Rattle.std.proofs.lemmas.List.{length-drop}
use Rattle.std.specs.List.{flat_map, position, position_or_len}
use Rattle.m_text.specs.Reading.{with_front}
use Rattle.m_text.specs.Literal.{is_quote, quoted_at}
use Rattle.m_text.specs.Written.{doubled}
use Rattle.m_text.specs.laws.Parts.{plain_step}
use Rattle.m_text.proofs.Ends.{ends_at, ends_nowhere}
use Rattle.m_text.specs.laws.Reading.{with_front-nil, with_front-append, rest_of-front}

abbrev at_quote_of : List ℕ → ℕ → Option (List ℕ × List ℕ)
at_quote_of bs n = with_front (take n bs) (quoted_at (34 ∷ drop (n + 1) bs))

run_step : (b c : ℕ) (bs : List ℕ) (n k m : ℕ) → k ≡ suc n → m ≡ n + 1 → (b == 34) ≡ false → quoted_at (c ∷ bs) ≡ at_quote_of (c ∷ bs) n → quoted_at (b ∷ c ∷ bs) ≡ at_quote_of (b ∷ c ∷ bs) k
run_step b c bs n k m e f q ih =
    let past : drop (k + 1) (b ∷ c ∷ bs) ≡ drop (n + 1) (c ∷ bs) = rw (e, add-one, add-one) refl in
    let front : take k (b ∷ c ∷ bs) ≡ b ∷ take n (c ∷ bs) = rw e refl in
    rw (past, front) (plain_step b (c ∷ bs) (omega arith) q ∙ ap (with_front (b ∷ [])) ih ∙ with_front-append (b ∷ []) (take n (c ∷ bs)) (quoted_at (34 ∷ drop (n + 1) (c ∷ bs))))

abbrev doubled_at : List ℕ → ℕ → List ℕ
doubled_at bs n = take n bs ++ (34 ∷ 34 ∷ flat_map doubled (drop (n + 1) bs))

run_more : (b : ℕ) (bs : List ℕ) (quote : Bool) → (b == 34) ≡ quote → (position_or_len is_quote bs < length bs → quoted_at bs ≡ at_quote_of bs (position_or_len is_quote bs)) →
    cond (not quote) (1 + position_or_len is_quote bs) 0 < suc (length bs) → quoted_at (b ∷ bs) ≡ at_quote_of (b ∷ bs) (cond (not quote) (1 + position_or_len is_quote bs) 0)
run_more b bs true q ih h = ap (λ x. quoted_at (x ∷ bs)) (eqb-true b 34 q) ∙ sym (with_front-nil (quoted_at (34 ∷ bs)))
run_more b [] false q ih h = absurd (omega arith)
run_more b (c ∷ bs) false q ih h = run_step b c bs (position_or_len is_quote (c ∷ bs)) (1 + position_or_len is_quote (c ∷ bs)) _ (one-add _) refl q (ih (omega arith))

-- the bytes up to the first quote stand for themselves
run_before : (bs : List ℕ) → position_or_len is_quote bs < length bs → quoted_at bs ≡ at_quote_of bs (position_or_len is_quote bs)
run_before [] h = absurd (omega arith)
run_before (b ∷ bs) h = run_more b bs (b == 34) refl (run_before bs) h

no_quote_more : (b : ℕ) (bs : List ℕ) (quote : Bool) → (b == 34) ≡ quote → (length bs ≤ position_or_len is_quote bs → quoted_at bs ≡ None) → suc (length bs) ≤ cond (not quote) (1 + position_or_len is_quote bs) 0 → quoted_at (b ∷ bs) ≡ None
unfolding quoted_at
no_quote_more b bs true q ih h = absurd (omega arith)
no_quote_more b [] false q ih h = rw q refl
no_quote_more b (c ∷ bs) false q ih h = rw (q, ih (omega arith)) refl

no_quote : (bs : List ℕ) → length bs ≤ position_or_len is_quote bs → quoted_at bs ≡ None
unfolding quoted_at
no_quote [] h = refl
no_quote (b ∷ bs) h = no_quote_more b bs (b == 34) refl (no_quote bs) h

split_at_quote : (bs : List ℕ) (n : ℕ) → position is_quote bs ≡ Some n → (quoted_at bs ≡ at_quote_of bs n) × (n < length bs)
split_at_quote bs n e =
    let p = ends_at is_quote bs n e in
    (run_before bs (omega arith) ∙ ap (at_quote_of bs) p.0, p.1)

pub none_at_quote : (bs : List ℕ) → position is_quote bs ≡ None → quoted_at bs ≡ None
none_at_quote bs e = no_quote bs (omega (arith, ends_nowhere is_quote bs e))

-- the text cut at its first quote
pub cut : (bs run rest : List ℕ) (n : ℕ) → position is_quote bs ≡ Some n → run ≡ take n bs → rest ≡ drop (n + 1) bs → (quoted_at bs ≡ with_front run (quoted_at (34 ∷ rest))) × (length rest < length bs)
cut bs run rest n e f g =
    let p = split_at_quote bs n e in
    (rw (f, g) p.0, omega (arith, p.1, ap length g, length-drop (n + 1) bs))

double_more : (b : ℕ) (bs : List ℕ) (quote : Bool) → (b == 34) ≡ quote → (position_or_len is_quote bs < length bs → flat_map doubled bs ≡ doubled_at bs (position_or_len is_quote bs)) →
    cond (not quote) (1 + position_or_len is_quote bs) 0 < suc (length bs) → cond quote (34 ∷ 34 ∷ []) (b ∷ []) ++ flat_map doubled bs ≡ doubled_at (b ∷ bs) (cond (not quote) (1 + position_or_len is_quote bs) 0)
double_more b bs true q ih h = refl
double_more b bs false q ih h =
    let past : drop (1 + position_or_len is_quote bs + 1) (b ∷ bs) ≡ drop (position_or_len is_quote bs + 1) bs = rw (one-add, add-one, add-one) refl in
    let front : take (1 + position_or_len is_quote bs) (b ∷ bs) ≡ b ∷ take (position_or_len is_quote bs) bs = rw one-add refl in
    rw (past, front) (ap (λ xs. b ∷ xs) (ih (omega arith)))

doubled_before : (bs : List ℕ) → position_or_len is_quote bs < length bs → flat_map doubled bs ≡ doubled_at bs (position_or_len is_quote bs)
doubled_before [] h = absurd (omega arith)
doubled_before (b ∷ bs) h = double_more b bs (b == 34) refl (doubled_before bs) h

double_none : (b : ℕ) (bs : List ℕ) (quote : Bool) → (b == 34) ≡ quote → (length bs ≤ position_or_len is_quote bs → flat_map doubled bs ≡ bs) → suc (length bs) ≤ cond (not quote) (1 + position_or_len is_quote bs) 0 → cond quote (34 ∷ 34 ∷ []) (b ∷ []) ++ flat_map doubled bs ≡ b ∷ bs
double_none b bs true q ih h = absurd (omega arith)
double_none b bs false q ih h = ap (λ xs. b ∷ xs) (ih (omega arith))

undoubled : (bs : List ℕ) → length bs ≤ position_or_len is_quote bs → flat_map doubled bs ≡ bs
undoubled [] h = refl
undoubled (b ∷ bs) h = double_none b bs (b == 34) refl (undoubled bs) h

pub cut_doubled : (bs run rest : List ℕ) (n : ℕ) → position is_quote bs ≡ Some n → run ≡ take n bs → rest ≡ drop (n + 1) bs → (flat_map doubled bs ≡ run ++ (34 ∷ 34 ∷ flat_map doubled rest)) × (length rest < length bs)
cut_doubled bs run rest n e f g =
    let p = ends_at is_quote bs n e in
    (rw (f, g) (doubled_before bs (omega arith) ∙ ap (doubled_at bs) p.0), omega (arith, p.1, ap length g, length-drop (n + 1) bs))

pub not_doubled : (bs : List ℕ) → position is_quote bs ≡ None → flat_map doubled bs ≡ bs
not_doubled bs e = undoubled bs (omega (arith, ends_nowhere is_quote bs e))

pub ruleset runs = (with_front-append, rest_of-front)
