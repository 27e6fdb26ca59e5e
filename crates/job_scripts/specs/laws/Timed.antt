-- A line has a timeout where it has so many milliseconds.
use Rattle.std.proofs.Common.{◌≡◌, ℕ, ◌+◌, ◌*◌, Bool, true, false, List, [], ◌∷◌, length, refl, ◌∙◌, ap}
use Rattle.std.specs.Prelude.{Option, Some, None, drop, nat_le, unwrap_or, is_some, ◌&&◌, ◌||◌, ◌==◌, if◌then◌else◌}
use Rattle.std.specs.Option.{option_map, option_or}
use Rattle.std.specs.List.{list_all}
use Rattle.collation.specs.Bytes as byte
use Rattle.m_text.specs.Reading.{begins_with_byte}
use Rattle.m_text.specs.Literal.{front_digits, past_digits, number_from}
use Rattle.script.specs.Commands.{is_blank}
use Rattle.script.specs.Locking.{are_few, digits_at, seconds_at}
use Rattle.job_scripts.specs.Timeouts.{thousandths_in, whole_in, fraction_in, millis_in, timeout_in, has_timeout}

found : (b : Bool) (n : ℕ) → b ≡ is_some (if b then Some n else None)
found true n = refl
found false n = refl

whole : (few : Bool) (rest : List ℕ) (n : ℕ) → unwrap_or (option_map (list_all is_blank) (if few then Some rest else None)) false ≡ is_some (if few && list_all is_blank rest then Some n else None)
whole true rest n = found (list_all is_blank rest) n
whole false rest n = refl

fraction : (fits few : Bool) (rest : List ℕ) (n : ℕ)
    → unwrap_or (option_map (list_all is_blank) (if fits then (if few then Some rest else None) else None)) false ≡ is_some (if fits && (few && list_all is_blank rest) then Some n else None)
fraction true few rest n = whole few rest n
fraction false few rest n = refl

-- seconds that blanks alone follow
seconds_timed : (text : List ℕ) → unwrap_or (option_map (list_all is_blank) (seconds_at text)) false ≡ is_some (millis_in text)
unfolding seconds_at digits_at
seconds_timed text = at (begins_with_byte byte.point (past_digits text))
  where
    behind : List ℕ
    behind = drop 1 (past_digits text)

    at : (point : Bool)
        → unwrap_or (option_map (list_all is_blank) (if point then (if nat_le (length (front_digits text)) 9 then (if are_few (front_digits behind) then Some (past_digits behind) else None) else None)
        else (if are_few (front_digits text) then Some (past_digits text) else None))) false
        ≡ is_some (if point then fraction_in (front_digits text) behind else whole_in (front_digits text) (past_digits text))
    at true = fraction (nat_le (length (front_digits text)) 9) (are_few (front_digits behind)) (past_digits behind) (number_from 0 (front_digits text) * 1000 + thousandths_in (front_digits behind))
    at false = whole (are_few (front_digits text)) (past_digits text) (number_from 0 (front_digits text) * 1000)

either : {A : Type 0} → (a b : Option A) → (is_some a || is_some b) ≡ is_some (option_or a b)
either (Some x) b = refl
either None b = refl

-- behind a colon, or later
later : (colon : Bool) (bs : List ℕ) → has_timeout bs ≡ is_some (timeout_in bs)
    → ((colon && unwrap_or (option_map (list_all is_blank) (seconds_at bs)) false) || has_timeout bs) ≡ is_some (if colon then option_or (millis_in bs) (timeout_in bs) else timeout_in bs)
later true bs same = ap (λ s. s || has_timeout bs) (seconds_timed bs) ∙ (ap (λ t. is_some (millis_in bs) || t) same ∙ either (millis_in bs) (timeout_in bs))
later false bs same = same

-- the line has one
pub timed_where : (line : List ℕ) → has_timeout line ≡ is_some (timeout_in line)
timed_where [] = refl
timed_where (b ∷ bs) = later (b == byte.colon) bs (timed_where bs)
