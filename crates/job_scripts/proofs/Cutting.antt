-- A text in halves.
use Rattle.std.proofs.Common.{◌≡◌, ◌+◌, ◌-◌, ◌<◌, ◌≤◌, ℕ, List, [], ◌++◌, map, length, length-drop, length-take-le, take, drop, take_all, slice_index, sym, ap, ◌∙◌, arith, append-nil, take-append-drop, get_or-drop, get_or-take, inr}
use Rattle.std.proofs.lemmas.Bool.{eqb-true}
use Rattle.std.proofs.lemmas.List.{map-append, drop_all, take_rest}
use Rattle.std.proofs.lemmas.List.Elements.{filter-append}
use Rattle.std.specs.Prelude.{Some}
use Rattle.bstr.specs.Find.{IsFirstByte, is_byte}
use Rattle.bstr.specs.Text.{lines_of, without_terminator}
use Rattle.bstr.proofs.lemmas.LineLemmas.{EndsLine, lines-append, lines-nil}
use Rattle.job_scripts.specs.Groups.{all_lines, lines_in, nonempty}

-- no line is in both parts, where the first ends with a line
cut_behind : (front back : List ℕ) → EndsLine front → lines_in (front ++ back) ≡ lines_in front ++ lines_in back
cut_behind front back ends =
    ap (λ (ls : List (List ℕ)). nonempty (map without_terminator ls)) (lines-append (length front) front back (omega arith) ends)
    ∙ ap nonempty (map-append without_terminator (lines_of front) (lines_of back)) ∙ filter-append _ (all_lines front) (all_lines back)

-- behind an end that was found
pub cut_at_end : (text front back seen : List ℕ) (middle end place : ℕ) → seen ≡ take (length text - middle) (drop middle text) → middle ≤ length text → IsFirstByte (is_byte 10) seen (Some end) → place ≡ middle + end + 1 → front ≡ take place text → back ≡ drop place text
    → lines_in text ≡ lines_in front ++ lines_in back
cut_at_end text front back seen middle end place s within found p f b =
    let high : end < length seen = found.0.high in
    let seen_is : seen ≡ drop middle text = s ∙ take_rest text middle in
    let seen_len : length seen ≡ length text - middle = ap length seen_is ∙ length-drop middle text in
    let front_len : length (take place text) ≡ place = length-take-le place text (omega arith) in
    let last : length (take place text) - 1 ≡ middle + end = omega arith in
    let at : slice_index text (middle + end) ≡ 10 =
    sym (get_or-drop middle text end 0) ∙ sym (ap (λ (t : List ℕ). slice_index t end) seen_is) ∙ eqb-true _ _ found.1 in
    let ends : EndsLine (take place text) = inr (ap (slice_index (take place text)) last ∙ get_or-take place text (middle + end) 0 (omega arith) ∙ at) in
    ap lines_in (sym (take-append-drop place text)) ∙ cut_behind (take place text) (drop place text) ends
    ∙ ap (λ (t : List ℕ). lines_in t ++ lines_in (drop place text)) (sym f) ∙ ap (λ (t : List ℕ). lines_in front ++ lines_in t) (sym b)

-- or not at all
pub not_cut : (text front back : List ℕ) → front ≡ take (length text) text → back ≡ drop (length text) text → lines_in text ≡ lines_in front ++ lines_in back
not_cut text front back f b =
    let whole : front ≡ text = f ∙ take_all (length text) text (omega arith) in
    let none : lines_in back ≡ [] = ap lines_in (b ∙ drop_all (length text) text (omega arith)) ∙ ap (λ (ls : List (List ℕ)). nonempty (map without_terminator ls)) lines-nil in
    ap lines_in (sym whole) ∙ sym (append-nil (lines_in front)) ∙ sym (ap (λ (ls : List (List ℕ)). lines_in front ++ ls) none)
