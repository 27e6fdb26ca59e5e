-- What is listed of a database asks for just its nodes.
use Rattle.std.proofs.Common.{◌≡◌, ℕ, zero, suc, ◌+◌, ◌-◌, Bool, true, false, cond, List, [], ◌∷◌, ◌++◌, length, take, drop, map, Result, Ok, Err, refl, sym, ap, ◌∙◌, append_assoc}
use Rattle.std.proofs.lemmas.Bool.{and_parts, and_from}
use Rattle.std.specs.Prelude.{◌==◌}
use Rattle.std.specs.List.{list_all, flat_map}
use Rattle.std.specs.FinMap as finmap
use Rattle.std.specs.Io.BufRead.{strip_last, ends_with_byte}
use Rattle.refusal.specs.declared.Refusal.{Refusal}
use Rattle.m_text.specs.Written.{literal_text, reference_text}
use Rattle.m_text.specs.Forms.{are_bytes}
use Rattle.listing.specs.Listing.{node_text, listing_text}
use Rattle.loading.specs.Lines.{lines_from, all_lines, header_lines}
use Rattle.loading.specs.Settings.{Setting, TextFault, setting_at, joined, with_line, asked_from, asked_after, database_of}
use Rattle.loading.specs.Statements.{is_node, ListingsAskForTheirNodes, LoadedTextsListBack}
use Rattle.loading.specs.laws.Lines.{plain_lines}
use Rattle.loading.specs.laws.Nodes.{node_line, node_read, node_plain}
use Rattle.loading.specs.laws.Reading.{take_bytes, setting_node}
use Rattle.loading.specs.laws.Databases.{database_nodes}

-- a listing's lines

texts_are : (es : List Setting) → flat_map node_text es ≡ flat_map (λ e. node_line e ++ 10 ∷ []) es
texts_are [] = refl
texts_are (e ∷ es) =
    ap (λ (l : List ℕ). l ++ flat_map node_text es) (sym (append_assoc (reference_text e.0) (61 ∷ literal_text e.1) (10 ∷ [])))
    ∙ ap (λ (l : List ℕ). (node_line e ++ 10 ∷ []) ++ l) (texts_are es)

abbrev lines_for : List Setting → List (List ℕ)
lines_for es = map node_line es ++ ([] ∷ [])

no_headers : (es : List Setting) → header_lines (lines_for es) ≡ 0
no_headers [] = refl
no_headers (e ∷ []) = refl
no_headers (e ∷ f ∷ es) = refl

asked_for : (number : ℕ) (es : List Setting) → list_all is_node es ≡ true → asked_from number (lines_for es) ≡ Ok es
asked_for number [] all = refl
asked_for number (e ∷ es) all =
    let p = and_parts (is_node e) _ all in
    ap (λ (s : Result Setting Refusal). joined number (node_line e) s (asked_from (number + 1) (lines_for es))) (node_read e p.0)
    ∙ ap (joined number (node_line e) (Ok e)) (asked_for (number + 1) es p.1)

pub listings_ask : ListingsAskForTheirNodes
listings_ask m holds =
    let es : List Setting = finmap.entries m in
    let lines : all_lines (listing_text m) ≡ lines_for es = ap all_lines (texts_are es) ∙ plain_lines node_line is_node node_plain es holds in
    ap (λ (ls : List (List ℕ)). asked_after (header_lines ls) ls) lines
    ∙ ap (λ (n : ℕ). asked_after n (lines_for es)) (no_headers es)
    ∙ asked_for 1 es holds

-- a text's lines are of bytes, and so what they set are nodes

strip_bytes : (line : List ℕ) → are_bytes line ≡ true → are_bytes (strip_last 13 line) ≡ true
strip_bytes line e = at (ends_with_byte 13 line)
  where
    at : (t : Bool) → are_bytes (cond t (take (length line - 1) line) line) ≡ true
    at true = take_bytes (length line - 1) line e
    at false = e

bytes_more : (line : List ℕ) (b : ℕ) → are_bytes line ≡ true → are_bytes (b ∷ []) ≡ true → are_bytes (line ++ b ∷ []) ≡ true
bytes_more [] b e f = f
bytes_more (x ∷ xs) b e f = let p = and_parts _ (are_bytes xs) e in and_from _ _ p.0 (bytes_more xs b p.1 f)

lines_bytes : (line xs : List ℕ) → are_bytes line ≡ true → are_bytes xs ≡ true → list_all are_bytes (lines_from line xs) ≡ true
lines_bytes line [] e f = and_from _ _ e refl
lines_bytes line (b ∷ bs) e f =
    let p = and_parts _ (are_bytes bs) f in
    at (b == 10) (lines_bytes [] bs refl p.1) (lines_bytes (line ++ b ∷ []) bs (bytes_more line b e (and_from _ _ p.0 refl)) p.1)
  where
    at : (t : Bool) → list_all are_bytes (all_lines bs) ≡ true → list_all are_bytes (lines_from (line ++ b ∷ []) bs) ≡ true → list_all are_bytes (cond t (strip_last 13 line ∷ all_lines bs) (lines_from (line ++ b ∷ []) bs)) ≡ true
    at true ended more = and_from _ _ (strip_bytes line e) ended
    at false ended more = more

drop_all : (n : ℕ) (ls : List (List ℕ)) → list_all are_bytes ls ≡ true → list_all are_bytes (drop n ls) ≡ true
drop_all zero ls e = e
drop_all (suc n) [] e = refl
drop_all (suc n) (l ∷ ls) e = drop_all n ls (and_parts (are_bytes l) _ e).1

joined_nodes : (number : ℕ) (line : List ℕ) (setting : Result Setting Refusal) (rest : Result (List Setting) TextFault) (settings : List Setting) → ((s : Setting) → setting ≡ Ok s → is_node s ≡ true) →
    ((ss : List Setting) → rest ≡ Ok ss → list_all is_node ss ≡ true) → joined number line setting rest ≡ Ok settings → list_all is_node settings ≡ true
joined_nodes number line (Ok s) (Ok ss) settings one others e = let same : s ∷ ss ≡ settings = cc in ap (list_all is_node) (sym same) ∙ and_from _ _ (one s refl) (others ss refl)
joined_nodes number line (Ok s) (Err fault) settings one others e = absurd cc
joined_nodes number line (Err refusal) rest settings one others e = absurd cc

line_nodes : (number : ℕ) (line : List ℕ) (rest : Result (List Setting) TextFault) (settings : List Setting) → are_bytes line ≡ true →
    ((ss : List Setting) → rest ≡ Ok ss → list_all is_node ss ≡ true) → with_line number line rest ≡ Ok settings → list_all is_node settings ≡ true
line_nodes number [] rest settings bytes others e = others settings e
line_nodes number (b ∷ bs) rest settings bytes others e = joined_nodes number (b ∷ bs) (setting_at (b ∷ bs)) rest settings (λ s. setting_node (b ∷ bs) s bytes) others e

asked_nodes : (number : ℕ) (ls : List (List ℕ)) (settings : List Setting) → list_all are_bytes ls ≡ true → asked_from number ls ≡ Ok settings → list_all is_node settings ≡ true
asked_nodes number [] settings bytes e = let same : [] ≡ settings = cc in ap (list_all is_node) (sym same)
asked_nodes number (line ∷ ls) settings bytes e =
    let p = and_parts (are_bytes line) _ bytes in
    line_nodes number line (asked_from (number + 1) ls) settings p.0 (λ ss. asked_nodes (number + 1) ls ss p.1) e

pub lists_back : LoadedTextsListBack
lists_back text settings bytes e =
    let n : ℕ = header_lines (all_lines text) in
    listings_ask (database_of settings) (database_nodes settings (asked_nodes (n + 1) (drop n (all_lines text)) settings (drop_all n (all_lines text) (lines_bytes [] text refl bytes)) e))
