-- What is asked and told side by side: one more, and one less.
use Rattle.std.proofs.Common.{◌≡◌, ℕ, zero, suc, ◌+◌, ◌-◌, ◌≤◌, List, [], ◌∷◌, ◌++◌, length, take, drop, refl, sym, ap, ◌∙◌, subst, append_assoc, append-nil, length-append, drop-drop, drop_at, arith}
use Rattle.std.specs.Prelude.{map, Result, Ok, Err, IfOk, OnOk, OnErr}
use Rattle.std.proofs.lemmas.List.{drop-append-le, length-drop, take_at}
use Rattle.refusal.specs.declared.Refusal.{Refusal}
use Rattle.collation.specs.Reference.{Reference}
use Rattle.command.specs.declared.access.DataCommand.{DataCommand}
use Rattle.command.specs.declared.access.DataCommand.TheVariants.{Set}
use Rattle.command.specs.declared.access.Answer.{Answer}
use Rattle.command.specs.declared.access.Answer.TheVariants.{Done, Value}
use Rattle.command.specs.declared.request.Reply.{Reply}
use Rattle.command.specs.declared.request.Reply.TheVariants.{Answered, Refused}
use Rattle.shared_engine.specs.declared.asked.Ask.{Ask}
use Rattle.shared_engine.specs.declared.asked.Ask.TheVariants.{Set as ask_set, Get as ask_get, Other as ask_other}
use Rattle.shared_engine.specs.declared.told.Tag.{Tag}
use Rattle.shared_engine.specs.declared.told.Tag.TheVariants.{Done as tag_done, Value as tag_value, Answer as tag_answer, Refused as tag_refused}
use Rattle.shared_engine.specs.Blocks.{said}
use Rattle.shared_engine.specs.Holds.{get_of, done_tag, got_tag, commands_of, AreJust, IsPassed, served_of, AreTold}

-- ---- asked

-- more behind those that are just enough
pub just_more : (asks more all : List Ask) (keys more_keys all_keys : List Reference) (texts more_texts all_texts : List (List ℕ)) (whole more_whole all_whole : List DataCommand) → all ≡ asks ++ more → all_keys ≡ keys ++ more_keys → all_texts ≡ texts ++ more_texts → all_whole ≡ whole ++ more_whole
    → AreJust asks keys texts whole → AreJust more more_keys more_texts more_whole → AreJust all all_keys all_texts all_whole
just_more asks more all keys more_keys all_keys texts more_texts all_texts whole more_whole all_whole tags_are keys_are texts_are whole_are first last = rw (tags_are, keys_are, texts_are, whole_are) (joined asks keys texts whole first)
  where
    joined : (asks : List Ask) (keys : List Reference) (texts : List (List ℕ)) (whole : List DataCommand) → AreJust asks keys texts whole → AreJust (asks ++ more) (keys ++ more_keys) (texts ++ more_texts) (whole ++ more_whole)
    joined [] keys texts whole h = rw (h.0, h.1.0, h.1.1) last
    joined (ask_set ∷ asks) [] texts whole h = absurd h
    joined (ask_set ∷ asks) (key ∷ keys) [] whole h = absurd h
    joined (ask_set ∷ asks) (key ∷ keys) (text ∷ texts) whole h = joined asks keys texts whole h
    joined (ask_get ∷ asks) [] texts whole h = absurd h
    joined (ask_get ∷ asks) (key ∷ keys) texts whole h = joined asks keys texts whole h
    joined (ask_other ∷ asks) keys texts [] h = absurd h
    joined (ask_other ∷ asks) keys texts (command ∷ whole) h = joined asks keys texts whole h

-- their commands stand behind the others
pub commands_more : (asks more all : List Ask) (keys more_keys all_keys : List Reference) (texts more_texts all_texts : List (List ℕ)) (whole more_whole all_whole : List DataCommand) → all ≡ asks ++ more → all_keys ≡ keys ++ more_keys → all_texts ≡ texts ++ more_texts → all_whole ≡ whole ++ more_whole
    → AreJust asks keys texts whole → commands_of all all_keys all_texts all_whole ≡ commands_of asks keys texts whole ++ commands_of more more_keys more_texts more_whole
commands_more asks more all keys more_keys all_keys texts more_texts all_texts whole more_whole all_whole tags_are keys_are texts_are whole_are first = rw (tags_are, keys_are, texts_are, whole_are) (joined asks keys texts whole first)
  where
    joined : (asks : List Ask) (keys : List Reference) (texts : List (List ℕ)) (whole : List DataCommand) → AreJust asks keys texts whole
        → commands_of (asks ++ more) (keys ++ more_keys) (texts ++ more_texts) (whole ++ more_whole) ≡ commands_of asks keys texts whole ++ commands_of more more_keys more_texts more_whole
    joined [] keys texts whole h = rw (h.0, h.1.0, h.1.1) refl
    joined (ask_set ∷ asks) [] texts whole h = absurd h
    joined (ask_set ∷ asks) (key ∷ keys) [] whole h = absurd h
    joined (ask_set ∷ asks) (key ∷ keys) (text ∷ texts) whole h = ap (λ (cs : List DataCommand). Set key text ∷ cs) (joined asks keys texts whole h)
    joined (ask_get ∷ asks) [] texts whole h = absurd h
    joined (ask_get ∷ asks) (key ∷ keys) texts whole h = ap (λ (cs : List DataCommand). get_of key ∷ cs) (joined asks keys texts whole h)
    joined (ask_other ∷ asks) keys texts [] h = absurd h
    joined (ask_other ∷ asks) keys texts (command ∷ whole) h = ap (λ (cs : List DataCommand). command ∷ cs) (joined asks keys texts whole h)

-- one more behind a place
pub behind : {A : Type 0} → (n : ℕ) (xs all : List A) (x : A) → n ≤ length xs → all ≡ xs ++ x ∷ [] → drop n all ≡ drop n xs ++ x ∷ []
behind n xs all x h is = ap (λ ys. drop n ys) is ∙ drop-append-le n xs (x ∷ []) h

-- as they were
pub none_behind : {A : Type 0} → (xs : List A) → xs ≡ xs ++ []
none_behind xs = sym (append-nil xs)

-- the place behind one that is there
pub next_place : {A : Type 0} → (n : ℕ) (xs : List A) → 1 ≤ length (drop n xs) → n + 1 ≤ length xs
next_place n xs h = omega (arith, h, length-drop n xs)

-- room, one place of which was used up
pub room_left : {A : Type 0} → (xs all : List A) (x : A) (spare before now : ℕ) → all ≡ xs ++ x ∷ [] → now ≡ before → 1 ≤ spare → length xs + spare ≤ before → length all + (spare - 1) ≤ now
room_left xs all x spare before now is same some h = omega (arith, ap length is, length-append xs (x ∷ []), same, some, h)

-- what is left behind it
pub left_at : {A : Type 0} → (n : ℕ) (xs : List A) → drop (n + 1) xs ≡ drop 1 (drop n xs)
left_at n xs = sym (drop-drop 1 n xs)

-- what is left behind the first
pub set_passed : (asks rest left : List Ask) (keys left_keys : List Reference) (texts left_texts : List (List ℕ)) (whole : List DataCommand) → asks ≡ ask_set ∷ rest → left ≡ drop 1 asks → left_keys ≡ drop 1 keys → left_texts ≡ drop 1 texts → AreJust asks keys texts whole
    → AreJust left left_keys left_texts whole × IsPassed (commands_of asks keys texts whole) (commands_of left left_keys left_texts whole) × (1 ≤ length asks) × (1 ≤ length keys) × (1 ≤ length texts)
set_passed asks rest left keys left_keys texts left_texts whole tag tags_are keys_are texts_are h =
    rw (tags_are, keys_are, texts_are, tag) (without keys texts (subst (λ (xs : List Ask). AreJust xs keys texts whole) tag h))
  where
    without : (keys : List Reference) (texts : List (List ℕ)) → AreJust (ask_set ∷ rest) keys texts whole → AreJust rest (drop 1 keys) (drop 1 texts) whole × IsPassed (commands_of (ask_set ∷ rest) keys texts whole) (commands_of rest (drop 1 keys) (drop 1 texts) whole) × (1 ≤ length (ask_set ∷ rest)) × (1 ≤ length keys) × (1 ≤ length texts)
    without [] texts h = absurd h
    without (key ∷ keys) [] h = absurd h
    without (key ∷ keys) (text ∷ texts) h = (h, (λ command others is. ap (λ (cs : List DataCommand). drop 1 cs) is), omega arith, omega arith, omega arith)

pub get_passed : (asks rest left : List Ask) (keys left_keys : List Reference) (texts : List (List ℕ)) (whole : List DataCommand) → asks ≡ ask_get ∷ rest → left ≡ drop 1 asks → left_keys ≡ drop 1 keys → AreJust asks keys texts whole
    → AreJust left left_keys texts whole × IsPassed (commands_of asks keys texts whole) (commands_of left left_keys texts whole) × (1 ≤ length asks) × (1 ≤ length keys)
get_passed asks rest left keys left_keys texts whole tag tags_are keys_are h =
    rw (tags_are, keys_are, tag) (without keys (subst (λ (xs : List Ask). AreJust xs keys texts whole) tag h))
  where
    without : (keys : List Reference) → AreJust (ask_get ∷ rest) keys texts whole → AreJust rest (drop 1 keys) texts whole × IsPassed (commands_of (ask_get ∷ rest) keys texts whole) (commands_of rest (drop 1 keys) texts whole) × (1 ≤ length (ask_get ∷ rest)) × (1 ≤ length keys)
    without [] h = absurd h
    without (key ∷ keys) h = (h, (λ command others is. ap (λ (cs : List DataCommand). drop 1 cs) is), omega arith, omega arith)

pub other_passed : (asks rest left : List Ask) (keys : List Reference) (texts : List (List ℕ)) (whole left_whole : List DataCommand) (command : DataCommand) → asks ≡ ask_other ∷ rest → left ≡ drop 1 asks → whole ≡ command ∷ left_whole → AreJust asks keys texts whole
    → AreJust left keys texts left_whole × (commands_of asks keys texts whole ≡ command ∷ commands_of left keys texts left_whole) × (1 ≤ length asks)
other_passed asks rest left keys texts whole left_whole command tag tags_are is h =
    rw (tags_are, tag, is) (subst (λ (cs : List DataCommand). AreJust (ask_other ∷ rest) keys texts cs) is (subst (λ (xs : List Ask). AreJust xs keys texts whole) tag h), refl, omega arith)

-- one is there
pub one_there : (asks rest : List Ask) (keys : List Reference) (texts : List (List ℕ)) (whole : List DataCommand) → asks ≡ ask_other ∷ rest → AreJust asks keys texts whole → 1 ≤ length whole
one_there asks rest keys texts whole tag h = there whole (subst (λ (xs : List Ask). AreJust xs keys texts whole) tag h)
  where
    there : (whole : List DataCommand) → AreJust (ask_other ∷ rest) keys texts whole → 1 ≤ length whole
    there [] h = absurd h
    there (command ∷ whole) h = omega arith

-- neither a value to set nor a whole command is left: they are $GETs
gets_alone : (asks : List Ask) (keys : List Reference) → AreJust asks keys [] [] → commands_of asks keys [] [] ≡ map get_of keys
gets_alone [] keys h = rw h.0 refl
gets_alone (ask_set ∷ asks) [] h = absurd h
gets_alone (ask_set ∷ asks) (key ∷ keys) h = absurd h
gets_alone (ask_get ∷ asks) [] h = absurd h
gets_alone (ask_get ∷ asks) (key ∷ keys) h = ap (λ (cs : List DataCommand). get_of key ∷ cs) (gets_alone asks keys h)
gets_alone (ask_other ∷ asks) keys h = absurd h

pub gets_left : (asks : List Ask) (keys : List Reference) (texts : List (List ℕ)) (whole : List DataCommand) → texts ≡ [] → whole ≡ [] → AreJust asks keys texts whole → commands_of asks keys texts whole ≡ map get_of keys
gets_left asks keys texts whole no_text none h = rw (no_text, none) (gets_alone asks keys (subst (λ (ts : List (List ℕ)). AreJust asks keys ts []) no_text (subst (λ (cs : List DataCommand). AreJust asks keys texts cs) none h)))

-- nothing stands behind the end
pub none_left : {A : Type 0} → (n : ℕ) (xs : List A) → length xs ≤ n → drop n xs ≡ []
none_left zero [] h = refl
none_left (suc n) [] h = refl
none_left zero (x ∷ xs) h = absurd (omega (arith, h))
none_left (suc n) (x ∷ xs) h = none_left n xs (omega (arith, h))

-- all that is left
pub rest_of : {A : Type 0} → (n : ℕ) (xs : List A) → take (length xs - n) (drop n xs) ≡ drop n xs
rest_of n xs = ap (λ k. take k (drop n xs)) (sym (length-drop n xs)) ∙ (ap (λ ys. take (length (drop n xs)) ys) (none_behind (drop n xs)) ∙ take_at (drop n xs) [] (length (drop n xs)) refl)

-- ---- told

-- one tag more, with its value and answer, behind those that are just enough
pub told_more : (tags more all : List Tag) (values more_values all_values : List ℕ) (answers more_answers all_answers : List Answer) → all ≡ tags ++ more → all_values ≡ values ++ more_values → all_answers ≡ answers ++ more_answers → AreTold tags values answers
    → AreTold more more_values more_answers → AreTold all all_values all_answers × (served_of all all_values all_answers ≡ served_of tags values answers ++ served_of more more_values more_answers)
told_more tags more all values more_values all_values answers more_answers all_answers tags_are values_are answers_are first last = rw (tags_are, values_are, answers_are) (joined tags values answers first)
  where
    joined : (tags : List Tag) (values : List ℕ) (answers : List Answer) → AreTold tags values answers
        → AreTold (tags ++ more) (values ++ more_values) (answers ++ more_answers) × (served_of (tags ++ more) (values ++ more_values) (answers ++ more_answers) ≡ served_of tags values answers ++ served_of more more_values more_answers)
    joined [] values answers h = rw (h.0, h.1) (last, refl)
    joined (tag_done ∷ tags) values answers h = let next = joined tags values answers h in (next.0, ap (λ (rs : List Reply). Answered Done ∷ rs) next.1)
    joined (tag_value size ∷ tags) values answers h =
        let front = h.0 in
        let back = h.1 in
        let next = joined tags back answers h.4 in
        let taken = ap (λ (vs : List ℕ). take (length front) vs) (append_assoc front back more_values) ∙ take_at front (back ++ more_values) (length front) refl in
        let left = ap (λ (vs : List ℕ). drop (length front) vs) (append_assoc front back more_values) ∙ drop_at front (back ++ more_values) (length front) refl in
        rw (h.2, h.3) (
          (front, back ++ more_values, append_assoc front back more_values, refl, next.0),
          rw (taken, left, take_at front back (length front) refl, drop_at front back (length front) refl) (ap (λ (rs : List Reply). Answered (Value front) ∷ rs) next.1),
        )
    joined (tag_answer ∷ tags) values [] h = absurd h
    joined (tag_answer ∷ tags) values (answer ∷ answers) h = let next = joined tags values answers h in (next.0, ap (λ (rs : List Reply). Answered answer ∷ rs) next.1)
    joined (tag_refused refusal ∷ tags) values answers h = let next = joined tags values answers h in (next.0, ap (λ (rs : List Reply). Refused refusal ∷ rs) next.1)

-- a reply to a command that answers Done alone
pub done_told : (tags all : List Tag) (values : List ℕ) (answers : List Answer) (tried : Result (Unit {0}) Refusal) → all ≡ tags ++ done_tag tried ∷ [] → AreTold tags values answers
    → AreTold all values answers × (served_of all values answers ≡ served_of tags values answers ++ said (λ _. Answered Done) tried ∷ [])
done_told tags all values answers (Ok done) is h = told_more tags (tag_done ∷ []) all values [] values answers [] answers is (none_behind values) (none_behind answers) h (refl, refl)
done_told tags all values answers (Err refusal) is h = told_more tags (tag_refused refusal ∷ []) all values [] values answers [] answers is (none_behind values) (none_behind answers) h (refl, refl)

take_all_of : (value : List ℕ) → take (length value) value ≡ value
take_all_of value = ap (λ (v : List ℕ). take (length value) v) (none_behind value) ∙ take_at value [] (length value) refl

-- a reply to a $GET, whose value was copied behind the others
pub got_told : (tags all : List Tag) (values all_values value : List ℕ) (answers : List Answer) (got : Result ℕ Refusal) → all ≡ tags ++ got_tag got ∷ [] → IfOk got (λ size. size ≡ length value) → OnOk got (all_values ≡ values ++ value) → OnErr got (all_values ≡ values)
    → AreTold tags values answers → AreTold all all_values answers × (served_of all all_values answers ≡ served_of tags values answers ++ said (λ _. Answered (Value value)) got ∷ [])
got_told tags all values all_values value answers (Ok size) is sized copied same h =
    let told = told_more tags (tag_value size ∷ []) all values value all_values answers [] answers is copied (none_behind answers) h (value, [], none_behind value, sized, (refl, refl)) in
    (told.0, told.1 ∙ ap (λ (v : List ℕ). served_of tags values answers ++ Answered (Value v) ∷ []) (rw sized (take_all_of value)))
got_told tags all values all_values value answers (Err refusal) is sized copied same h =
    told_more tags (tag_refused refusal ∷ []) all values [] all_values answers [] answers is (same ∙ none_behind values) (none_behind answers) h (refl, refl)

-- a reply to another data command
pub answered_told : (tags all : List Tag) (values : List ℕ) (answers all_answers : List Answer) (answer : Answer) → all ≡ tags ++ tag_answer ∷ [] → all_answers ≡ answers ++ answer ∷ [] → AreTold tags values answers
    → AreTold all values all_answers × (served_of all values all_answers ≡ served_of tags values answers ++ Answered answer ∷ [])
answered_told tags all values answers all_answers answer is more h = told_more tags (tag_answer ∷ []) all values [] values answers (answer ∷ []) all_answers is (none_behind values) more h (refl, refl)

pub refused_told : (tags all : List Tag) (values : List ℕ) (answers : List Answer) (refusal : Refusal) → all ≡ tags ++ tag_refused refusal ∷ [] → AreTold tags values answers
    → AreTold all values answers × (served_of all values answers ≡ served_of tags values answers ++ Refused refusal ∷ [])
refused_told tags all values answers refusal is h = told_more tags (tag_refused refusal ∷ []) all values [] values answers [] answers is (none_behind values) (none_behind answers) h (refl, refl)
