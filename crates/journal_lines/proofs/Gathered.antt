-- Texts that are gathered, one after the other.
use Rattle.std.proofs.Common.{◌≡◌, ℕ, ◌≤◌, List, [], ◌∷◌, ◌++◌, length, take, map, refl, sym, ap, ◌∙◌}
use Rattle.std.proofs.lemmas.Grind.{flat_map-append}
use Rattle.std.proofs.lemmas.List.{take_all}
use Rattle.std.specs.List.{flat_map}
use Rattle.journal_lines.specs.Journals.{Step, step_line, lines_of}

-- once all were looked at, the texts of all are there
pub all_gathered : {A : Type 0} (text : A → List ℕ) (old new : List ℕ) (xs : List A) (n : ℕ) → length xs ≤ n → new ≡ old ++ flat_map text (take n xs) → new ≡ old ++ flat_map text xs
all_gathered {A} text old new xs n all e = e ∙ ap (λ (ys : List A). old ++ flat_map text ys) (take_all n xs all)

-- the lines of things' steps, thing by thing
lines_of_each : {A : Type 0} (steps : A → List Step) (xs : List A) → lines_of (flat_map steps xs) ≡ flat_map (λ x. lines_of (steps x)) xs
lines_of_each steps [] = refl
lines_of_each steps (x ∷ xs) = flat_map-append step_line (steps x) (flat_map steps xs) ∙ ap (λ (t : List ℕ). lines_of (steps x) ++ t) (lines_of_each steps xs)

-- the lines of things of one step each
lines_of_one_each : {A : Type 0} (step : A → Step) (xs : List A) → lines_of (map step xs) ≡ flat_map (λ x. step_line (step x)) xs
lines_of_one_each step [] = refl
lines_of_one_each step (x ∷ xs) = ap (λ (t : List ℕ). step_line (step x) ++ t) (lines_of_one_each step xs)

pub all_lines : {A : Type 0} (steps : A → List Step) (old new : List ℕ) (xs : List A) (n : ℕ) → length xs ≤ n → new ≡ old ++ flat_map (λ x. lines_of (steps x)) (take n xs) → new ≡ old ++ lines_of (flat_map steps xs)
all_lines steps old new xs n all e = all_gathered (λ x. lines_of (steps x)) old new xs n all e ∙ ap (λ (t : List ℕ). old ++ t) (sym (lines_of_each steps xs))

pub all_one_lines : {A : Type 0} (step : A → Step) (old new : List ℕ) (xs : List A) (n : ℕ) → length xs ≤ n → new ≡ old ++ flat_map (λ x. step_line (step x)) (take n xs) → new ≡ old ++ lines_of (map step xs)
all_one_lines step old new xs n all e = all_gathered (λ x. step_line (step x)) old new xs n all e ∙ ap (λ (t : List ℕ). old ++ t) (sym (lines_of_one_each step xs))

-- lines after lines
pub lines-append : (xs ys : List Step) → lines_of (xs ++ ys) ≡ lines_of xs ++ lines_of ys
lines-append xs ys = flat_map-append step_line xs ys
