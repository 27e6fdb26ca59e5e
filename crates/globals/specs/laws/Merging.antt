-- What MERGE copies, copy by copy.
use Rattle.std.proofs.Common.{◌≡◌, ℕ, Bool, true, false, List, [], ◌∷◌, ◌++◌, length, refl, sym, ap, ◌∙◌, append_assoc, append-nil}
use Rattle.std.proofs.lemmas.Bool.{or_left, or_right, or_from}
use Rattle.std.proofs.lemmas.List.Folds.{list_any-append}
use Rattle.std.specs.Cmp.{first_so, second_so}
use Rattle.std.specs.Prelude.{cond, ◌&&◌, nat_lt, map, filter}
use Rattle.std.specs.List.{list_any, list_all}
use Rattle.collation.specs.Limits.{most_subscripts}
use Rattle.collation.specs.Reference.{Reference}
use Rattle.collation.specs.Database.{is_under}
use Rattle.collation.specs.Answers.{moved}
use Rattle.globals.specs.Copies.{copied, is_deep}

pub all_under : (r : Reference) (es : List (Reference × List ℕ)) → list_all (λ e. is_under r e.0) (filter (λ e. is_under r e.0) es) ≡ true
all_under r [] = refl
all_under r (e ∷ es) = elim (is_under r e.0) as (λ b. is_under r e.0 ≡ b → list_all (λ e. is_under r e.0) (cond b (e ∷ filter (λ e. is_under r e.0) es) (filter (λ e. is_under r e.0) es)) ≡ true) [
  | true ↦ λ b. rw b (all_under r es)
  | false ↦ λ b. all_under r es
] refl

-- one more copy
pub more_copied : (a b : Reference) (xs it rest whole : List (Reference × List ℕ)) (e : Reference × List ℕ) → xs ++ map (copied a b) it ≡ whole → it ≡ e ∷ rest → (xs ++ copied a b e ∷ []) ++ map (copied a b) rest ≡ whole
more_copied a b xs it rest whole e all step = append_assoc xs (copied a b e ∷ []) (map (copied a b) rest) ∙ ap (λ l. xs ++ map (copied a b) l) (sym step) ∙ all

pub no_more_copied : (a b : Reference) (xs it whole : List (Reference × List ℕ)) → xs ++ map (copied a b) it ≡ whole → it ≡ [] → xs ≡ whole
no_more_copied a b xs it whole all end = sym (append-nil xs) ∙ ap (λ l. xs ++ map (copied a b) l) (sym end) ∙ all

any_in : {A : Type 0} (p : A → Bool) (xs : List A) (y : A) (ys : List A) → p y ≡ true → list_any p (xs ++ y ∷ ys) ≡ true
any_in p xs y ys h = list_any-append p xs (y ∷ ys) ∙ or_right (list_any p xs) _ (or_left (p y) _ h)

none_in : {A : Type 0} (p : A → Bool) (xs : List A) (y : A) → list_any p xs ≡ false → p y ≡ false → list_any p (xs ++ y ∷ []) ≡ false
none_in p xs y h e = list_any-append p xs (y ∷ []) ∙ or_from (list_any p xs) _ h (or_from (p y) _ e refl)

-- a copy that is too deep is among all copies
pub deep_found : (a b : Reference) (xs it rest whole : List (Reference × List ℕ)) (e : Reference × List ℕ) → xs ++ map (copied a b) it ≡ whole → it ≡ e ∷ rest → nat_lt most_subscripts (length (moved a b e.0).subscripts) ≡ true → list_any is_deep whole ≡ true
deep_found a b xs it rest whole e all step deep = ap (list_any is_deep) (sym all ∙ ap (λ l. xs ++ map (copied a b) l) step) ∙ any_in is_deep xs (copied a b e) (map (copied a b) rest) deep

pub still_shallow : (xs : List (Reference × List ℕ)) (e : Reference × List ℕ) → list_any is_deep xs ≡ false → nat_lt most_subscripts (length e.0.subscripts) ≡ false → list_any is_deep (xs ++ e ∷ []) ≡ false
still_shallow xs e h s = none_in is_deep xs e h s

-- the first that is left is under r, and so are the others
pub first_under : (r : Reference) (it rest : List (Reference × List ℕ)) (e : Reference × List ℕ) → list_all (λ e. is_under r e.0) it ≡ true → it ≡ e ∷ rest → (is_under r e.0 ≡ true) × (list_all (λ e. is_under r e.0) rest ≡ true)
first_under r it rest e h is =
    let all : (is_under r e.0 && list_all (λ (f : Reference × List ℕ). is_under r f.0) rest) ≡ true = sym (ap (list_all (λ (f : Reference × List ℕ). is_under r f.0)) is) ∙ h in
    (first_so _ _ all, second_so _ _ all)
