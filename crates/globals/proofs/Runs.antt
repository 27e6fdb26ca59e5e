-- The places of a run, and its nodes.
use Rattle.std.proofs.Common.{◌≡◌, ℕ, zero, suc, ◌+◌, ◌-◌, ◌<◌, ◌≤◌, List, [], ◌∷◌, ◌++◌, length, get_or, drop, refl, sym, ap, subst, ◌∙◌, add-one, arith, drop-cons, Bor}
use Rattle.std.specs.Prelude.{Option, Some, None, MatchOption}
use Rattle.std.proofs.lemmas.List.{drop_all, drop-drop, length-drop}
use Rattle.collation.specs.Reference.{Reference}
use Rattle.globals.specs.Runs.{nodes_in, AreLent}

abbrev Lent : Type 0
Lent = Bor Reference × Bor (List ℕ)

abbrev pub Node : Type 0
Node = Reference × List ℕ

pub nodes_length : (ps : List (Option Lent)) → AreLent ps → length (nodes_in ps) ≡ length ps
nodes_length [] h = refl
nodes_length (None ∷ ps) h = absurd h
nodes_length (Some e ∷ ps) h = ap suc (nodes_length ps h)

pub nodes_push : (ps : List (Option Lent)) (e : Lent) → nodes_in (ps ++ Some e ∷ []) ≡ nodes_in ps ++ (e.0.now, e.1.now) ∷ []
nodes_push [] e = refl
nodes_push (None ∷ ps) e = nodes_push ps e
nodes_push (Some f ∷ ps) e = ap (λ l. (f.0.now, f.1.now) ∷ l) (nodes_push ps e)

pub lent_push : (ps : List (Option Lent)) (e : Lent) → AreLent ps → AreLent (ps ++ Some e ∷ [])
lent_push [] e h = tt
lent_push (None ∷ ps) e h = absurd h
lent_push (Some f ∷ ps) e h = lent_push ps e h

nodes_drop : (i : ℕ) (ps : List (Option Lent)) → AreLent ps → drop i (nodes_in ps) ≡ nodes_in (drop i ps)
nodes_drop zero ps h = refl
nodes_drop (suc i) [] h = refl
nodes_drop (suc i) (None ∷ ps) h = absurd h
nodes_drop (suc i) (Some e ∷ ps) h = nodes_drop i ps h

lent_drop : (i : ℕ) (ps : List (Option Lent)) → AreLent ps → AreLent (drop i ps)
lent_drop zero ps h = h
lent_drop (suc i) [] h = tt
lent_drop (suc i) (None ∷ ps) h = absurd h
lent_drop (suc i) (Some e ∷ ps) h = lent_drop i ps h

-- the node that is read at an index
pub node_at : (ps : List (Option Lent)) (i : ℕ) (o : Option Lent) → AreLent ps → i < length ps → o ≡ get_or ps i o
    → MatchOption o (drop i (nodes_in ps) ≡ []) (λ e. drop i (nodes_in ps) ≡ (e.0.now, e.1.now) ∷ drop (i + 1) (nodes_in ps))
node_at ps i o h within is = by_place o (subst AreLent at (lent_drop i ps h)) (nodes_drop i ps h ∙ ap nodes_in at)
  where
    at : drop i ps ≡ o ∷ drop (suc i) ps
    at = drop-cons ps i o within ∙ ap (λ p. p ∷ drop (suc i) ps) (sym is)

    after : nodes_in (drop (suc i) ps) ≡ drop (i + 1) (nodes_in ps)
    after = sym (nodes_drop (suc i) ps h) ∙ ap (λ n. drop n (nodes_in ps)) (sym (add-one i))

    by_place : (p : Option Lent) → AreLent (p ∷ drop (suc i) ps) → drop i (nodes_in ps) ≡ nodes_in (p ∷ drop (suc i) ps)
        → MatchOption p (drop i (nodes_in ps) ≡ []) (λ e. drop i (nodes_in ps) ≡ (e.0.now, e.1.now) ∷ drop (i + 1) (nodes_in ps))
    by_place None h e = absurd h
    by_place (Some f) h e = e ∙ ap (λ l. (f.0.now, f.1.now) ∷ l) after

pub none_at : (ps : List (Option Lent)) (i : ℕ) → AreLent ps → length ps ≤ i → drop i (nodes_in ps) ≡ []
none_at ps i h past = nodes_drop i ps h ∙ ap nodes_in (drop_all i ps past)

-- the same of a run that is seen as xs, of which the places are read as qs

pub same_at : (ps qs : List (Option Lent)) (xs : List Node) (i : ℕ) (o : Option Lent) → AreLent ps → nodes_in ps ≡ xs → qs ≡ ps → i < length qs → o ≡ get_or qs i o
    → MatchOption o (drop i xs ≡ []) (λ e. drop i xs ≡ (e.0.now, e.1.now) ∷ drop (i + 1) xs)
same_at ps qs xs i o h seen read within is =
    subst (λ ys. MatchOption o (drop i ys ≡ []) (λ e. drop i ys ≡ (e.0.now, e.1.now) ∷ drop (i + 1) ys)) seen
    (node_at ps i o h (subst (λ ys. i < length ys) read within) (is ∙ ap (λ ys. get_or ys i o) read))

pub same_none : (ps qs : List (Option Lent)) (xs : List Node) (i : ℕ) → AreLent ps → nodes_in ps ≡ xs → qs ≡ ps → length qs ≤ i → drop i xs ≡ []
same_none ps qs xs i h seen read past = ap (drop i) (sym seen) ∙ none_at ps i h (subst (λ ys. length ys ≤ i) read past)

-- the node at an index within is the first of those from there on
pub first_at : (xs ys : List Node) (p : ℕ) (o : Option Lent) (none : Type 0) → MatchOption o (drop p xs ≡ []) (λ e. drop p xs ≡ (e.0.now, e.1.now) ∷ drop (p + 1) xs) → p < length xs → drop p xs ≡ ys
    → MatchOption o none (λ e. ys ≡ (e.0.now, e.1.now) ∷ drop 1 ys)
first_at xs ys p None none h within seen = let n : length (drop p xs) ≡ 0 = ap length h in absurd (omega (arith, n, length-drop p xs))
first_at xs ys p (Some e) none h within seen = sym seen ∙ h ∙ ap (λ l. (e.0.now, e.1.now) ∷ l) (sym (ap (drop 1) (sym seen) ∙ drop-drop 1 p xs))

-- the last node
pub last_at : (xs : List Node) (n : ℕ) (o : Option Lent) → n ≡ length xs → 0 < n → MatchOption o (drop (n - 1) xs ≡ []) (λ e. drop (n - 1) xs ≡ (e.0.now, e.1.now) ∷ drop (n - 1 + 1) xs)
    → MatchOption o (xs ≡ []) (λ e. drop (length xs - 1) xs ≡ (e.0.now, e.1.now) ∷ [])
last_at xs n None counted some h = let l : length (drop (n - 1) xs) ≡ 0 = ap length h in absurd (omega (arith, l, counted, some, length-drop (n - 1) xs))
last_at xs n (Some e) counted some h = ap (λ k. drop (k - 1) xs) (sym counted) ∙ h ∙ ap (λ l. (e.0.now, e.1.now) ∷ l) (drop_all (n - 1 + 1) xs (omega (arith, counted, some)))
