-- Lines more, and the groups of all lines.
use Rattle.std.proofs.Common.{◌≡◌, ℕ, zero, suc, ◌+◌, ◌<◌, Bool, true, false, not, cond, ◌||◌, eqb, List, [], ◌∷◌, ◌++◌, map, filter, length, get_or, set, refl, sym, ap, subst, ◌∙◌, arith, append-nil, true≢false, Result, Ok, Err, OnOk}
use Rattle.std.specs.Prelude.{⊤, unwrap_or}
use Rattle.std.proofs.Math.Numerals.{one-add}
use Rattle.std.proofs.lemmas.List.{map-append, append_assoc}
use Rattle.std.proofs.lemmas.List.Elements.{filter-append}
use Rattle.std.proofs.lemmas.Grind.{common_steps}
use Rattle.std.specs.List.{list_any, position_or_len}
use Rattle.job_scripts.specs.declared.lines.Script.{Script}
use Rattle.job_scripts.specs.Groups.{Group, group, group_of, groups_of, job_at, lines_under, firsts, numbers_in, shown}
use Rattle.job_scripts.specs.laws.Numbered.{numbers_group}
use Rattle.job_scripts.specs.SoFar.{more, extended, HaveGroup}

-- what follows from a fact that holds where it is Ok
pub then_ok : {T E : Type 0} (r : Result T E) {P Q : Type 0} → OnOk r P → (P → Q) → OnOk r Q
then_ok (Ok x) p f = f p
then_ok (Err e) p f = tt

-- ---- numbers

pub same_number : (m n : ℕ) → eqb m n ≡ true → m ≡ n
same_number m n e = grind (arith, common_steps)

other_way : (m n : ℕ) → eqb m n ≡ false → eqb n m ≡ false
other_way m n e = grind (arith, common_steps)

-- ---- lists of numbers

abbrev pub has : ℕ → List ℕ → Bool
has n ns = list_any (eqb n) ns

abbrev without : ℕ → List ℕ → List ℕ
without m ns = filter (λ k. not (eqb k m)) ns

has_without : (n m : ℕ) (ns : List ℕ) → eqb n m ≡ false → has n (without m ns) ≡ has n ns
has_without n m [] e = refl
has_without n m (k ∷ ks) e = by (eqb k m) refl (has_without n m ks e)
  where
    by : (b : Bool) → eqb k m ≡ b → has n (without m ks) ≡ has n ks → has n (cond (not b) (k ∷ without m ks) (without m ks)) ≡ (eqb n k || has n ks)
    by true h ih = ih ∙ sym (ap (λ b. b || has n ks) (subst (λ x. eqb n x ≡ false) (sym (same_number k m h)) e))
    by false h ih = ap (λ r. eqb n k || r) ih

has_none_without : (m : ℕ) (ns : List ℕ) → has m (without m ns) ≡ false
has_none_without m [] = refl
has_none_without m (k ∷ ks) = by (eqb k m) refl (has_none_without m ks)
  where
    by : (b : Bool) → eqb k m ≡ b → has m (without m ks) ≡ false → has m (cond (not b) (k ∷ without m ks) (without m ks)) ≡ false
    by true h ih = ih
    by false h ih = ap (λ r. eqb m k || r) ih ∙ ap (λ b. b || false) (other_way k m h)

abbrev pub Distinct : List ℕ → Type 0
Distinct [] = ⊤
Distinct (n ∷ ns) = (has n ns ≡ false) × Distinct ns

distinct_without : (m : ℕ) (ns : List ℕ) → Distinct ns → Distinct (without m ns)
distinct_without m [] d = tt
distinct_without m (k ∷ ks) d = by (eqb k m) refl (distinct_without m ks d.1)
  where
    by : (b : Bool) → eqb k m ≡ b → Distinct (without m ks) → Distinct (cond (not b) (k ∷ without m ks) (without m ks))
    by true h ih = ih
    by false h ih = (has_without k m ks h ∙ d.0, ih)

pub firsts_distinct : (ns : List ℕ) → Distinct (firsts ns)
firsts_distinct [] = tt
firsts_distinct (m ∷ ms) = (has_none_without m (firsts ms), distinct_without m (firsts ms) (firsts_distinct ms))

pub has_firsts : (n : ℕ) (ns : List ℕ) → has n (firsts ns) ≡ has n ns
has_firsts n [] = refl
has_firsts n (m ∷ ms) = by (eqb n m) refl (has_firsts n ms)
  where
    by : (b : Bool) → eqb n m ≡ b → has n (firsts ms) ≡ has n ms → (b || has n (without m (firsts ms))) ≡ (b || has n ms)
    by true h ih = refl
    by false h ih = has_without n m (firsts ms) h ∙ ih

pub firsts_new : (ns : List ℕ) (n : ℕ) → has n (firsts ns) ≡ false → firsts (ns ++ n ∷ []) ≡ firsts ns ++ n ∷ []
firsts_new [] n h = refl
firsts_new (m ∷ ms) n h = by (eqb n m) refl (firsts_new ms n) h
  where
    by : (b : Bool) → eqb n m ≡ b → (has n (firsts ms) ≡ false → firsts (ms ++ n ∷ []) ≡ firsts ms ++ n ∷ []) → (b || has n (without m (firsts ms))) ≡ false → m ∷ without m (firsts (ms ++ n ∷ [])) ≡ (m ∷ without m (firsts ms)) ++ n ∷ []
    by true e ih h = absurd (true≢false h)
    by false e ih h =
        ap (λ (l : List ℕ). m ∷ without m l) (ih (sym (has_without n m (firsts ms) e) ∙ h)) ∙ ap (λ (l : List ℕ). m ∷ l) (filter-append (λ k. not (eqb k m)) (firsts ms) (n ∷ []))
        ∙ ap (λ b. m ∷ (without m (firsts ms) ++ cond (not b) (n ∷ []) [])) e

pub firsts_known : (ns : List ℕ) (n : ℕ) → has n (firsts ns) ≡ true → firsts (ns ++ n ∷ []) ≡ firsts ns
firsts_known [] n h = absurd (true≢false (sym h))
firsts_known (m ∷ ms) n h = by (has n (firsts ms)) refl (firsts_known ms n)
  where
    at_last : (b : Bool) → eqb n m ≡ b → has n (firsts ms) ≡ false → (b || has n (without m (firsts ms))) ≡ true → m ∷ without m (firsts (ms ++ n ∷ [])) ≡ m ∷ without m (firsts ms)
    at_last true e none t =
        ap (λ (l : List ℕ). m ∷ without m l) (firsts_new ms n none) ∙ ap (λ (l : List ℕ). m ∷ l) (filter-append (λ k. not (eqb k m)) (firsts ms) (n ∷ []))
        ∙ ap (λ b. m ∷ (without m (firsts ms) ++ cond (not b) (n ∷ []) [])) e ∙ ap (λ (l : List ℕ). m ∷ l) (append-nil (without m (firsts ms)))
    at_last false e none t = absurd (true≢false (sym t ∙ has_without n m (firsts ms) e ∙ none))

    by : (b : Bool) → has n (firsts ms) ≡ b → (has n (firsts ms) ≡ true → firsts (ms ++ n ∷ []) ≡ firsts ms) → m ∷ without m (firsts (ms ++ n ∷ [])) ≡ m ∷ without m (firsts ms)
    by true e ih = ap (λ (l : List ℕ). m ∷ without m l) (ih e)
    by false e ih = at_last (eqb n m) refl e h

-- ---- groups

-- each line is of this number
abbrev pub AreUnder : ℕ → List (List ℕ) → Type 0
AreUnder n [] = ⊤
AreUnder n (l ∷ ls) = (group_of l ≡ n) × AreUnder n ls

abbrev pub of_lines : ℕ → List (List ℕ) → Group
of_lines n lines = record { job = job_at n; lines = lines }

none_of : (n m : ℕ) (ls : List (List ℕ)) → AreUnder m ls → eqb m n ≡ false → lines_under n ls ≡ []
none_of n m [] u e = refl
none_of n m (l ∷ ls) u e = ap (λ b. cond b (l ∷ lines_under n ls) (lines_under n ls)) (ap (λ x. eqb x n) u.0 ∙ e) ∙ none_of n m ls u.1 e

pub self_equal : (n : ℕ) → eqb n n ≡ true
self_equal n = grind (arith, common_steps)

all_of : (n : ℕ) (ls : List (List ℕ)) → AreUnder n ls → lines_under n ls ≡ ls
all_of n [] u = refl
all_of n (l ∷ ls) u = ap (λ b. cond b (l ∷ lines_under n ls) (lines_under n ls)) (ap (λ x. eqb x n) u.0 ∙ self_equal n) ∙ ap (λ (t : List (List ℕ)). l ∷ t) (all_of n ls u.1)

under_same : (n m : ℕ) (lines ls : List (List ℕ)) → AreUnder m ls → eqb m n ≡ false → lines_under n (lines ++ ls) ≡ lines_under n lines
under_same n m lines ls u e =
    filter-append (λ line. eqb (group_of line) n) lines ls ∙ ap (λ (t : List (List ℕ)). lines_under n lines ++ t) (none_of n m ls u e) ∙ append-nil (lines_under n lines)

under_more : (n : ℕ) (lines ls : List (List ℕ)) → AreUnder n ls → lines_under n (lines ++ ls) ≡ lines_under n lines ++ ls
under_more n lines ls u = filter-append (λ line. eqb (group_of line) n) lines ls ∙ ap (λ (t : List (List ℕ)). lines_under n lines ++ t) (all_of n ls u)

pub none_under : (n : ℕ) (lines : List (List ℕ)) → has n (map group_of lines) ≡ false → lines_under n lines ≡ []
none_under n [] h = refl
none_under n (l ∷ ls) h = by (eqb n (group_of l)) refl (none_under n ls) h
  where
    by : (b : Bool) → eqb n (group_of l) ≡ b → (has n (map group_of ls) ≡ false → lines_under n ls ≡ []) → (b || has n (map group_of ls)) ≡ false → lines_under n (l ∷ ls) ≡ []
    by true e ih h = absurd (true≢false h)
    by false e ih h = ap (λ b. cond b (l ∷ lines_under n ls) (lines_under n ls)) (other_way n (group_of l) e) ∙ ih h

pub numbers_extended : (i : ℕ) (ls : List (List ℕ)) (gs : List Group) → numbers_in (extended i ls gs) ≡ numbers_in gs
numbers_extended i ls [] = refl
numbers_extended zero ls (g ∷ gs) = refl
numbers_extended (suc i) ls (g ∷ gs) = ap (λ (l : List ℕ). unwrap_or g.job 0 ∷ l) (numbers_extended i ls gs)

map_same : (lines ls : List (List ℕ)) (m : ℕ) (ns : List ℕ) → AreUnder m ls → has m ns ≡ false → map (group (lines ++ ls)) ns ≡ map (group lines) ns
map_same lines ls m [] u h = refl
map_same lines ls m (n ∷ ns) u h = by (eqb m n) refl (map_same lines ls m ns u) h
  where
    by : (b : Bool) → eqb m n ≡ b → (has m ns ≡ false → map (group (lines ++ ls)) ns ≡ map (group lines) ns) → (b || has m ns) ≡ false → group (lines ++ ls) n ∷ map (group (lines ++ ls)) ns ≡ group lines n ∷ map (group lines) ns
    by true e ih h = absurd (true≢false h)
    by false e ih h = ap (λ (gs : List Group). group (lines ++ ls) n ∷ gs) (ih h) ∙ ap (λ (t : List (List ℕ)). of_lines n t ∷ map (group lines) ns) (under_same n m lines ls u e)

map_extended : (lines ls : List (List ℕ)) (m : ℕ) (ns : List ℕ) → AreUnder m ls → Distinct ns → map (group (lines ++ ls)) ns ≡ extended (position_or_len (eqb m) ns) ls (map (group lines) ns)
map_extended lines ls m [] u d = refl
map_extended lines ls m (n ∷ ns) u d = by (eqb m n) refl (map_extended lines ls m ns u d.1)
  where
    by : (b : Bool) → eqb m n ≡ b → map (group (lines ++ ls)) ns ≡ extended (position_or_len (eqb m) ns) ls (map (group lines) ns)
        → group (lines ++ ls) n ∷ map (group (lines ++ ls)) ns ≡ extended (cond (not b) (1 + position_or_len (eqb m) ns) 0) ls (group lines n ∷ map (group lines) ns)
    by true e ih =
        ap (λ (gs : List Group). group (lines ++ ls) n ∷ gs) (map_same lines ls m ns u (subst (λ x. has x ns ≡ false) (sym (same_number m n e)) d.0))
        ∙ ap (λ (g : Group). g ∷ map (group lines) ns) (ap (of_lines n) (under_more n lines ls (subst (λ x. AreUnder x ls) (same_number m n e) u)))
    by false e ih =
        ap (λ (gs : List Group). group (lines ++ ls) n ∷ gs) ih ∙ ap (λ (t : List (List ℕ)). of_lines n t ∷ extended (position_or_len (eqb m) ns) ls (map (group lines) ns)) (under_same n m lines ls u e)
        ∙ sym (ap (λ i. extended i ls (group lines n ∷ map (group lines) ns)) (one-add (position_or_len (eqb m) ns)))

pub has_last : (n : ℕ) (ns : List ℕ) → has n (ns ++ n ∷ []) ≡ true
has_last n [] = ap (λ b. b || false) (self_equal n)
has_last n (k ∷ ks) = ap (λ b. eqb n k || b) (has_last n ks) ∙ either (eqb n k)
  where
    either : (b : Bool) → (b || true) ≡ true
    either true = refl
    either false = refl

firsts_run : (ls : List (List ℕ)) (ns : List ℕ) (n : ℕ) → AreUnder n ls → has n (firsts ns) ≡ true → firsts (ns ++ map group_of ls) ≡ firsts ns
firsts_run [] ns n u h = ap firsts (append-nil ns)
firsts_run (l ∷ ls) ns n u h =
    let same : firsts (ns ++ group_of l ∷ []) ≡ firsts ns = ap (λ x. firsts (ns ++ x ∷ [])) u.0 ∙ firsts_known ns n h in
    ap firsts (sym (append_assoc ns (group_of l ∷ []) (map group_of ls))) ∙ firsts_run ls (ns ++ group_of l ∷ []) n u.1 (ap (has n) same ∙ h) ∙ same

-- a line, and others of its number, more
pub groups_with : (lines ls : List (List ℕ)) (l : List ℕ) → AreUnder (group_of l) ls
    → groups_of (lines ++ l ∷ ls) ≡ extended (position_or_len (eqb (group_of l)) (firsts (map group_of lines ++ group_of l ∷ []))) (l ∷ ls) (map (group lines) (firsts (map group_of lines ++ group_of l ∷ [])))
groups_with lines ls l u =
    let ns : List ℕ = map group_of lines ++ group_of l ∷ [] in
    let seen : has (group_of l) (firsts ns) ≡ true = has_firsts (group_of l) ns ∙ has_last (group_of l) (map group_of lines) in
    ap (λ (ks : List ℕ). map (group (lines ++ l ∷ ls)) (firsts ks)) (map-append group_of lines (l ∷ ls) ∙ sym (append_assoc (map group_of lines) (group_of l ∷ []) (map group_of ls)))
    ∙ ap (λ (ks : List ℕ). map (group (lines ++ l ∷ ls)) ks) (firsts_run ls ns (group_of l) u seen)
    ∙ map_extended lines (l ∷ ls) (group_of l) (firsts ns) (refl, u) (firsts_distinct ns)

-- ---- scripts

pub set_extended : (scripts : List Script) (i : ℕ) (s d : Script) (ls : List (List ℕ)) → i < length scripts → shown s ≡ more ls (shown (get_or scripts i d)) → map shown (set scripts i s) ≡ extended i ls (map shown scripts)
set_extended [] i s d ls h e = absurd (omega arith)
set_extended (x ∷ xs) zero s d ls h e = ap (λ (g : Group). g ∷ map shown xs) e
set_extended (x ∷ xs) (suc i) s d ls h e = ap (λ (gs : List Group). shown x ∷ gs) (set_extended xs i s d ls (omega arith) e)

-- the numbers of the groups of lines
numbers_of_groups : (lines : List (List ℕ)) (gs : List Group) (keys : List ℕ) → keys ≡ numbers_in gs → gs ≡ groups_of lines → keys ≡ firsts (map group_of lines)
numbers_of_groups lines gs keys k e = k ∙ ap numbers_in e ∙ numbers_group lines (firsts (map group_of lines))

-- a number that is known has its group
pub have_known : (n : ℕ) (gs : List Group) (keys : List ℕ) → keys ≡ numbers_in gs → has n keys ≡ true → HaveGroup n gs gs
have_known n gs keys k h = λ lines e. e ∙ sym (ap (λ (ns : List ℕ). map (group lines) ns) (firsts_known (map group_of lines) n (ap (has n) (sym (numbers_of_groups lines gs keys k e)) ∙ h)))

-- a new one gets a group of no line
have_new : (n : ℕ) (gs new : List Group) (g : Group) (keys : List ℕ) → keys ≡ numbers_in gs → has n keys ≡ false → new ≡ gs ++ g ∷ [] → g ≡ of_lines n [] → HaveGroup n gs new
have_new n gs new g keys k h e is = λ lines same.
    (let none : has n (firsts (map group_of lines)) ≡ false = ap (has n) (sym (numbers_of_groups lines gs keys k same)) ∙ h in
    let empty : g ≡ group lines n = is ∙ sym (ap (of_lines n) (none_under n lines (sym (has_firsts n (map group_of lines)) ∙ none))) in
    e ∙ ap (λ (l : List Group). l ++ g ∷ []) same ∙ ap (λ (x : Group). groups_of lines ++ x ∷ []) empty
    ∙ sym (ap (λ (ns : List ℕ). map (group lines) ns) (firsts_new (map group_of lines) n none) ∙ map-append (group lines) (firsts (map group_of lines)) (n ∷ [])))

pub new_script : (n : ℕ) (scripts new : List Script) (s : Script) (keys : List ℕ) → keys ≡ numbers_in (map shown scripts) → has n keys ≡ false → new ≡ scripts ++ s ∷ [] → shown s ≡ of_lines n [] → HaveGroup n (map shown scripts) (map shown new)
new_script n scripts new s keys k h e is = have_new n (map shown scripts) (map shown new) (shown s) keys k h (ap (map shown) e ∙ map-append shown scripts (s ∷ [])) is
