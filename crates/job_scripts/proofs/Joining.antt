-- Groups put together, and the scripts of them.
use Rattle.std.proofs.Common.{◌≡◌, ℕ, ◌+◌, ◌<◌, Bool, true, false, not, cond, ◌||◌, eqb, List, [], ◌∷◌, ◌++◌, map, length, get_or, set, refl, sym, ap, subst, ◌∙◌, arith, append_assoc, append-nil, true≢false}
use Rattle.std.proofs.Math.Numerals.{one-add}
use Rattle.std.specs.Prelude.{unwrap_or}
use Rattle.std.specs.Borrow.{Bor}
use Rattle.std.proofs.lemmas.List.{map-append, length-map}
use Rattle.std.specs.List.{position_or_len}
use Rattle.job_scripts.specs.declared.lines.Script.{Script}
use Rattle.job_scripts.specs.Groups.{AreJoined, Group, group, group_of, groups_of, firsts, numbers_in, shown}
use Rattle.job_scripts.specs.Lines.{lent_lines}
use Rattle.job_scripts.specs.laws.Numbered.{number_at, numbers_group}
use Rattle.job_scripts.specs.SoFar.{extended, more, with_group, with_groups, IsPlaceOf}
use Rattle.job_scripts.proofs.OneMore.{Distinct, firsts_distinct, firsts_known, firsts_new, groups_with, has, has_firsts, none_under, of_lines, same_number, self_equal, set_extended}
use Rattle.job_scripts.proofs.Placing.{pos_new}

abbrev number : Group → ℕ
number g = unwrap_or g.job 0

-- ---- one group more

-- it is behind all where its number is new
pub with_new : (g : Group) (ks : List Group) → has (number g) (numbers_in ks) ≡ false → with_group g ks ≡ ks ++ g ∷ []
with_new g [] h = refl
with_new g (k ∷ ks) h = by (eqb (number g) (number k)) h (with_new g ks)
  where
    by : (b : Bool) → (b || has (number g) (numbers_in ks)) ≡ false → (has (number g) (numbers_in ks) ≡ false → with_group g ks ≡ ks ++ g ∷ [])
        → cond b (more g.lines k ∷ ks) (k ∷ with_group g ks) ≡ k ∷ (ks ++ g ∷ [])
    by true h ih = absurd (true≢false h)
    by false h ih = ap (λ (l : List Group). k ∷ l) (ih h)

-- else its lines are behind those under its number
pub with_known : (g : Group) (ks : List Group) → has (number g) (numbers_in ks) ≡ true → with_group g ks ≡ extended (position_or_len (eqb (number g)) (numbers_in ks)) g.lines ks
with_known g [] h = absurd (true≢false (sym h))
with_known g (k ∷ ks) h = by (eqb (number g) (number k)) h (with_known g ks)
  where
    by : (b : Bool) → (b || has (number g) (numbers_in ks)) ≡ true
        → (has (number g) (numbers_in ks) ≡ true → with_group g ks ≡ extended (position_or_len (eqb (number g)) (numbers_in ks)) g.lines ks)
        → cond b (more g.lines k ∷ ks) (k ∷ with_group g ks) ≡ extended (cond (not b) (1 + position_or_len (eqb (number g)) (numbers_in ks)) 0) g.lines (k ∷ ks)
    by true h ih = refl
    by false h ih = ap (λ (l : List Group). k ∷ l) (ih h) ∙ sym (ap (λ i. extended i g.lines (k ∷ ks)) (one-add (position_or_len (eqb (number g)) (numbers_in ks))))

extended_last : (ks : List Group) (k : Group) (lines : List (List ℕ)) → extended (length ks) lines (ks ++ k ∷ []) ≡ ks ++ more lines k ∷ []
extended_last [] k lines = refl
extended_last (x ∷ xs) k lines = ap (λ (l : List Group). x ∷ l) (extended_last xs k lines)

-- a line more
one_line : (lines : List (List ℕ)) (l : List ℕ) → with_group (of_lines (group_of l) (l ∷ [])) (groups_of lines) ≡ groups_of (lines ++ l ∷ [])
one_line lines l = by (has n ks) refl ∙ sym (groups_with lines [] l tt)
  where
    n : ℕ
    n = group_of l

    ks : List ℕ
    ks = firsts (map group_of lines)

    g : Group
    g = of_lines n (l ∷ [])

    by : (b : Bool) → has n ks ≡ b
        → with_group g (groups_of lines) ≡ extended (position_or_len (eqb n) (firsts (map group_of lines ++ n ∷ []))) (l ∷ []) (map (group lines) (firsts (map group_of lines ++ n ∷ [])))
    by true h =
        let known : firsts (map group_of lines ++ n ∷ []) ≡ ks = firsts_known (map group_of lines) n h in
        let there : has (number g) (numbers_in (groups_of lines)) ≡ true = ap (λ m. has m (numbers_in (groups_of lines))) (number_at n) ∙ ap (has n) (numbers_group lines ks) ∙ h in
        with_known g (groups_of lines) there
        ∙ ap (λ m. extended (position_or_len (eqb m) (numbers_in (groups_of lines))) (l ∷ []) (groups_of lines)) (number_at n)
        ∙ ap (λ (ms : List ℕ). extended (position_or_len (eqb n) ms) (l ∷ []) (groups_of lines)) (numbers_group lines ks)
        ∙ sym (ap (λ (ms : List ℕ). extended (position_or_len (eqb n) ms) (l ∷ []) (map (group lines) ms)) known)
    by false h =
        let new : firsts (map group_of lines ++ n ∷ []) ≡ ks ++ n ∷ [] = firsts_new (map group_of lines) n h in
        let there : has (number g) (numbers_in (groups_of lines)) ≡ false = ap (λ m. has m (numbers_in (groups_of lines))) (number_at n) ∙ ap (has n) (numbers_group lines ks) ∙ h in
        let empty : group lines n ≡ of_lines n [] = ap (of_lines n) (none_under n lines (sym (has_firsts n (map group_of lines)) ∙ h)) in
        let place : position_or_len (eqb n) (ks ++ n ∷ []) ≡ length (groups_of lines) = pos_new n ks h ∙ sym (length-map ks (group lines)) in
        let last : map (group lines) (ks ++ n ∷ []) ≡ groups_of lines ++ of_lines n [] ∷ [] = map-append (group lines) ks (n ∷ []) ∙ ap (λ (k : Group). groups_of lines ++ k ∷ []) empty in
        with_new g (groups_of lines) there
        ∙ sym (extended_last (groups_of lines) (of_lines n []) (l ∷ []))
        ∙ sym (ap (λ (gs : List Group). extended (length (groups_of lines)) (l ∷ []) gs) last)
        ∙ sym (ap (λ i. extended i (l ∷ []) (map (group lines) (ks ++ n ∷ []))) place)
        ∙ sym (ap (λ (ms : List ℕ). extended (position_or_len (eqb n) ms) (l ∷ []) (map (group lines) ms)) new)

-- ---- groups more

-- a number that is there stays
has_stays : (n : ℕ) (g : Group) (ks : List Group) → has n (numbers_in ks) ≡ true → has n (numbers_in (with_group g ks)) ≡ true
has_stays n g [] h = absurd (true≢false (sym h))
has_stays n g (k ∷ ks) h = by (eqb (number g) (number k)) (has_stays n g ks)
  where
    either : (c : Bool) → (c || has n (numbers_in ks)) ≡ true → (has n (numbers_in ks) ≡ true → has n (numbers_in (with_group g ks)) ≡ true) → (c || has n (numbers_in (with_group g ks))) ≡ true
    either true t ih = refl
    either false t ih = ih t

    by : (b : Bool) → (has n (numbers_in ks) ≡ true → has n (numbers_in (with_group g ks)) ≡ true) → has n (numbers_in (cond b (more g.lines k ∷ ks) (k ∷ with_group g ks))) ≡ true
    by true ih = h
    by false ih = either (eqb n (number k)) h ih

-- and that of a group more is there
has_there : (g : Group) (ks : List Group) → has (number g) (numbers_in (with_group g ks)) ≡ true
has_there g [] = ap (λ b. b || false) (self_equal (number g))
has_there g (k ∷ ks) = by (eqb (number g) (number k)) refl (has_there g ks)
  where
    by : (b : Bool) → eqb (number g) (number k) ≡ b → has (number g) (numbers_in (with_group g ks)) ≡ true → has (number g) (numbers_in (cond b (more g.lines k ∷ ks) (k ∷ with_group g ks))) ≡ true
    by true e ih = ap (λ b. b || has (number g) (numbers_in ks)) e
    by false e ih = ap (λ b. b || has (number g) (numbers_in (with_group g ks))) e ∙ ih

-- two groups of one number, at once or one after the other
at_once : (g h : Group) (ks : List Group) → number g ≡ number h → with_group (more g.lines h) ks ≡ with_group g (with_group h ks)
at_once g h [] same = sym (ap (λ b. cond b (more g.lines h ∷ []) (h ∷ g ∷ [])) (ap (λ m. eqb m (number h)) same ∙ self_equal (number h)))
at_once g h (k ∷ ks) same = by (eqb (number h) (number k)) refl (at_once g h ks same)
  where
    both : (b : Bool) → eqb (number h) (number k) ≡ b → eqb (number g) (number k) ≡ b
    both b e = ap (λ m. eqb m (number k)) same ∙ e

    by : (b : Bool) → eqb (number h) (number k) ≡ b → with_group (more g.lines h) ks ≡ with_group g (with_group h ks)
        → cond b (more (h.lines ++ g.lines) k ∷ ks) (k ∷ with_group (more g.lines h) ks) ≡ with_group g (cond b (more h.lines k ∷ ks) (k ∷ with_group h ks))
    by true e ih =
        ap (λ (ls : List (List ℕ)). record { job = k.job; lines = ls } ∷ ks) (sym (append_assoc k.lines h.lines g.lines))
        ∙ sym (ap (λ b. cond b (more g.lines (more h.lines k) ∷ ks) (more h.lines k ∷ with_group g ks)) (both true e))
    by false e ih = ap (λ (l : List Group). k ∷ l) ih ∙ sym (ap (λ b. cond b (more g.lines k ∷ with_group h ks) (k ∷ with_group g (with_group h ks))) (both false e))

-- two of different numbers, either way round where the one's number is there
pass : (g k : Group) (xs : List Group) → eqb (number g) (number k) ≡ false → has (number g) (numbers_in xs) ≡ true → with_group k (with_group g xs) ≡ with_group g (with_group k xs)
pass g k [] other h = absurd (true≢false (sym h))
pass g k (x ∷ xs) other h = by (eqb (number g) (number x)) (eqb (number k) (number x)) refl refl h (pass g k xs other)
  where
    known : (b : Bool) → eqb (number g) (number x) ≡ b → (rest : List Group) → with_group g (x ∷ rest) ≡ cond b (more g.lines x ∷ rest) (x ∷ with_group g rest)
    known b e rest = ap (λ b. cond b (more g.lines x ∷ rest) (x ∷ with_group g rest)) e

    by : (b c : Bool) → eqb (number g) (number x) ≡ b → eqb (number k) (number x) ≡ c → (b || has (number g) (numbers_in xs)) ≡ true
        → (has (number g) (numbers_in xs) ≡ true → with_group k (with_group g xs) ≡ with_group g (with_group k xs))
        → with_group k (cond b (more g.lines x ∷ xs) (x ∷ with_group g xs)) ≡ with_group g (cond c (more k.lines x ∷ xs) (x ∷ with_group k xs))
    by true true e f t ih = absurd (true≢false (sym (ap (eqb (number g)) (same_number (number k) (number x) f) ∙ e) ∙ other))
    by true false e f t ih = ap (λ b. cond b (more k.lines (more g.lines x) ∷ xs) (more g.lines x ∷ with_group k xs)) f ∙ sym (known true e (with_group k xs))
    by false true e f t ih =
        ap (λ b. cond b (more k.lines x ∷ with_group g xs) (x ∷ with_group k (with_group g xs))) f
        ∙ sym (ap (λ b. cond b (more g.lines (more k.lines x) ∷ xs) (more k.lines x ∷ with_group g xs)) e)
    by false false e f t ih =
        ap (λ b. cond b (more k.lines x ∷ with_group g xs) (x ∷ with_group k (with_group g xs))) f ∙ ap (λ (l : List Group). x ∷ l) (ih t) ∙ sym (known false e (with_group k xs))

pass_all : (g : Group) (ks xs : List Group) → has (number g) (numbers_in ks) ≡ false → has (number g) (numbers_in xs) ≡ true → with_groups ks (with_group g xs) ≡ with_group g (with_groups ks xs)
pass_all g [] xs none there = refl
pass_all g (k ∷ ks) xs none there = by (eqb (number g) (number k)) refl none (λ t. pass_all g ks (with_group k xs) t (has_stays (number g) k xs there))
  where
    by : (b : Bool) → eqb (number g) (number k) ≡ b → (b || has (number g) (numbers_in ks)) ≡ false
        → (has (number g) (numbers_in ks) ≡ false → with_groups ks (with_group g (with_group k xs)) ≡ with_group g (with_groups ks (with_group k xs)))
        → with_groups ks (with_group k (with_group g xs)) ≡ with_group g (with_groups ks (with_group k xs))
    by true e t ih = absurd (true≢false t)
    by false e t ih = ap (with_groups ks) (pass g k xs e there) ∙ ih t

-- a group more among those that are joined, or behind them
through : (g : Group) (ks xs : List Group) → Distinct (numbers_in ks) → with_groups (with_group g ks) xs ≡ with_group g (with_groups ks xs)
through g [] xs d = refl
through g (k ∷ ks) xs d = by (eqb (number g) (number k)) refl (through g ks (with_group k xs) d.1)
  where
    by : (b : Bool) → eqb (number g) (number k) ≡ b → with_groups (with_group g ks) (with_group k xs) ≡ with_group g (with_groups ks (with_group k xs))
        → with_groups (cond b (more g.lines k ∷ ks) (k ∷ with_group g ks)) xs ≡ with_group g (with_groups ks (with_group k xs))
    by true e ih =
        let same : number g ≡ number k = same_number (number g) (number k) e in
        ap (with_groups ks) (at_once g k xs same)
        ∙ pass_all g ks (with_group k xs) (ap (λ m. has m (numbers_in ks)) same ∙ d.0) (ap (λ m. has m (numbers_in (with_group k xs))) same ∙ has_there k xs)
    by false e ih = ih

-- ---- lines behind lines

distinct_groups : (lines : List (List ℕ)) → Distinct (numbers_in (groups_of lines))
distinct_groups lines = subst Distinct (sym (numbers_group lines (firsts (map group_of lines)))) (firsts_distinct (map group_of lines))

line_joined : (xs ys : List (List ℕ)) (l : List ℕ) → with_groups (groups_of ys) (groups_of xs) ≡ groups_of (xs ++ ys) → with_groups (groups_of (ys ++ l ∷ [])) (groups_of xs) ≡ groups_of (xs ++ (ys ++ l ∷ []))
line_joined xs ys l h =
    let g : Group = of_lines (group_of l) (l ∷ []) in
    ap (λ (gs : List Group). with_groups gs (groups_of xs)) (sym (one_line ys l)) ∙ through g (groups_of ys) (groups_of xs) (distinct_groups ys) ∙ ap (with_group g) h
    ∙ one_line (xs ++ ys) l ∙ ap groups_of (append_assoc xs ys (l ∷ []))

joined_from : (xs done left : List (List ℕ)) → with_groups (groups_of done) (groups_of xs) ≡ groups_of (xs ++ done) → with_groups (groups_of (done ++ left)) (groups_of xs) ≡ groups_of (xs ++ (done ++ left))
joined_from xs done [] h = subst (λ (ls : List (List ℕ)). with_groups (groups_of ls) (groups_of xs) ≡ groups_of (xs ++ ls)) (sym (append-nil done)) h
joined_from xs done (l ∷ ls) h =
    subst (λ (t : List (List ℕ)). with_groups (groups_of t) (groups_of xs) ≡ groups_of (xs ++ t)) (append_assoc done (l ∷ []) ls) (joined_from xs (done ++ l ∷ []) ls (line_joined xs done l h))

-- the groups of lines and of others behind them
joined_groups : (xs ys : List (List ℕ)) → with_groups (groups_of ys) (groups_of xs) ≡ groups_of (xs ++ ys)
joined_groups xs ys = joined_from xs [] ys (ap groups_of (sym (append-nil xs)))

-- from no group on
pub are_joined : (first second none some all : List Group) → none ≡ [] → some ≡ with_groups first none → all ≡ with_groups second some → AreJoined first second all
are_joined first second none some all n s a = λ xs ys f g.
    (let is : some ≡ groups_of xs = s ∙ ap (with_groups first) n ∙ ap (λ (gs : List Group). with_groups gs []) f ∙ joined_groups [] xs in
    a ∙ ap (with_groups second) is ∙ ap (λ (gs : List Group). with_groups gs (groups_of xs)) g ∙ joined_groups xs ys)

-- ---- scripts

-- a job's first script
pub script_new : (scripts all : List Script) (s : Script) (n : ℕ) → n ≡ unwrap_or s.job 0 → has n (numbers_in (map shown scripts)) ≡ false → all ≡ scripts ++ s ∷ [] → map shown all ≡ with_group (shown s) (map shown scripts)
script_new scripts all s n is none e =
    ap (map shown) e ∙ map-append shown scripts (s ∷ []) ∙ sym (with_new (shown s) (map shown scripts) (ap (λ m. has m (numbers_in (map shown scripts))) (sym is) ∙ none))

-- lines of a job that has a script
pub script_known : (scripts : List Script) (s : Script) (n place : ℕ) (all : List Group) → n ≡ unwrap_or s.job 0 → IsPlaceOf n (numbers_in (map shown scripts)) place → all ≡ extended place (lent_lines s.lines.items) (map shown scripts)
    → all ≡ with_group (shown s) (map shown scripts)
script_known scripts s n place all is p e =
    let ns : List ℕ = numbers_in (map shown scripts) in
    e ∙ ap (λ i. extended i (lent_lines s.lines.items) (map shown scripts)) (p.1 ∙ ap (λ m. position_or_len (eqb m) ns) is)
    ∙ sym (with_known (shown s) (map shown scripts) (ap (λ m. has m ns) (sym is) ∙ p.0))

-- lines are put behind those of a script
pub lines_appended : (scripts : List Script) (i : ℕ) (s d : Script) (ls : List (Bor (List ℕ))) → i < length scripts → s.job ≡ d.job → s.lines.items ≡ d.lines.items ++ ls → d ≡ get_or scripts i d → map shown (set scripts i s) ≡ extended i (lent_lines ls) (map shown scripts)
lines_appended scripts i s d ls h j e is =
    let lines : lent_lines s.lines.items ≡ lent_lines d.lines.items ++ lent_lines ls = ap lent_lines e ∙ map-append (λ (x : Bor (List ℕ)). x.now) d.lines.items ls in
    let same : shown s ≡ more (lent_lines ls) (shown d) = (λ k. record { job = j k; lines = lines k }) in
    set_extended scripts i s d (lent_lines ls) h (same ∙ ap (λ (x : Script). more (lent_lines ls) (shown x)) is)

-- a script more is taken, of those that are left
pub taken_on : (left rest old now : List Script) (s : Script) (all : List Group) → left ≡ s ∷ rest → map shown now ≡ with_group (shown s) (map shown old) → with_groups (map shown left) (map shown old) ≡ all → with_groups (map shown rest) (map shown now) ≡ all
taken_on left rest old now s all e t h = ap (with_groups (map shown rest)) t ∙ sym (ap (λ (ss : List Script). with_groups (map shown ss) (map shown old)) e) ∙ h

-- none is left
pub all_taken : (left now : List Script) (all : List Group) → length left ≡ 0 → with_groups (map shown left) (map shown now) ≡ all → map shown now ≡ all
all_taken [] now all e h = h
all_taken (s ∷ ss) now all e h = absurd (omega arith)
