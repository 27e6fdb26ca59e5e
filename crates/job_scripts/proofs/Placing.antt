-- The place of a job's script, and a line more of it.
use Rattle.std.proofs.Common.{◌≡◌, ℕ, zero, suc, ◌+◌, ◌-◌, ◌<◌, Bool, true, false, not, cond, ◌||◌, eqb, List, [], ◌∷◌, ◌++◌, map, length, get_or, set, replicate, refl, sym, ap, subst, ◌∙◌, arith, true≢false}
use Rattle.std.proofs.lemmas.List.{map-append, length-map, append_assoc, get_or-set_same, get_or-set_other, get_or-replicate, length-set, length-replicate}
use Rattle.std.proofs.lemmas.List.Folds.{list_any-append}
use Rattle.std.proofs.lemmas.Grind.{common_steps}
use Rattle.std.proofs.Math.Numerals.{one-add}
use Rattle.std.specs.List.{position_or_len}
use Rattle.std.specs.Prelude.{unwrap_or}
use Rattle.std.specs.Borrow.{Bor}
use Rattle.job_scripts.specs.declared.lines.Script.{Script}
use Rattle.job_scripts.specs.Groups.{all_lines, group_of, job_at, firsts, lines_in, nonempty, numbers_in, shown}
use Rattle.job_scripts.specs.laws.Numbered.{numbers_group}
use Rattle.job_scripts.specs.Lines.{lent_lines}
use Rattle.job_scripts.specs.SoFar.{extended, more, place_of, AreSoFar, ArePlaces, HaveGroup, IsPlaceOf}
use Rattle.job_scripts.proofs.OneMore as OneMore
use Rattle.job_scripts.proofs.OneMore.{has, has_last, self_equal, same_number, groups_with, set_extended, have_known, new_script, of_lines}

-- ---- places

either_false : (b : Bool) → (b || false) ≡ b
either_false true = refl
either_false false = refl

pos_same : (n m : ℕ) (ns : List ℕ) → has n ns ≡ true → position_or_len (eqb n) (ns ++ m ∷ []) ≡ position_or_len (eqb n) ns
pos_same n m [] h = absurd (true≢false (sym h))
pos_same n m (k ∷ ks) h = by (eqb n k) h (pos_same n m ks)
  where
    by : (b : Bool) → (b || has n ks) ≡ true → (has n ks ≡ true → position_or_len (eqb n) (ks ++ m ∷ []) ≡ position_or_len (eqb n) ks)
        → cond (not b) (1 + position_or_len (eqb n) (ks ++ m ∷ [])) 0 ≡ cond (not b) (1 + position_or_len (eqb n) ks) 0
    by true g ih = refl
    by false g ih = ap (λ x. 1 + x) (ih g)

pub pos_new : (n : ℕ) (ns : List ℕ) → has n ns ≡ false → position_or_len (eqb n) (ns ++ n ∷ []) ≡ length ns
pos_new n [] h = ap (λ b. cond (not b) (1 + 0) 0) (self_equal n)
pos_new n (k ∷ ks) h = by (eqb n k) h (pos_new n ks)
  where
    by : (b : Bool) → (b || has n ks) ≡ false → (has n ks ≡ false → position_or_len (eqb n) (ks ++ n ∷ []) ≡ length ks) → cond (not b) (1 + position_or_len (eqb n) (ks ++ n ∷ [])) 0 ≡ suc (length ks)
    by true g ih = absurd (true≢false g)
    by false g ih = ap (λ x. 1 + x) (ih g) ∙ one-add (length ks)

pos_within : (n : ℕ) (ns : List ℕ) → has n ns ≡ true → position_or_len (eqb n) ns < length ns
pos_within n [] h = absurd (true≢false (sym h))
pos_within n (k ∷ ks) h = by (eqb n k) h (pos_within n ks)
  where
    by : (b : Bool) → (b || has n ks) ≡ true → (has n ks ≡ true → position_or_len (eqb n) ks < length ks) → cond (not b) (1 + position_or_len (eqb n) ks) 0 < suc (length ks)
    by true g ih = omega arith
    by false g ih = let more : position_or_len (eqb n) ks < length ks = ih g in omega (arith, more)

place_other : (n m : ℕ) (ns : List ℕ) → eqb n m ≡ false → place_of n (ns ++ m ∷ []) ≡ place_of n ns
place_other n m ns e =
    ap (λ b. cond b (position_or_len (eqb n) (ns ++ m ∷ []) + 1) 0) (list_any-append (eqb n) ns (m ∷ []) ∙ ap (λ b. has n ns || (b || false)) e ∙ either_false (has n ns)) ∙ by (has n ns) refl
  where
    by : (b : Bool) → has n ns ≡ b → cond b (position_or_len (eqb n) (ns ++ m ∷ []) + 1) 0 ≡ cond b (position_or_len (eqb n) ns + 1) 0
    by true h = ap (λ x. x + 1) (pos_same n m ns h)
    by false h = refl

place_new : (n : ℕ) (ns : List ℕ) → has n ns ≡ false → place_of n (ns ++ n ∷ []) ≡ length ns + 1
place_new n ns h = ap (λ b. cond b (position_or_len (eqb n) (ns ++ n ∷ []) + 1) 0) (has_last n ns) ∙ ap (λ x. x + 1) (pos_new n ns h)

-- no number
no_place_yet : (places : List ℕ) → places ≡ replicate 4097 0 → ArePlaces places (numbers_in (map shown []))
no_place_yet places is = record {
  many = ap length is ∙ length-replicate {A = ℕ} 4097 0;
  each = λ n low. ap (λ (xs : List ℕ). get_or xs n 0) is ∙ get_or-replicate {A = ℕ} 4097 n 0 0 low;
}

pub no_places : (places : List ℕ) (scripts : List Script) → places ≡ replicate 4097 0 → scripts ≡ [] → ArePlaces places (numbers_in (map shown scripts))
no_places places scripts is none = subst (λ (ss : List Script). ArePlaces places (numbers_in (map shown ss))) (sym none) (no_place_yet places is)

numbers_pushed : (scripts new : List Script) (s : Script) (n : ℕ) → new ≡ scripts ++ s ∷ [] → n ≡ unwrap_or s.job 0 → numbers_in (map shown new) ≡ numbers_in (map shown scripts) ++ n ∷ []
numbers_pushed scripts new s n e is =
    ap (λ (ss : List Script). numbers_in (map shown ss)) e ∙ ap numbers_in (map-append shown scripts (s ∷ [])) ∙ map-append (λ g. unwrap_or g.job 0) (map shown scripts) (shown s ∷ [])
    ∙ ap (λ x. numbers_in (map shown scripts) ++ x ∷ []) (sym is)

pub how_many : (scripts : List Script) → length (numbers_in (map shown scripts)) ≡ length scripts
how_many scripts = length-map (map shown scripts) _ ∙ length-map scripts shown

-- a number that has no place isn't there
pub is_new : (places ns : List ℕ) (n : ℕ) → ArePlaces places ns → n < 4097 → get_or places n 0 ≡ 0 → has n ns ≡ false
is_new places ns n p low none = by (has n ns) refl (sym (p.each n low) ∙ none)
  where
    by : (b : Bool) → has n ns ≡ b → cond b (position_or_len (eqb n) ns + 1) 0 ≡ 0 → b ≡ false
    by true h e = absurd (omega (arith, e))
    by false h e = refl

any_default : (xs : List ℕ) (i d e : ℕ) → i < length xs → get_or xs i d ≡ get_or xs i e
any_default [] i d e h = absurd (omega arith)
any_default (x ∷ xs) zero d e h = refl
any_default (x ∷ xs) (suc i) d e h = any_default xs i d e (omega arith)

-- one that has a place is there
pub is_known : (places ns : List ℕ) (n place : ℕ) → ArePlaces places ns → n < 4097 → place ≡ get_or places n place → (place ≡ 0 → ⊥) → IsPlaceOf n ns (place - 1)
is_known places ns n place p low is some = by (has n ns) refl (is ∙ any_default places n place 0 (subst (λ (x : ℕ). n < x) (sym p.many) low) ∙ p.each n low)
  where
    by : (b : Bool) → has n ns ≡ b → place ≡ cond b (position_or_len (eqb n) ns + 1) 0 → IsPlaceOf n ns (place - 1)
    by true h e = (h, omega (arith, e))
    by false h e = absurd (some e)

-- a number more
pub places_more : (places new ns : List ℕ) (n k : ℕ) → ArePlaces places ns → n < 4097 → has n ns ≡ false → k ≡ length ns → new ≡ set places n (k + 1) → ArePlaces new (ns ++ n ∷ [])
places_more places new ns n k p low none size e = record {
  many = ap length e ∙ length-set places n (k + 1) ∙ p.many;
  each = λ m below. ap (λ (xs : List ℕ). get_or xs m 0) e ∙ by m below (eqb m n) refl;
}
  where
    by : (m : ℕ) → m < 4097 → (b : Bool) → eqb m n ≡ b → get_or (set places n (k + 1)) m 0 ≡ place_of m (ns ++ n ∷ [])
    by m below true h =
        let same : m ≡ n = same_number m n h in
        subst (λ x. get_or (set places n (k + 1)) x 0 ≡ place_of x (ns ++ n ∷ [])) (sym same)
        (get_or-set_same places n (k + 1) 0 (subst (λ (x : ℕ). n < x) (sym p.many) low) ∙ ap (λ x. x + 1) size ∙ sym (place_new n ns none))
    by m below false h = get_or-set_other places n m (k + 1) 0 (λ same. true≢false (sym (ap (λ x. eqb x n) same ∙ self_equal n) ∙ h)) ∙ p.each m below ∙ sym (place_other m n ns h)

-- the same of scripts
pub places_begun : (places new : List ℕ) (scripts more : List Script) (s : Script) (n k : ℕ) → ArePlaces places (numbers_in (map shown scripts)) → n < 4097 → get_or places n 0 ≡ 0 → k ≡ length scripts → new ≡ set places n (k + 1) → more ≡ scripts ++ s ∷ []
    → n ≡ unwrap_or s.job 0 → ArePlaces new (numbers_in (map shown more))
places_begun places new scripts more s n k p low none size e pushed is =
    subst (ArePlaces new) (sym (numbers_pushed scripts more s n pushed is)) (places_more places new (numbers_in (map shown scripts)) n k p low (is_new places (numbers_in (map shown scripts)) n p low none) (size ∙ sym (how_many scripts)) e)

pub place_begun : (scripts more : List Script) (s : Script) (n k : ℕ) → has n (numbers_in (map shown scripts)) ≡ false → k ≡ length scripts → more ≡ scripts ++ s ∷ [] → n ≡ unwrap_or s.job 0 → IsPlaceOf n (numbers_in (map shown more)) k
place_begun scripts more s n k none size pushed is =
    let ns : List ℕ = numbers_in (map shown scripts) in
    subst (λ (ms : List ℕ). IsPlaceOf n ms k) (sym (numbers_pushed scripts more s n pushed is)) (has_last n ns, size ∙ sym (how_many scripts) ∙ sym (pos_new n ns none))

pub group_begun : (scripts more : List Script) (s : Script) (n : ℕ) → has n (numbers_in (map shown scripts)) ≡ false → more ≡ scripts ++ s ∷ [] → s.job ≡ job_at n → s.lines.items ≡ [] → HaveGroup n (map shown scripts) (map shown more)
group_begun scripts more s n none pushed is empty =
    new_script n scripts more s (numbers_in (map shown scripts)) refl none pushed (λ i. record { job = is i; lines = map (λ l. l.now) (empty i) })

pub group_known : (scripts : List Script) (n place : ℕ) → IsPlaceOf n (numbers_in (map shown scripts)) place → HaveGroup n (map shown scripts) (map shown scripts)
group_known scripts n place p = have_known n (map shown scripts) (numbers_in (map shown scripts)) refl p.0

pub within_scripts : (scripts : List Script) (n place : ℕ) → IsPlaceOf n (numbers_in (map shown scripts)) place → place < length scripts
within_scripts scripts n place p =
    let ns : List ℕ = numbers_in (map shown scripts) in subst (λ x. place < x) (how_many scripts) (subst (λ x. x < length ns) (sym p.1) (pos_within n ns p.0))

-- a script keeps its number
numbers_extended : (i : ℕ) (ls : List (List ℕ)) (scripts new : List Script) → map shown new ≡ extended i ls (map shown scripts) → numbers_in (map shown new) ≡ numbers_in (map shown scripts)
numbers_extended i ls scripts new e = ap numbers_in e ∙ OneMore.numbers_extended i ls (map shown scripts)

pub places_stay : (places : List ℕ) (i : ℕ) (ls : List (List ℕ)) (scripts new : List Script) → map shown new ≡ extended i ls (map shown scripts) → ArePlaces places (numbers_in (map shown scripts)) → ArePlaces places (numbers_in (map shown new))
places_stay places i ls scripts new e p = subst (ArePlaces places) (sym (numbers_extended i ls scripts new e)) p

-- ---- lines

not_none : (n : ℕ) → eqb (suc n) 0 ≡ false
not_none n = grind (arith, common_steps)

-- a line that isn't empty
pub none_is_empty : (b : ℕ) (bs : List ℕ) (xs : List (List ℕ)) → nonempty ((b ∷ bs) ∷ xs) ≡ (b ∷ bs) ∷ nonempty xs
none_is_empty b bs xs = ap (λ t. cond (not t) ((b ∷ bs) ∷ nonempty xs) (nonempty xs)) (not_none (length bs))

-- a line is put behind the lines so far
pub line_grouped : (line : List ℕ) (place : ℕ) (old mid new : List Script) (all rest : List (List ℕ)) → IsPlaceOf (group_of line) (numbers_in (map shown mid)) place → HaveGroup (group_of line) (map shown old) (map shown mid)
    → map shown new ≡ extended place (line ∷ []) (map shown mid) → AreSoFar all (line ∷ rest) old → AreSoFar all rest new
line_grouped line place old mid new all rest p have e s =
    let ns : List ℕ = firsts (map group_of s.0 ++ group_of line ∷ []) in
    let g = have s.0 s.1 in
    let same : numbers_in (map shown mid) ≡ ns = ap numbers_in g ∙ numbers_group s.0 ns in (
      s.0 ++ line ∷ [],
      e ∙ ap (λ i. extended i (line ∷ []) (map shown mid)) (p.1 ∙ ap (position_or_len (eqb (group_of line))) same) ∙ ap (extended (position_or_len (eqb (group_of line)) ns) (line ∷ [])) g
          ∙ sym (groups_with s.0 [] line tt),
      append_assoc s.0 (line ∷ []) rest ∙ s.2,
    )

lent_more : (old new : List (Bor (List ℕ))) (l : Bor (List ℕ)) → new ≡ old ++ l ∷ [] → lent_lines new ≡ lent_lines old ++ l.now ∷ []
lent_more old new l e = ap lent_lines e ∙ map-append (λ (x : Bor (List ℕ)). x.now) old (l ∷ [])

-- a line is put behind those of a script
pub line_pushed : (scripts : List Script) (i : ℕ) (s d : Script) (l : Bor (List ℕ)) → i < length scripts → s.job ≡ d.job → s.lines.items ≡ d.lines.items ++ l ∷ [] → d ≡ get_or scripts i d → map shown (set scripts i s) ≡ extended i (l.now ∷ []) (map shown scripts)
line_pushed scripts i s d l h j e is =
    let same : shown s ≡ more (l.now ∷ []) (shown d) = (λ k. record { job = j k; lines = lent_more d.lines.items s.lines.items l e k }) in
    set_extended scripts i s d (l.now ∷ []) h (same ∙ ap (λ (x : Script). more (l.now ∷ []) (shown x)) is)

-- no line yet
pub none_so_far : (text : List ℕ) (lines : List (List ℕ)) (scripts : List Script) → scripts ≡ [] → lines ≡ all_lines text → AreSoFar (lines_in text) (nonempty lines) scripts
none_so_far text lines scripts none same = ([], ap (map shown) none, ap nonempty same)

-- the lines that are left
pub so_far_on : (all lines rest : List (List ℕ)) (line : List ℕ) (old new : List Script) → lines ≡ line ∷ rest → ((a r : List (List ℕ)) → AreSoFar a (nonempty (line ∷ r)) old → AreSoFar a (nonempty r) new) → AreSoFar all (nonempty lines) old → AreSoFar all (nonempty rest) new
so_far_on all lines rest line old new e t s = t all rest (subst (λ (ls : List (List ℕ)). AreSoFar all (nonempty ls) old) e s)
