-- Lists in lexicographic order: what goes on from a list stands together.
use Rattle.std.specs.Prelude.{◌≡◌, Bool, true, false, cond, not, ◌&&◌, ◌||◌, List, [], ◌∷◌, Option, None, Some, is_some}
use Rattle.std.proofs.Common.{refl, sym, ap, ◌∙◌}
use Rattle.std.specs.declared.cmp.Ordering.{Ordering}
use Rattle.std.specs.declared.cmp.Ordering.TheVariants.{Less, Equal, Greater}
use Rattle.std.specs.Ordering.{is_lt, is_eq, ordering_then, ordering_reverse}
use Rattle.std.specs.Cmp.{IsTotalOrder, tied_back, alike_right, first_so}
use Rattle.std.specs.Cmp.Lexicographic.{slice_cmp}
use Rattle.collation.specs.laws.Order.{is_less, is_equal, turned}
use Rattle.globals.specs.Entries.{any_of}

record Squeezed (r a b : Ordering) : Type 0 where
  same : r ≡ Equal
  left : a ≡ Less
  right : b ≡ Less

squeeze : (r a b : Ordering) → ordering_then r a ≡ Less → ordering_then (ordering_reverse r) b ≡ Less → Squeezed r a b
squeeze Less a b h k = absurd (cc)
squeeze Equal a b h k = record { same = refl; left = h; right = k }
squeeze Greater a b h k = absurd (cc)

tied_some : {X : Type 0} (r : Ordering) (o : Option X) → is_some (cond (is_eq r) o None) ≡ true → r ≡ Equal
tied_some Less o h = absurd (cc)
tied_some Equal o h = refl
tied_some Greater o h = absurd (cc)

tied_true : (r : Ordering) (b : Bool) → cond (is_eq r) b false ≡ true → r ≡ Equal
tied_true Less b h = absurd (cc)
tied_true Equal b h = refl
tied_true Greater b h = absurd (cc)

-- past one element, which ties with none
past_one : (q c : Ordering) → not (is_eq q && true) && is_lt (ordering_then q c) ≡ true → is_lt q ≡ true
past_one Less c h = refl
past_one Equal c h = absurd (cc)
past_one Greater c h = absurd (cc)

module _ {A : Type 0} (R : A → A → Ordering) where
  -- the first element of xs beyond ps, where xs goes on from ps
  abbrev pub next_of : List A → List A → Option A
  next_of [] [] = None
  next_of [] (x ∷ xs) = Some x
  next_of (p ∷ ps) [] = None
  next_of (p ∷ ps) (x ∷ xs) = cond (is_eq (R p x)) (next_of ps xs) None

  -- xs begins with ps
  abbrev pub begins : List A → List A → Bool
  begins [] xs = true
  begins (p ∷ ps) [] = false
  begins (p ∷ ps) (x ∷ xs) = is_eq (R p x) && begins ps xs

  -- xs comes after all that begins with ps
  abbrev pub passed : List A → List A → Bool
  passed ps xs = not (begins ps xs) && is_lt (slice_cmp R ps xs)

  -- xs comes before the end of all that begins with ps
  abbrev pub not_passed : List A → List A → Bool
  not_passed ps xs = begins ps xs || is_lt (slice_cmp R xs ps)

  -- the next element is the last of rs, or passes the test against it, one level up
  abbrev pub sibling : (A → A → Bool) → List A → List A → Bool
  sibling test [] xs = false
  sibling test (r ∷ []) xs = any_of (test r) (next_of [] xs)
  sibling test (r ∷ s ∷ rs) [] = false
  sibling test (r ∷ s ∷ rs) (x ∷ xs) = cond (is_eq (R r x)) (sibling test (s ∷ rs) xs) false

  module _ (o : IsTotalOrder R) where
    -- before one element
    before_one : (q : Ordering) (ys : List A) → ordering_then q (slice_cmp R ys []) ≡ Less → is_lt q ≡ true
    before_one Less ys h = refl
    before_one Equal [] h = absurd (cc)
    before_one Equal (y ∷ ys) h = absurd (cc)
    before_one Greater ys h = absurd (cc)

    -- ---- onward from a list: what goes on from it

    pub below_after : (rs xs : List A) → is_some (next_of rs xs) ≡ true → slice_cmp R rs xs ≡ Less
    below_after [] [] h = absurd (cc)
    below_after [] (x ∷ xs) h = refl
    below_after (r ∷ rs) [] h = absurd (cc)
    below_after (r ∷ rs) (x ∷ xs) h = let e = tied_some (R r x) (next_of rs xs) h in rw e (below_after rs xs (rw e at h))

    pub below_closed : (rs xs ys : List A) → slice_cmp R rs xs ≡ Less → slice_cmp R xs ys ≡ Less → is_some (next_of rs ys) ≡ true → is_some (next_of rs xs) ≡ true
    below_closed [] [] ys a b h = absurd (cc)
    below_closed [] (x ∷ xs) ys a b h = refl
    below_closed (r ∷ rs) [] ys a b h = absurd (cc)
    below_closed (r ∷ rs) (x ∷ xs) [] a b h = absurd (cc)
    below_closed (r ∷ rs) (x ∷ xs) (y ∷ ys) a b h =
        let e = tied_some (R r y) (next_of rs ys) h in
        let t : R x y ≡ ordering_reverse (R r x) = turned o y x (R r x) (sym (o.congr r y x e)) in
        let s = squeeze (R r x) (slice_cmp R rs xs) (slice_cmp R xs ys) a (rw t at b) in
        rw s.same (below_closed rs xs ys s.left s.right (rw e at h))

    -- ---- back from the end of what goes on from it

    pub below_before : (rs xs : List A) → is_some (next_of rs xs) ≡ true → not_passed rs xs ≡ true
    below_before [] xs h = refl
    below_before (r ∷ rs) [] h = absurd (cc)
    below_before (r ∷ rs) (x ∷ xs) h =
        let e = tied_some (R r x) (next_of rs xs) h in
        rw (e, tied_back o r x e) (below_before rs xs (rw e at h))

    pub below_closed_back : (rs xs ys : List A) → not_passed rs ys ≡ true → slice_cmp R xs ys ≡ Less → is_some (next_of rs xs) ≡ true → is_some (next_of rs ys) ≡ true
    below_closed_back [] [] ys b a h = absurd (cc)
    below_closed_back [] (x ∷ xs) [] b a h = absurd (cc)
    below_closed_back [] (x ∷ xs) (y ∷ ys) b a h = refl
    below_closed_back (r ∷ rs) [] ys b a h = absurd (cc)
    below_closed_back (r ∷ rs) (x ∷ xs) [] b a h = absurd (cc)
    below_closed_back (r ∷ rs) (x ∷ xs) (y ∷ ys) b a h =
        let e = tied_some (R r x) (next_of rs xs) h in
        let t : R x y ≡ R r y = sym (o.congr r x y e) in
        by_head (R r y) (rw t at a) (rw (o.antisymm y r) at b) (λ a b. below_closed_back rs xs ys b a (rw e at h))
      where
        by_head : (q : Ordering) → ordering_then q (slice_cmp R xs ys) ≡ Less → (is_eq q && begins rs ys) || is_lt (ordering_then (ordering_reverse q) (slice_cmp R ys rs)) ≡ true → (slice_cmp R xs ys ≡ Less → not_passed rs ys ≡ true → is_some (next_of rs ys) ≡ true) → is_some (cond (is_eq q) (next_of rs ys) None) ≡ true
        by_head Less a b rest = absurd (cc)
        by_head Equal a b rest = rest a b
        by_head Greater a b rest = absurd (cc)

    -- ---- onward past a list: siblings after its last element

    pub sibling_after : (rs xs : List A) → sibling (λ r x. is_lt (R r x)) rs xs ≡ true → passed rs xs ≡ true
    sibling_after [] xs h = absurd (cc)
    sibling_after (r ∷ []) [] h = absurd (cc)
    sibling_after (r ∷ []) (x ∷ xs) h = rw (is_less (R r x) h) refl
    sibling_after (r ∷ s ∷ rs) [] h = absurd (cc)
    sibling_after (r ∷ s ∷ rs) (x ∷ xs) h = let e = tied_true (R r x) _ h in rw e (sibling_after (s ∷ rs) xs (rw e at h))

    pub sibling_closed : (rs xs ys : List A) → passed rs xs ≡ true → slice_cmp R xs ys ≡ Less → sibling (λ r x. is_lt (R r x)) rs ys ≡ true → sibling (λ r x. is_lt (R r x)) rs xs ≡ true
    sibling_closed [] xs ys a b h = absurd (cc)
    sibling_closed (r ∷ []) [] ys a b h = absurd (cc)
    sibling_closed (r ∷ []) (x ∷ xs) ys a b h = past_one (R r x) _ a
    sibling_closed (r ∷ s ∷ rs) [] ys a b h = absurd (cc)
    sibling_closed (r ∷ s ∷ rs) (x ∷ xs) [] a b h = absurd (cc)
    sibling_closed (r ∷ s ∷ rs) (x ∷ xs) (y ∷ ys) a b h =
        let e = tied_true (R r y) _ h in
        let t : R x y ≡ ordering_reverse (R r x) = turned o y x (R r x) (sym (o.congr r y x e)) in
        by_head (R r x) a (rw t at b) (λ a b. sibling_closed (s ∷ rs) xs ys a b (rw e at h))
      where
        by_head : (q : Ordering) → not (is_eq q && begins (s ∷ rs) xs) && is_lt (ordering_then q (slice_cmp R (s ∷ rs) xs)) ≡ true → ordering_then (ordering_reverse q) (slice_cmp R xs ys) ≡ Less → (passed (s ∷ rs) xs ≡ true → slice_cmp R xs ys ≡ Less → sibling (λ r x. is_lt (R r x)) (s ∷ rs) xs ≡ true) → cond (is_eq q) (sibling (λ r x. is_lt (R r x)) (s ∷ rs) xs) false ≡ true
        by_head Less a b rest = absurd (cc)
        by_head Equal a b rest = rest a b
        by_head Greater a b rest = absurd (cc)

    -- ---- back from a list: siblings before its last element

    pub sibling_before : (rs xs : List A) → sibling (λ r x. is_lt (R x r)) rs xs ≡ true → slice_cmp R xs rs ≡ Less
    sibling_before [] xs h = absurd (cc)
    sibling_before (r ∷ []) [] h = absurd (cc)
    sibling_before (r ∷ []) (x ∷ xs) h = rw (is_less (R x r) h) refl
    sibling_before (r ∷ s ∷ rs) [] h = absurd (cc)
    sibling_before (r ∷ s ∷ rs) (x ∷ xs) h = let e = tied_true (R r x) _ h in rw (tied_back o r x e) (sibling_before (s ∷ rs) xs (rw e at h))

    pub sibling_closed_back : (rs xs ys : List A) → slice_cmp R ys rs ≡ Less → slice_cmp R xs ys ≡ Less → sibling (λ r x. is_lt (R x r)) rs xs ≡ true → sibling (λ r x. is_lt (R x r)) rs ys ≡ true
    sibling_closed_back [] xs ys b a h = absurd (cc)
    sibling_closed_back (r ∷ []) [] ys b a h = absurd (cc)
    sibling_closed_back (r ∷ []) (x ∷ xs) [] b a h = absurd (cc)
    sibling_closed_back (r ∷ []) (x ∷ xs) (y ∷ ys) b a h = before_one (R y r) ys b
    sibling_closed_back (r ∷ s ∷ rs) [] ys b a h = absurd (cc)
    sibling_closed_back (r ∷ s ∷ rs) (x ∷ xs) [] b a h = absurd (cc)
    sibling_closed_back (r ∷ s ∷ rs) (x ∷ xs) (y ∷ ys) b a h =
        let e = tied_true (R r x) _ h in
        let t : R x y ≡ ordering_reverse (R y r) = sym (o.congr r x y e) ∙ o.antisymm r y in
        let q = squeeze (R y r) (slice_cmp R ys (s ∷ rs)) (slice_cmp R xs ys) b (rw t at a) in
        rw (tied_back o y r q.same) (sibling_closed_back (s ∷ rs) xs ys q.left q.right (rw e at h))

    -- ---- on the right side of the bound the test of siblings says no more

    pub sibling_known : (rs xs : List A) → passed rs xs ≡ true → sibling (λ r x. is_lt (R r x)) rs xs ≡ sibling (λ r x. true) rs xs
    sibling_known [] xs h = refl
    sibling_known (r ∷ []) [] h = refl
    sibling_known (r ∷ []) (x ∷ xs) h = past_one (R r x) _ h
    sibling_known (r ∷ s ∷ rs) [] h = refl
    sibling_known (r ∷ s ∷ rs) (x ∷ xs) h = by_head (R r x) h (λ h. sibling_known (s ∷ rs) xs h)
      where
        by_head : (q : Ordering) → not (is_eq q && begins (s ∷ rs) xs) && is_lt (ordering_then q (slice_cmp R (s ∷ rs) xs)) ≡ true → (passed (s ∷ rs) xs ≡ true → sibling (λ r x. is_lt (R r x)) (s ∷ rs) xs ≡ sibling (λ r x. true) (s ∷ rs) xs) → cond (is_eq q) (sibling (λ r x. is_lt (R r x)) (s ∷ rs) xs) false ≡ cond (is_eq q) (sibling (λ r x. true) (s ∷ rs) xs) false
        by_head Less h rest = refl
        by_head Equal h rest = rest h
        by_head Greater h rest = refl

    pub sibling_known_back : (rs xs : List A) → slice_cmp R xs rs ≡ Less → sibling (λ r x. is_lt (R x r)) rs xs ≡ sibling (λ r x. true) rs xs
    sibling_known_back [] xs h = refl
    sibling_known_back (r ∷ []) [] h = refl
    sibling_known_back (r ∷ []) (x ∷ xs) h = before_one (R x r) xs h
    sibling_known_back (r ∷ s ∷ rs) [] h = refl
    sibling_known_back (r ∷ s ∷ rs) (x ∷ xs) h = by_head (R x r) (R r x) (o.antisymm x r) h (λ h. sibling_known_back (s ∷ rs) xs h)
      where
        by_head : (q c : Ordering) → q ≡ ordering_reverse c → ordering_then q (slice_cmp R xs (s ∷ rs)) ≡ Less → (slice_cmp R xs (s ∷ rs) ≡ Less → sibling (λ r x. is_lt (R x r)) (s ∷ rs) xs ≡ sibling (λ r x. true) (s ∷ rs) xs) → cond (is_eq c) (sibling (λ r x. is_lt (R x r)) (s ∷ rs) xs) false ≡ cond (is_eq c) (sibling (λ r x. true) (s ∷ rs) xs) false
        by_head q Less e h rest = refl
        by_head q Equal e h rest = rest (rw e at h)
        by_head q Greater e h rest = refl

    -- ---- one first element

    pub head_closed : (p x y : A) (rs xs ys : List A) → slice_cmp R (p ∷ rs) (x ∷ xs) ≡ Less → slice_cmp R (x ∷ xs) (y ∷ ys) ≡ Less → is_eq (R p y) ≡ true → is_eq (R p x) ≡ true
    head_closed p x y rs xs ys a b h =
        let e = is_equal (R p y) h in
        let t : R x y ≡ ordering_reverse (R p x) = turned o y x (R p x) (sym (o.congr p y x e)) in
        let s = squeeze (R p x) (slice_cmp R rs xs) (slice_cmp R xs ys) a (rw t at b) in
        ap is_eq s.same

    pub head_closed_back : (p x y : A) (rs xs ys : List A) → slice_cmp R (y ∷ ys) (p ∷ rs) ≡ Less → slice_cmp R (x ∷ xs) (y ∷ ys) ≡ Less → is_eq (R p x) ≡ true → is_eq (R p y) ≡ true
    head_closed_back p x y rs xs ys b a h =
        let e = is_equal (R p x) h in
        let t : R x y ≡ ordering_reverse (R y p) = sym (o.congr p x y e) ∙ o.antisymm p y in
        let s = squeeze (R y p) (slice_cmp R ys rs) (slice_cmp R xs ys) b (rw t at a) in
        ap is_eq (tied_back o y p s.same)

    pub head_closed_end : (p x y : A) (rs xs ys : List A) → not_passed (p ∷ rs) (y ∷ ys) ≡ true → slice_cmp R (x ∷ xs) (y ∷ ys) ≡ Less → is_eq (R p x) ≡ true → is_eq (R p y) ≡ true
    head_closed_end p x y rs xs ys b a h = by_head (is_eq (R p y)) b refl
      where
        by_head : (q : Bool) → (q && begins rs ys) || is_lt (slice_cmp R (y ∷ ys) (p ∷ rs)) ≡ true → is_eq (R p y) ≡ q → is_eq (R p y) ≡ true
        by_head true b e = e
        by_head false b e = head_closed_back p x y rs xs ys (is_less _ b) a h

    -- ---- what comes after all that begins with a list, and what comes before its end, are each the rest

    pub not_passed_so : (ks xs : List A) → not_passed ks xs ≡ not (passed ks xs)
    not_passed_so [] xs = refl
    not_passed_so (k ∷ ks) [] = refl
    not_passed_so (k ∷ ks) (x ∷ xs) = by_head (R k x) (R x k) (o.antisymm x k) (not_passed_so ks xs)
      where
        by_head : (r s : Ordering) → s ≡ ordering_reverse r → not_passed ks xs ≡ not (passed ks xs) → ((is_eq r && begins ks xs) || is_lt (ordering_then s (slice_cmp R xs ks))) ≡ not (not (is_eq r && begins ks xs) && is_lt (ordering_then r (slice_cmp R ks xs)))
        by_head Less s e rest = rw e refl
        by_head Equal s e rest = rw e rest
        by_head Greater s e rest = rw e refl

    -- what comes after a list that has come past ps has too
    pub passed_on : (ps xs ys : List A) → passed ps xs ≡ true → slice_cmp R xs ys ≡ Less → passed ps ys ≡ true
    passed_on [] xs ys h l = absurd (cc)
    passed_on (p ∷ ps) [] ys h l = absurd (cc)
    passed_on (p ∷ ps) (x ∷ xs) [] h l = absurd (cc)
    passed_on (p ∷ ps) (x ∷ xs) (y ∷ ys) h l = by_head (R p x) refl h (λ h l. passed_on ps xs ys h l)
      where
        by_tail : (q : Ordering) → ordering_then q (slice_cmp R xs ys) ≡ Less → passed ps xs ≡ true → (slice_cmp R xs ys ≡ Less → passed ps ys ≡ true) → (not (is_eq q && begins ps ys) && is_lt (ordering_then q (slice_cmp R ps ys))) ≡ true
        by_tail Less l h rest = refl
        by_tail Equal l h rest = rest l
        by_tail Greater l h rest = absurd (cc)

        farther : (q : Ordering) → R p x ≡ Less → R x y ≡ q → ordering_then q (slice_cmp R xs ys) ≡ Less → R p y ≡ Less
        farther Less a b l = o.trans p x y a b
        farther Equal a b l = sym (alike_right o x y p b) ∙ a
        farther Greater a b l = absurd (cc)

        by_head : (q : Ordering) → R p x ≡ q → (not (is_eq q && begins ps xs) && is_lt (ordering_then q (slice_cmp R ps xs))) ≡ true → (passed ps xs ≡ true → slice_cmp R xs ys ≡ Less → passed ps ys ≡ true) → passed (p ∷ ps) (y ∷ ys) ≡ true
        by_head Less e h rest = rw (farther (R x y) e refl l) refl
        by_head Equal e h rest = by_tail (R p y) (rw (← o.congr p x y e) at l) h (λ l. rest h l)
        by_head Greater e h rest = absurd (cc)

    -- what begins with ps doesn't come before it
    pub begins_not_before : (ps xs : List A) → begins ps xs ≡ true → is_lt (slice_cmp R xs ps) ≡ false
    begins_not_before [] [] h = refl
    begins_not_before [] (x ∷ xs) h = refl
    begins_not_before (p ∷ ps) [] h = absurd (cc)
    begins_not_before (p ∷ ps) (x ∷ xs) h = let e = is_equal (R p x) (first_so _ _ h) in rw (tied_back o p x e) (begins_not_before ps xs (rw e at h))

    -- lists that go on from ps are in the order of the elements with which they do
    pub next_less : (ps xs ys : List A) (s t : A) → next_of ps xs ≡ Some s → next_of ps ys ≡ Some t → R s t ≡ Less → slice_cmp R xs ys ≡ Less
    next_less [] [] ys s t a b l = absurd (cc)
    next_less [] (x ∷ xs) [] s t a b l = absurd (cc)
    next_less [] (x ∷ xs) (y ∷ ys) s t a b l =
        let x_is : s ≡ x = cc in
        let y_is : t ≡ y = cc in
        let less : R x y ≡ Less = sym (λ i. R (x_is i) (y_is i)) ∙ l in
        rw less refl
    next_less (p ∷ ps) [] ys s t a b l = absurd (cc)
    next_less (p ∷ ps) (x ∷ xs) [] s t a b l = absurd (cc)
    next_less (p ∷ ps) (x ∷ xs) (y ∷ ys) s t a b l =
        let e = tied_some (R p x) (next_of ps xs) (ap is_some a) in
        let f = tied_some (R p y) (next_of ps ys) (ap is_some b) in
        let t_is : R x y ≡ Equal = sym (o.congr p x y e) ∙ f in
        rw t_is (next_less ps xs ys s t (rw e at a) (rw f at b) l)
