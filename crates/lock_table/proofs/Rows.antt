-- One job's counts after each form of LOCK, a commit and a rollback.
use Rattle.std.proofs.Common.{◌≡◌, ◌≤◌, ◌+◌, List, Bool, true, false, refl, sym, ap, subst, ◌∙◌, arith}
use Rattle.std.specs.Prelude.{◌-◌, cond, max, Option, Some, None, is_some}
use Rattle.std.specs.List.{list_any}
use Rattle.std.specs.FinMap as finmap
use Rattle.collation.specs.Reference.{Resource}
use Rattle.lock_name.specs.Locks.{Counts, count_of, more_of, fewer_of, greater, JobLocks, job_wants, HasNoZeros}
use Rattle.lock_name.specs.LockStatements.{times}
use Rattle.lock_name.specs.laws.Counting.{counts_tell}
use Rattle.lock_name.specs.laws.Zeros.{none_greater, none_more, none_fewer, same_counts, all_taken_back}
use Rattle.lock_table.specs.Counted.{less, is_over}
use Rattle.lock_table.specs.Rows.{AreWithin, want_of, told_by, asked, want_by, inside_locks, locks_in, IsWithin, is_full_by}
use Rattle.lock_table.specs.declared.row.Form.{Form}
use Rattle.lock_table.specs.declared.row.Form.TheVariants.{More}
use Rattle.lock_table.specs.declared.wanted.Wanted.{Wanted}
use Rattle.lock_table.specs.declared.wanted.Wanted.TheVariants.{AllBut, Just}
use Rattle.lock_table.specs.declared.inside.Inside.{Inside}
use Rattle.lock_table.proofs.Lists.{borne, over_along}
use Rattle.lock_table.proofs.Less.{no_count, none_above, counted_less, none_less}
use Rattle.lock_table.proofs.Wants.{IsOver, want_held, none_wanted, asked_want, asked_within}

-- what is held, wanted and added, as a job's counts
abbrev pub three : Counts → Counts → Counts → JobLocks
three held want added = record { want = want; held = held; start = Some (less held added) }

-- the job comes to want other counts
came : (h w a h2 w2 a2 want : Counts) → w2 ≡ want → h2 ≡ greater h want → less h2 a2 ≡ less h a → three h2 w2 a2 ≡ job_wants true want (three h w a)
came h w a h2 w2 a2 want want_is held_is start_is = λ k. record { want = want_is k; held = held_is k; start = Some (start_is k) }

-- ---- LOCK with +

pub more_held : (h w a h2 w2 a2 : Counts) (ns over : List Resource) (had : Bool) → HasNoZeros h → HasNoZeros w → ((x : Resource) → count_of w x ≤ count_of h x) → IsOver over ns h w → had ≡ true → h2 ≡ cond had (more_of over h) h → a2 ≡ cond had (more_of over a) a → w2 ≡ more_of ns w
    → three h2 w2 a2 ≡ job_wants true (cond had (more_of ns w) w) (three h w a)
more_held h w a h2 w2 a2 ns over had none none_w low is had_is h_is a_is w_is =
    let held : h2 ≡ more_of over h = h_is ∙ ap (λ b. cond b (more_of over h) h) had_is in
    let added : a2 ≡ more_of over a = a_is ∙ ap (λ b. cond b (more_of over a) a) had_is in
    let none2 : HasNoZeros h2 = subst HasNoZeros (sym held) (none_more over h none) in
    let more : h2 ≡ greater h (more_of ns w) = same_counts h2 (greater h (more_of ns w)) none2 (none_greater h (more_of ns w) none (none_more ns w none_w)) (λ x.
    let laws = counts_tell x in
    let h2_x : count_of h2 x ≡ count_of h x + times x over = ap (λ c. count_of c x) held ∙ laws.more over h in
    let o : times x over ≡ times x ns - (count_of h x - count_of w x) = is x in
    let g : count_of (greater h (more_of ns w)) x ≡ max (count_of h x) (count_of (more_of ns w) x) = laws.greatest h (more_of ns w) in
    let m : count_of (more_of ns w) x ≡ count_of w x + times x ns = laws.more ns w in
    let l : count_of w x ≤ count_of h x = low x in
    omega arith) in
    let start : less h2 a2 ≡ less h a = same_counts (less h2 a2) (less h a) (none_less h2 a2 none2) (none_less h a none) (λ x.
    let laws = counts_tell x in
    let l2 : count_of (less h2 a2) x ≡ count_of h2 x - count_of a2 x = counted_less h2 a2 x in
    let h2_x : count_of h2 x ≡ count_of h x + times x over = ap (λ c. count_of c x) held ∙ laws.more over h in
    let a2_x : count_of a2 x ≡ count_of a x + times x over = ap (λ c. count_of c x) added ∙ laws.more over a in
    let l : count_of (less h a) x ≡ count_of h x - count_of a x = counted_less h a x in
    omega arith) in
    came h w a h2 w2 a2 (more_of ns w) w_is more start ∙ ap (λ b. job_wants true (cond b (more_of ns w) w) (three h w a)) (sym had_is)

pub added_within : (h a h2 a2 : Counts) (over : List Resource) (had : Bool) → ((x : Resource) → count_of a x ≤ count_of h x) → had ≡ true → h2 ≡ cond had (more_of over h) h → a2 ≡ cond had (more_of over a) a → (x : Resource) → count_of a2 x ≤ count_of h2 x
added_within h a h2 a2 over had low had_is h_is a_is x =
    let laws = counts_tell x in
    let h2_x : count_of h2 x ≡ count_of h x + times x over = ap (λ c. count_of c x) (h_is ∙ ap (λ b. cond b (more_of over h) h) had_is) ∙ laws.more over h in
    let a2_x : count_of a2 x ≡ count_of a x + times x over = ap (λ c. count_of c x) (a_is ∙ ap (λ b. cond b (more_of over a) a) had_is) ∙ laws.more over a in
    let l : count_of a x ≤ count_of h x = low x in
    omega arith

-- what was added and taken again
pub undone : (old added new : Counts) (ns : List Resource) → HasNoZeros old → added ≡ more_of ns old → new ≡ fewer_of ns added → new ≡ old
undone old added new ns none is back = back ∙ ap (fewer_of ns) is ∙ all_taken_back ns old none

pub not_held : (h h2 m : Counts) (had : Bool) → had ≡ false → h2 ≡ cond had m h → h2 ≡ h
not_held h h2 m had had_is is = is ∙ ap (λ b. cond b m h) had_is

pub now_held : (h h2 m : Counts) (had : Bool) → had ≡ true → h2 ≡ cond had m h → h2 ≡ m
now_held h h2 m had had_is is = is ∙ ap (λ b. cond b m h) had_is

pub nothing_more : (h w a h2 w2 a2 : Counts) (ns : List Resource) (had : Bool) (m n : Counts) → HasNoZeros h → HasNoZeros w → ((x : Resource) → count_of w x ≤ count_of h x) → had ≡ false → h2 ≡ cond had m h → a2 ≡ cond had n a → w2 ≡ w → three h2 w2 a2 ≡ job_wants true (cond had (more_of ns w) w) (three h w a)
nothing_more h w a h2 w2 a2 ns had m n none none_w low had_is h_is a_is w_is =
    let held : h2 ≡ h = not_held h h2 m had had_is h_is in
    let more : h2 ≡ greater h w = held ∙ same_counts h (greater h w) none (none_greater h w none none_w) (λ x.
    let laws = counts_tell x in
    let g : count_of (greater h w) x ≡ max (count_of h x) (count_of w x) = laws.greatest h w in
    let l : count_of w x ≤ count_of h x = low x in
    omega arith) in
    came h w a h2 w2 a2 w w_is more (ap (λ c. less c a2) held ∙ ap (less h) (not_held a a2 n had had_is a_is)) ∙ ap (λ b. job_wants true (cond b (more_of ns w) w) (three h w a)) (sym had_is)

pub within_same : (h f a h2 f2 a2 : Counts) → h2 ≡ h → f2 ≡ f → a2 ≡ a → AreWithin h f a → AreWithin h2 f2 a2
within_same h f a h2 f2 a2 h_is f_is a_is within =
    subst (λ c. AreWithin c f2 a2) (sym h_is) (subst (λ c. AreWithin h c a2) (sym f_is) (subst (AreWithin h f) (sym a_is) within))

pub asked_more : (h a h2 a2 : Counts) (w w2 : Wanted) (ns over : List Resource) (had : Bool) → HasNoZeros h → HasNoZeros (told_by w) → AreWithin h (told_by w) a → IsOver over ns h (want_of h w) → had ≡ true → h2 ≡ cond had (more_of over h) h → a2 ≡ cond had (more_of over a) a → w2 ≡ asked ns w
    → three h2 (want_of h2 w2) a2 ≡ job_wants true (cond had (more_of ns (want_of h w)) (want_of h w)) (three h (want_of h w) a)
asked_more h a h2 a2 w w2 ns over had none none_told within is had_is h_is a_is w_is =
    more_held h (want_of h w) a h2 (want_of h2 w2) a2 ns over had none (none_wanted h w none none_told) (want_held h w within.told_held) is had_is h_is a_is
    (ap (want_of h2) w_is ∙ asked_want h h2 w ns over none within.told_held is (now_held h h2 (more_of over h) had had_is h_is))

pub within_asked : (h a h2 a2 : Counts) (w w2 : Wanted) (ns over : List Resource) (had : Bool) → AreWithin h (told_by w) a → IsOver over ns h (want_of h w) → had ≡ true → h2 ≡ cond had (more_of over h) h → a2 ≡ cond had (more_of over a) a → w2 ≡ asked ns w → AreWithin h2 (told_by w2) a2
within_asked h a h2 a2 w w2 ns over had within is had_is h_is a_is w_is = record {
  told_held = subst (λ v. (x : Resource) → count_of (told_by v) x ≤ count_of h2 x) (sym w_is) (asked_within h h2 w ns over within.told_held is (now_held h h2 (more_of over h) had had_is h_is));
  added_held = added_within h a h2 a2 over had within.added_held had_is h_is a_is;
}

-- just these, which are none
pub within_just : (h a : Counts) (w w2 : Wanted) (n : Counts) → w2 ≡ Just n → n ≡ finmap.empty → AreWithin h (told_by w) a → AreWithin h (told_by w2) a
within_just h a w w2 n w_is none within = record {
  told_held = none_above (told_by w2) h (ap told_by w_is ∙ none);
  added_held = within.added_held;
}

pub more_allowed : (h w : Counts) (ns over : List Resource) → ((x : Resource) → count_of w x ≤ count_of h x) → IsOver over ns h w → ((x : Resource) → count_of h x + times x over ≤ 65535) → list_any (is_over ns w) ns ≡ false
more_allowed h w ns over low is small = borne w ns (λ x.
    let o : times x over ≡ times x ns - (count_of h x - count_of w x) = is x in
    let s : count_of h x + times x over ≤ 65535 = small x in
    let l : count_of w x ≤ count_of h x = low x in
    omega arith)

-- what is held goes over just where what is wanted does
pub more_full : (h w : Counts) (ns over : List Resource) → ((x : Resource) → count_of w x ≤ count_of h x) → IsOver over ns h w → list_any (is_over over h) over ≡ true → list_any (is_over ns w) ns ≡ true
more_full h w ns over low is = over_along h w over ns (λ x once high.
    let o : times x over ≡ times x ns - (count_of h x - count_of w x) = is x in
    let l : count_of w x ≤ count_of h x = low x in
    (omega arith, omega arith))

-- what was added goes over only where what is held does
pub added_full : (h a : Counts) (over : List Resource) → ((x : Resource) → count_of a x ≤ count_of h x) → list_any (is_over over a) over ≡ true → list_any (is_over over h) over ≡ true
added_full h a over low = over_along a h over over (λ x once high. let l : count_of a x ≤ count_of h x = low x in (once, omega arith))

-- ---- LOCK with -

pub fewer_wanted : (h w a w2 : Counts) (ns : List Resource) → HasNoZeros h → HasNoZeros w → ((x : Resource) → count_of w x ≤ count_of h x) → w2 ≡ fewer_of ns w → three h w2 a ≡ job_wants true (fewer_of ns w) (three h w a)
fewer_wanted h w a w2 ns none none_w low is =
    let held : h ≡ greater h (fewer_of ns w) = same_counts h (greater h (fewer_of ns w)) none (none_greater h (fewer_of ns w) none (none_fewer ns w none_w)) (λ x.
    let laws = counts_tell x in
    let g : count_of (greater h (fewer_of ns w)) x ≡ max (count_of h x) (count_of (fewer_of ns w) x) = laws.greatest h (fewer_of ns w) in
    let l : count_of w x ≤ count_of h x = low x in
    let m : count_of (fewer_of ns w) x ≡ count_of w x - times x ns = laws.fewer ns w in
    omega arith) in
    came h w a h w2 a (fewer_of ns w) is held refl

-- ---- a job's first LOCK in a transaction

less_none : (h n : Counts) → HasNoZeros h → n ≡ finmap.empty → less h n ≡ h
less_none h n none is = same_counts (less h n) h (none_less h n none) none (λ x.
    let l : count_of (less h n) x ≡ count_of h x - count_of n x = counted_less h n x in
    let z : count_of n x ≡ 0 = ap (λ c. count_of c x) is ∙ no_count x in
    omega arith)

pub not_inside : (inside : Option Inside) → false ≡ is_some inside → inside ≡ None
not_inside None e = refl
not_inside (Some i) e = absurd (cc)

pub within_outside : (held : Counts) (inside : Option Inside) → inside ≡ None → IsWithin held inside
within_outside held None e = tt
within_outside held (Some i) e = absurd (cc)

pub within_none : (held t a : Counts) → t ≡ finmap.empty → a ≡ finmap.empty → AreWithin held t a
within_none held t a t_is a_is = record {
  told_held = none_above t held t_is;
  added_held = none_above a held a_is;
}

pub no_start : (self : JobLocks) (held : Counts) (inside : Option Inside) → locks_in held inside ≡ self → self.start ≡ None → locks_in held None ≡ self
no_start self held None view out = view
no_start self held (Some i) view out = let is : Some (less held i.added) ≡ None = ap (λ (l : JobLocks). l.start) view ∙ out in absurd (cc)

all_wanted : (held : Counts) (w : Wanted) → HasNoZeros held → w ≡ AllBut finmap.empty → want_of held w ≡ held
all_wanted held w none is = ap (want_of held) is ∙ less_none held finmap.empty none refl

-- all that is held is wanted, and was at the start
pub first_wants : (self l : JobLocks) (held : Counts) (i : Inside) (form : Form) (ns : List Resource) → HasNoZeros held → locks_in held None ≡ self → i.wanted ≡ AllBut finmap.empty → i.added ≡ finmap.empty → l ≡ job_wants true (want_by form ns (want_of held i.wanted)) (inside_locks held i)
    → l ≡ job_wants true (want_by form ns self.want) self
first_wants self l held i form ns none view all added done =
    let want : want_of held i.wanted ≡ held = all_wanted held i.wanted none all in
    let start : less held i.added ≡ held = less_none held i.added none added in
    done ∙ (λ k. record { want = want_by form ns (want k); held = greater held (want_by form ns (want k)); start = Some (start k) }) ∙ ap (λ (s : JobLocks). job_wants true (want_by form ns s.want) s) view

pub first_judged : (self : JobLocks) (held : Counts) (w : Wanted) (form : Form) (ns : List Resource) (b : Bool) → HasNoZeros held → locks_in held None ≡ self → w ≡ AllBut finmap.empty → is_full_by form ns (want_of held w) ≡ b → is_full_by form ns self.want ≡ b
first_judged self held w form ns b none view all judged = ap (λ (s : JobLocks). is_full_by form ns s.want) (sym view) ∙ ap (is_full_by form ns) (sym (all_wanted held w none all)) ∙ judged

pub within_first : (held : Counts) (w : Wanted) (a : Counts) → w ≡ AllBut finmap.empty → a ≡ finmap.empty → AreWithin held (told_by w) a
within_first held w a w_is a_is = within_none held (told_by w) a (ap told_by w_is) a_is

-- ---- LOCK with + outside a transaction

pub outside_allowed : (self : JobLocks) (held : Counts) (inside : Option Inside) (form : Form) (had : Bool) (ns : List Resource) → locks_in held inside ≡ self → inside ≡ None → form ≡ More had → ((x : Resource) → count_of held x + times x ns ≤ 65535) → is_full_by form ns self.want ≡ false
outside_allowed self held inside form had ns view out is small =
    let same : locks_in held None ≡ self = ap (locks_in held) (sym out) ∙ view in
    ap (λ f. is_full_by f ns self.want) is ∙ subst (λ (s : JobLocks). list_any (is_over ns s.want) ns ≡ false) same (borne held ns small)
