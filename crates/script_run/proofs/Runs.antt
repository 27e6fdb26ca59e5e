-- Lines that were answered, one after the other.
use Rattle.std.proofs.Common.{◌≡◌, ℕ, suc, ◌+◌, ◌-◌, ◌<◌, ◌≤◌, take, Bool, true, List, [], ◌∷◌, ◌++◌, map, length, drop, Option, Result, Ok, Err, inl, inr, ◌⊎◌, refl, sym, ap, subst, ◌∙◌, append_assoc, arith, length-drop, drop-drop}
use Rattle.std.proofs.lemmas.List.{append-nil, map-append}
use Rattle.std.proofs.lemmas.Grind.{flat_map-append}
use Rattle.collation.specs.Database.{Database}
use Rattle.command.specs.declared.request.Command.{Command}
use Rattle.command.specs.declared.request.Reply.{Reply}
use Rattle.command.specs.declared.request.Reply.TheVariants.{Refused}
use Rattle.journal.specs.History.{initial, after as after_units}
use Rattle.job_core.specs.Cores.{Cored}
use Rattle.journal.specs.Story.{Machine}
use Rattle.serial.specs.Machine.{run_of}
use Rattle.serial.specs.Soundness.{IsGood}
use Rattle.serial.specs.laws.Good.{good_step, good_run}
use Rattle.script_run.specs.OpenJobs.{open_after}
use Rattle.refusal.specs.declared.Refusal.{Refusal}
use Rattle.refusal.specs.declared.Refusal.TheVariants.{OutOfMemory}
use Rattle.script.specs.Line.{reading_of, job_of_line}
use Rattle.script.specs.Text.{reply_text}
use Rattle.std.specs.Prelude.{Some, None}
use Rattle.std.specs.Io.BufRead.{strip_last}
use Rattle.listing.specs.Bytes.{WritesBeginning, WritesFront}
use Rattle.listing.specs.laws.Bytes.{rest_of, Appends-nothing, WritesBeginning-all, WritesBeginning-longer, Passes-none, Passes-all, Passes-more, Passes-then, Passes-begun, Passes-Appends}
use Rattle.std.specs.Io.KnownBytes.{Appends}
use Rattle.bstr.specs.Find.{IsFirstByte, is_byte}
use Rattle.script_run.specs.Lines.{nonempty_line, lines_of, has_no_end, AreLinesBefore}
use Rattle.script_run.specs.laws.Good.{answered-good}
use Rattle.script_run.specs.laws.Cut.{end_of, first_line, no_end, joined_line, has_no_end-append, none_before, line_before, lines_before}
use Rattle.serial.specs.Answers.{IsReplyDue, told_by}
use Rattle.script_run.specs.Output.{Answer, IsAnswer, AreAnswers, AreHalted, left_by, exact_reply, exact_answers, ends_session, accepted_job, left_open, halts_of, left_at_end, text_of, with_reply, noted, ending}
use Rattle.script_run.specs.laws.Outcomes.{noted-none, noted-one, noted-then}
use Rattle.script_run.specs.Replies.{IsGathered, IsLost}
use Rattle.script_run.specs.Runs.{Ran, Broke, RanFront, BrokeFront, RanEnd, BrokeEnd}
use Rattle.script_run.specs.declared.answers.Script.{Script}

one-text : (line : List ℕ) (reply : Reply) (out text : List ℕ) → text ≡ out ++ reply_text (job_of_line line) reply → text ≡ out ++ text_of ((line, reply) ∷ [])
one-text line reply out text t = t ∙ ap (λ (ts : List ℕ). out ++ ts) (sym (append-nil _))

-- nothing was written
pub nothing_begun : (a : Option (List ℕ)) (x : List ℕ) → WritesBeginning a a x
nothing_begun a x = WritesBeginning-longer a a [] x (WritesBeginning-all a a [] (Appends-nothing a))

-- one line was answered, its reply gathered, and what was gathered perhaps written
pub Ran-one : (line : List ℕ) (old between new : Script) (before now : Option (List ℕ)) → IsGathered line old.core.machine old.out.items old.outcome old.jobs between
    → new.core.machine ≡ between.core.machine → WritesFront before now between.out.items new.out.items → new.outcome ≡ between.outcome → new.jobs ≡ between.jobs → Ran (line ∷ []) old new before now
Ran-one line old between new before now g u p r o = record {
  answers = (line, g.reply) ∷ [];
  of_lines = refl;
  each = (g.answer, tt);
  machine = u ∙ g.machine;
  passes = subst (λ (ts : List ℕ). WritesFront before now ts new.out.items) (one-text line g.reply old.out.items between.out.items g.text) p;
  outcome = r ∙ g.outcome ∙ noted-one (line, g.reply) old.outcome;
  jobs = o ∙ g.jobs;
  good = answered-good old.core.machine new.core.machine line g.reply g.answer (u ∙ g.machine);
}

-- a line was answered, and of what is gathered a beginning was written
pub Broke-one : (line : List ℕ) (old between : Script) (before now : Option (List ℕ)) → IsGathered line old.core.machine old.out.items old.outcome old.jobs between → WritesBeginning before now between.out.items → Broke (line ∷ []) old before now
Broke-one line old between before now g w = record {
  answers = (line, g.reply) ∷ [];
  of_lines = refl;
  each = (g.answer, tt);
  good = answered-good old.core.machine (told_by (reading_of line) g.reply old.core.machine) line g.reply g.answer refl;
  begun = subst (WritesBeginning before now) (one-text line g.reply old.out.items between.out.items g.text) w;
}

-- a line was answered, and its reply found no memory
pub Broke-lost : (line : List ℕ) (old new : Script) (a : Option (List ℕ)) → IsLost line old.core.machine old.out.items new → Broke (line ∷ []) old a a
Broke-lost line old new a l = record {
  answers = (line, l.reply) ∷ [];
  of_lines = refl;
  each = (l.answer, tt);
  good = answered-good old.core.machine (told_by (reading_of line) l.reply old.core.machine) line l.reply l.answer refl;
  begun = nothing_begun a (old.out.items ++ text_of ((line, l.reply) ∷ []));
}

-- an empty line has no answer
pub Ran-none : (old new : Script) (a : Option (List ℕ)) → new.core.machine ≡ old.core.machine → new.out.items ≡ old.out.items → new.outcome ≡ old.outcome → new.jobs ≡ old.jobs → Ran [] old new a a
Ran-none old new a u o r j = record {
  answers = [];
  of_lines = refl;
  each = tt;
  machine = u;
  passes = subst (λ (ts : List ℕ). WritesFront a a ts new.out.items) (o ∙ sym (append-nil old.out.items)) (Passes-none a new.out.items);
  outcome = r ∙ sym (noted-none old.outcome);
  jobs = j;
  good = λ h. subst IsGood (sym u) h;
}

pub Ran-empty : (line : List ℕ) (old new : Script) (a : Option (List ℕ)) → length line < 1 → new.core.machine ≡ old.core.machine → new.out.items ≡ old.out.items → new.outcome ≡ old.outcome → new.jobs ≡ old.jobs → Ran (nonempty_line line) old new a a
Ran-empty [] old new a lt u o r j = Ran-none old new a u o r j
Ran-empty (b ∷ bs) old new a lt u o r j = absurd (omega (arith, lt))

-- answers at their places, and then answers after them
pub AreAnswers-append : (s t : Machine) (xs ys : List Answer) → AreAnswers s xs → t ≡ left_by xs s → AreAnswers t ys → AreAnswers s (xs ++ ys)
AreAnswers-append s t [] ys h e k = subst (λ (m : Machine). AreAnswers m ys) e k
AreAnswers-append s t (x ∷ xs) ys h e k = (h.0, AreAnswers-append (told_by (reading_of x.0) x.1 s) t xs ys h.1 e k)

-- the text of answers and of those after them
text-then : (out : List ℕ) (xs ys : List Answer) → (out ++ text_of xs) ++ text_of ys ≡ out ++ text_of (xs ++ ys)
text-then out xs ys = append_assoc out (text_of xs) (text_of ys) ∙ ap (λ (ts : List ℕ). out ++ ts) (sym (flat_map-append _ xs ys))

-- what answers leave, and then those after them
pub left-append : (xs ys : List Answer) (s : Machine) → left_by (xs ++ ys) s ≡ left_by ys (left_by xs s)
left-append [] ys s = refl
left-append (x ∷ xs) ys s = left-append xs ys (told_by (reading_of x.0) x.1 s)

pub left-then : (s t : Machine) (xs ys : List Answer) → t ≡ left_by xs s → left_by ys t ≡ left_by (xs ++ ys) s
left-then s t xs ys e = ap (left_by ys) e ∙ sym (left-append xs ys s)

-- which jobs are open then
pub open-append : (xs ys : List Answer) (jobs : List ℕ) → left_open (xs ++ ys) jobs ≡ left_open ys (left_open xs jobs)
open-append [] ys jobs = refl
open-append (x ∷ xs) ys jobs = open-append xs ys (open_after (accepted_job (reading_of x.0) x.1) (ends_session x.0 x.1) jobs)

pub open-then : (jobs now : List ℕ) (xs ys : List Answer) → now ≡ left_open xs jobs → left_open ys now ≡ left_open (xs ++ ys) jobs
open-then jobs now xs ys e = ap (left_open ys) e ∙ sym (open-append xs ys jobs)

lines-then : (xs ys : List Answer) (ls ms : List (List ℕ)) → map (λ (x : Answer). x.0) xs ≡ ls → map (λ (x : Answer). x.0) ys ≡ ms → map (λ (x : Answer). x.0) (xs ++ ys) ≡ ls ++ ms
lines-then xs ys ls ms h k = map-append (λ (x : Answer). x.0) xs ys ∙ ap (λ (l : List (List ℕ)). l ++ map (λ (x : Answer). x.0) ys) h ∙ ap (λ (l : List (List ℕ)). ls ++ l) k

pub Ran-then : (ls ms : List (List ℕ)) (a b c : Script) (p q r : Option (List ℕ)) → Ran ls a b p q → Ran ms b c q r → Ran (ls ++ ms) a c p r
Ran-then ls ms a b c p q r h k = record {
  answers = h.answers ++ k.answers;
  of_lines = lines-then h.answers k.answers ls ms h.of_lines k.of_lines;
  each = AreAnswers-append a.core.machine b.core.machine h.answers k.answers h.each h.machine k.each;
  machine = k.machine ∙ left-then a.core.machine b.core.machine h.answers k.answers h.machine;
  passes = subst (λ (ts : List ℕ). WritesFront p r ts c.out.items) (text-then a.out.items h.answers k.answers)
      (Passes-then p q r ((a.out.items ++ text_of h.answers) ++ text_of k.answers) (b.out.items ++ text_of k.answers) c.out.items (Passes-more p q (a.out.items ++ text_of h.answers) b.out.items (text_of k.answers) h.passes) k.passes);
  outcome = k.outcome ∙ ap (noted k.answers) h.outcome ∙ noted-then h.answers k.answers a.outcome;
  jobs = k.jobs ∙ open-then a.jobs b.jobs h.answers k.answers h.jobs;
  good = λ l. k.good (h.good l);
}

-- lines were answered, and the run broke off in the next
pub Broke-then : (ls ms : List (List ℕ)) (a b : Script) (p q r : Option (List ℕ)) → Ran ls a b p q → Broke ms b q r → Broke (ls ++ ms) a p r
Broke-then ls ms a b p q r h k = record {
  answers = h.answers ++ k.answers;
  of_lines = lines-then h.answers k.answers ls ms h.of_lines k.of_lines;
  each = AreAnswers-append a.core.machine b.core.machine h.answers k.answers h.each h.machine k.each;
  good = λ l. subst IsGood (left-then a.core.machine b.core.machine h.answers k.answers h.machine) (k.good (h.good l));
  begun = subst (WritesBeginning p r) (text-then a.out.items h.answers k.answers)
      (Passes-begun p q r ((a.out.items ++ text_of h.answers) ++ text_of k.answers) (b.out.items ++ text_of k.answers) (Passes-more p q (a.out.items ++ text_of h.answers) b.out.items (text_of k.answers) h.passes) k.begun);
}

-- lines were answered, and then the run broke off
pub Broke-after : (ls : List (List ℕ)) (a b : Script) (p q r : Option (List ℕ)) → Ran ls a b p q → WritesBeginning q r b.out.items → Broke ls a p r
Broke-after ls a b p q r h w = record {
  answers = h.answers;
  of_lines = h.of_lines;
  each = h.each;
  good = λ l. subst IsGood h.machine (h.good l);
  begun = Passes-begun p q r (a.out.items ++ text_of h.answers) b.out.items h.passes w;
}

-- no line came, and all that was gathered was written
pub Ran-written : (a b : Script) (p q : Option (List ℕ)) → Appends p q a.out.items → b.core.machine ≡ a.core.machine → b.out.items ≡ [] → b.outcome ≡ a.outcome → b.jobs ≡ a.jobs → Ran [] a b p q
Ran-written a b p q w u o r j = record {
  answers = [];
  of_lines = refl;
  each = tt;
  machine = u;
  passes = subst (λ (ts : List ℕ). WritesFront p q ts b.out.items) (sym (append-nil a.out.items)) (Passes-all p q a.out.items b.out.items w o);
  outcome = r ∙ sym (noted-none a.outcome);
  jobs = j;
  good = λ h. subst IsGood (sym u) h;
}

-- lines were answered, and then no more came
pub Ran-and-none : (ls : List (List ℕ)) (a b c : Script) (p q r : Option (List ℕ)) → Ran ls a b p q → Ran [] b c q r → Ran ls a c p r
Ran-and-none ls a b c p q r h k = subst (λ (l : List (List ℕ)). Ran l a c p r) (append-nil ls) (Ran-then ls [] a b c p q r h k)

-- no more is gathered where all was written, or nothing since
pub few_left : (n : ℕ) (old new : List ℕ) → length old < n → (new ≡ []) ⊎ (new ≡ old) → length new < n
few_left n old new few (inl none) = let e : length new ≡ 0 = ap (λ (t : List ℕ). length t) none in omega (arith, few, e)
few_left n old new few (inr same) = let e : length new ≡ length old = ap (λ (t : List ℕ). length t) same in omega (arith, few, e)

-- each line has the machine's reply, were there memory for all that is left
pub exact-lines : (ls : List (List ℕ)) (s : Machine) → map (λ (x : Answer). x.0) (exact_answers ls s) ≡ ls
exact-lines [] s = refl
exact-lines (l ∷ ls) s = ap (λ (m : List (List ℕ)). l ∷ m) (exact-lines ls (told_by (reading_of l) (exact_reply (reading_of l) s) s))

exact-due : (s : Machine) (r : Result (ℕ × Command) Refusal) → IsReplyDue s r (exact_reply r s)
exact-due s (Ok step) = inl refl
exact-due s (Err e) = refl

pub exact-each : (ls : List (List ℕ)) (s : Machine) → AreAnswers s (exact_answers ls s)
exact-each [] s = tt
exact-each (l ∷ ls) s = (inl (exact-due s (reading_of l)), exact-each ls (told_by (reading_of l) (exact_reply (reading_of l) s) s))

exact-told : (r : Result (ℕ × Command) Refusal) (s : Machine) → IsGood s → IsGood (told_by r (exact_reply r s) s)
exact-told (Ok step) s good = good_step step.0 step.1 s good
exact-told (Err e) s good = good

pub exact-good : (ls : List (List ℕ)) (s : Machine) → IsGood s → IsGood (left_by (exact_answers ls s) s)
exact-good [] s good = good
exact-good (l ∷ ls) s good = exact-good ls (told_by (reading_of l) (exact_reply (reading_of l) s) s) (exact-told (reading_of l) s good)

-- the run broke off before these lines
pub Broke-before : (ls : List (List ℕ)) (a : Script) (p : Option (List ℕ)) → Broke ls a p p
Broke-before ls a p = record {
  answers = exact_answers ls a.core.machine;
  of_lines = exact-lines ls a.core.machine;
  each = exact-each ls a.core.machine;
  good = exact-good ls a.core.machine;
  begun = nothing_begun p (a.out.items ++ text_of (exact_answers ls a.core.machine));
}

-- the run broke off before the text
pub BrokeFront-before : (text : List ℕ) (a : Script) (p : Option (List ℕ)) → BrokeFront text a p p
BrokeFront-before text a p = record { lines = []; rest = text; broke = Broke-before [] a p; split = λ more. refl }

pub BrokeFront-after : (text rest : List ℕ) (a b : Script) (p q r : Option (List ℕ)) → RanFront text rest a b p q → WritesBeginning q r b.out.items → BrokeFront text a p r
BrokeFront-after text rest a b p q r h w = record { lines = h.lines; rest = rest; broke = Broke-after h.lines a b p q r h.ran w; split = h.split }

-- all that was gathered was written then
pub RanFront-written : (text rest : List ℕ) (a b c : Script) (p q r : Option (List ℕ)) → RanFront text rest a b p q → Appends q r b.out.items → c.core.machine ≡ b.core.machine → c.outcome ≡ b.outcome → c.jobs ≡ b.jobs → c.out.items ≡ [] → RanFront text rest a c p r
RanFront-written text rest a b c p q r h w u d j o = record {
  lines = h.lines;
  ran = record {
    answers = h.ran.answers;
    of_lines = h.ran.of_lines;
    each = h.ran.each;
    machine = u ∙ h.ran.machine;
    passes = Passes-then p q r (a.out.items ++ text_of h.ran.answers) b.out.items c.out.items h.ran.passes (Passes-all q r b.out.items c.out.items w o);
    outcome = d ∙ h.ran.outcome;
    jobs = j ∙ h.ran.jobs;
    good = λ l. subst IsGood (sym u) (h.ran.good l);
  };
  split = h.split;
  cut = h.cut;
}

-- the rest by another name
pub RanFront-is : (text rest same : List ℕ) (a b : Script) (p q : Option (List ℕ)) → same ≡ rest → RanFront text rest a b p q → RanFront text same a b p q
RanFront-is text rest same a b p q e h = subst (λ (t : List ℕ). RanFront text t a b p q) (sym e) h

-- nothing of the text is answered yet
pub RanFront-none : (text : List ℕ) (a b : Script) (p : Option (List ℕ)) → b.core.machine ≡ a.core.machine → b.out.items ≡ a.out.items → b.outcome ≡ a.outcome → b.jobs ≡ a.jobs → RanFront text text a b p p
RanFront-none text a b p u o r j = record { lines = []; ran = Ran-none a b p u o r j; split = λ more. refl; cut = none_before text }

pub RanFront-more : (text rest after : List ℕ) (ls : List (List ℕ)) (a b c : Script) (p q r : Option (List ℕ)) → RanFront text rest a b p q → Ran ls b c q r
    → ((more : List ℕ) → lines_of (rest ++ more) ≡ ls ++ lines_of (after ++ more)) → AreLinesBefore after rest → RanFront text after a c p r
RanFront-more text rest after ls a b c p q r h k e before = record {
  lines = h.lines ++ ls;
  ran = Ran-then h.lines ls a b c p q r h.ran k;
  split = λ more. h.split more ∙ ap (λ (l : List (List ℕ)). h.lines ++ l) (e more) ∙ sym (append_assoc h.lines ls (lines_of (after ++ more)));
  cut = lines_before text rest after h.cut before;
}

pub BrokeFront-more : (text rest after : List ℕ) (ls : List (List ℕ)) (a b : Script) (p q r : Option (List ℕ)) → RanFront text rest a b p q → Broke ls b q r
    → ((more : List ℕ) → lines_of (rest ++ more) ≡ ls ++ lines_of (after ++ more)) → BrokeFront text a p r
BrokeFront-more text rest after ls a b p q r h k e = record {
  lines = h.lines ++ ls;
  rest = after;
  broke = Broke-then h.lines ls a b p q r h.ran k;
  split = λ more. h.split more ∙ ap (λ (l : List (List ℕ)). h.lines ++ l) (e more) ∙ sym (append_assoc h.lines ls (lines_of (after ++ more)));
}

-- the next line of a text from place `at` on
pub next-line : (text line : List ℕ) (at end : ℕ) → at ≤ length text → IsFirstByte (is_byte 10) (take (length text - at) (drop at text)) (Some end) → line ≡ strip_last 13 (take end (take (length text - at) (drop at text)))
    → (more : List ℕ) → lines_of (drop at text ++ more) ≡ nonempty_line line ++ lines_of (drop (at + (end + 1)) text ++ more)
next-line text line at end le first e more =
    let whole : take (length text - at) (drop at text) ≡ drop at text = rest_of text at in
    let found = rw whole at first in
    let ends = end_of (drop at text) end found in
    let line-is : line ≡ strip_last 13 (take end (drop at text)) = e ∙ ap (λ (t : List ℕ). strip_last 13 (take end t)) whole in
    let rest-is : drop (suc end) (drop at text) ≡ drop (at + (end + 1)) text = let same : at + suc end ≡ at + (end + 1) = omega arith in drop-drop (suc end) at text ∙ ap (λ (n : ℕ). drop n text) same in
    first_line (drop at text) more end ends ∙ ap (λ (l : List ℕ). nonempty_line l ++ lines_of (drop (suc end) (drop at text) ++ more)) (sym line-is) ∙ ap (λ (r : List ℕ). nonempty_line line ++ lines_of (r ++ more)) rest-is

-- that line is whole
next-before : (text : List ℕ) (at end : ℕ) → IsFirstByte (is_byte 10) (take (length text - at) (drop at text)) (Some end) → AreLinesBefore (drop (at + (end + 1)) text) (drop at text)
next-before text at end first =
    let whole : take (length text - at) (drop at text) ≡ drop at text = rest_of text at in
    let found = rw whole at first in
    let rest-is : drop (suc end) (drop at text) ≡ drop (at + (end + 1)) text = let same : at + suc end ≡ at + (end + 1) = omega arith in drop-drop (suc end) at text ∙ ap (λ (n : ℕ). drop n text) same in
    subst (λ (r : List ℕ). AreLinesBefore r (drop at text)) rest-is (line_before [] (drop at text) end (end_of (drop at text) end found))

pub more_lines : (text line : List ℕ) (at end : ℕ) (old mid new : Script) (p q r : Option (List ℕ)) → at ≤ length text → RanFront text (drop at text) old mid p q → IsFirstByte (is_byte 10) (take (length text - at) (drop at text)) (Some end)
    → line ≡ strip_last 13 (take end (take (length text - at) (drop at text))) → Ran (nonempty_line line) mid new q r → (at + (end + 1) ≤ length text) × RanFront text (drop (at + (end + 1)) text) old new p r
more_lines text line at end old mid new p q r le so_far first e ran =
    let whole : take (length text - at) (drop at text) ≡ drop at text = rest_of text at in
    let found = rw whole at first in
    (omega (arith, length-drop at text, found.0.high), RanFront-more text (drop at text) (drop (at + (end + 1)) text) (nonempty_line line) old mid new p q r so_far ran (next-line text line at end le first e) (next-before text at end first))

pub broke_lines : (text line : List ℕ) (at end : ℕ) (old mid : Script) (p q r : Option (List ℕ)) → at ≤ length text → RanFront text (drop at text) old mid p q → IsFirstByte (is_byte 10) (take (length text - at) (drop at text)) (Some end)
    → line ≡ strip_last 13 (take end (take (length text - at) (drop at text))) → Broke (nonempty_line line) mid q r → BrokeFront text old p r
broke_lines text line at end old mid p q r le so_far first e broke =
    BrokeFront-more text (drop at text) (drop (at + (end + 1)) text) (nonempty_line line) old mid p q r so_far broke (next-line text line at end le first e)

pub no_more_lines : (text : List ℕ) (at : ℕ) → at ≤ length text → IsFirstByte (is_byte 10) (take (length text - at) (drop at text)) None → has_no_end (drop at text) ≡ true
no_more_lines text at le none =
    let whole : take (length text - at) (drop at text) ≡ drop at text = rest_of text at in
    let found = rw whole at none in
    no_end (drop at text) (λ k low high p. found k low high p)

pub no_end_piece : (begun piece after : List ℕ) → has_no_end begun ≡ true → IsFirstByte (is_byte 10) piece None → after ≡ begun ++ piece → has_no_end after ≡ true
no_end_piece begun piece after h none e = ap has_no_end e ∙ has_no_end-append begun piece h (no_end piece (λ k low high p. none k low high p))

-- the line that had begun ends in the piece
pub joined-split : (begun piece line rest : List ℕ) (end : ℕ) → has_no_end begun ≡ true → IsFirstByte (is_byte 10) piece (Some end) → line ≡ strip_last 13 (begun ++ take end piece) → rest ≡ drop (suc end) piece
    → (more : List ℕ) → lines_of ((begun ++ piece) ++ more) ≡ nonempty_line line ++ lines_of (rest ++ more)
joined-split begun piece line rest end none found line-is rest-is more =
    joined_line begun piece more end none (end_of piece end found) ∙ ap (λ (l : List ℕ). nonempty_line l ++ lines_of (drop (suc end) piece ++ more)) (sym line-is) ∙ ap (λ (r : List ℕ). nonempty_line line ++ lines_of (r ++ more)) (sym rest-is)

pub joined_first : (begun piece line rest : List ℕ) (end : ℕ) (a b : Script) (p q : Option (List ℕ)) → has_no_end begun ≡ true → IsFirstByte (is_byte 10) piece (Some end) → line ≡ strip_last 13 (begun ++ take end piece)
    → rest ≡ drop (suc end) piece → Ran (nonempty_line line) a b p q → RanFront (begun ++ piece) rest a b p q
joined_first begun piece line rest end a b p q none found line-is rest-is ran = record {
  lines = nonempty_line line;
  ran = ran;
  split = joined-split begun piece line rest end none found line-is rest-is;
  cut = subst (λ (r : List ℕ). AreLinesBefore r (begun ++ piece)) (sym rest-is) (line_before begun piece end (end_of piece end found));
}

-- and whole lines follow it
pub joined_lines : (begun piece line rest after : List ℕ) (end : ℕ) (a b c : Script) (p q r : Option (List ℕ)) → has_no_end begun ≡ true → IsFirstByte (is_byte 10) piece (Some end) → line ≡ strip_last 13 (begun ++ take end piece)
    → rest ≡ drop (suc end) piece → Ran (nonempty_line line) a b p q → RanFront rest after b c q r → RanFront (begun ++ piece) after a c p r
joined_lines begun piece line rest after end a b c p q r none found line-is rest-is ran front =
    RanFront-more (begun ++ piece) rest after front.lines a b c p q r (joined_first begun piece line rest end a b p q none found line-is rest-is ran) front.ran front.split front.cut

-- or the run broke off in them
pub joined_broke : (begun piece line rest : List ℕ) (end : ℕ) (a b : Script) (p q r : Option (List ℕ)) → has_no_end begun ≡ true → IsFirstByte (is_byte 10) piece (Some end) → line ≡ strip_last 13 (begun ++ take end piece)
    → rest ≡ drop (suc end) piece → Ran (nonempty_line line) a b p q → BrokeFront rest b q r → BrokeFront (begun ++ piece) a p r
joined_broke begun piece line rest end a b p q r none found line-is rest-is ran front =
    BrokeFront-more (begun ++ piece) rest front.rest front.lines a b p q r (joined_first begun piece line rest end a b p q none found line-is rest-is ran) front.broke front.split

-- or it broke off in the first
pub joined_broke_first : (begun piece line : List ℕ) (end : ℕ) (a : Script) (p q : Option (List ℕ)) → has_no_end begun ≡ true → IsFirstByte (is_byte 10) piece (Some end) → line ≡ strip_last 13 (begun ++ take end piece)
    → Broke (nonempty_line line) a p q → BrokeFront (begun ++ piece) a p q
joined_broke_first begun piece line end a p q none found line-is broke = record {
  lines = nonempty_line line;
  rest = drop (suc end) piece;
  broke = broke;
  split = joined-split begun piece line (drop (suc end) piece) end none found line-is refl;
}

-- ---- the end of input

-- the database as the open jobs' HALTs leave it after the last line
pub halted_nodes : (ls : List (List ℕ)) (a b : Script) (m : Database) (p q : Option (List ℕ)) (h : Ran ls a b p q) → m ≡ (after_units (run_of (halts_of b.jobs) b.core.machine).units initial).map
    → m ≡ (after_units (left_at_end h.answers a.jobs a.core.machine).units initial).map
halted_nodes ls a b m p q h e = e ∙ (λ i. (after_units (run_of (halts_of (h.jobs i)) (h.machine i)).units initial).map)

halted-good : (ls : List (List ℕ)) (a b : Script) (p q : Option (List ℕ)) (h : Ran ls a b p q) → IsGood a.core.machine → IsGood (left_at_end h.answers a.jobs a.core.machine)
halted-good ls a b p q h l = good_run (halts_of (left_open h.answers a.jobs)) (left_by h.answers a.core.machine) (subst IsGood h.machine (h.good l))

-- the core as it was halted, which stays
pub halted_still : (jobs : List ℕ) (s : Machine) (core same : Cored) → same ≡ core → AreHalted jobs s core.machine → AreHalted jobs s same.machine
halted_still jobs s core same e h = subst (λ (k : Cored). AreHalted jobs s k.machine) (sym e) h

-- and then the ending was written
pub ended : (listed : Bool) (begun : List ℕ) (a b c : Script) (m : Database) (p q r : Option (List ℕ)) → Ran (nonempty_line begun) a b p q → m ≡ (after_units (run_of (halts_of b.jobs) b.core.machine).units initial).map → Appends q r (b.out.items ++ ending listed m)
    → c.outcome ≡ b.outcome → AreHalted b.jobs b.core.machine c.core.machine → RanEnd listed begun a c p r
ended listed begun a b c m p q r h e w d k = record {
  answers = h.answers;
  of_lines = h.of_lines;
  each = h.each;
  good = halted-good (nonempty_line begun) a b p q h;
  outcome = d ∙ h.outcome;
  machine = subst (λ (jobs : List ℕ). AreHalted jobs (left_by h.answers a.core.machine) c.core.machine) h.jobs (subst (λ (s : Machine). AreHalted b.jobs s c.core.machine) h.machine k);
  written = subst (λ (d : Database). Appends p r ((a.out.items ++ text_of h.answers) ++ ending listed d)) (halted_nodes (nonempty_line begun) a b m p q h e)
      (Passes-Appends p q r _ _ (Passes-more p q (a.out.items ++ text_of h.answers) b.out.items (ending listed m) h.passes) w);
}

-- or a beginning of it
pub broke_ending : (listed : Bool) (begun : List ℕ) (a b : Script) (m : Database) (p q r : Option (List ℕ)) → Ran (nonempty_line begun) a b p q → m ≡ (after_units (run_of (halts_of b.jobs) b.core.machine).units initial).map
    → WritesBeginning q r (b.out.items ++ ending listed m) → BrokeEnd listed begun a p r
broke_ending listed begun a b m p q r h e w = record {
  answers = h.answers;
  of_lines = h.of_lines;
  each = h.each;
  good = halted-good (nonempty_line begun) a b p q h;
  begun = subst (λ (d : Database). WritesBeginning p r ((a.out.items ++ text_of h.answers) ++ ending listed d)) (halted_nodes (nonempty_line begun) a b m p q h e)
      (Passes-begun p q r _ _ (Passes-more p q (a.out.items ++ text_of h.answers) b.out.items (ending listed m) h.passes) w);
}

-- the run broke off in the last line
pub broke_last : (listed : Bool) (begun : List ℕ) (a : Script) (p r : Option (List ℕ)) → Broke (nonempty_line begun) a p r → BrokeEnd listed begun a p r
broke_last listed begun a p r h = record {
  answers = h.answers;
  of_lines = h.of_lines;
  each = h.each;
  good = λ l. good_run (halts_of (left_open h.answers a.jobs)) (left_by h.answers a.core.machine) (h.good l);
  begun = WritesBeginning-longer p r (a.out.items ++ text_of h.answers) _ h.begun;
}
