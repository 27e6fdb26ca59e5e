-- How far a script has come.
use Rattle.std.proofs.Common.{◌≡◌, ℕ, Bool, true, List, [], ◌++◌, map, length, Option, Some, None, IfSome, refl, sym, ap, subst, ◌∙◌, append_assoc}
use Rattle.std.proofs.lemmas.List.{append-nil, map-append, nil_from_length}
use Rattle.std.proofs.lemmas.Grind.{flat_map-append}
use Rattle.std.specs.Prelude.{⊤}
use Rattle.std.specs.Io.KnownBytes.{Appends, Consumes, IsAtEnd, Keeps}
use Rattle.std.specs.Ordering.{nat_cmp}
use Rattle.std.specs.FinMap as finmap
use Rattle.std.specs.FinMap.{FinMap}
use Rattle.journal.specs.Story.{Machine, Transaction}
use Rattle.journal.specs.History.{initial, after, IsLegal}
use Rattle.serial.specs.Machine.{run_of}
use Rattle.serial.specs.Soundness.{IsGood, IsSound}
use Rattle.serial.specs.laws.Good.{good_run}
use Rattle.listing.specs.Bytes.{WritesBeginning, WritesFront}
use Rattle.script_run.specs.Lines.{nonempty_line, lines_of, has_no_end, AreLinesBefore}
use Rattle.script_run.specs.laws.Cut.{none_before, lines_before, lines_before_more}
use Rattle.script_run.proofs.Exact.{exact_output}
use Rattle.script_run.specs.laws.Outcomes.{noted-then}
use Rattle.script_run.specs.declared.outcome.Outcome.{Outcome}
use Rattle.script_run.specs.Output.{Answer, AreAnswers, AreHalted, left_by, exact_answers, left_open, halts_of, left_at_end, text_of, noted, outcome_of, ending, IsOutput, Wrote, IsBegun, HasAnsweredLines}
use Rattle.script_run.specs.Runs.{RanFront, BrokeFront, RanEnd, BrokeEnd, HasRead, HasLeft}
use Rattle.script_run.specs.declared.answers.Script.{Script}
use Rattle.listing.specs.laws.Bytes.{Appends-nothing, Appends-more, WritesBeginning-all, WritesBeginning-longer, WritesBeginning-then, Passes-Appends}
use Rattle.script_run.specs.laws.Lines.{last_line}
use Rattle.script_run.proofs.Runs.{AreAnswers-append, exact-lines, exact-each, exact-good, left-append, left-then, open-then, nothing_begun}

abbrev pub lines_in : List Answer → List (List ℕ)
lines_in answers = map (λ a. a.0) answers

-- known bytes have these lines, and then those of the begun one and of what is left
abbrev pub Follows : Option (List ℕ) → Option (List ℕ) → List (List ℕ) → List ℕ → Type 0
Follows None left lines begun = ⊤
Follows (Some all) None lines begun = ⊥
Follows (Some all) (Some more) lines begun = lines_of all ≡ lines ++ lines_of (begun ++ more)

-- known bytes are whole lines before the begun one and what is left
abbrev pub Precedes : Option (List ℕ) → Option (List ℕ) → List ℕ → Type 0
Precedes None left begun = ⊤
Precedes (Some all) None begun = ⊥
Precedes (Some all) (Some more) begun = AreLinesBefore (begun ++ more) all

Precedes-start : (all : Option (List ℕ)) → Precedes all all []
Precedes-start None = tt
Precedes-start (Some xs) = none_before xs

-- a piece was read, and the lines before its rest were answered
Precedes-piece : (all left left' : Option (List ℕ)) (begun piece rest : List ℕ) → Precedes all left begun → Consumes left left' piece → AreLinesBefore rest (begun ++ piece) → Precedes all left' rest
Precedes-piece None left left' begun piece rest h k b = tt
Precedes-piece (Some all) None left' begun piece rest h k b = absurd h
Precedes-piece (Some all) (Some more) None begun piece rest h k b = absurd k
Precedes-piece (Some all) (Some more) (Some more') begun piece rest h k b =
    let same : begun ++ more ≡ (begun ++ piece) ++ more' = ap (λ (m : List ℕ). begun ++ m) k ∙ sym (append_assoc begun piece more') in
    lines_before all ((begun ++ piece) ++ more') (rest ++ more') (subst (λ (t : List ℕ). AreLinesBefore t all) same h) (lines_before_more (begun ++ piece) rest more' b)

-- lines were answered and the answers written, and a line has begun
pub record Stands (start : Machine) (all left : Option (List ℕ)) (begun : List ℕ) (old new : Option (List ℕ)) (script : Script) : Type 0 where
  pub answers : List Answer
  pub each : AreAnswers start answers
  pub machine : script.core.machine ≡ left_by answers start
  pub jobs : script.jobs ≡ left_open answers []
  pub good : IsGood script.core.machine
  pub out : script.out.items ≡ []
  pub outcome : script.outcome ≡ outcome_of answers
  pub written : Appends old new (text_of answers)
  pub split : Follows all left (lines_in answers) begun
  pub cut : Precedes all left begun
  pub whole : has_no_end begun ≡ true

Follows-start : (all : Option (List ℕ)) → Follows all all [] []
Follows-start None = tt
Follows-start (Some xs) = refl

pub stands_first : (start : Machine) (all old : Option (List ℕ)) (begun : List ℕ) (script : Script) → script.core.machine ≡ start → script.jobs ≡ [] → script.out.items ≡ [] → script.outcome ≡ outcome_of [] → begun ≡ [] → IsGood start → Stands start all all begun old old script
stands_first start all old begun script u j o r b good = record {
  answers = [];
  each = tt;
  machine = u;
  jobs = j;
  good = subst IsGood (sym u) good;
  out = o;
  outcome = r;
  written = Appends-nothing old;
  split = subst (λ (l : List ℕ). Follows all all [] l) (sym b) (Follows-start all);
  cut = subst (λ (l : List ℕ). Precedes all all l) (sym b) (Precedes-start all);
  whole = subst (λ (l : List ℕ). has_no_end l ≡ true) (sym b) refl;
}

pub Follows-more : (all left left' : Option (List ℕ)) (ls : List (List ℕ)) (begun piece : List ℕ) → Follows all left ls begun → Consumes left left' piece → Follows all left' ls (begun ++ piece)
Follows-more None left left' ls begun piece h k = tt
Follows-more (Some all) None left' ls begun piece h k = absurd h
Follows-more (Some all) (Some more) None ls begun piece h k = absurd k
Follows-more (Some all) (Some more) (Some more') ls begun piece h k = h ∙ ap (λ (m : List ℕ). ls ++ lines_of (begun ++ m)) k ∙ ap (λ (t : List ℕ). ls ++ lines_of t) (sym (append_assoc begun piece more'))

pub Follows-lines : (all left : Option (List ℕ)) (ls ms : List (List ℕ)) (begun rest : List ℕ) → Follows all left ls begun → ((more : List ℕ) → lines_of (begun ++ more) ≡ ms ++ lines_of (rest ++ more)) → Follows all left (ls ++ ms) rest
Follows-lines None left ls ms begun rest h k = tt
Follows-lines (Some all) None ls ms begun rest h k = absurd h
Follows-lines (Some all) (Some more) ls ms begun rest h k = h ∙ ap (λ (l : List (List ℕ)). ls ++ l) (k more) ∙ sym (append_assoc ls ms (lines_of (rest ++ more)))

pub lines-append : (xs ys : List Answer) → lines_in (xs ++ ys) ≡ lines_in xs ++ lines_in ys
lines-append xs ys = map-append (λ (x : Answer). x.0) xs ys

-- the lines of a piece, after those before it
Follows-piece : (all left left' : Option (List ℕ)) (begun piece rest : List ℕ) (before more : List Answer) (ls : List (List ℕ)) → Follows all left (lines_in before) begun → Consumes left left' piece → lines_in more ≡ ls
    → ((text : List ℕ) → lines_of ((begun ++ piece) ++ text) ≡ ls ++ lines_of (rest ++ text)) → Follows all left' (lines_in (before ++ more)) rest
Follows-piece all left left' begun piece rest before more ls h k e f =
    subst (λ (l : List (List ℕ)). Follows all left' l rest) (ap (λ (l : List (List ℕ)). lines_in before ++ l) (sym e) ∙ sym (lines-append before more))
    (Follows-lines all left' (lines_in before) ls (begun ++ piece) rest (Follows-more all left left' (lines_in before) begun piece h k) f)

-- the text of the answers before a piece and of those in it
written-next : (old new new' : Option (List ℕ)) (before more : List Answer) (a b : Script) → Appends old new (text_of before) → a.out.items ≡ [] → WritesFront new new' (a.out.items ++ text_of more) b.out.items → b.out.items ≡ []
    → Appends old new' (text_of (before ++ more))
written-next old new new' before more a b w o p e =
    subst (Appends old new') (ap (λ (t : List ℕ). text_of before ++ (t ++ text_of more)) o ∙ sym (flat_map-append _ before more))
    (Appends-more old new new' (text_of before) (a.out.items ++ text_of more) w
    (Passes-Appends new new' new' (a.out.items ++ text_of more) [] (subst (λ (t : List ℕ). WritesFront new new' (a.out.items ++ text_of more) t) e p) (Appends-nothing new')))

pub stands_next : (start : Machine) (all left left' old new new' : Option (List ℕ)) (begun piece rest : List ℕ) (a b : Script) → Stands start all left begun old new a → HasRead left left' piece → RanFront (begun ++ piece) rest a b new new'
    → has_no_end rest ≡ true → b.out.items ≡ [] → Stands start all left' rest old new' b
stands_next start all left left' old new new' begun piece rest a b h r f w o = record {
  answers = h.answers ++ f.ran.answers;
  each = AreAnswers-append start a.core.machine h.answers f.ran.answers h.each h.machine f.ran.each;
  machine = f.ran.machine ∙ left-then start a.core.machine h.answers f.ran.answers h.machine;
  jobs = f.ran.jobs ∙ open-then [] a.jobs h.answers f.ran.answers h.jobs;
  good = f.ran.good h.good;
  out = o;
  outcome = f.ran.outcome ∙ ap (noted f.ran.answers) h.outcome ∙ noted-then h.answers f.ran.answers (outcome_of []);
  written = written-next old new new' h.answers f.ran.answers a b h.written h.out f.ran.passes o;
  split = Follows-piece all left left' begun piece rest h.answers f.ran.answers f.lines h.split r.consumed f.ran.of_lines f.split;
  cut = Precedes-piece all left left' begun piece rest h.cut r.consumed f.cut;
  whole = w;
}

pub record Goes (start : Machine) (listed : Bool) (bytes text : List ℕ) : Type 0 where
  pub more : List ℕ
  pub outcome : Outcome
  pub output : IsOutput start listed bytes (text ++ more) outcome

-- a text of answers goes on to a whole output
pub goes_on : (start : Machine) (listed : Bool) (bytes : List ℕ) (answers : List Answer) (rest : List (List ℕ)) → lines_of bytes ≡ lines_in answers ++ rest → AreAnswers start answers → IsGood (left_by answers start) → Goes start listed bytes (text_of answers)
goes_on start listed bytes answers rest e each good =
    let left : Machine = left_by answers start in
    let more : List Answer = exact_answers rest left in
    let whole : List Answer = answers ++ more in
    let tail : List ℕ = ending listed (after (left_at_end whole [] start).units initial).map in
    let ends : IsGood (left_at_end whole [] start) = good_run (halts_of (left_open whole [])) (left_by whole start) (subst IsGood (sym (left-append answers more start)) (exact-good rest left good)) in
    record {
      more = text_of more ++ tail;
      outcome = outcome_of whole;
      output = record {
        answers = whole;
        of_lines = lines-append answers more ∙ ap (λ (l : List (List ℕ)). lines_in answers ++ l) (exact-lines rest left) ∙ sym e;
        each = AreAnswers-append start left answers more each refl (exact-each rest left);
        legal = ends.legal;
        written = sym (append_assoc (text_of answers) (text_of more) tail) ∙ ap (λ (t : List ℕ). t ++ tail) (sym (flat_map-append _ answers more));
        told = refl;
      };
    }

-- ---- what was written

begun_of : (start : Machine) (listed : Bool) (all left old new : Option (List ℕ)) (answers : List Answer) (begun : List ℕ) → Follows all left (lines_in answers) begun → AreAnswers start answers → IsGood (left_by answers start)
    → WritesBeginning old new (text_of answers) → IfSome all (λ bytes. IsBegun start listed bytes old new)
begun_of start listed None left old new answers begun f each good w = tt
begun_of start listed (Some bytes) None old new answers begun f each good w = absurd f
begun_of start listed (Some bytes) (Some more) old new answers begun f each good w =
    let g = goes_on start listed bytes answers (lines_of (begun ++ more)) f each good in
    record { text = text_of answers ++ g.more; outcome = g.outcome; output = g.output; written = WritesBeginning-longer old new (text_of answers) g.more w }

-- nothing was done yet
pub begun_first : (start : Machine) (listed : Bool) (all old : Option (List ℕ)) → IsGood start → IfSome all (λ bytes. IsBegun start listed bytes old old)
begun_first start listed all old good = begun_of start listed all all old old [] [] (Follows-start all) tt good (nothing_begun old [])

-- nothing was written since
pub begun_at : (start : Machine) (listed : Bool) (all left old new : Option (List ℕ)) (begun : List ℕ) (s : Script) → Stands start all left begun old new s → IfSome all (λ bytes. IsBegun start listed bytes old new)
begun_at start listed all left old new begun s h = begun_of start listed all left old new h.answers begun h.split h.each (subst IsGood h.machine h.good) (WritesBeginning-all old new (text_of h.answers) h.written)

-- the run broke off in a piece
pub begun_piece : (start : Machine) (listed : Bool) (all left left' old new new' : Option (List ℕ)) (begun piece : List ℕ) (a : Script) → Stands start all left begun old new a → HasRead left left' piece → BrokeFront (begun ++ piece) a new new'
    → IfSome all (λ bytes. IsBegun start listed bytes old new')
begun_piece start listed all left left' old new new' begun piece a h r f =
    let k = f.broke in
    begun_of start listed all left' old new' (h.answers ++ k.answers) f.rest (Follows-piece all left left' begun piece f.rest h.answers k.answers f.lines h.split r.consumed k.of_lines f.split)
    (AreAnswers-append start a.core.machine h.answers k.answers h.each h.machine k.each)
    (subst IsGood (left-then start a.core.machine h.answers k.answers h.machine) (k.good h.good))
    (subst (WritesBeginning old new') (ap (λ (t : List ℕ). text_of h.answers ++ (t ++ text_of k.answers)) h.out ∙ sym (flat_map-append _ h.answers k.answers))
    (WritesBeginning-then old new new' (text_of h.answers) (a.out.items ++ text_of k.answers) h.written k.begun))

pub at_end : (bytes : List ℕ) (left left' : Option (List ℕ)) (ls : List (List ℕ)) (begun piece : List ℕ) → Follows (Some bytes) left ls begun → Consumes left left' piece → piece ≡ [] → IsAtEnd left' → lines_of bytes ≡ ls ++ lines_of begun
at_end bytes None left' ls begun piece h k p e = absurd h
at_end bytes (Some more) None ls begun piece h k p e = absurd k
at_end bytes (Some more) (Some more') ls begun piece h k p e =
    let none : more ≡ [] = k ∙ ap (λ (x : List ℕ). x ++ more') p ∙ e in
    h ∙ ap (λ (m : List ℕ). ls ++ lines_of (begun ++ m)) none ∙ ap (λ (t : List ℕ). ls ++ lines_of t) (append-nil begun)

-- all lines, those before the end of input and the last
whole_lines : (start : Machine) (bytes : List ℕ) (left left' old new : Option (List ℕ)) (begun piece : List ℕ) (a : Script) (last : List Answer) (h : Stands start (Some bytes) left begun old new a) → HasRead left left' piece → length piece ≡ 0
    → lines_in last ≡ nonempty_line begun → lines_in (h.answers ++ last) ≡ lines_of bytes
whole_lines start bytes left left' old new begun piece a last h r none of_lines =
    lines-append h.answers last ∙ ap (λ (l : List (List ℕ)). lines_in h.answers ++ l) (of_lines ∙ sym (last_line begun h.whole)) ∙ sym (at_end bytes left left' (lines_in h.answers) begun piece h.split r.consumed (nil_from_length piece none) (r.ended none))

whole_end : (start : Machine) (all left old new : Option (List ℕ)) (begun : List ℕ) (a : Script) (last : List Answer) (h : Stands start all left begun old new a) → left_at_end last a.jobs a.core.machine ≡ left_at_end (h.answers ++ last) [] start
whole_end start all left old new begun a last h =
    let left-is : left_by last a.core.machine ≡ left_by (h.answers ++ last) start = left-then start a.core.machine h.answers last h.machine in
    let open-is : left_open last a.jobs ≡ left_open (h.answers ++ last) [] = open-then [] a.jobs h.answers last h.jobs in
    λ i. run_of (halts_of (open-is i)) (left-is i)

-- their text, and the ending
whole_text : (start : Machine) (listed : Bool) (all left old new : Option (List ℕ)) (begun : List ℕ) (a : Script) (last : List Answer) (h : Stands start all left begun old new a)
    → text_of h.answers ++ ((a.out.items ++ text_of last) ++ ending listed (after (left_at_end last a.jobs a.core.machine).units initial).map) ≡ text_of (h.answers ++ last) ++ ending listed (after (left_at_end (h.answers ++ last) [] start).units initial).map
whole_text start listed all left old new begun a last h =
    let tail : List ℕ = ending listed (after (left_at_end last a.jobs a.core.machine).units initial).map in
    ap (λ (t : List ℕ). text_of h.answers ++ ((t ++ text_of last) ++ tail)) h.out ∙ sym (append_assoc (text_of h.answers) (text_of last) tail) ∙ ap (λ (t : List ℕ). t ++ tail) (sym (flat_map-append _ h.answers last))
    ∙ ap (λ (s : Machine). text_of (h.answers ++ last) ++ ending listed (after s.units initial).map) (whole_end start all left old new begun a last h)

-- the whole output, of the answers before the end of input and of that to the last line
whole_output : (start : Machine) (listed : Bool) (bytes : List ℕ) (left left' old new : Option (List ℕ)) (begun piece : List ℕ) (a : Script) (last : List Answer) (h : Stands start (Some bytes) left begun old new a) → HasRead left left' piece → length piece ≡ 0
    → lines_in last ≡ nonempty_line begun → AreAnswers a.core.machine last → (IsGood a.core.machine → IsGood (left_at_end last a.jobs a.core.machine))
    → IsOutput start listed bytes (text_of h.answers ++ ((a.out.items ++ text_of last) ++ ending listed (after (left_at_end last a.jobs a.core.machine).units initial).map)) (noted last a.outcome)
whole_output start listed bytes left left' old new begun piece a last h r none of_lines each good = record {
  answers = h.answers ++ last;
  of_lines = whole_lines start bytes left left' old new begun piece a last h r none of_lines;
  each = AreAnswers-append start a.core.machine h.answers last h.each h.machine each;
  legal = (subst IsGood (whole_end start (Some bytes) left old new begun a last h) (good h.good)).legal;
  written = whole_text start listed (Some bytes) left old new begun a last h;
  told = ap (noted last) h.outcome ∙ noted-then h.answers last (outcome_of []);
}

pub wrote_all : (start : Machine) (listed : Bool) (all left left' old new last : Option (List ℕ)) (begun piece : List ℕ) (a b : Script) → Stands start all left begun old new a → HasRead left left' piece → length piece ≡ 0 → RanEnd listed begun a b new last
    → IfSome all (λ bytes. Wrote start listed bytes b.outcome old last)
wrote_all start listed None left left' old new last begun piece a b h r none e = tt
wrote_all start listed (Some bytes) left left' old new last begun piece a b h r none e =
    let end : List ℕ = (a.out.items ++ text_of e.answers) ++ ending listed (after (left_at_end e.answers a.jobs a.core.machine).units initial).map in
    let output : IsOutput start listed bytes (text_of h.answers ++ end) b.outcome = subst (IsOutput start listed bytes (text_of h.answers ++ end)) (sym e.outcome) (whole_output start listed bytes left left' old new begun piece a e.answers h r none e.of_lines e.each e.good) in
    record {
      text = text_of h.answers ++ end;
      output = output;
      exact = exact_output start listed bytes (text_of h.answers ++ end) b.outcome output;
      written = Appends-more old new last (text_of h.answers) end h.written e.written;
    }

-- and the core that is left is what the answers leave
pub left_all : (start : Machine) (listed : Bool) (all left left' old new last : Option (List ℕ)) (begun piece : List ℕ) (a b : Script) → Stands start all left begun old new a → HasRead left left' piece → length piece ≡ 0 → RanEnd listed begun a b new last
    → IfSome all (λ bytes. HasLeft start listed bytes b.core.machine old last)
left_all start listed None left left' old new last begun piece a b h r none e = tt
left_all start listed (Some bytes) left left' old new last begun piece a b h r none e =
    let whole : List Answer = h.answers ++ e.answers in
    let left-is : left_by e.answers a.core.machine ≡ left_by whole start = left-then start a.core.machine h.answers e.answers h.machine in
    let open-is : left_open e.answers a.jobs ≡ left_open whole [] = open-then [] a.jobs h.answers e.answers h.jobs in
    record {
      answers = whole;
      of_lines = whole_lines start bytes left left' old new begun piece a e.answers h r none e.of_lines;
      each = AreAnswers-append start a.core.machine h.answers e.answers h.each h.machine e.each;
      machine = subst (λ (jobs : List ℕ). AreHalted jobs (left_by whole start) b.core.machine) open-is (subst (λ (s : Machine). AreHalted (left_open e.answers a.jobs) s b.core.machine) left-is e.machine);
      written = subst (Appends old last) (whole_text start listed (Some bytes) left old new begun a e.answers h)
          (Appends-more old new last (text_of h.answers) ((a.out.items ++ text_of e.answers) ++ ending listed (after (left_at_end e.answers a.jobs a.core.machine).units initial).map) h.written e.written);
    }

-- a beginning of the last answer and of the ending was written
pub begun_end : (start : Machine) (listed : Bool) (all left left' old new last : Option (List ℕ)) (begun piece : List ℕ) (a : Script) → Stands start all left begun old new a → HasRead left left' piece → length piece ≡ 0 → BrokeEnd listed begun a new last
    → IfSome all (λ bytes. IsBegun start listed bytes old last)
begun_end start listed None left left' old new last begun piece a h r none e = tt
begun_end start listed (Some bytes) left left' old new last begun piece a h r none e =
    let end : List ℕ = (a.out.items ++ text_of e.answers) ++ ending listed (after (left_at_end e.answers a.jobs a.core.machine).units initial).map in
    record {
      text = text_of h.answers ++ end;
      outcome = noted e.answers a.outcome;
      output = whole_output start listed bytes left left' old new begun piece a e.answers h r none e.of_lines e.each e.good;
      written = WritesBeginning-then old new last (text_of h.answers) end h.written e.begun;
    }

-- where a read fails, the lines that ended were answered
pub answered : (start : Machine) (all left left' old new : Option (List ℕ)) (begun : List ℕ) (script : Script) → Stands start all left begun old new script → Keeps left left' → IfSome all (λ bytes. IfSome left' (λ more. HasAnsweredLines start bytes more old new))
answered start None left left' old new begun script h k = tt
answered start (Some bytes) None left' old new begun script h k = absurd h.split
answered start (Some bytes) (Some more) None old new begun script h k = absurd k
answered start (Some bytes) (Some more) (Some more') old new begun script h k = record {
  answers = h.answers;
  begun = begun;
  each = h.each;
  cut = subst (λ (m : List ℕ). AreLinesBefore (begun ++ m) bytes) (sym k) h.cut;
  split = h.split ∙ ap (λ (m : List ℕ). lines_in h.answers ++ lines_of (begun ++ m)) (sym k);
  whole = h.whole;
  written = h.written;
}
