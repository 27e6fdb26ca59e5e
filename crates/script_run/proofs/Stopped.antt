-- Runs that end for want of memory: which lines have their replies.
use Rattle.std.proofs.Common.{◌≡◌, ℕ, ◌≤◌, ◌+◌, ◌-◌, Bool, true, List, [], ◌∷◌, ◌++◌, length, take, drop, Option, Some, None, IfSome, inl, inr, ◌⊎◌, refl, sym, ap, subst, ◌∙◌, append_assoc, arith}
use Rattle.std.proofs.lemmas.List.{append-nil, nil_from_length}
use Rattle.std.proofs.lemmas.Grind.{flat_map-append}
use Rattle.std.specs.Prelude.{codes, suc, Result, Ok, Err, IsErrOf}
use Rattle.std.specs.Result.{IsErrAnd}
use Rattle.std.specs.List.{flat_map}
use Rattle.std.specs.Io.KnownBytes.{Appends}
use Rattle.std.specs.Io.BufRead.{strip_last}
use Rattle.bstr.specs.Find.{IsFirstByte, is_byte}
use Rattle.collation.specs.Database.{Database}
use Rattle.command.specs.declared.request.Reply.{Reply}
use Rattle.journal.specs.History.{initial, after}
use Rattle.journal.specs.Story.{Machine}
use Rattle.serial.specs.Machine.{run_of}
use Rattle.serial.specs.Soundness.{IsGood}
use Rattle.serial.specs.laws.Good.{good_run}
use Rattle.listing.specs.Bytes.{WritesBeginning, WritesFront}
use Rattle.listing.specs.declared.nodes.ListingFault.{ListingFault}
use Rattle.listing.specs.declared.nodes.ListingFault.TheVariants.{Write as ListingWrite, Memory as ListingMemory}
use Rattle.listing.specs.Listing.{node_text, IsListedFront, HasListed}
use Rattle.listing.specs.laws.Bytes.{Appends-nothing, Appends-more, WritesBeginning-longer, Passes-none, Passes-all, Passes-more, Passes-then, Passes-Appends, Passes-begun}
use Rattle.script_run.specs.declared.fault.Fault.{Fault}
use Rattle.script_run.specs.declared.fault.Fault.TheVariants.{Memory}
use Rattle.script_run.specs.Faults.{fault_of}
use Rattle.script_run.specs.Lines.{nonempty_line, lines_of, has_no_end}
use Rattle.script.specs.Line.{reading_of}
use Rattle.serial.specs.Answers.{told_by}
use Rattle.script_run.specs.Output.{Answer, IsAnswer, AreAnswers, left_by, left_open, left_at_end, halts_of, text_of, outcome_of, ending, IsBegun, IsEndingFront, HasKept}
use Rattle.script_run.specs.Replies.{IsLost}
use Rattle.script_run.specs.Runs.{Ran, RanFront, HasRead, Stopped, StoppedFront, EndedFront, StoppedEnd, HasGathered}
use Rattle.script_run.specs.declared.answers.Script.{Script}
use Rattle.script_run.specs.laws.Lines.{last_line}
use Rattle.script_run.proofs.Runs.{AreAnswers-append, left-then, open-then, next-line, joined-split, joined_first, halted_nodes}
use Rattle.script_run.proofs.Stands.{Stands, Follows, Follows-more, Follows-lines, lines_in, lines-append, at_end, goes_on}

-- ---- faults that are passed on

error_is : {T E : Type 0} (f m : E) → IsErrOf {T = T} (Err f) m → f ≡ m
error_is f m k = cc

pub is_error : {T E : Type 0} (f m : E) → f ≡ m → IsErrOf {T = T} (Err f) m
is_error f m h = cc

pub passed_on : {T U : Type 0} (r : Result T ListingFault) (e : ListingFault) → IsErrAnd r (λ f. f ≡ e) → IsErrOf r ListingMemory → IsErrOf {T = U} (Err e) ListingMemory
passed_on (Ok x) e h k = absurd h
passed_on {T = T} (Err f) e h k = is_error e ListingMemory (sym h ∙ error_is {T = T} f ListingMemory k)

of_memory : {T : Type 0} (e : ListingFault) → fault_of e ≡ Memory → IsErrOf {T = T} (Err e) ListingMemory
of_memory ListingMemory h = refl
of_memory ListingWrite h = absurd cc

pub is_memory : {T U : Type 0} (r : Result T Fault) (e : ListingFault) → IsErrAnd r (λ f. f ≡ fault_of e) → IsErrOf r Memory → IsErrOf {T = U} (Err e) ListingMemory
is_memory (Ok x) e h k = absurd h
is_memory {T = T} (Err f) e h k = of_memory e (sym h ∙ error_is {T = T} f Memory k)

-- ---- lines

-- a line was done, and its reply found no memory
pub Stopped-one : (line : List ℕ) (old new : Script) (a : Option (List ℕ)) → IsLost line old.core.machine old.out.items new → Stopped (line ∷ []) old new a a
Stopped-one line old new a l = record {
  answers = [];
  lost = (line, l.reply) ∷ [];
  unread = [];
  few = omega arith;
  of_lines = refl;
  each = (l.answer, tt);
  machine = l.machine;
  good = λ h. h;
  passes = subst (λ (ts : List ℕ). WritesFront a a ts new.out.items) (l.text ∙ sym (append-nil old.out.items)) (Passes-none a new.out.items);
}

-- none of the lines was begun
pub Stopped-before : (ls : List (List ℕ)) (old new : Script) (a : Option (List ℕ)) → new.core.machine ≡ old.core.machine → new.out.items ≡ old.out.items → Stopped ls old new a a
Stopped-before ls old new a u o = record {
  answers = [];
  lost = [];
  unread = ls;
  few = omega arith;
  of_lines = refl;
  each = tt;
  machine = u;
  good = λ l. l;
  passes = subst (λ (ts : List ℕ). WritesFront a a ts new.out.items) (o ∙ sym (append-nil old.out.items)) (Passes-none a new.out.items);
}

-- answers, those of which one is lost, and the lines after them
each-then : (s t : Machine) (xs ys lost : List Answer) → AreAnswers s xs → t ≡ left_by xs s → AreAnswers t (ys ++ lost) → AreAnswers s ((xs ++ ys) ++ lost)
each-then s t xs ys lost h e k = subst (AreAnswers s) (sym (append_assoc xs ys lost)) (AreAnswers-append s t xs (ys ++ lost) h e k)

machine-then : (s t u : Machine) (xs ys lost : List Answer) → t ≡ left_by xs s → u ≡ left_by (ys ++ lost) t → u ≡ left_by ((xs ++ ys) ++ lost) s
machine-then s t u xs ys lost e k = k ∙ left-then s t xs (ys ++ lost) e ∙ ap (λ (zs : List Answer). left_by zs s) (sym (append_assoc xs ys lost))

text-then : (out : List ℕ) (xs ys : List Answer) → (out ++ text_of xs) ++ text_of ys ≡ out ++ text_of (xs ++ ys)
text-then out xs ys = append_assoc out (text_of xs) (text_of ys) ∙ ap (λ (ts : List ℕ). out ++ ts) (sym (flat_map-append _ xs ys))

lines-then : (xs ys : List Answer) (ls ms more : List (List ℕ)) → lines_in xs ≡ ls → lines_in ys ++ more ≡ ms → lines_in (xs ++ ys) ++ more ≡ ls ++ ms
lines-then xs ys ls ms more h k = ap (λ (l : List (List ℕ)). l ++ more) (lines-append xs ys) ∙ append_assoc (lines_in xs) (lines_in ys) more ∙ ap (λ (l : List (List ℕ)). lines_in xs ++ l) k ∙ ap (λ (l : List (List ℕ)). l ++ ms) h

-- lines were answered, and then a run of others stopped
pub Stopped-then : (ls ms : List (List ℕ)) (a b c : Script) (p q r : Option (List ℕ)) → Ran ls a b p q → Stopped ms b c q r → Stopped (ls ++ ms) a c p r
Stopped-then ls ms a b c p q r h k = record {
  answers = h.answers ++ k.answers;
  lost = k.lost;
  unread = k.unread;
  few = k.few;
  of_lines = lines-then h.answers k.answers ls ms (lines_in k.lost ++ k.unread) h.of_lines k.of_lines;
  each = each-then a.core.machine b.core.machine h.answers k.answers k.lost h.each h.machine k.each;
  machine = machine-then a.core.machine b.core.machine c.core.machine h.answers k.answers k.lost h.machine k.machine;
  good = λ l. subst IsGood (left-then a.core.machine b.core.machine h.answers k.answers h.machine) (k.good (h.good l));
  passes = subst (λ (ts : List ℕ). WritesFront p r ts c.out.items) (text-then a.out.items h.answers k.answers)
      (Passes-then p q r ((a.out.items ++ text_of h.answers) ++ text_of k.answers) (b.out.items ++ text_of k.answers) c.out.items (Passes-more p q (a.out.items ++ text_of h.answers) b.out.items (text_of k.answers) h.passes) k.passes);
}

-- ---- the front of a text

pub StoppedFront-before : (text : List ℕ) (a b : Script) (p : Option (List ℕ)) → b.core.machine ≡ a.core.machine → b.out.items ≡ a.out.items → StoppedFront text a b p p
StoppedFront-before text a b p u o = record { lines = []; rest = text; stopped = Stopped-before [] a b p u o; split = λ more. refl }

pub StoppedFront-after : (text rest : List ℕ) (a b c : Script) (p q : Option (List ℕ)) → RanFront text rest a b p q → c.core.machine ≡ b.core.machine → c.out.items ≡ b.out.items → StoppedFront text a c p q
StoppedFront-after text rest a b c p q h u o = record {
  lines = h.lines;
  rest = rest;
  stopped = subst (λ (l : List (List ℕ)). Stopped l a c p q) (append-nil h.lines) (Stopped-then h.lines [] a b c p q q h.ran (Stopped-before [] b c q u o));
  split = h.split;
}

StoppedFront-more : (text rest after : List ℕ) (ls : List (List ℕ)) (a b c : Script) (p q r : Option (List ℕ)) → RanFront text rest a b p q → Stopped ls b c q r
    → ((more : List ℕ) → lines_of (rest ++ more) ≡ ls ++ lines_of (after ++ more)) → StoppedFront text a c p r
StoppedFront-more text rest after ls a b c p q r h k e = record {
  lines = h.lines ++ ls;
  rest = after;
  stopped = Stopped-then h.lines ls a b c p q r h.ran k;
  split = λ more. h.split more ∙ ap (λ (l : List (List ℕ)). h.lines ++ l) (e more) ∙ sym (append_assoc h.lines ls (lines_of (after ++ more)));
}

pub stopped_lines : (text line : List ℕ) (at end : ℕ) (old mid new : Script) (p q r : Option (List ℕ)) → at ≤ length text → RanFront text (drop at text) old mid p q → IsFirstByte (is_byte 10) (take (length text - at) (drop at text)) (Some end)
    → line ≡ strip_last 13 (take end (take (length text - at) (drop at text))) → Stopped (nonempty_line line) mid new q r → StoppedFront text old new p r
stopped_lines text line at end old mid new p q r le so_far first e stopped =
    StoppedFront-more text (drop at text) (drop (at + (end + 1)) text) (nonempty_line line) old mid new p q r so_far stopped (next-line text line at end le first e)

-- in the lines after the one that had begun
pub joined_stopped : (begun piece line rest : List ℕ) (end : ℕ) (a b c : Script) (p q r : Option (List ℕ)) → has_no_end begun ≡ true → IsFirstByte (is_byte 10) piece (Some end) → line ≡ strip_last 13 (begun ++ take end piece)
    → rest ≡ drop (suc end) piece → Ran (nonempty_line line) a b p q → StoppedFront rest b c q r → StoppedFront (begun ++ piece) a c p r
joined_stopped begun piece line rest end a b c p q r none found line-is rest-is ran front =
    StoppedFront-more (begun ++ piece) rest front.rest front.lines a b c p q r (joined_first begun piece line rest end a b p q none found line-is rest-is ran) front.stopped front.split

-- in that one
pub joined_stopped_first : (begun piece line : List ℕ) (end : ℕ) (a b : Script) (p q : Option (List ℕ)) → has_no_end begun ≡ true → IsFirstByte (is_byte 10) piece (Some end) → line ≡ strip_last 13 (begun ++ take end piece)
    → Stopped (nonempty_line line) a b p q → StoppedFront (begun ++ piece) a b p q
joined_stopped_first begun piece line end a b p q none found line-is stopped = record {
  lines = nonempty_line line;
  rest = drop (suc end) piece;
  stopped = stopped;
  split = joined-split begun piece line (drop (suc end) piece) end none found line-is refl;
}

-- ---- what follows the replies

-- "--" found no memory
pub ended_before : (listed : Bool) (m : Database) (out same : List ℕ) (p : Option (List ℕ)) → same ≡ out → EndedFront listed m out same p p
ended_before listed m out same p e = record { behind = []; front = inl refl; passes = subst (λ (ts : List ℕ). WritesFront p p ts same) (e ∙ sym (append-nil out)) (Passes-none p same) }

-- a node's line found none
pub ended_listed : (listed : Bool) (m content : Database) (out headed left : List ℕ) (p q : Option (List ℕ)) → listed ≡ true → content ≡ m → headed ≡ out ++ codes "--\n" → HasListed p q headed content left → EndedFront listed m out left p q
ended_listed listed m content out headed left p q asked same e h = record {
  behind = codes "--\n" ++ h.text;
  front = inr (record { asked = asked; none_left = refl; nodes = h.text; front = subst (λ (d : Database). IsListedFront d h.text) same h.listed; headed = refl });
  passes = subst (λ (ts : List ℕ). WritesFront p q ts left) (ap (λ (ts : List ℕ). ts ++ h.text) e ∙ append_assoc out (codes "--\n") h.text) h.passes;
}

pub stopped_last : (listed : Bool) (line : List ℕ) (a b : Script) (p q : Option (List ℕ)) → Stopped (nonempty_line line) a b p q → StoppedEnd listed line a b p q
stopped_last listed line a b p q h = record {
  answers = h.answers;
  lost = h.lost;
  unread = h.unread;
  behind = [];
  few = h.few;
  of_lines = h.of_lines;
  each = h.each;
  machine = inr h.machine;
  good = h.good;
  front = inl refl;
  passes = subst (λ (ts : List ℕ). WritesFront p q ts b.out.items) (sym (append-nil (a.out.items ++ text_of h.answers))) h.passes;
}

-- all lines were answered, and then a front of what follows was gathered
pub stopped_ending : (listed : Bool) (line : List ℕ) (a b c : Script) (m : Database) (p q r : Option (List ℕ)) → Ran (nonempty_line line) a b p q → m ≡ (after (run_of (halts_of b.jobs) b.core.machine).units initial).map
    → EndedFront listed m b.out.items c.out.items q r → StoppedEnd listed line a c p r
stopped_ending listed line a b c m p q r h e k = record {
  answers = h.answers;
  lost = [];
  unread = [];
  behind = k.behind;
  few = omega arith;
  of_lines = append-nil _ ∙ h.of_lines;
  each = subst (AreAnswers a.core.machine) (sym (append-nil h.answers)) h.each;
  machine = inl refl;
  good = λ l. subst IsGood h.machine (h.good l);
  front = subst (λ (d : Database). (k.behind ≡ []) ⊎ IsEndingFront listed [] d k.behind) (halted_nodes (nonempty_line line) a b m p q h e) k.front;
  passes = Passes-then p q r _ (b.out.items ++ k.behind) c.out.items (Passes-more p q (a.out.items ++ text_of h.answers) b.out.items k.behind h.passes) k.passes;
}

-- ---- a whole script

-- at a place between two reads
gathered_known : (start : Machine) (listed : Bool) (bytes : List ℕ) (left old new : Option (List ℕ)) (begun : List ℕ) (script : Script) → Stands start (Some bytes) left begun old new script → HasGathered start listed bytes script old new
gathered_known start listed bytes None old new begun script h = absurd h.split
gathered_known start listed bytes (Some more) old new begun script h = record {
  answers = h.answers;
  lost = [];
  unread = lines_of (begun ++ more);
  behind = [];
  few = omega arith;
  of_lines = h.split;
  each = subst (AreAnswers start) (sym (append-nil h.answers)) h.each;
  machine = inr (h.machine ∙ ap (λ (xs : List Answer). left_by xs start) (sym (append-nil h.answers)));
  good = subst IsGood h.machine h.good;
  front = inl refl;
  passes = Passes-all old new (text_of h.answers ++ []) script.out.items (subst (Appends old new) (sym (append-nil (text_of h.answers))) h.written) h.out;
}

pub gathered_at : (start : Machine) (listed : Bool) (all left old new : Option (List ℕ)) (begun : List ℕ) (script : Script) → Stands start all left begun old new script → IfSome all (λ bytes. HasGathered start listed bytes script old new)
gathered_at start listed None left old new begun script h = tt
gathered_at start listed (Some bytes) left old new begun script h = gathered_known start listed bytes left old new begun script h

-- what was written before, and then some more
passes-first : (a b c : Option (List ℕ)) (x y z : List ℕ) → Appends a b x → WritesFront b c y z → WritesFront a c (x ++ y) z
passes-first a b c x y z h k = record {
  written = x ++ k.written;
  appended = Appends-more a b c x k.written h k.appended;
  rest = ap (λ (l : List ℕ). x ++ l) k.rest ∙ sym (append_assoc x k.written z);
}

-- the text of the answers before, of those after, and of what follows
passes-next : (old new last : Option (List ℕ)) (before more : List Answer) (out behind left : List ℕ) → Appends old new (text_of before) → out ≡ [] → WritesFront new last ((out ++ text_of more) ++ behind) left
    → WritesFront old last (text_of (before ++ more) ++ behind) left
passes-next old new last before more out behind left w o k =
    subst (λ (ts : List ℕ). WritesFront old last ts left)
    (ap (λ (o : List ℕ). text_of before ++ ((o ++ text_of more) ++ behind)) o ∙ sym (append_assoc (text_of before) (text_of more) behind) ∙ ap (λ (ts : List ℕ). ts ++ behind) (sym (flat_map-append _ before more)))
    (passes-first old new last (text_of before) ((out ++ text_of more) ++ behind) left w k)

-- the lines before a piece, those answered in it, those that weren't, and those after it
lines-known : (before more lost : List (List ℕ)) (unread behind all : List (List ℕ)) → all ≡ (before ++ (more ++ (lost ++ unread))) ++ behind → all ≡ (before ++ more) ++ (lost ++ (unread ++ behind))
lines-known before more lost unread behind all e =
    e ∙ append_assoc before (more ++ (lost ++ unread)) behind ∙ ap (λ (l : List (List ℕ)). before ++ l) (append_assoc more (lost ++ unread) behind ∙ ap (λ (l : List (List ℕ)). more ++ l) (append_assoc lost unread behind))
    ∙ sym (append_assoc before more (lost ++ (unread ++ behind)))

gathered_known_piece : (start : Machine) (listed : Bool) (bytes : List ℕ) (left left' old new last : Option (List ℕ)) (begun piece : List ℕ) (a b : Script) (h : Stands start (Some bytes) left begun old new a) (k : StoppedFront (begun ++ piece) a b new last)
    → Follows (Some bytes) left' (lines_in h.answers ++ k.lines) k.rest → HasGathered start listed bytes b old last
gathered_known_piece start listed bytes left None old new last begun piece a b h k f = absurd f
gathered_known_piece start listed bytes left (Some more) old new last begun piece a b h k f = record {
  answers = h.answers ++ k.stopped.answers;
  lost = k.stopped.lost;
  unread = k.stopped.unread ++ lines_of (k.rest ++ more);
  behind = [];
  few = k.stopped.few;
  of_lines = lines-known (lines_in h.answers) (lines_in k.stopped.answers) (lines_in k.stopped.lost) k.stopped.unread (lines_of (k.rest ++ more)) (lines_of bytes)
      (f ∙ ap (λ (l : List (List ℕ)). (lines_in h.answers ++ l) ++ lines_of (k.rest ++ more)) (sym k.stopped.of_lines))
      ∙ ap (λ (l : List (List ℕ)). l ++ (lines_in k.stopped.lost ++ (k.stopped.unread ++ lines_of (k.rest ++ more)))) (sym (lines-append h.answers k.stopped.answers));
  each = each-then start a.core.machine h.answers k.stopped.answers k.stopped.lost h.each h.machine k.stopped.each;
  machine = inr (machine-then start a.core.machine b.core.machine h.answers k.stopped.answers k.stopped.lost h.machine k.stopped.machine);
  good = subst IsGood (left-then start a.core.machine h.answers k.stopped.answers h.machine) (k.stopped.good h.good);
  front = inl refl;
  passes = passes-next old new last h.answers k.stopped.answers a.out.items [] b.out.items h.written h.out
      (subst (λ (ts : List ℕ). WritesFront new last ts b.out.items) (sym (append-nil (a.out.items ++ text_of k.stopped.answers))) k.stopped.passes);
}

-- in a piece
pub gathered_piece : (start : Machine) (listed : Bool) (all left left' old new last : Option (List ℕ)) (begun piece : List ℕ) (a b : Script) → Stands start all left begun old new a → HasRead left left' piece → StoppedFront (begun ++ piece) a b new last
    → IfSome all (λ bytes. HasGathered start listed bytes b old last)
gathered_piece start listed None left left' old new last begun piece a b h r k = tt
gathered_piece start listed (Some bytes) left left' old new last begun piece a b h r k =
    gathered_known_piece start listed bytes left left' old new last begun piece a b h k
    (Follows-lines (Some bytes) left' (lines_in h.answers) k.lines (begun ++ piece) k.rest (Follows-more (Some bytes) left left' (lines_in h.answers) begun piece h.split r.consumed) k.split)

machine-end : (s t u : Machine) (xs ys lost : List Answer) (more : List (List ℕ)) → t ≡ left_by xs s → (more ≡ []) ⊎ (u ≡ left_by (ys ++ lost) t) → (more ≡ []) ⊎ (u ≡ left_by ((xs ++ ys) ++ lost) s)
machine-end s t u xs ys lost more e (inl none) = inl none
machine-end s t u xs ys lost more e (inr is) = inr (machine-then s t u xs ys lost e is)

-- at the end of input
pub gathered_end : (start : Machine) (listed : Bool) (all left left' old new last : Option (List ℕ)) (begun piece : List ℕ) (a b : Script) → Stands start all left begun old new a → HasRead left left' piece → length piece ≡ 0 → StoppedEnd listed begun a b new last
    → IfSome all (λ bytes. HasGathered start listed bytes b old last)
gathered_end start listed None left left' old new last begun piece a b h r none k = tt
gathered_end start listed (Some bytes) left left' old new last begun piece a b h r none k =
    let left-is : left_by k.answers a.core.machine ≡ left_by (h.answers ++ k.answers) start = left-then start a.core.machine h.answers k.answers h.machine in
    let open-is : left_open k.answers a.jobs ≡ left_open (h.answers ++ k.answers) [] = open-then [] a.jobs h.answers k.answers h.jobs in
    let end-is : left_at_end k.answers a.jobs a.core.machine ≡ left_at_end (h.answers ++ k.answers) [] start = λ i. run_of (halts_of (open-is i)) (left-is i) in
    let all-lines : lines_of bytes ≡ lines_in h.answers ++ nonempty_line begun =
    at_end bytes left left' (lines_in h.answers) begun piece h.split r.consumed (nil_from_length piece none) (r.ended none) ∙ ap (λ (l : List (List ℕ)). lines_in h.answers ++ l) (last_line begun h.whole) in
    record {
      answers = h.answers ++ k.answers;
      lost = k.lost;
      unread = k.unread;
      behind = k.behind;
      few = k.few;
      of_lines = all-lines ∙ sym (lines-then h.answers k.answers (lines_in h.answers) (nonempty_line begun) (lines_in k.lost ++ k.unread) refl k.of_lines);
      each = each-then start a.core.machine h.answers k.answers k.lost h.each h.machine k.each;
      machine = machine-end start a.core.machine b.core.machine h.answers k.answers k.lost (lines_in k.lost ++ k.unread) h.machine k.machine;
      good = subst IsGood left-is (k.good h.good);
      front = subst (λ (s : Machine). (k.behind ≡ []) ⊎ IsEndingFront listed (lines_in k.lost ++ k.unread) (after s.units initial).map k.behind) end-is k.front;
      passes = passes-next old new last h.answers k.answers a.out.items k.behind b.out.items h.written h.out k.passes;
    }

-- ---- and what is gathered is written

each-front : (s : Machine) (xs ys : List Answer) → AreAnswers s (xs ++ ys) → AreAnswers s xs
each-front s [] ys h = tt
each-front s (x ∷ xs) ys h = (h.0, each-front (told_by (reading_of x.0) x.1 s) xs ys h.1)

kept_known : (start : Machine) (listed : Bool) (bytes : List ℕ) (script : Script) (old new last : Option (List ℕ)) → HasGathered start listed bytes script old new → Appends new last script.out.items → HasKept start listed bytes old last
kept_known start listed bytes script old new last h w = record {
  answers = h.answers;
  unanswered = lines_in h.lost ++ h.unread;
  behind = h.behind;
  each = each-front start h.answers h.lost h.each;
  split = h.of_lines;
  front = h.front;
  written = Passes-Appends old new last (text_of h.answers ++ h.behind) script.out.items h.passes w;
}

pub kept_all : (start : Machine) (listed : Bool) (all : Option (List ℕ)) (script : Script) (old new last : Option (List ℕ)) → IfSome all (λ bytes. HasGathered start listed bytes script old new) → Appends new last script.out.items → IfSome all (λ bytes. HasKept start listed bytes old last)
kept_all start listed None script old new last h w = tt
kept_all start listed (Some bytes) script old new last h w = kept_known start listed bytes script old new last h w

-- before the first line
pub kept_first : (start : Machine) (listed : Bool) (all old : Option (List ℕ)) → IfSome all (λ bytes. HasKept start listed bytes old old)
kept_first start listed None old = tt
kept_first start listed (Some bytes) old = record { answers = []; unanswered = lines_of bytes; behind = []; each = tt; split = refl; front = inl refl; written = Appends-nothing old }

begun_known : (start : Machine) (listed : Bool) (bytes : List ℕ) (script : Script) (old new last : Option (List ℕ)) → HasGathered start listed bytes script old new → WritesBeginning new last script.out.items → IsBegun start listed bytes old last
begun_known start listed bytes script old new last h w = by_front h.front
  where
    begun : WritesBeginning old last (text_of h.answers ++ h.behind)
    begun = Passes-begun old new last (text_of h.answers ++ h.behind) script.out.items h.passes w

    by_front : (h.behind ≡ []) ⊎ IsEndingFront listed (lines_in h.lost ++ h.unread) (after (left_at_end h.answers [] start).units initial).map h.behind → IsBegun start listed bytes old last
    by_front (inl none) =
        let g = goes_on start listed bytes h.answers (lines_in h.lost ++ h.unread) h.of_lines (each-front start h.answers h.lost h.each) h.good in
        record {
          text = text_of h.answers ++ g.more;
          outcome = g.outcome;
          output = g.output;
          written = WritesBeginning-longer old last (text_of h.answers) g.more (subst (WritesBeginning old last) (ap (λ (ts : List ℕ). text_of h.answers ++ ts) none ∙ append-nil (text_of h.answers)) begun);
        }
    by_front (inr front) =
        let m : Database = (after (left_at_end h.answers [] start).units initial).map in
        let more : List ℕ = flat_map node_text front.front.left in
        let whole : ending listed m ≡ h.behind ++ more =
        ap (λ (b : Bool). ending b m) front.asked ∙ ap (λ (es : List _). codes "--\n" ++ flat_map node_text es) (sym front.front.parts)
        ∙ ap (λ (ts : List ℕ). codes "--\n" ++ ts) (flat_map-append node_text front.front.done front.front.left ∙ ap (λ (ts : List ℕ). ts ++ more) (sym front.front.lines))
        ∙ sym (append_assoc (codes "--\n") front.nodes more) ∙ ap (λ (ts : List ℕ). ts ++ more) (sym front.headed) in
        record {
          text = (text_of h.answers ++ h.behind) ++ more;
          outcome = outcome_of h.answers;
          output = record {
            answers = h.answers;
            of_lines = sym (h.of_lines ∙ ap (λ (l : List (List ℕ)). lines_in h.answers ++ l) front.none_left ∙ append-nil (lines_in h.answers));
            each = each-front start h.answers h.lost h.each;
            legal = (good_run (halts_of (left_open h.answers [])) (left_by h.answers start) h.good).legal;
            written = append_assoc (text_of h.answers) h.behind more ∙ ap (λ (ts : List ℕ). text_of h.answers ++ ts) (sym whole);
            told = refl;
          };
          written = WritesBeginning-longer old last (text_of h.answers ++ h.behind) more begun;
        }

-- a beginning of what is gathered was written, or all of it
pub begun_left : (start : Machine) (listed : Bool) (all : Option (List ℕ)) (script : Script) (old new last : Option (List ℕ)) → IfSome all (λ bytes. HasGathered start listed bytes script old new) → WritesBeginning new last script.out.items → IfSome all (λ bytes. IsBegun start listed bytes old last)
begun_left start listed None script old new last h w = tt
begun_left start listed (Some bytes) script old new last h w = begun_known start listed bytes script old new last h w
