-- Pieces, one after the other, and the end of input.
use Rattle.std.proofs.Common.{◌≡◌, ℕ, suc, ◌+◌, ◌-◌, ◌<◌, ◌≤◌, Bool, true, false, cond, List, [], ◌∷◌, ◌++◌, length, take, drop, Option, None, Some, inl, inr, refl, sym, ap, subst, ◌∙◌, append_assoc, arith, length-drop, drop-drop}
use Rattle.std.specs.Prelude.{◌⊎◌}
use Rattle.std.proofs.lemmas.List.{append-nil}
use Rattle.std.specs.Io.KnownBytes.{Appends}
use Rattle.std.specs.Io.BufRead.{strip_last}
use Rattle.bstr.specs.Find.{IsFirstByte, is_byte}
use Rattle.collation.specs.Database.{Database}
use Rattle.journal.specs.History.{initial, after as after_units}
use Rattle.journal.specs.Story.{Machine}
use Rattle.serial.specs.Machine.{run_of}
use Rattle.serial.specs.Soundness.{IsGood}
use Rattle.serial.specs.laws.Good.{good_run}
use Rattle.listing.specs.Bytes.{WritesBeginning}
use Rattle.listing.specs.laws.Bytes.{rest_of, Passes-all, Passes-more, Passes-begun, Passes-Appends}
use Rattle.script_run.specs.Lines.{nonempty_line, lines_of, has_no_end}
use Rattle.script_run.specs.laws.Lines.{last_line}
use Rattle.script_run.specs.laws.Cut.{joined_line, has_no_end-append, no_end, end_of}
use Rattle.script_run.specs.Output.{Answer, halts_of, text_of, noted, ending}
use Rattle.script_run.specs.laws.Outcomes.{noted-then}
use Rattle.live_server.specs.Live.{Act, all_left_by, AreInTurn, AreLast, IsNext, answers_in, answered_of, lines_with, waiting_in, open_by, left_at_end, Wrote, IsBegun}
use Rattle.live_server.specs.Desks.{DeskShown, desk_of, queued, first_of, waiting_at}
use Rattle.live_server.specs.Runs.{Follow, RanAt, BrokeAt, Ran, Broke, Settled, Unsettled, none_over, RanFront, BrokeFront, halted_after, RanEnd, BrokeEnd, IsNew, HasTaken, HasBrokenOff}
use Rattle.live_server.specs.declared.live.Live.{Live}
use Rattle.live_server.proofs.Acts.{left-append, answers-append, lines-append, text-append, waiting-append, open-append, last-behind, last-none, last-same}
use Rattle.live_server.proofs.Steps.{nothing_begun, next_more, next_is, Follow-then, Ran-then, Broke-then, Broke-after, Ran-and-none, Broke-and-none, Ran-none, Ran-passed-on, Ran-so-far, Broke-so-far, Settled-then, Unsettled-then}

-- ---- what is gathered is written

-- a beginning of what was gathered was written
pub Broke-writing : (a : Live) (p q : Option (List ℕ)) → WritesBeginning p q a.script.out.items → Broke [] a p q
Broke-writing a p q w = Broke-after [] a a p p q (Ran-none a a p refl refl refl refl refl) w

-- all that was gathered was written
pub Ran-written : (a b : Live) (p q : Option (List ℕ)) → Appends p q a.script.out.items → b.script.out.items ≡ [] → b.script.core.machine ≡ a.script.core.machine → b.script.jobs ≡ a.script.jobs → b.script.outcome ≡ a.script.outcome → b.desks ≡ a.desks → Ran [] a b p q
Ran-written a b p q w none machine jobs outcome desks = Ran-passed-on a b p q machine jobs outcome desks (Passes-all p q a.script.out.items b.script.out.items w none)

-- ---- pieces

pub RanFront-none : (text : List ℕ) (a : Live) (p : Option (List ℕ)) → RanFront text text a a p p
RanFront-none text a p = record { lines = []; ran = Ran-none a a p refl refl refl refl refl; split = λ more. refl }

pub RanFront-more : (text rest next : List ℕ) (ls : List (List ℕ)) (a b c : Live) (p q r : Option (List ℕ)) → RanFront text rest a b p q → Ran ls b c q r → ((more : List ℕ) → lines_of (rest ++ more) ≡ ls ++ lines_of (next ++ more)) → RanFront text next a c p r
RanFront-more text rest next ls a b c p q r h k e = record {
  lines = h.lines ++ ls;
  ran = Ran-then h.lines ls a b c p q r h.ran k;
  split = λ more. h.split more ∙ ap (λ (l : List (List ℕ)). h.lines ++ l) (e more) ∙ sym (append_assoc h.lines ls (lines_of (next ++ more)));
}

pub BrokeFront-more : (text rest next : List ℕ) (ls : List (List ℕ)) (a b : Live) (p q r : Option (List ℕ)) → RanFront text rest a b p q → Broke ls b q r → ((more : List ℕ) → lines_of (rest ++ more) ≡ ls ++ lines_of (next ++ more)) → BrokeFront text a p r
BrokeFront-more text rest next ls a b p q r h k e = record {
  lines = h.lines ++ ls;
  rest = next;
  broke = Broke-then h.lines ls a b p q r h.ran k;
  split = λ more. h.split more ∙ ap (λ (l : List (List ℕ)). h.lines ++ l) (e more) ∙ sym (append_assoc h.lines ls (lines_of (next ++ more)));
}

-- no line more
pub RanFront-and-none : (text rest : List ℕ) (a b c : Live) (p q r : Option (List ℕ)) → RanFront text rest a b p q → Ran [] b c q r → RanFront text rest a c p r
RanFront-and-none text rest a b c p q r h k = record { lines = h.lines; ran = Ran-and-none h.lines a b c p q r h.ran k; split = h.split }

pub BrokeFront-and-none : (text rest : List ℕ) (a b : Live) (p q r : Option (List ℕ)) → RanFront text rest a b p q → Broke [] b q r → BrokeFront text a p r
BrokeFront-and-none text rest a b p q r h k = record { lines = h.lines; rest = rest; broke = Broke-and-none h.lines a b p q r h.ran k; split = h.split }

pub BrokeFront-after : (text rest : List ℕ) (a b : Live) (p q : Option (List ℕ)) → RanFront text rest a b p q → BrokeFront text a p q
BrokeFront-after text rest a b p q h = record { lines = h.lines; rest = rest; broke = Broke-after h.lines a b p q q h.ran (nothing_begun q b.script.out.items); split = h.split }

pub BrokeFront-writing : (text rest : List ℕ) (a b : Live) (p q r : Option (List ℕ)) → RanFront text rest a b p q → WritesBeginning q r b.script.out.items → BrokeFront text a p r
BrokeFront-writing text rest a b p q r h w = record { lines = h.lines; rest = rest; broke = Broke-after h.lines a b p q r h.ran w; split = h.split }

RanFront-is : (text rest same : List ℕ) (a b : Live) (p q : Option (List ℕ)) → same ≡ rest → RanFront text rest a b p q → RanFront text same a b p q
RanFront-is text rest same a b p q e h = subst (λ (t : List ℕ). RanFront text t a b p q) (sym e) h

-- the line that had begun ends at the next byte 10 of the piece
ended_split : (begun piece line : List ℕ) (at end : ℕ) → has_no_end begun ≡ true → IsFirstByte (is_byte 10) (take (length piece - at) (drop at piece)) (Some end) → line ≡ strip_last 13 (begun ++ take end (take (length piece - at) (drop at piece)))
    → (more : List ℕ) → lines_of ((begun ++ drop at piece) ++ more) ≡ nonempty_line line ++ lines_of (drop (at + (end + 1)) piece ++ more)
ended_split begun piece line at end none first line-is more =
    let whole : take (length piece - at) (drop at piece) ≡ drop at piece = rest_of piece at in
    let found = end_of (drop at piece) end (rw whole at first) in
    let is : line ≡ strip_last 13 (begun ++ take end (drop at piece)) = line-is ∙ ap (λ (t : List ℕ). strip_last 13 (begun ++ take end t)) whole in
    let rest-is : drop (suc end) (drop at piece) ≡ drop (at + (end + 1)) piece = let same : at + suc end ≡ at + (end + 1) = omega arith in drop-drop (suc end) at piece ∙ ap (λ (n : ℕ). drop n piece) same in
    joined_line begun (drop at piece) more end none found ∙ ap (λ (l : List ℕ). nonempty_line l ++ lines_of (drop (suc end) (drop at piece) ++ more)) (sym is) ∙ ap (λ (r : List ℕ). nonempty_line line ++ lines_of (r ++ more)) rest-is

pub next_in_range : (piece : List ℕ) (at end : ℕ) → at ≤ length piece → IsFirstByte (is_byte 10) (take (length piece - at) (drop at piece)) (Some end) → at + (end + 1) ≤ length piece
next_in_range piece at end le first =
    let whole : take (length piece - at) (drop at piece) ≡ drop at piece = rest_of piece at in
    let found = rw whole at first in
    omega (arith, length-drop at piece, found.0.high)

-- one line more of the piece came
pub next_ran : (text begun begun' piece line : List ℕ) (at end : ℕ) (a b c : Live) (p q r : Option (List ℕ)) → has_no_end begun ≡ true → IsFirstByte (is_byte 10) (take (length piece - at) (drop at piece)) (Some end)
    → line ≡ strip_last 13 (begun ++ take end (take (length piece - at) (drop at piece))) → begun' ≡ [] → RanFront text (begun ++ drop at piece) a b p q → Ran (nonempty_line line) b c q r → RanFront text (begun' ++ drop (at + (end + 1)) piece) a c p r
next_ran text begun begun' piece line at end a b c p q r none first is empty h k =
    RanFront-is text (drop (at + (end + 1)) piece) (begun' ++ drop (at + (end + 1)) piece) a c p r (ap (λ (l : List ℕ). l ++ drop (at + (end + 1)) piece) empty)
    (RanFront-more text (begun ++ drop at piece) (drop (at + (end + 1)) piece) (nonempty_line line) a b c p q r h k (ended_split begun piece line at end none first is))

pub next_broke : (text begun piece line : List ℕ) (at end : ℕ) (a b : Live) (p q r : Option (List ℕ)) → has_no_end begun ≡ true → IsFirstByte (is_byte 10) (take (length piece - at) (drop at piece)) (Some end)
    → line ≡ strip_last 13 (begun ++ take end (take (length piece - at) (drop at piece))) → RanFront text (begun ++ drop at piece) a b p q → Broke (nonempty_line line) b q r → BrokeFront text a p r
next_broke text begun piece line at end a b p q r none first is h k =
    BrokeFront-more text (begun ++ drop at piece) (drop (at + (end + 1)) piece) (nonempty_line line) a b p q r h k (ended_split begun piece line at end none first is)

-- the rest of the piece has no end
pub rest_begun : (begun piece next : List ℕ) (at : ℕ) → has_no_end begun ≡ true → IsFirstByte (is_byte 10) (take (length piece - at) (drop at piece)) None → next ≡ begun ++ take (length piece - at) (drop at piece) → has_no_end next ≡ true
rest_begun begun piece next at h none e =
    ap has_no_end e ∙ has_no_end-append begun (take (length piece - at) (drop at piece)) h (no_end (take (length piece - at) (drop at piece)) (λ k low high p. none k low high p))

pub rest_front : (text begun piece next : List ℕ) (at : ℕ) (a b : Live) (p q : Option (List ℕ)) → next ≡ begun ++ take (length piece - at) (drop at piece) → RanFront text (begun ++ drop at piece) a b p q → RanFront text next a b p q
rest_front text begun piece next at a b p q e h = RanFront-is text (begun ++ drop at piece) next a b p q (e ∙ ap (λ (t : List ℕ). begun ++ t) (rest_of piece at)) h

-- a piece after what was read before
pub piece_ran : (bytes rest piece next : List ℕ) (a b c : Live) (p q r : Option (List ℕ)) → RanFront bytes rest a b p q → RanFront (rest ++ piece) next b c q r → RanFront (bytes ++ piece) next a c p r
piece_ran bytes rest piece next a b c p q r h k = record {
  lines = h.lines ++ k.lines;
  ran = Ran-then h.lines k.lines a b c p q r h.ran k.ran;
  split = λ more.
      ap lines_of (append_assoc bytes piece more) ∙ h.split (piece ++ more) ∙ ap (λ (t : List ℕ). h.lines ++ lines_of t) (sym (append_assoc rest piece more))
      ∙ ap (λ (l : List (List ℕ)). h.lines ++ l) (k.split more) ∙ sym (append_assoc h.lines k.lines (lines_of (next ++ more)));
}

pub piece_broke : (bytes rest piece : List ℕ) (a b : Live) (p q r : Option (List ℕ)) → RanFront bytes rest a b p q → BrokeFront (rest ++ piece) b q r → BrokeFront (bytes ++ piece) a p r
piece_broke bytes rest piece a b p q r h k = record {
  lines = h.lines ++ k.lines;
  rest = k.rest;
  broke = Broke-then h.lines k.lines a b p q r h.ran k.broke;
  split = λ more.
      ap lines_of (append_assoc bytes piece more) ∙ h.split (piece ++ more) ∙ ap (λ (t : List ℕ). h.lines ++ lines_of t) (sym (append_assoc rest piece more))
      ∙ ap (λ (l : List (List ℕ)). h.lines ++ l) (k.split more) ∙ sym (append_assoc h.lines k.lines (lines_of (k.rest ++ more)));
}

-- ---- the end of input

pub none_queued : (desks : List DeskShown) → ((job : ℕ) → (desk_of desks job).lines ≡ []) → (who : Option ℕ) → queued who desks ≡ []
none_queued desks h None = refl
none_queued desks h (Some job) = h job

none_tried : (b : Bool) (lines : List (List ℕ)) → lines ≡ [] → ◌≡◌ {A = Option (List ℕ)} (cond b (first_of lines) None) None
none_tried true lines e = ap first_of e
none_tried false lines e = refl

pub none_waiting : (desks : List DeskShown) → ((job : ℕ) → (desk_of desks job).lines ≡ []) → (who : Option ℕ) → waiting_at who desks ≡ None
none_waiting desks h None = refl
none_waiting desks h (Some job) = none_tried (desk_of desks job).was_tried (desk_of desks job).lines (h job)

ended_follow : (ls : List (List ℕ)) (acts : List Act) (s : Machine) (old new : List DeskShown) → ((job : ℕ) → (desk_of new job).lines ≡ []) → Follow ls acts s old (λ who. queued who new) → Follow ls acts s old (λ who. [])
ended_follow ls acts s old new none h = record {
  each = h.each;
  in_turn = h.in_turn;
  of_lines = λ who. ap (λ (l : List (List ℕ)). answered_of who acts ++ l) (sym (none_queued new none who)) ∙ h.of_lines who;
}

halted_nodes : (ls : List (List ℕ)) (a b : Live) (m : Database) (p q : Option (List ℕ)) (h : RanAt true ls a b p q) → m ≡ (after_units (run_of (halts_of b.script.jobs) b.script.core.machine).units initial).map → m ≡ (after_units (halted_after h.acts a).units initial).map
halted_nodes ls a b m p q h e = e ∙ (λ i. (after_units (run_of (halts_of (h.jobs i)) (h.machine i)).units initial).map)

halted_good : (ls : List (List ℕ)) (a b : Live) (p q : Option (List ℕ)) (h : RanAt true ls a b p q) → IsGood a.script.core.machine → IsGood (halted_after h.acts a)
halted_good ls a b p q h l = good_run (halts_of (open_by h.acts a.script.jobs)) (all_left_by h.acts a.script.core.machine) (subst IsGood h.machine (h.good l))

-- each job that was halted has no line left
ended_last : (desks : List DeskShown) → ((job : ℕ) → (desk_of desks job).lines ≡ []) → (jobs : List ℕ) (acts : List Act) → AreLast (λ who. queued who desks) jobs acts → AreLast (λ who. []) jobs acts
ended_last desks none jobs acts h = last-same (λ who. []) (λ who. queued who desks) jobs acts (λ job. sym (none job)) h

-- the lines came, and all that waited was done
pub all_done : (ls : List (List ℕ)) (a b c : Live) (p q r : Option (List ℕ)) → Ran ls a b p q → Settled b c q r → RanAt true ls a c p r
all_done ls a b c p q r h k = Settled-then ls a b c p q r (Ran-so-far ls a b p q h) k

-- the lines came, nothing waits, and the ending was written
pub ended : (listed : Bool) (ls : List (List ℕ)) (a b c : Live) (m : Database) (p q r : Option (List ℕ)) → RanAt true ls a b p q → ((job : ℕ) → (desk_of b.desks job).lines ≡ []) → m ≡ (after_units (run_of (halts_of b.script.jobs) b.script.core.machine).units initial).map
    → Appends q r (b.script.out.items ++ ending listed m) → c.script.outcome ≡ b.script.outcome → RanEnd listed ls a c p r
ended listed ls a b c m p q r h none e w d = record {
  acts = h.acts;
  follow = ended_follow ls h.acts a.script.core.machine a.desks b.desks none h.follow;
  last = ended_last b.desks none a.script.jobs h.acts h.halts;
  waits = λ who. h.waits who ∙ none_waiting b.desks none who;
  outcome = d ∙ h.outcome;
  good = halted_good ls a b p q h;
  written = subst (λ (d : Database). Appends p r ((a.script.out.items ++ text_of (answers_in h.acts)) ++ ending listed d)) (halted_nodes ls a b m p q h e)
      (Passes-Appends p q r _ _ (Passes-more p q (a.script.out.items ++ text_of (answers_in h.acts)) b.script.out.items (ending listed m) h.passes) w);
}

-- or a beginning of it
pub broke_ending : (listed : Bool) (ls : List (List ℕ)) (a b : Live) (m : Database) (p q r : Option (List ℕ)) → RanAt true ls a b p q → ((job : ℕ) → (desk_of b.desks job).lines ≡ []) → m ≡ (after_units (run_of (halts_of b.script.jobs) b.script.core.machine).units initial).map
    → WritesBeginning q r (b.script.out.items ++ ending listed m) → BrokeEnd listed ls a p r
broke_ending listed ls a b m p q r h none e w = record {
  acts = h.acts;
  left = λ who. [];
  behind = ending listed (after_units (halted_after h.acts a).units initial).map;
  follow = ended_follow ls h.acts a.script.core.machine a.desks b.desks none h.follow;
  last = ended_last b.desks none a.script.jobs h.acts h.halts;
  waits = λ who. inl (h.waits who ∙ none_waiting b.desks none who);
  front = inr ((λ who. refl), refl);
  begun = subst (λ (d : Database). WritesBeginning p r ((a.script.out.items ++ text_of (answers_in h.acts)) ++ ending listed d)) (halted_nodes ls a b m p q h e)
      (Passes-begun p q r _ _ (Passes-more p q (a.script.out.items ++ text_of (answers_in h.acts)) b.script.out.items (ending listed m) h.passes) w);
}

-- it broke off before
abbrev pub broke_before_end : (listed : Bool) (ls : List (List ℕ)) (a : Live) (p r : Option (List ℕ)) → BrokeAt true ls a p r → BrokeEnd listed ls a p r
broke_before_end listed ls a p r h = record {
  acts = h.acts;
  left = h.left;
  behind = [];
  follow = h.follow;
  last = h.halts;
  waits = h.waits;
  front = inl refl;
  begun = subst (WritesBeginning p r) (sym (append-nil (a.script.out.items ++ text_of (answers_in h.acts)))) h.begun;
}

-- as the last line came
abbrev pub broke_in_line : (listed : Bool) (ls : List (List ℕ)) (a : Live) (p r : Option (List ℕ)) → Broke ls a p r → BrokeEnd listed ls a p r
broke_in_line listed ls a p r h = broke_before_end listed ls a p r (Broke-so-far ls a p r h)

-- or after it
pub broke_in_wait : (listed : Bool) (ls : List (List ℕ)) (a b : Live) (p q r : Option (List ℕ)) → Ran ls a b p q → Unsettled b q r → BrokeEnd listed ls a p r
broke_in_wait listed ls a b p q r h k = broke_before_end listed ls a p r (Unsettled-then ls a b p q r (Ran-so-far ls a b p q h) k)

-- ---- the end after all lines

same_end : (ls : List (List ℕ)) (a b : Live) (p q : Option (List ℕ)) (h : Ran ls a b p q) (acts : List Act) → halted_after acts b ≡ halted_after (h.acts ++ acts) a
same_end ls a b p q h acts =
    let jobs : open_by acts b.script.jobs ≡ open_by (h.acts ++ acts) a.script.jobs = ap (open_by acts) h.jobs ∙ sym (open-append h.acts acts a.script.jobs) in
    let machine : all_left_by acts b.script.core.machine ≡ all_left_by (h.acts ++ acts) a.script.core.machine = ap (all_left_by acts) h.machine ∙ sym (left-append h.acts acts a.script.core.machine) in
    λ i. run_of (halts_of (jobs i)) (machine i)

-- no job was halted before
last_end : (left : Option ℕ → List (List ℕ)) (ls : List (List ℕ)) (a b : Live) (p q : Option (List ℕ)) (h : Ran ls a b p q) (acts : List Act) → AreLast left b.script.jobs acts → AreLast left a.script.jobs (h.acts ++ acts)
last_end left ls a b p q h acts k = last-behind left a.script.jobs h.acts acts h.halts (subst (λ (jobs : List ℕ). AreLast left jobs acts) h.jobs k)

pub RanEnd-then : (listed : Bool) (ls ms : List (List ℕ)) (a b c : Live) (p q r : Option (List ℕ)) → Ran ls a b p q → RanEnd listed ms b c q r → RanEnd listed (ls ++ ms) a c p r
RanEnd-then listed ls ms a b c p q r h k = record {
  acts = h.acts ++ k.acts;
  follow = Follow-then ls ms h.acts k.acts a.script.core.machine b.script.core.machine a.desks b.desks (λ who. []) h.follow h.waits h.machine k.follow;
  last = last_end (λ who. []) ls a b p q h k.acts k.last;
  waits = λ who. waiting-append who (waiting_at who a.desks) h.acts k.acts ∙ ap (λ (w : Option (List ℕ)). waiting_in who w k.acts) (h.waits who) ∙ k.waits who;
  outcome = k.outcome ∙ ap (noted (answers_in k.acts)) h.outcome ∙ noted-then (answers_in h.acts) (answers_in k.acts) a.script.outcome ∙ ap (λ (answers : List Answer). noted answers a.script.outcome) (sym (answers-append h.acts k.acts));
  good = λ l. subst IsGood (same_end ls a b p q h k.acts) (k.good (h.good l));
  written =
      let behind = ending listed (after_units (halted_after k.acts b).units initial).map in
      subst (λ (m : Machine). Appends p r ((a.script.out.items ++ text_of (answers_in (h.acts ++ k.acts))) ++ ending listed (after_units m.units initial).map)) (same_end ls a b p q h k.acts)
      (subst (λ (ts : List ℕ). Appends p r (ts ++ behind)) (text-append a.script.out.items h.acts k.acts)
      (Passes-Appends p q r (((a.script.out.items ++ text_of (answers_in h.acts)) ++ text_of (answers_in k.acts)) ++ behind) ((b.script.out.items ++ text_of (answers_in k.acts)) ++ behind)
      (Passes-more p q ((a.script.out.items ++ text_of (answers_in h.acts)) ++ text_of (answers_in k.acts)) (b.script.out.items ++ text_of (answers_in k.acts)) behind
      (Passes-more p q (a.script.out.items ++ text_of (answers_in h.acts)) b.script.out.items (text_of (answers_in k.acts)) h.passes)) k.written));
}

broke_front : (listed : Bool) (left : Option ℕ → List (List ℕ)) (behind : List ℕ) (s t : Machine) → s ≡ t → ((behind ≡ []) ⊎ (((who : Option ℕ) → left who ≡ []) × (behind ≡ ending listed (after_units s.units initial).map)))
    → (behind ≡ []) ⊎ (((who : Option ℕ) → left who ≡ []) × (behind ≡ ending listed (after_units t.units initial).map))
broke_front listed left behind s t e (inl none) = inl none
broke_front listed left behind s t e (inr some) = inr (some.0, some.1 ∙ ap (λ (m : Machine). ending listed (after_units m.units initial).map) e)

pub BrokeEnd-then : (listed : Bool) (ls ms : List (List ℕ)) (a b : Live) (p q r : Option (List ℕ)) → Ran ls a b p q → BrokeEnd listed ms b q r → BrokeEnd listed (ls ++ ms) a p r
BrokeEnd-then listed ls ms a b p q r h k = record {
  acts = h.acts ++ k.acts;
  left = k.left;
  behind = k.behind;
  follow = Follow-then ls ms h.acts k.acts a.script.core.machine b.script.core.machine a.desks b.desks k.left h.follow h.waits h.machine k.follow;
  last = last_end k.left ls a b p q h k.acts k.last;
  waits = λ who. next_is (waiting_in who (waiting_at who a.desks) (h.acts ++ k.acts)) (waiting_in who (waiting_at who b.desks) k.acts) (k.left who)
      (waiting-append who (waiting_at who a.desks) h.acts k.acts ∙ ap (λ (w : Option (List ℕ)). waiting_in who w k.acts) (h.waits who)) (k.waits who);
  front = broke_front listed k.left k.behind (halted_after k.acts b) (halted_after (h.acts ++ k.acts) a) (same_end ls a b p q h k.acts) k.front;
  begun =
      subst (λ (ts : List ℕ). WritesBeginning p r (ts ++ k.behind)) (text-append a.script.out.items h.acts k.acts)
      (Passes-begun p q r (((a.script.out.items ++ text_of (answers_in h.acts)) ++ text_of (answers_in k.acts)) ++ k.behind) ((b.script.out.items ++ text_of (answers_in k.acts)) ++ k.behind)
      (Passes-more p q ((a.script.out.items ++ text_of (answers_in h.acts)) ++ text_of (answers_in k.acts)) (b.script.out.items ++ text_of (answers_in k.acts)) k.behind
      (Passes-more p q (a.script.out.items ++ text_of (answers_in h.acts)) b.script.out.items (text_of (answers_in k.acts)) h.passes)) k.begun);
}

-- ---- a run that was new

pub new_queued : (a : Live) → IsNew a → (who : Option ℕ) → queued who a.desks ≡ []
new_queued a new who = none_queued a.desks (λ job. ap (λ (d : DeskShown). d.lines) (new.desks job)) who

pub new_waiting : (a : Live) → IsNew a → (who : Option ℕ) → waiting_at who a.desks ≡ None
new_waiting a new who = none_waiting a.desks (λ job. ap (λ (d : DeskShown). d.lines) (new.desks job)) who

pub new_turns : (a : Live) (acts : List Act) → IsNew a → (who : Option ℕ) → AreInTurn who (waiting_at who a.desks) acts → AreInTurn who None acts
new_turns a acts new who h = subst (λ (w : Option (List ℕ)). AreInTurn who w acts) (new_waiting a new who) h

pub new_last : (a : Live) (left : Option ℕ → List (List ℕ)) (acts : List Act) → IsNew a → AreLast left a.script.jobs acts → AreLast left [] acts
new_last a left acts new h = subst (λ (jobs : List ℕ). AreLast left jobs acts) new.jobs h

-- all the lines of what was read
pub all_lines : (bytes begun : List ℕ) (lines : List (List ℕ)) → ((more : List ℕ) → lines_of (bytes ++ more) ≡ lines ++ lines_of (begun ++ more)) → has_no_end begun ≡ true → lines_of bytes ≡ lines ++ nonempty_line begun
all_lines bytes begun lines split whole = ap lines_of (sym (append-nil bytes)) ∙ split [] ∙ ap (λ (t : List ℕ). lines ++ lines_of t) (append-nil begun) ∙ ap (λ (l : List (List ℕ)). lines ++ l) (last_line begun whole)

wrote_all : (listed : Bool) (bytes : List ℕ) (ls : List (List ℕ)) (a c : Live) (p r : Option (List ℕ)) → IsNew a → lines_of bytes ≡ ls → RanEnd listed ls a c p r → Wrote a.script.core.machine listed bytes c.script.outcome p r
wrote_all listed bytes ls a c p r new e k =
    let s = a.script.core.machine in
    let same : halted_after k.acts a ≡ left_at_end k.acts [] s = ap (λ (jobs : List ℕ). left_at_end k.acts jobs s) new.jobs in
    record {
      text = text_of (answers_in k.acts) ++ ending listed (after_units (left_at_end k.acts [] s).units initial).map;
      output = record {
        acts = k.acts;
        each = k.follow.each;
        in_turn = λ who. new_turns a k.acts new who (k.follow.in_turn who);
        last = new_last a (λ who. []) k.acts new k.last;
        none_waits = λ who. ap (λ (w : Option (List ℕ)). waiting_in who w k.acts) (sym (new_waiting a new who)) ∙ k.waits who;
        of_lines = λ who. sym (append-nil (answered_of who k.acts)) ∙ k.follow.of_lines who ∙ ap (λ (q : List (List ℕ)). q ++ lines_with who ls) (new_queued a new who) ∙ ap (lines_with who) (sym e);
        legal = (subst IsGood same (k.good new.good)).legal;
        written = refl;
        told = k.outcome ∙ ap (noted (answers_in k.acts)) new.outcome;
      };
      written =
          subst (λ (m : Machine). Appends p r (text_of (answers_in k.acts) ++ ending listed (after_units m.units initial).map)) same
          (subst (λ (out : List ℕ). Appends p r ((out ++ text_of (answers_in k.acts)) ++ ending listed (after_units (halted_after k.acts a).units initial).map)) new.out k.written);
    }

-- the whole text was written
pub wrote : (listed : Bool) (bytes begun : List ℕ) (a b c : Live) (p q r : Option (List ℕ)) → IsNew a → RanFront bytes begun a b p q → has_no_end begun ≡ true → RanEnd listed (nonempty_line begun) b c q r → Wrote a.script.core.machine listed bytes c.script.outcome p r
wrote listed bytes begun a b c p q r new h whole k =
    wrote_all listed bytes (h.lines ++ nonempty_line begun) a c p r new (all_lines bytes begun h.lines h.split whole) (RanEnd-then listed h.lines (nonempty_line begun) a b c p q r h.ran k)

begun_of : (listed : Bool) (bytes : List ℕ) (ls unread : List (List ℕ)) (a : Live) (p r : Option (List ℕ)) (k : BrokeEnd listed ls a p r) → IsNew a → lines_of bytes ≡ ls ++ unread → (k.behind ≡ []) ⊎ (unread ≡ []) → (none_over k.acts ≡ true) ⊎ (unread ≡ [])
    → IsBegun a.script.core.machine listed bytes p r
begun_of listed bytes ls unread a p r k new e whole none =
    let s = a.script.core.machine in
    let same : halted_after k.acts a ≡ left_at_end k.acts [] s = ap (λ (jobs : List ℕ). left_at_end k.acts jobs s) new.jobs in
    record {
      acts = k.acts;
      left = λ who. k.left who ++ lines_with who unread;
      behind = k.behind;
      each = k.follow.each;
      in_turn = λ who. new_turns a k.acts new who (k.follow.in_turn who);
      waits = λ who. next_more (waiting_in who None k.acts) (k.left who) (lines_with who unread) (next_is (waiting_in who None k.acts) (waiting_in who (waiting_at who a.desks) k.acts) (k.left who)
          (ap (λ (w : Option (List ℕ)). waiting_in who w k.acts) (sym (new_waiting a new who))) (k.waits who));
      last = new_last a (λ who. k.left who ++ lines_with who unread) k.acts new (last none);
      of_lines = λ who.
          sym (append_assoc (answered_of who k.acts) (k.left who) (lines_with who unread)) ∙ ap (λ (l : List (List ℕ)). l ++ lines_with who unread) (k.follow.of_lines who ∙ ap (λ (q : List (List ℕ)). q ++ lines_with who ls) (new_queued a new who))
          ∙ sym (lines-append who ls unread) ∙ ap (lines_with who) (sym e);
      front = at k.front whole;
      written = subst (λ (out : List ℕ). WritesBeginning p r ((out ++ text_of (answers_in k.acts)) ++ k.behind)) new.out k.begun;
    }
  where
    at : (k.behind ≡ []) ⊎ (((who : Option ℕ) → k.left who ≡ []) × (k.behind ≡ ending listed (after_units (halted_after k.acts a).units initial).map)) → (k.behind ≡ []) ⊎ (unread ≡ [])
        → (k.behind ≡ []) ⊎ (((who : Option ℕ) → k.left who ++ lines_with who unread ≡ []) × (k.behind ≡ ending listed (after_units (left_at_end k.acts [] a.script.core.machine).units initial).map))
    at (inl none) w = inl none
    at (inr some) (inl none) = inl none
    at (inr some) (inr none) = inr (
      (λ who. ap (λ (l : List (List ℕ)). l ++ lines_with who unread) (some.0 who) ∙ ap (lines_with who) none),
      some.1 ∙ ap (λ (jobs : List ℕ). ending listed (after_units (left_at_end k.acts jobs a.script.core.machine).units initial).map) new.jobs,
    )

    last : (none_over k.acts ≡ true) ⊎ (unread ≡ []) → AreLast (λ who. k.left who ++ lines_with who unread) a.script.jobs k.acts
    last (inl halts) = last-none (λ who. k.left who ++ lines_with who unread) a.script.jobs k.acts halts
    last (inr all) = last-same (λ who. k.left who ++ lines_with who unread) k.left a.script.jobs k.acts
        (λ job. ap (λ (l : List (List ℕ)). k.left (Some job) ++ lines_with (Some job) l) all ∙ append-nil (k.left (Some job))) k.last

-- a beginning of the replies was written
pub begun_front : (listed : Bool) (bytes : List ℕ) (a : Live) (p r : Option (List ℕ)) → IsNew a → BrokeFront bytes a p r → IsBegun a.script.core.machine listed bytes p r
begun_front listed bytes a p r new h =
    begun_of listed bytes h.lines (lines_of h.rest) a p r (broke_in_line listed h.lines a p r h.broke) new
    (ap lines_of (sym (append-nil bytes)) ∙ h.split [] ∙ ap (λ (t : List ℕ). h.lines ++ lines_of t) (append-nil h.rest)) (inl refl) (inl h.broke.halts)

-- or of the whole text
pub begun_end : (listed : Bool) (bytes begun : List ℕ) (a b : Live) (p q r : Option (List ℕ)) → IsNew a → RanFront bytes begun a b p q → has_no_end begun ≡ true → BrokeEnd listed (nonempty_line begun) b q r → IsBegun a.script.core.machine listed bytes p r
begun_end listed bytes begun a b p q r new h whole k =
    begun_of listed bytes (h.lines ++ nonempty_line begun) [] a p r (BrokeEnd-then listed h.lines (nonempty_line begun) a b p q r h.ran k) new
    (all_lines bytes begun h.lines h.split whole ∙ sym (append-nil (h.lines ++ nonempty_line begun))) (inr refl) (inr refl)

-- ---- what comes

-- an empty line is passed over
pub Ran-empty : (line : List ℕ) (a b : Live) (p : Option (List ℕ)) → length line < 1 → b.script.core.machine ≡ a.script.core.machine → b.script.out.items ≡ a.script.out.items → b.script.jobs ≡ a.script.jobs → b.script.outcome ≡ a.script.outcome → b.desks ≡ a.desks → Ran (nonempty_line line) a b p p
Ran-empty [] a b p lt machine out jobs outcome desks = Ran-none a b p machine out jobs outcome desks
Ran-empty (x ∷ xs) a b p lt machine out jobs outcome desks = absurd (omega (arith, lt))

-- nothing was taken
pub none_taken : (were are begun : List ℕ) (a b : Live) (p q : Option (List ℕ)) → has_no_end begun ≡ true → are ≡ were → Ran [] a b p q → HasTaken were are begun begun a b p q
none_taken were are begun a b p q whole e h = record {
  piece = [];
  taken = e ∙ sym (append-nil were);
  front = subst (λ (t : List ℕ). RanFront t begun a b p q) (sym (append-nil begun)) (RanFront-and-none begun begun a a b p p q (RanFront-none begun a p) h);
  whole = whole;
}

pub broke_taken : (were are begun : List ℕ) (a : Live) (p q : Option (List ℕ)) → are ≡ were → Broke [] a p q → HasBrokenOff were are begun a p q
broke_taken were are begun a p q e h = record {
  piece = [];
  taken = e ∙ sym (append-nil were);
  broke = subst (λ (t : List ℕ). BrokeFront t a p q) (sym (append-nil begun)) (BrokeFront-and-none begun begun a a p p q (RanFront-none begun a p) h);
}

-- all that was read, and what comes next
pub next_front : (were are begun next : List ℕ) (a b c : Live) (p q r : Option (List ℕ)) → RanFront were begun a b p q → HasTaken were are begun next b c q r → RanFront are next a c p r
next_front were are begun next a b c p q r h k = subst (λ (t : List ℕ). RanFront t next a c p r) (sym k.taken) (piece_ran were begun k.piece next a b c p q r h k.front)

pub next_broken : (were are begun : List ℕ) (a b : Live) (p q r : Option (List ℕ)) → RanFront were begun a b p q → HasBrokenOff were are begun b q r → BrokeFront are a p r
next_broken were are begun a b p q r h k = subst (λ (t : List ℕ). BrokeFront t a p r) (sym k.taken) (piece_broke were begun k.piece a b p q r h k.broke)

-- before the first piece
pub first_front : (were begun : List ℕ) (a : Live) (p : Option (List ℕ)) → were ≡ [] → begun ≡ [] → RanFront were begun a a p p
first_front were begun a p none empty = subst (λ (t : List ℕ). RanFront t begun a a p p) (sym none) (subst (λ (b : List ℕ). RanFront [] b a a p p) (sym empty) (RanFront-none [] a p))

-- the line that had begun, by its rest
pub front_ran : (text begun begun' piece front : List ℕ) (at end : ℕ) (a b c : Live) (p q r : Option (List ℕ)) → has_no_end begun ≡ true → IsFirstByte (is_byte 10) (take (length piece - at) (drop at piece)) (Some end)
    → front ≡ take end (take (length piece - at) (drop at piece)) → begun' ≡ [] → RanFront text (begun ++ drop at piece) a b p q → Ran (nonempty_line (strip_last 13 (begun ++ front))) b c q r → RanFront text (begun' ++ drop (at + (end + 1)) piece) a c p r
front_ran text begun begun' piece front at end a b c p q r none first is empty h k = next_ran text begun begun' piece (strip_last 13 (begun ++ front)) at end a b c p q r none first (ap (λ (f : List ℕ). strip_last 13 (begun ++ f)) is) empty h k

pub front_broke : (text begun piece front : List ℕ) (at end : ℕ) (a b : Live) (p q r : Option (List ℕ)) → has_no_end begun ≡ true → IsFirstByte (is_byte 10) (take (length piece - at) (drop at piece)) (Some end)
    → front ≡ take end (take (length piece - at) (drop at piece)) → RanFront text (begun ++ drop at piece) a b p q → Broke (nonempty_line (strip_last 13 (begun ++ front))) b q r → BrokeFront text a p r
front_broke text begun piece front at end a b p q r none first is h k = next_broke text begun piece (strip_last 13 (begun ++ front)) at end a b p q r none first (ap (λ (f : List ℕ). strip_last 13 (begun ++ f)) is) h k

-- a piece was taken after what was taken before
pub taken_in : (were mid are begun next piece : List ℕ) (a b : Live) (p q : Option (List ℕ)) → are ≡ mid ++ piece → mid ≡ were → RanFront (begun ++ piece) next a b p q → has_no_end next ≡ true → HasTaken were are begun next a b p q
taken_in were mid are begun next piece a b p q e same h whole = record { piece = piece; taken = e ∙ ap (λ (t : List ℕ). t ++ piece) same; front = h; whole = whole }

pub broken_in : (were mid are begun piece : List ℕ) (a : Live) (p q : Option (List ℕ)) → are ≡ mid ++ piece → mid ≡ were → BrokeFront (begun ++ piece) a p q → HasBrokenOff were are begun a p q
broken_in were mid are begun piece a p q e same h = record { piece = piece; taken = e ∙ ap (λ (t : List ℕ). t ++ piece) same; broke = h }

-- nothing came
pub none_came : (were mid are piece : List ℕ) (n : ℕ) → are ≡ mid ++ take n piece → n ≡ 0 → mid ≡ were → are ≡ were
none_came were mid are piece n e none same = e ∙ ap (λ (k : ℕ). mid ++ take k piece) none ∙ append-nil mid ∙ same
