-- Runs that stop where no act is under way: all replies are written, whole.
use Rattle.std.proofs.Common.{◌≡◌, ℕ, Bool, true, false, List, [], ◌++◌, Option, None, Result, Ok, Err, IsErrAnd, IsErrOf, refl, sym, ap, subst, ◌∙◌}
use Rattle.std.specs.Io.KnownBytes.{Appends}
use Rattle.listing.specs.Bytes.{WritesFront}
use Rattle.listing.specs.laws.Bytes.{Appends-nothing, Passes-Appends}
use Rattle.script_run.specs.Lines.{nonempty_line, lines_of, has_no_end}
use Rattle.script_run.specs.Output.{text_of}
use Rattle.live_server.specs.Live.{AreLast, answers_in, lines_with, waiting_in, HasAnswered, HasRead}
use Rattle.live_server.specs.Desks.{queued}
use Rattle.live_server.specs.Runs.{RanAt, RanFront, HasStood, HasSettled, IsNew}
use Rattle.live_server.specs.declared.live.Live.{Live}
use Rattle.live_server.specs.declared.fault.LiveFault.{LiveFault}
use Rattle.live_server.proofs.Acts.{last-none}
use Rattle.live_server.proofs.Steps.{Ran-settled}
use Rattle.live_server.proofs.Ends.{new_queued, new_waiting, new_turns, new_last, all_lines}

-- where nothing is gathered any more, all the replies were written
all_written : (p q : Option (List ℕ)) (text left : List ℕ) → WritesFront p q text left → left ≡ [] → Appends p q text
all_written p q text left h none = Passes-Appends p q q text [] (subst (WritesFront p q text) none h) (Appends-nothing q)

-- lines came to a run that was new
answered_at : (ended : Bool) (ls : List (List ℕ)) (a b : Live) (p q : Option (List ℕ)) → IsNew a → b.script.out.items ≡ [] → (h : RanAt ended ls a b p q) → AreLast (λ who. queued who b.desks) a.script.jobs h.acts
    → HasAnswered a.script.core.machine b.script.core.machine b.desks ls p q
answered_at ended ls a b p q new none h last = record {
  acts = h.acts;
  each = h.follow.each;
  in_turn = λ who. new_turns a h.acts new who (h.follow.in_turn who);
  waits = λ who. ap (λ (w : Option (List ℕ)). waiting_in who w h.acts) (sym (new_waiting a new who)) ∙ h.waits who;
  last = new_last a (λ who. queued who b.desks) h.acts new last;
  of_lines = λ who. h.follow.of_lines who ∙ ap (λ (q : List (List ℕ)). q ++ lines_with who ls) (new_queued a new who);
  machine = h.machine;
  written = subst (λ (out : List ℕ). Appends p q (out ++ text_of (answers_in h.acts))) new.out (all_written p q (a.script.out.items ++ text_of (answers_in h.acts)) b.script.out.items h.passes none);
}

front_read : (bytes begun : List ℕ) (a b : Live) (p q : Option (List ℕ)) → IsNew a → RanFront bytes begun a b p q → has_no_end begun ≡ true → b.script.out.items ≡ [] → HasRead a.script.core.machine b.script.core.machine b.desks bytes p q
front_read bytes begun a b p q new h whole none = record {
  lines = h.lines;
  begun = begun;
  split = h.split;
  whole = whole;
  answered = answered_at false h.lines a b p q new none h.ran (last-none (λ who. queued who b.desks) a.script.jobs h.ran.acts h.ran.halts);
}

-- a read failed after lines that came
pub stood_read : (were are begun next : List ℕ) (a b c : Live) (p q r : Option (List ℕ)) → IsNew a → RanFront were begun a b p q → has_no_end begun ≡ true → b.script.out.items ≡ [] → HasStood were are begun next b c q r
    → HasRead a.script.core.machine c.script.core.machine c.desks are p r
stood_read were are begun next a b c p q r new h whole none k =
    subst (λ (bytes : List ℕ). HasRead a.script.core.machine c.script.core.machine c.desks bytes p r) (sym k.taken)
    (subst (λ (text : Option (List ℕ)). HasRead a.script.core.machine c.script.core.machine c.desks were p text) (sym k.text)
    (subst (λ (l : Live). HasRead a.script.core.machine l.script.core.machine l.desks were p q) (sym k.live) (front_read were begun a b p q new h whole none)))

-- all lines came, and those that wait wait for ever
pub settled_answered : (bytes begun : List ℕ) (a b c : Live) (p q r : Option (List ℕ)) → IsNew a → RanFront bytes begun a b p q → has_no_end begun ≡ true → HasSettled (nonempty_line begun) b c q r
    → HasAnswered a.script.core.machine c.script.core.machine c.desks (lines_of bytes) p r
settled_answered bytes begun a b c p q r new h whole k =
    let settled = Ran-settled h.lines (nonempty_line begun) a b c p q r h.ran k.ran in
    subst (λ (ls : List (List ℕ)). HasAnswered a.script.core.machine c.script.core.machine c.desks ls p r) (sym (all_lines bytes begun h.lines h.split whole))
    (answered_at true (h.lines ++ nonempty_line begun) a c p r new k.empty settled settled.halts)

-- ---- a fault that is passed on

error_is : {T E : Type 0} (f m : E) → IsErrOf {T = T} (Err f) m → f ≡ m
error_is f m k = cc

is_error : {T E : Type 0} (f m : E) → f ≡ m → IsErrOf {T = T} (Err f) m
is_error f m h = cc

pub passed_on : {T U : Type 0} (r : Result T LiveFault) (e m : LiveFault) → IsErrAnd r (λ f. f ≡ e) → IsErrOf r m → IsErrOf {T = U} (Err e) m
passed_on (Ok x) e m h k = absurd h
passed_on {T = T} (Err f) e m h k = is_error e m (sym h ∙ error_is {T = T} f m k)
