-- Runs of one act, and one after the other.
use Rattle.std.proofs.Common.{◌≡◌, ℕ, Bool, true, false, eqb, cond, List, [], ◌∷◌, ◌++◌, map, drop, Option, None, Some, inl, inr, refl, sym, ap, subst, ◌∙◌, append_assoc}
use Rattle.std.specs.Prelude.{◌⊎◌}
use Rattle.std.proofs.lemmas.List.{append-nil}
use Rattle.command.specs.declared.request.Command.TheVariants.{Halt}
use Rattle.command.specs.declared.request.Reply.{Reply}
use Rattle.command.specs.declared.request.Reply.TheVariants.{Finished, Had, Refused}
use Rattle.journal.specs.Story.{Machine, told}
use Rattle.serial.specs.Machine.{IsReply}
use Rattle.serial.specs.Soundness.{IsGood}
use Rattle.serial.specs.laws.Runs.{good_reply}
use Rattle.listing.specs.Bytes.{WritesBeginning, WritesFront}
use Rattle.listing.specs.laws.Bytes.{Appends-nothing, WritesBeginning-all, WritesBeginning-longer, Passes-none, Passes-more, Passes-then, Passes-begun}
use Rattle.script.specs.Line.{reading_of, job_of_line}
use Rattle.script.specs.Text.{reply_text}
use Rattle.script_run.specs.OpenJobs.{is_open, open_after, without_job}
use Rattle.script_run.specs.Output.{Answer, IsAnswer, accepted_job, ends_session, text_of, noted}
use Rattle.refusal.specs.declared.Refusal.{Refusal}
use Rattle.serial.specs.Answers.{told_by}
use Rattle.script_run.specs.declared.outcome.Outcome.{Outcome}
use Rattle.script_run.specs.Replies.{IsAnswered, IsGathered, IsLost, IsLostAs}
use Rattle.script_run.specs.laws.Good.{answered-good}
use Rattle.script_run.specs.laws.Outcomes.{noted-none, noted-one, noted-then}
use Rattle.script_run.specs.declared.answers.Script.{Script}
use Rattle.job_scripts.specs.laws.Timed.{timed_where}
use Rattle.live_server.specs.Live.{Act, answered, kept_off, over, all_left_by, is_same, lines_with, answers_in, answered_of, waiting_in, AreInTurn, open_by, AreLast, IsNext}
use Rattle.live_server.specs.Desks.{DeskShown, desk_of, HasChangedAt, pushed, passed, tried, queued, first_of, first_tried, waiting_at}
use Rattle.live_server.specs.Runs.{Follow, HaveHalted, RanAt, BrokeAt, Ran, Broke, Settled, Unsettled, Lacked, IsIdle, IsFair, IsDone, IsKeptOff, IsKept, HasCome, HasTried, IsLostFairly}
use Rattle.live_server.specs.declared.live.Live.{Live}
use Rattle.live_server.proofs.Acts.{left-append, acts-append, answers-append, answered-append, lines-append, text-append, waiting-append, turns-append, open-append, none_over-append, last-behind, last-none, last-append, same_is}

-- nothing was written
pub nothing_begun : (a : Option (List ℕ)) (x : List ℕ) → WritesBeginning a a x
nothing_begun a x = WritesBeginning-longer a a [] x (WritesBeginning-all a a [] (Appends-nothing a))

-- ---- what waits is the first of what is left

pub next_waits : (who : Option ℕ) (desks : List DeskShown) → IsNext (waiting_at who desks) (queued who desks)
next_waits None desks = inl refl
next_waits (Some job) desks = at (desk_of desks job).was_tried (desk_of desks job).lines
  where
    at : (b : Bool) (lines : List (List ℕ)) → IsNext (cond b (first_of lines) None) lines
    at true lines = inr refl
    at false lines = inl refl

-- also where others are left behind it
pub next_more : (waiting : Option (List ℕ)) (lines more : List (List ℕ)) → IsNext waiting lines → IsNext waiting (lines ++ more)
next_more waiting lines more (inl none) = inl none
next_more waiting [] more (inr first) = inl first
next_more waiting (line ∷ lines) more (inr first) = inr first

pub next_is : (v w : Option (List ℕ)) (lines : List (List ℕ)) → v ≡ w → IsNext w lines → IsNext v lines
next_is v w lines e h = subst (λ (x : Option (List ℕ)). IsNext x lines) (sym e) h

-- ---- one after the other

pub Follow-then : (ls ms : List (List ℕ)) (xs ys : List Act) (s t : Machine) (old mid : List DeskShown) (left : Option ℕ → List (List ℕ)) → Follow ls xs s old (λ who. queued who mid) → ((who : Option ℕ) → waiting_in who (waiting_at who old) xs ≡ waiting_at who mid)
    → t ≡ all_left_by xs s → Follow ms ys t mid left → Follow (ls ++ ms) (xs ++ ys) s old left
Follow-then ls ms xs ys s t old mid left h waits machine k = record {
  each = acts-append s t xs ys h.each machine k.each;
  in_turn = λ who. turns-append who (waiting_at who old) xs ys (h.in_turn who) (subst (λ (w : Option (List ℕ)). AreInTurn who w ys) (sym (waits who)) (k.in_turn who));
  of_lines = λ who.
      let a = answered_of who xs in
      let b = answered_of who ys in
      ap (λ (l : List (List ℕ)). l ++ left who) (answered-append who xs ys) ∙ append_assoc a b (left who) ∙ ap (λ (l : List (List ℕ)). a ++ l) (k.of_lines who)
      ∙ sym (append_assoc a (queued who mid) (lines_with who ms)) ∙ ap (λ (l : List (List ℕ)). l ++ lines_with who ms) (h.of_lines who)
      ∙ append_assoc (queued who old) (lines_with who ls) (lines_with who ms) ∙ ap (λ (l : List (List ℕ)). queued who old ++ l) (sym (lines-append who ls ms));
}

ran_then : (first ended : Bool) (ls ms : List (List ℕ)) (a b c : Live) (p q r : Option (List ℕ)) (h : RanAt first ls a b p q) (k : RanAt ended ms b c q r) → HaveHalted ended (λ who. queued who c.desks) a.script.jobs (h.acts ++ k.acts) → RanAt ended (ls ++ ms) a c p r
ran_then first ended ls ms a b c p q r h k halts = record {
  acts = h.acts ++ k.acts;
  follow = Follow-then ls ms h.acts k.acts a.script.core.machine b.script.core.machine a.desks b.desks (λ who. queued who c.desks) h.follow h.waits h.machine k.follow;
  halts = halts;
  waits = λ who. waiting-append who (waiting_at who a.desks) h.acts k.acts ∙ ap (λ (w : Option (List ℕ)). waiting_in who w k.acts) (h.waits who) ∙ k.waits who;
  machine = k.machine ∙ ap (all_left_by k.acts) h.machine ∙ sym (left-append h.acts k.acts a.script.core.machine);
  jobs = k.jobs ∙ ap (open_by k.acts) h.jobs ∙ sym (open-append h.acts k.acts a.script.jobs);
  outcome = k.outcome ∙ ap (noted (answers_in k.acts)) h.outcome ∙ noted-then (answers_in h.acts) (answers_in k.acts) a.script.outcome ∙ ap (λ (answers : List Answer). noted answers a.script.outcome) (sym (answers-append h.acts k.acts));
  good = λ l. k.good (h.good l);
  passes = subst (λ (ts : List ℕ). WritesFront p r ts c.script.out.items) (text-append a.script.out.items h.acts k.acts)
      (Passes-then p q r ((a.script.out.items ++ text_of (answers_in h.acts)) ++ text_of (answers_in k.acts)) (b.script.out.items ++ text_of (answers_in k.acts)) c.script.out.items
      (Passes-more p q (a.script.out.items ++ text_of (answers_in h.acts)) b.script.out.items (text_of (answers_in k.acts)) h.passes) k.passes);
}

pub Ran-then : (ls ms : List (List ℕ)) (a b c : Live) (p q r : Option (List ℕ)) → Ran ls a b p q → Ran ms b c q r → Ran (ls ++ ms) a c p r
Ran-then ls ms a b c p q r h k = ran_then false false ls ms a b c p q r h k (none_over-append h.acts k.acts h.halts k.halts)

broke_then : (first ended : Bool) (ls ms : List (List ℕ)) (a b : Live) (p q r : Option (List ℕ)) (h : RanAt first ls a b p q) (k : BrokeAt ended ms b q r) → HaveHalted ended k.left a.script.jobs (h.acts ++ k.acts) → BrokeAt ended (ls ++ ms) a p r
broke_then first ended ls ms a b p q r h k halts = record {
  acts = h.acts ++ k.acts;
  left = k.left;
  follow = Follow-then ls ms h.acts k.acts a.script.core.machine b.script.core.machine a.desks b.desks k.left h.follow h.waits h.machine k.follow;
  halts = halts;
  waits = λ who. next_is (waiting_in who (waiting_at who a.desks) (h.acts ++ k.acts)) (waiting_in who (waiting_at who b.desks) k.acts) (k.left who)
      (waiting-append who (waiting_at who a.desks) h.acts k.acts ∙ ap (λ (w : Option (List ℕ)). waiting_in who w k.acts) (h.waits who)) (k.waits who);
  begun = subst (WritesBeginning p r) (text-append a.script.out.items h.acts k.acts)
      (Passes-begun p q r ((a.script.out.items ++ text_of (answers_in h.acts)) ++ text_of (answers_in k.acts)) (b.script.out.items ++ text_of (answers_in k.acts))
      (Passes-more p q (a.script.out.items ++ text_of (answers_in h.acts)) b.script.out.items (text_of (answers_in k.acts)) h.passes) k.begun);
}

-- lines came, and the run broke off in the next
pub Broke-then : (ls ms : List (List ℕ)) (a b : Live) (p q r : Option (List ℕ)) → Ran ls a b p q → Broke ms b q r → Broke (ls ++ ms) a p r
Broke-then ls ms a b p q r h k = broke_then false false ls ms a b p q r h k (none_over-append h.acts k.acts h.halts k.halts)

-- lines came, and then the run broke off
pub Broke-after : (ls : List (List ℕ)) (a b : Live) (p q r : Option (List ℕ)) → Ran ls a b p q → WritesBeginning q r b.script.out.items → Broke ls a p r
Broke-after ls a b p q r h w = record {
  acts = h.acts;
  left = λ who. queued who b.desks;
  follow = h.follow;
  halts = h.halts;
  waits = λ who. next_is (waiting_in who (waiting_at who a.desks) h.acts) (waiting_at who b.desks) (queued who b.desks) (h.waits who) (next_waits who b.desks);
  begun = Passes-begun p q r (a.script.out.items ++ text_of (answers_in h.acts)) b.script.out.items h.passes w;
}

-- the run broke off before these lines, and what was gathered was written, or a beginning of it
pub Broke-at : (ls : List (List ℕ)) (a : Live) (p q : Option (List ℕ)) → WritesBeginning p q a.script.out.items → Broke ls a p q
Broke-at ls a p q w = record {
  acts = [];
  left = λ who. queued who a.desks ++ lines_with who ls;
  follow = record { each = tt; in_turn = λ who. tt; of_lines = λ who. refl };
  halts = refl;
  waits = λ who. next_more (waiting_at who a.desks) (queued who a.desks) (lines_with who ls) (next_waits who a.desks);
  begun = WritesBeginning-longer p q a.script.out.items (text_of []) w;
}

pub Broke-before : (ls : List (List ℕ)) (a : Live) (p : Option (List ℕ)) → Broke ls a p p
Broke-before ls a p = Broke-at ls a p p (nothing_begun p a.script.out.items)

-- it broke off in them for want of memory, and so
pub Broke-written : (ls : List (List ℕ)) (a b : Live) (p q : Option (List ℕ)) → Lacked ls a b → WritesBeginning p q b.script.out.items → Broke ls a p q
Broke-written ls a b p q h w = let k = h.broke p in record {
  acts = k.acts;
  left = k.left;
  follow = k.follow;
  halts = k.halts;
  waits = k.waits;
  begun = WritesBeginning-longer p q a.script.out.items (text_of (answers_in k.acts)) (subst (WritesBeginning p q) h.out w);
}

pub Lacked-before : (ls : List (List ℕ)) (a b : Live) → b.script.out.items ≡ a.script.out.items → Lacked ls a b
Lacked-before ls a b out = record { broke = λ p. Broke-before ls a p; out = out }

-- no line more
pub Ran-and-none : (ls : List (List ℕ)) (a b c : Live) (p q r : Option (List ℕ)) → Ran ls a b p q → Ran [] b c q r → Ran ls a c p r
Ran-and-none ls a b c p q r h k = subst (λ (l : List (List ℕ)). Ran l a c p r) (append-nil ls) (Ran-then ls [] a b c p q r h k)

pub Broke-and-none : (ls : List (List ℕ)) (a b : Live) (p q r : Option (List ℕ)) → Ran ls a b p q → Broke [] b q r → Broke ls a p r
Broke-and-none ls a b p q r h k = subst (λ (l : List (List ℕ)). Broke l a p r) (append-nil ls) (Broke-then ls [] a b p q r h k)

-- ---- after all lines

-- no job was halted yet
pub Ran-so-far : (ls : List (List ℕ)) (a b : Live) (p q : Option (List ℕ)) → Ran ls a b p q → RanAt true ls a b p q
Ran-so-far ls a b p q h = record {
  acts = h.acts;
  follow = h.follow;
  halts = last-none (λ who. queued who b.desks) a.script.jobs h.acts h.halts;
  waits = h.waits;
  machine = h.machine;
  jobs = h.jobs;
  outcome = h.outcome;
  good = h.good;
  passes = h.passes;
}

abbrev pub Broke-so-far : (ls : List (List ℕ)) (a : Live) (p q : Option (List ℕ)) → Broke ls a p q → BrokeAt true ls a p q
Broke-so-far ls a p q h = record { acts = h.acts; left = h.left; follow = h.follow; halts = last-none h.left a.script.jobs h.acts h.halts; waits = h.waits; begun = h.begun }

-- what is answered was left before
follow_left : (acts : List Act) (s : Machine) (old : List DeskShown) (left : Option ℕ → List (List ℕ)) → Follow [] acts s old left → (job : ℕ) → answered_of (Some job) acts ++ left (Some job) ≡ queued (Some job) old
follow_left acts s old left h job = h.of_lines (Some job) ∙ append-nil (queued (Some job) old)

last_then : (left : Option ℕ → List (List ℕ)) (ls : List (List ℕ)) (a b : Live) (p q : Option (List ℕ)) (h : RanAt true ls a b p q) (acts : List Act) → Follow [] acts b.script.core.machine b.desks left → AreLast left b.script.jobs acts → AreLast left a.script.jobs (h.acts ++ acts)
last_then left ls a b p q h acts follow last =
    last-append left (λ who. queued who b.desks) a.script.jobs h.acts acts (follow_left acts b.script.core.machine b.desks left follow) h.halts (subst (λ (jobs : List ℕ). AreLast left jobs acts) h.jobs last)

-- lines came, and more at the end of input
pub Ran-settled : (ls ms : List (List ℕ)) (a b c : Live) (p q r : Option (List ℕ)) → Ran ls a b p q → RanAt true ms b c q r → RanAt true (ls ++ ms) a c p r
Ran-settled ls ms a b c p q r h k =
    ran_then false true ls ms a b c p q r h k (last-behind (λ who. queued who c.desks) a.script.jobs h.acts k.acts h.halts (subst (λ (jobs : List ℕ). AreLast (λ who. queued who c.desks) jobs k.acts) h.jobs k.halts))

pub Settled-then : (ls : List (List ℕ)) (a b c : Live) (p q r : Option (List ℕ)) → RanAt true ls a b p q → Settled b c q r → RanAt true ls a c p r
Settled-then ls a b c p q r h k =
    subst (λ (l : List (List ℕ)). RanAt true l a c p r) (append-nil ls) (ran_then true true ls [] a b c p q r h k (last_then (λ who. queued who c.desks) ls a b p q h k.acts k.follow k.halts))

pub Unsettled-then : (ls : List (List ℕ)) (a b : Live) (p q r : Option (List ℕ)) → RanAt true ls a b p q → Unsettled b q r → BrokeAt true ls a p r
Unsettled-then ls a b p q r h k = subst (λ (l : List (List ℕ)). BrokeAt true l a p r) (append-nil ls) (broke_then true true ls [] a b p q r h k (last_then k.left ls a b p q h k.acts k.follow k.halts))

-- ---- no act

-- nothing came, and of what was gathered a front was written
pub Ran-passed-on : (a b : Live) (p q : Option (List ℕ)) → b.script.core.machine ≡ a.script.core.machine → b.script.jobs ≡ a.script.jobs → b.script.outcome ≡ a.script.outcome → b.desks ≡ a.desks → WritesFront p q a.script.out.items b.script.out.items → Ran [] a b p q
Ran-passed-on a b p q machine jobs outcome desks w = record {
  acts = [];
  follow = record { each = tt; in_turn = λ who. tt; of_lines = λ who. ap (queued who) desks ∙ sym (append-nil (queued who a.desks)) };
  halts = refl;
  waits = λ who. ap (waiting_at who) (sym desks);
  machine = machine;
  jobs = jobs;
  outcome = outcome ∙ sym (noted-none a.script.outcome);
  good = λ h. subst IsGood (sym machine) h;
  passes = subst (λ (ts : List ℕ). WritesFront p q ts b.script.out.items) (sym (append-nil a.script.out.items)) w;
}

pub Ran-none : (a b : Live) (p : Option (List ℕ)) → b.script.core.machine ≡ a.script.core.machine → b.script.out.items ≡ a.script.out.items → b.script.jobs ≡ a.script.jobs → b.script.outcome ≡ a.script.outcome → b.desks ≡ a.desks → Ran [] a b p p
Ran-none a b p machine out jobs outcome desks = Ran-passed-on a b p p machine jobs outcome desks (subst (λ (ts : List ℕ). WritesFront p p ts b.script.out.items) out (Passes-none p b.script.out.items))

-- what is seen was the same before
pub Ran-from : (ls : List (List ℕ)) (a a' b : Live) (p q : Option (List ℕ)) → a'.script.core.machine ≡ a.script.core.machine → a'.script.out.items ≡ a.script.out.items → a'.script.jobs ≡ a.script.jobs → a'.script.outcome ≡ a.script.outcome → a'.desks ≡ a.desks → Ran ls a' b p q → Ran ls a b p q
Ran-from ls a a' b p q machine out jobs outcome desks h = Ran-then [] ls a a' b p p q (Ran-none a a' p machine out jobs outcome desks) h

pub Broke-from : (ls : List (List ℕ)) (a a' : Live) (p q : Option (List ℕ)) → a'.script.core.machine ≡ a.script.core.machine → a'.script.out.items ≡ a.script.out.items → a'.script.jobs ≡ a.script.jobs → a'.script.outcome ≡ a.script.outcome → a'.desks ≡ a.desks → Broke ls a' p q → Broke ls a p q
Broke-from ls a a' p q machine out jobs outcome desks h = Broke-then [] ls a a' p p q (Ran-none a a' p machine out jobs outcome desks) h

pub Lacked-from : (ls : List (List ℕ)) (a a' b : Live) → a'.script.core.machine ≡ a.script.core.machine → a'.script.out.items ≡ a.script.out.items → a'.script.jobs ≡ a.script.jobs → a'.script.outcome ≡ a.script.outcome → a'.desks ≡ a.desks → Lacked ls a' b → Lacked ls a b
Lacked-from ls a a' b machine out jobs outcome desks h = record { broke = λ p. Broke-from ls a a' p p machine out jobs outcome desks (h.broke p); out = h.out ∙ out }

-- lines came, and memory was wanting then
pub Lacked-and-none : (ls : List (List ℕ)) (a b c : Live) → ((p : Option (List ℕ)) → Ran ls a b p p) → b.script.out.items ≡ a.script.out.items → Lacked [] b c → Lacked ls a c
Lacked-and-none ls a b c h out k = record { broke = λ p. Broke-and-none ls a b p p p (h p) (k.broke p); out = k.out ∙ out }

-- ---- one line

one-text : (line : List ℕ) (reply : Reply) (out text : List ℕ) → text ≡ out ++ reply_text (job_of_line line) reply → text ≡ out ++ text_of ((line, reply) ∷ [])
one-text line reply out text t = t ∙ ap (λ (ts : List ℕ). out ++ ts) (sym (append-nil _))

-- no line of its job waits
pub idle_queue : (who job : Option ℕ) (desks : List DeskShown) → IsIdle job desks → is_same who job ≡ true → queued who desks ≡ []
idle_queue None None desks idle same = refl
idle_queue None (Some job) desks idle same = absurd cc
idle_queue (Some who) None desks idle same = absurd cc
idle_queue (Some who) (Some job) desks idle same = let e = same_is (Some who) (Some job) same in subst (λ (o : Option ℕ). queued o desks ≡ []) (sym e) idle

untried : (b : Bool) (lines : List (List ℕ)) → lines ≡ [] → ◌≡◌ {A = Option (List ℕ)} (cond b (first_of lines) None) None
untried true lines none = ap first_of none
untried false lines none = refl

pub idle_wait : (who job : Option ℕ) (desks : List DeskShown) → IsIdle job desks → is_same who job ≡ true → waiting_at who desks ≡ None
idle_wait None job desks idle same = refl
idle_wait (Some who) None desks idle same = absurd cc
idle_wait (Some who) (Some job) desks idle same = untried (desk_of desks who).was_tried (desk_of desks who).lines (idle_queue (Some who) (Some job) desks idle same)

idle_lines : (line : List ℕ) (reply : Reply) (b : Bool) (q : List (List ℕ)) → (b ≡ true → q ≡ []) → map (λ (a : Answer). a.0) (cond b ((line, reply) ∷ []) []) ++ q ≡ q ++ cond b (line ∷ []) []
idle_lines line reply true q h = subst (λ (l : List (List ℕ)). (line ∷ []) ++ l ≡ l ++ line ∷ []) (sym (h refl)) refl
idle_lines line reply false q h = sym (append-nil q)

idle_waits : (b : Bool) (w : Option (List ℕ)) → (b ≡ true → w ≡ None) → cond b None w ≡ w
idle_waits true w h = sym (h refl)
idle_waits false w h = refl

idle_follow : (line : List ℕ) (reply : Reply) (s : Machine) (desks : List DeskShown) → IsFair line reply → IsAnswer s line reply → IsIdle (job_of_line line) desks → Follow (line ∷ []) (answered line reply ∷ []) s desks (λ who. queued who desks)
idle_follow line reply s desks fair is idle = record {
  each = ((is, λ blocked. timed_where line ∙ fair blocked), tt);
  in_turn = λ who. ((λ same. inl (idle_wait who (job_of_line line) desks idle same)), tt);
  of_lines = λ who. idle_lines line reply (is_same who (job_of_line line)) (queued who desks) (λ same. idle_queue who (job_of_line line) desks idle same);
}

-- a line of a job of which none waits was answered
pub Ran-answered : (line : List ℕ) (a b : Live) (p : Option (List ℕ)) → IsDone line a.script.core.machine a.script.out.items a.script.outcome a.script.jobs b.script → b.desks ≡ a.desks → IsIdle (job_of_line line) a.desks → Ran (line ∷ []) a b p p
Ran-answered line a b p d desks idle = record {
  acts = answered line d.reply ∷ [];
  follow = subst (λ (ds : List DeskShown). Follow (line ∷ []) (answered line d.reply ∷ []) a.script.core.machine a.desks (λ who. queued who ds)) (sym desks) (idle_follow line d.reply a.script.core.machine a.desks d.fair d.gathered.answer idle);
  halts = refl;
  waits = λ who. idle_waits (is_same who (job_of_line line)) (waiting_at who a.desks) (λ same. idle_wait who (job_of_line line) a.desks idle same) ∙ ap (waiting_at who) (sym desks);
  machine = d.gathered.machine;
  jobs = d.gathered.jobs;
  outcome = d.gathered.outcome ∙ noted-one (line, d.reply) a.script.outcome;
  good = answered-good a.script.core.machine b.script.core.machine line d.reply d.gathered.answer d.gathered.machine;
  passes = subst (λ (ts : List ℕ). WritesFront p p ts b.script.out.items) (one-text line d.reply a.script.out.items b.script.out.items d.gathered.text) (Passes-none p b.script.out.items);
}

-- its reply found no memory
Broke-answered : (line : List ℕ) (a b : Live) (p : Option (List ℕ)) → IsLostFairly line a.script.core.machine a.script.out.items b.script → IsIdle (job_of_line line) a.desks → Broke (line ∷ []) a p p
Broke-answered line a b p l idle = record {
  acts = answered line l.reply ∷ [];
  left = λ who. queued who a.desks;
  follow = idle_follow line l.reply a.script.core.machine a.desks l.fair l.answer idle;
  halts = refl;
  waits = λ who. next_is (cond (is_same who (job_of_line line)) None (waiting_at who a.desks)) (waiting_at who a.desks) (queued who a.desks)
      (idle_waits (is_same who (job_of_line line)) (waiting_at who a.desks) (λ same. idle_wait who (job_of_line line) a.desks idle same)) (next_waits who a.desks);
  begun = nothing_begun p (a.script.out.items ++ text_of ((line, l.reply) ∷ []));
}

pub Lacked-answered : (line : List ℕ) (a b : Live) → IsLostFairly line a.script.core.machine a.script.out.items b.script → IsIdle (job_of_line line) a.desks → Lacked (line ∷ []) a b
Lacked-answered line a b l idle = record { broke = λ p. Broke-answered line a b p l idle; out = l.text }

-- ---- a job's first line

-- a list that begins so
pub first_rest : (lines : List (List ℕ)) (line : List ℕ) → first_of lines ≡ Some line → lines ≡ line ∷ drop 1 lines
first_rest [] line e = absurd cc
first_rest (l ∷ lines) line e = ap (λ (x : List ℕ). x ∷ lines) (ap (or_else l) e)
  where
    or_else : List ℕ → Option (List ℕ) → List ℕ
    or_else x None = x
    or_else x (Some y) = y

-- what is left where a job's first line was answered
abbrev pub left_after : ℕ → List DeskShown → Option ℕ → List (List ℕ)
left_after job desks None = []
left_after job desks (Some other) = cond (eqb other job) (drop 1 (desk_of desks other).lines) (desk_of desks other).lines

passed_lines : (job : ℕ) (old new : List DeskShown) → HasChangedAt job passed old new → (who : Option ℕ) → queued who new ≡ left_after job old who
passed_lines job old new change None = refl
passed_lines job old new change (Some other) = ap (λ (d : DeskShown). d.lines) (change other) ∙ at (eqb other job) (desk_of old other)
  where
    at : (b : Bool) (d : DeskShown) → (λ (x : DeskShown). x.lines) (cond b (passed d) d) ≡ cond b (drop 1 d.lines) d.lines
    at true d = refl
    at false d = refl

first_lines : (line : List ℕ) (reply : Reply) (job : ℕ) (old : List DeskShown) → first_of (desk_of old job).lines ≡ Some line → (who : Option ℕ)
    → map (λ (a : Answer). a.0) (cond (is_same who (Some job)) ((line, reply) ∷ []) []) ++ left_after job old who ≡ queued who old ++ []
first_lines line reply job old first None = refl
first_lines line reply job old first (Some other) = at (eqb other job) refl
  where
    at : (b : Bool) → eqb other job ≡ b → map (λ (a : Answer). a.0) (cond b ((line, reply) ∷ []) []) ++ cond b (drop 1 (desk_of old other).lines) (desk_of old other).lines ≡ (desk_of old other).lines ++ []
    at true e =
        let same = same_is (Some other) (Some job) e in
        let mine : first_of (queued (Some other) old) ≡ Some line = subst (λ (o : Option ℕ). first_of (queued o old) ≡ Some line) (sym same) first in
        sym (first_rest (desk_of old other).lines line mine) ∙ sym (append-nil (desk_of old other).lines)
    at false e = sym (append-nil (desk_of old other).lines)

-- it waits, or wasn't tried
first_wait : (b : Bool) (lines : List (List ℕ)) (line : List ℕ) → first_of lines ≡ Some line → (◌≡◌ {A = Option (List ℕ)} (cond b (first_of lines) None) None) ⊎ (cond b (first_of lines) None ≡ Some line)
first_wait true lines line e = inr e
first_wait false lines line e = inl refl

first_turn : (line : List ℕ) (job : ℕ) (old : List DeskShown) → first_of (desk_of old job).lines ≡ Some line → (who : Option ℕ) → is_same who (Some job) ≡ true → (waiting_at who old ≡ None) ⊎ (waiting_at who old ≡ Some line)
first_turn line job old first None same = absurd cc
first_turn line job old first (Some other) same =
    let e = same_is (Some other) (Some job) same in
    first_wait (desk_of old other).was_tried (desk_of old other).lines line (subst (λ (o : Option ℕ). first_of (queued o old) ≡ Some line) (sym e) first)

first_follow : (line : List ℕ) (reply : Reply) (s : Machine) (job : ℕ) (old : List DeskShown) → IsFair line reply → IsAnswer s line reply → job_of_line line ≡ Some job → first_of (desk_of old job).lines ≡ Some line → Follow [] (answered line reply ∷ []) s old (left_after job old)
first_follow line reply s job old fair is owner first = record {
  each = ((is, λ blocked. timed_where line ∙ fair blocked), tt);
  in_turn = λ who. ((λ same. first_turn line job old first who (subst (λ (o : Option ℕ). is_same who o ≡ true) owner same)), tt);
  of_lines = λ who. subst (λ (o : Option ℕ). map (λ (a : Answer). a.0) (cond (is_same who o) ((line, reply) ∷ []) []) ++ left_after job old who ≡ queued who old ++ []) (sym owner) (first_lines line reply job old first who);
}

passed_waits : (job : ℕ) (old new : List DeskShown) → HasChangedAt job passed old new → (who : Option ℕ) → cond (is_same who (Some job)) None (waiting_at who old) ≡ waiting_at who new
passed_waits job old new change None = refl
passed_waits job old new change (Some other) = at (eqb other job) (desk_of old other) ∙ ap first_tried (sym (change other))
  where
    at : (b : Bool) (d : DeskShown) → cond b None (first_tried d) ≡ first_tried (cond b (passed d) d)
    at true d = refl
    at false d = refl

-- a job's first line was answered
pub Ran-first : (line : List ℕ) (job : ℕ) (a b : Live) (p : Option (List ℕ)) → IsDone line a.script.core.machine a.script.out.items a.script.outcome a.script.jobs b.script → HasChangedAt job passed a.desks b.desks → job_of_line line ≡ Some job → first_of (desk_of a.desks job).lines ≡ Some line → Ran [] a b p p
Ran-first line job a b p d change owner first = record {
  acts = answered line d.reply ∷ [];
  follow = record {
    each = ((d.gathered.answer, λ blocked. timed_where line ∙ d.fair blocked), tt);
    in_turn = λ who. (first_follow line d.reply a.script.core.machine job a.desks d.fair d.gathered.answer owner first).in_turn who;
    of_lines = λ who. ap (λ (l : List (List ℕ)). answered_of who (answered line d.reply ∷ []) ++ l) (passed_lines job a.desks b.desks change who) ∙ (first_follow line d.reply a.script.core.machine job a.desks d.fair d.gathered.answer owner first).of_lines who;
  };
  halts = refl;
  waits = λ who. ap (λ (o : Option ℕ). cond (is_same who o) None (waiting_at who a.desks)) owner ∙ passed_waits job a.desks b.desks change who;
  machine = d.gathered.machine;
  jobs = d.gathered.jobs;
  outcome = d.gathered.outcome ∙ noted-one (line, d.reply) a.script.outcome;
  good = answered-good a.script.core.machine b.script.core.machine line d.reply d.gathered.answer d.gathered.machine;
  passes = subst (λ (ts : List ℕ). WritesFront p p ts b.script.out.items) (one-text line d.reply a.script.out.items b.script.out.items d.gathered.text) (Passes-none p b.script.out.items);
}

first_next : (job : ℕ) (desks : List DeskShown) (who : Option ℕ) → IsNext (cond (is_same who (Some job)) None (waiting_at who desks)) (left_after job desks who)
first_next job desks None = inl refl
first_next job desks (Some other) = at (eqb other job)
  where
    at : (b : Bool) → IsNext (cond b None (waiting_at (Some other) desks)) (cond b (drop 1 (desk_of desks other).lines) (desk_of desks other).lines)
    at true = inl refl
    at false = next_waits (Some other) desks

Broke-first : (line : List ℕ) (job : ℕ) (a b : Live) (p : Option (List ℕ)) → IsLostFairly line a.script.core.machine a.script.out.items b.script → job_of_line line ≡ Some job → first_of (desk_of a.desks job).lines ≡ Some line → Broke [] a p p
Broke-first line job a b p l owner first = record {
  acts = answered line l.reply ∷ [];
  left = left_after job a.desks;
  follow = first_follow line l.reply a.script.core.machine job a.desks l.fair l.answer owner first;
  halts = refl;
  waits = λ who. next_is (cond (is_same who (job_of_line line)) None (waiting_at who a.desks)) (cond (is_same who (Some job)) None (waiting_at who a.desks)) (left_after job a.desks who)
      (ap (λ (o : Option ℕ). cond (is_same who o) None (waiting_at who a.desks)) owner) (first_next job a.desks who);
  begun = nothing_begun p (a.script.out.items ++ text_of ((line, l.reply) ∷ []));
}

pub Lacked-first : (line : List ℕ) (job : ℕ) (a b : Live) → IsLostFairly line a.script.core.machine a.script.out.items b.script → job_of_line line ≡ Some job → first_of (desk_of a.desks job).lines ≡ Some line → Lacked [] a b
Lacked-first line job a b l owner first = record { broke = λ p. Broke-first line job a b p l owner first; out = l.text }

-- ---- what came of a line

pub refused_fair : (line : List ℕ) (refusal : Refusal) → IsFair line (Refused refusal)
refused_fair line refusal e = absurd cc

pub idle_of : (job : Option ℕ) (line : List ℕ) (desks : List DeskShown) → job ≡ job_of_line line → IsIdle job desks → IsIdle (job_of_line line) desks
idle_of job line desks e idle = subst (λ (o : Option ℕ). IsIdle o desks) e idle

-- a line's reply was gathered
pub done_of : (line : List ℕ) (start : Machine) (out : List ℕ) (before : Outcome) (were : List ℕ) (new : Script) (g : IsGathered line start out before were new) → IsFair line g.reply → IsDone line start out before were new
done_of line start out before were new g fair = record {
  reply = g.reply;
  fair = fair;
  gathered = record { answer = g.answer; machine = g.machine; text = g.text; outcome = g.outcome; jobs = g.jobs };
}

pub came_done : (b : Bool) (line : List ℕ) (start : Machine) (out : List ℕ) (before : Outcome) (were : List ℕ) (new : Script) → b ≡ true → HasCome b line start out before were new → IsDone line start out before were new
came_done b line start out before were new e h = subst (λ (x : Bool). HasCome x line start out before were new) e h

pub came_off : (b : Bool) (line : List ℕ) (start : Machine) (out : List ℕ) (before : Outcome) (were : List ℕ) (new : Script) → b ≡ false → HasCome b line start out before were new → IsKeptOff line start out before were new
came_off b line start out before were new e h = subst (λ (x : Bool). HasCome x line start out before were new) e h

pub tried_done : (b : Bool) (line : List ℕ) (start : Machine) (out : List ℕ) (before : Outcome) (were : List ℕ) (new : Script) → b ≡ true → HasTried b line start out before were new → IsDone line start out before were new
tried_done b line start out before were new e h = subst (λ (x : Bool). HasTried x line start out before were new) e h

pub tried_kept : (b : Bool) (line : List ℕ) (start : Machine) (out : List ℕ) (before : Outcome) (were : List ℕ) (new : Script) → b ≡ false → HasTried b line start out before were new → IsKept start out before were new
tried_kept b line start out before were new e h = subst (λ (x : Bool). HasTried x line start out before were new) e h

-- a LOCK that was tried in vain
pub kept_off_of : (line : List ℕ) (start now : Machine) (out : List ℕ) (before : Outcome) (were : List ℕ) (new : Script) (accepted : Option ℕ) (ended : Bool) (reply : Reply) → IsAnswered line start now accepted ended reply → reply ≡ Had false → new.core.machine ≡ now → new.out.items ≡ out → new.outcome ≡ before
    → new.jobs ≡ open_after accepted ended were → IsKeptOff line start out before were new
kept_off_of line start now out before were new accepted ended reply said kept machine text outcome jobs = record {
  answer = subst (λ (r : Reply). IsAnswer start line r) kept said.answer;
  machine = machine ∙ said.machine ∙ ap (λ (r : Reply). told_by (reading_of line) r start) kept;
  text = text;
  outcome = outcome;
  jobs =
      jobs ∙ ap (λ (j : Option ℕ). open_after j ended were) said.joins ∙ ap (λ (e : Bool). open_after (accepted_job (reading_of line) reply) e were) said.session
      ∙ ap (λ (r : Reply). open_after (accepted_job (reading_of line) r) (ends_session line r) were) kept;
}

-- ---- a job's first line is kept off

same_lines : (job : ℕ) (old new : List DeskShown) → HasChangedAt job tried old new → (who : Option ℕ) → queued who new ≡ queued who old
same_lines job old new change None = refl
same_lines job old new change (Some other) = ap (λ (d : DeskShown). d.lines) (change other) ∙ at (eqb other job) (desk_of old other)
  where
    at : (b : Bool) (d : DeskShown) → (λ (x : DeskShown). x.lines) (cond b (tried d) d) ≡ d.lines
    at true d = refl
    at false d = refl

tried_waits : (line : List ℕ) (job : ℕ) (old new : List DeskShown) → HasChangedAt job tried old new → first_of (desk_of old job).lines ≡ Some line → (who : Option ℕ) → cond (is_same who (Some job)) (Some line) (waiting_at who old) ≡ waiting_at who new
tried_waits line job old new change first None = refl
tried_waits line job old new change first (Some other) = at (eqb other job) refl ∙ ap first_tried (sym (change other))
  where
    at : (b : Bool) → eqb other job ≡ b → cond b (Some line) (first_tried (desk_of old other)) ≡ first_tried (cond b (tried (desk_of old other)) (desk_of old other))
    at true e = let same = same_is (Some other) (Some job) e in sym (subst (λ (o : Option ℕ). first_of (queued o old) ≡ Some line) (sym same) first)
    at false e = refl

not_waiting : (job : ℕ) (old : List DeskShown) → (desk_of old job).was_tried ≡ false → (who : Option ℕ) → is_same who (Some job) ≡ true → waiting_at who old ≡ None
not_waiting job old fresh None same = absurd cc
not_waiting job old fresh (Some other) same =
    let e = same_is (Some other) (Some job) same in
    subst (λ (o : Option ℕ). waiting_at o old ≡ None) (sym e) (ap (λ (b : Bool). cond b (first_of (desk_of old job).lines) None) fresh)

pub Ran-kept-off : (line : List ℕ) (job : ℕ) (a b : Live) (p : Option (List ℕ)) → IsKeptOff line a.script.core.machine a.script.out.items a.script.outcome a.script.jobs b.script → HasChangedAt job tried a.desks b.desks → job_of_line line ≡ Some job → first_of (desk_of a.desks job).lines ≡ Some line → (desk_of a.desks job).was_tried ≡ false → Ran [] a b p p
Ran-kept-off line job a b p k change owner first fresh = record {
  acts = kept_off line ∷ [];
  follow = record {
    each = (k.answer, tt);
    in_turn = λ who. ((λ same. not_waiting job a.desks fresh who (subst (λ (o : Option ℕ). is_same who o ≡ true) owner same)), tt);
    of_lines = λ who. same_lines job a.desks b.desks change who ∙ sym (append-nil (queued who a.desks));
  };
  halts = refl;
  waits = λ who. ap (λ (o : Option ℕ). cond (is_same who o) (Some line) (waiting_at who a.desks)) owner ∙ tried_waits line job a.desks b.desks change first who;
  machine = k.machine;
  jobs = k.jobs;
  outcome = k.outcome ∙ sym (noted-none a.script.outcome);
  good = answered-good a.script.core.machine b.script.core.machine line (Had false) k.answer k.machine;
  passes = subst (λ (ts : List ℕ). WritesFront p p ts b.script.out.items) (k.text ∙ sym (append-nil a.script.out.items)) (Passes-none p b.script.out.items);
}

off_next : (line : List ℕ) (job : ℕ) (desks : List DeskShown) → first_of (desk_of desks job).lines ≡ Some line → (who : Option ℕ) → IsNext (cond (is_same who (Some job)) (Some line) (waiting_at who desks)) (queued who desks)
off_next line job desks first None = inl refl
off_next line job desks first (Some other) = at (eqb other job) refl
  where
    at : (b : Bool) → eqb other job ≡ b → IsNext (cond b (Some line) (waiting_at (Some other) desks)) (queued (Some other) desks)
    at true e = let same = same_is (Some other) (Some job) e in inr (sym (subst (λ (o : Option ℕ). first_of (queued o desks) ≡ Some line) (sym same) first))
    at false e = next_waits (Some other) desks

-- and there was no memory to wait
Broke-kept-off : (line : List ℕ) (job : ℕ) (a b : Live) (p : Option (List ℕ)) → IsKeptOff line a.script.core.machine a.script.out.items a.script.outcome a.script.jobs b.script → job_of_line line ≡ Some job → first_of (desk_of a.desks job).lines ≡ Some line → (desk_of a.desks job).was_tried ≡ false → Broke [] a p p
Broke-kept-off line job a b p k owner first fresh = record {
  acts = kept_off line ∷ [];
  left = λ who. queued who a.desks;
  follow = record {
    each = (k.answer, tt);
    in_turn = λ who. ((λ same. not_waiting job a.desks fresh who (subst (λ (o : Option ℕ). is_same who o ≡ true) owner same)), tt);
    of_lines = λ who. sym (append-nil (queued who a.desks));
  };
  halts = refl;
  waits = λ who. next_is (cond (is_same who (job_of_line line)) (Some line) (waiting_at who a.desks)) (cond (is_same who (Some job)) (Some line) (waiting_at who a.desks)) (queued who a.desks)
      (ap (λ (o : Option ℕ). cond (is_same who o) (Some line) (waiting_at who a.desks)) owner) (off_next line job a.desks first who);
  begun = nothing_begun p (a.script.out.items ++ text_of []);
}

pub Lacked-kept-off : (line : List ℕ) (job : ℕ) (a b : Live) → IsKeptOff line a.script.core.machine a.script.out.items a.script.outcome a.script.jobs b.script → job_of_line line ≡ Some job → first_of (desk_of a.desks job).lines ≡ Some line → (desk_of a.desks job).was_tried ≡ false → Lacked [] a b
Lacked-kept-off line job a b k owner first fresh = record { broke = λ p. Broke-kept-off line job a b p k owner first fresh; out = k.text }

-- ---- a line comes behind others

pushed_first : (line : List ℕ) (d : DeskShown) → first_tried d ≡ first_tried (pushed line d)
pushed_first line d = at d.was_tried d.lines
  where
    at : (b : Bool) (lines : List (List ℕ)) → cond b (first_of lines) None ≡ first_tried (pushed line (record { lines = lines; was_tried = b }))
    at true [] = refl
    at true (l ∷ lines) = refl
    at false lines = refl

pushed_queue : (line : List ℕ) (job : ℕ) (old new : List DeskShown) → HasChangedAt job (pushed line) old new → (who : Option ℕ) → queued who new ≡ queued who old ++ cond (is_same who (Some job)) (line ∷ []) []
pushed_queue line job old new change None = refl
pushed_queue line job old new change (Some other) = ap (λ (d : DeskShown). d.lines) (change other) ∙ at (eqb other job) (desk_of old other)
  where
    at : (b : Bool) (d : DeskShown) → (λ (x : DeskShown). x.lines) (cond b (pushed line d) d) ≡ d.lines ++ cond b (line ∷ []) []
    at true d = refl
    at false d = sym (append-nil d.lines)

pushed_waits : (line : List ℕ) (job : ℕ) (old new : List DeskShown) → HasChangedAt job (pushed line) old new → (who : Option ℕ) → waiting_at who old ≡ waiting_at who new
pushed_waits line job old new change None = refl
pushed_waits line job old new change (Some other) = at (eqb other job) (desk_of old other) ∙ ap first_tried (sym (change other))
  where
    at : (b : Bool) (d : DeskShown) → first_tried d ≡ first_tried (cond b (pushed line d) d)
    at true d = pushed_first line d
    at false d = refl

pub Ran-pushed : (line : List ℕ) (job : ℕ) (a b : Live) (p : Option (List ℕ)) → HasChangedAt job (pushed line) a.desks b.desks → job_of_line line ≡ Some job → b.script.core.machine ≡ a.script.core.machine → b.script.out.items ≡ a.script.out.items → b.script.jobs ≡ a.script.jobs → b.script.outcome ≡ a.script.outcome → Ran (line ∷ []) a b p p
Ran-pushed line job a b p change owner machine out jobs outcome = record {
  acts = [];
  follow = record {
    each = tt;
    in_turn = λ who. tt;
    of_lines = λ who. pushed_queue line job a.desks b.desks change who ∙ ap (λ (o : Option ℕ). queued who a.desks ++ cond (is_same who o) (line ∷ []) []) (sym owner);
  };
  halts = refl;
  waits = λ who. pushed_waits line job a.desks b.desks change who;
  machine = machine;
  jobs = jobs;
  outcome = outcome ∙ sym (noted-none a.script.outcome);
  good = λ h. subst IsGood (sym machine) h;
  passes = subst (λ (ts : List ℕ). WritesFront p p ts b.script.out.items) (out ∙ sym (append-nil a.script.out.items)) (Passes-none p b.script.out.items);
}

-- ---- a job is halted

pub Ran-halted : (job : ℕ) (a b : Live) (p : Option (List ℕ)) → IsReply job Halt Finished a.script.core.machine → b.script.core.machine ≡ told job Halt Finished a.script.core.machine → b.script.out.items ≡ a.script.out.items → b.script.jobs ≡ without_job job a.script.jobs → b.script.outcome ≡ a.script.outcome
    → b.desks ≡ a.desks → is_open job a.script.jobs ≡ true → (desk_of a.desks job).lines ≡ [] → Settled a b p p
Ran-halted job a b p is machine out jobs outcome desks among idle = record {
  acts = over job ∷ [];
  follow = record {
    each = (is, tt);
    in_turn = λ who. ((λ same. idle_wait who (Some job) a.desks idle same), tt);
    of_lines = λ who. ap (queued who) desks ∙ sym (append-nil (queued who a.desks));
  };
  halts = ((among, ap (queued (Some job)) desks ∙ idle), tt);
  waits = λ who. ap (waiting_at who) (sym desks);
  machine = machine;
  jobs = jobs;
  outcome = outcome ∙ sym (noted-none a.script.outcome);
  good = λ h. subst IsGood (sym machine) (good_reply (job, Halt) Finished a.script.core.machine is h);
  passes = subst (λ (ts : List ℕ). WritesFront p p ts b.script.out.items) (out ∙ sym (append-nil a.script.out.items)) (Passes-none p b.script.out.items);
}

-- ---- a reply that was lost

pub lost_as : (line : List ℕ) (start : Machine) (out : List ℕ) (new : Script) (reply : Reply) → IsLostAs reply line start out new → IsFair line reply → IsLostFairly line start out new
lost_as line start out new reply l fair = record { reply = reply; fair = fair; answer = l.answer; text = l.text }

pub lost_of : (line : List ℕ) (start : Machine) (out : List ℕ) (new : Script) (l : IsLost line start out new) → IsFair line l.reply → IsLostFairly line start out new
lost_of line start out new l fair = record { reply = l.reply; fair = fair; answer = l.answer; text = l.text }
