-- Settings that are done, one after the other.
use Rattle.std.proofs.Common.{◌≡◌, inl, inr, ℕ, ◌-◌, ◌^◌, ◌<◌, Bool, true, false, cond, List, [], ◌∷◌, ◌++◌, length, Option, None, Result, Ok, Err, refl, sym, ap, subst, ◌∙◌, append_assoc, arith}
use Rattle.std.proofs.lemmas.List.{append-nil}
use Rattle.std.specs.Prelude.{nat_lt, Some, IfSome}
use Rattle.std.specs.Ordering.{nat_cmp}
use Rattle.std.specs.FinMap as finmap
use Rattle.refusal.specs.declared.Refusal.{Refusal}
use Rattle.refusal.specs.declared.Refusal.TheVariants.{StampsUsedUp}
use Rattle.collation.specs.Reference.{Reference}
use Rattle.collation.specs.Answers.{set_all}
use Rattle.command.specs.declared.access.Answer.{Answer}
use Rattle.command.specs.declared.access.Answer.TheVariants.{Done}
use Rattle.command.specs.declared.access.DataCommand.TheVariants.{Set}
use Rattle.command.specs.declared.request.Command.{Command}
use Rattle.command.specs.declared.request.Command.TheVariants.{Access}
use Rattle.command.specs.declared.request.Reply.{Reply}
use Rattle.command.specs.declared.request.Reply.TheVariants.{Answered, Finished, Had, Count, AtLevel, Committed, Restarted, Refused}
use Rattle.journal.specs.declared.unit.Unit.{Unit as JournalUnit}
use Rattle.journal.specs.declared.unit.Unit.TheVariants.{Lone}
use Rattle.journal.specs.History.{State, initial, after, IsLegal}
use Rattle.journal.specs.Story.{Transaction, Machine, nothing_done, transaction_of, told_answer, told, story_of}
use Rattle.serial.specs.Machine.{reply_to_data, reply_with_room, IsReply}
use Rattle.job_core.specs.Cores.{Cored, new_core}
use Rattle.script.specs.Line.{reading_of}
use Rattle.loading.specs.Settings.{Setting, TextFault, set_line, setting_at, with_line, before, settings_of}
use Rattle.loading.specs.Loaded.{steps_of, replies_to, units_of, with_settings, is_answered, counted, IsStepOf, HasSetAll, IsSoFar, IsLoaded, IsFaultOf}
use Rattle.loading.specs.declared.fault.LoadFault.{LoadFault}
use Rattle.loading.specs.laws.Before.{before_next}
use Rattle.loading.specs.Statements.{step_for}
use Rattle.loading.specs.laws.Reading.{asks_for_set}

-- settings after others

pub with_none : (s : Machine) → with_settings [] s ≡ s
with_none s i = record { units = append-nil s.units i; transactions = s.transactions }

units_more : (xs ys : List Setting) → units_of (xs ++ ys) ≡ units_of xs ++ units_of ys
units_more [] ys = refl
units_more (x ∷ xs) ys = ap (λ (us : List JournalUnit). Lone 1 (Set x.0 x.1) Done ∷ us) (units_more xs ys)

pub with_more : (xs ys : List Setting) (s : Machine) → with_settings ys (with_settings xs s) ≡ with_settings (xs ++ ys) s
with_more xs ys s i = record { units = (append_assoc s.units (units_of xs) (units_of ys) ∙ ap (λ (us : List JournalUnit). s.units ++ us) (sym (units_more xs ys))) i; transactions = s.transactions }

-- the step of a line

pub step_read : (line : List ℕ) (job : ℕ) (c : Command) → reading_of (set_line line) ≡ Ok (job, c) → IsStepOf line job c
step_read line job c e = at (setting_at line) refl (sym (asks_for_set line) ∙ e)
  where
    at : (asked : Result Setting Refusal) → setting_at line ≡ asked → step_for asked ≡ Ok (job, c) → IsStepOf line job c
    at (Ok s) f g =
        let pair : ◌≡◌ {A = ℕ × Command} (1, Access (Set s.0 s.1)) (job, c) = cc in
        record { setting = s; asked = f; first = sym (ap (λ (x : ℕ × Command). x.0) pair); sets = sym (ap (λ (x : ℕ × Command). x.1) pair) }
    at (Err refusal) f g = absurd cc

-- a SET where no transaction is open

none_open : (s : Machine) → s.transactions ≡ finmap.empty → transaction_of 1 s ≡ None
none_open s e = ap (λ (ts : finmap.FinMap nat_cmp Transaction). finmap.get ts 1) e ∙ finmap.get-empty nat_cmp 1

pub set_told : (r : Reference) (v : List ℕ) (s : Machine) → s.transactions ≡ finmap.empty → told 1 (Access (Set r v)) (Answered Done) s ≡ with_settings ((r, v) ∷ []) s
set_told r v s e = ap (λ (t : Option Transaction). told_answer 1 (Set r v) Done t s) (none_open s e)

answer_is : (r : Reference) (v : List ℕ) (a : Answer) (s : Machine) (full : Bool) → Answered a ≡ cond full (Refused StampsUsedUp) (reply_to_data (Set r v) None s.units) → a ≡ Done
answer_is r v a s true e = absurd cc
answer_is r v a s false e = cc

pub set_answer : (r : Reference) (v : List ℕ) (a : Answer) (s : Machine) → s.transactions ≡ finmap.empty → IsReply 1 (Access (Set r v)) (Answered a) s → a ≡ Done
set_answer r v a s none (inl e) =
    let full : Bool = nat_lt (2 ^ 64 - 1) (length (told 1 (Access (Set r v)) (reply_with_room 1 (Access (Set r v)) s) s).units) in
    answer_is r v a s full (e ∙ ap (λ (t : Option Transaction). cond full (Refused StampsUsedUp) (reply_to_data (Set r v) t s.units)) (none_open s none))
set_answer r v a s none (inr e) = absurd cc

pub set_done : (r : Reference) (v : List ℕ) (a : Answer) (old new : Machine) → old.transactions ≡ finmap.empty → new ≡ told 1 (Access (Set r v)) (Answered a) old → IsReply 1 (Access (Set r v)) (Answered a) old → new ≡ with_settings ((r, v) ∷ []) old
set_done r v a old new none machine exact =
    machine ∙ ap (λ (b : Answer). told 1 (Access (Set r v)) (Answered b) old) (set_answer r v a old none exact) ∙ set_told r v old none

pub set_ok : (job : ℕ) (c : Command) (reply : Reply) (s : Setting) (old new : Machine) → job ≡ 1 → c ≡ Access (Set s.0 s.1) → is_answered reply ≡ true → old.transactions ≡ finmap.empty → new ≡ told job c reply old → IsReply job c reply old → new ≡ with_settings (s ∷ []) old
set_ok job c (Answered a) s old new e f is none machine exact =
    set_done s.0 s.1 a old new none
    (machine ∙ ap (λ (j : ℕ). told j c (Answered a) old) e ∙ ap (λ (d : Command). told 1 d (Answered a) old) f)
    (subst (λ (d : Command). IsReply 1 d (Answered a) old) f (subst (λ (j : ℕ). IsReply j c (Answered a) old) e exact))
set_ok job c Finished s old new e f is none machine exact = absurd cc
set_ok job c (Had had) s old new e f is none machine exact = absurd cc
set_ok job c (Count n) s old new e f is none machine exact = absurd cc
set_ok job c (AtLevel level) s old new e f is none machine exact = absurd cc
set_ok job c Committed s old new e f is none machine exact = absurd cc
set_ok job c (Restarted restarts) s old new e f is none machine exact = absurd cc
set_ok job c (Refused refusal) s old new e f is none machine exact = absurd cc

-- the fault of the next line

counted_small : (n : ℕ) → n < 2 ^ 64 → counted n ≡ n
counted_small n h = omega (arith, h)

pub fault_next : (number : ℕ) (line : List ℕ) (asked rest : Result (List Setting) TextFault) (fault : LoadFault) → ((n : ℕ) (more : Result (List Setting) TextFault) → counted n ≡ number → IsFaultOf (with_line n line more) fault) → number < 2 ^ 64
    → asked ≡ with_line number line rest → IsFaultOf asked fault
fault_next number line asked rest fault h small is = subst (λ (r : Result (List Setting) TextFault). IsFaultOf r fault) (sym is) (h number rest (counted_small number small))

-- the settings so far

so_far_more : (asked left later : Result (List Setting) TextFault) (s : Setting) (old middle new : Machine) → IsSoFar asked left old middle → left ≡ before (s ∷ []) later → new ≡ with_settings (s ∷ []) middle → IsSoFar asked later old new
so_far_more asked left later s old middle new so next is = record {
  settings = so.settings ++ s ∷ [];
  goes_on = before_next so.settings s asked left later so.goes_on next;
  machine = is ∙ ap (with_settings (s ∷ [])) so.machine ∙ with_more so.settings (s ∷ []) old;
}

pub so_far_next : (asked left later : Result (List Setting) TextFault) (next : Option Setting) (s : Setting) (old middle new : Machine) → IsSoFar asked left old middle → IfSome next (λ t. left ≡ before (t ∷ []) later) → next ≡ Some s → new ≡ with_settings (s ∷ []) middle
    → IsSoFar asked later old new
so_far_next asked left later next s old middle new so step there is = so_far_more asked left later s old middle new so (subst (λ o. IfSome o (λ t. left ≡ before (t ∷ []) later)) there step) is

-- the story of settings

story_is : (ss : List Setting) (s : Machine) → s.transactions ≡ finmap.empty → story_of (steps_of ss) (replies_to ss) s ≡ with_settings ss s
story_is [] s none = sym (with_none s)
story_is (x ∷ xs) s none =
    ap (story_of (steps_of xs) (replies_to xs)) (set_told x.0 x.1 s none)
    ∙ story_is xs (with_settings (x ∷ []) s) none
    ∙ with_more (x ∷ []) xs s

left : (ss : List Setting) (s : State) → after (units_of ss) s ≡ record { map = set_all ss s.map; locks = s.locks }
left [] s = refl
left (x ∷ xs) s = left xs (record { map = finmap.insert s.map x.0 x.1; locks = s.locks })

legal : (ss : List Setting) (s : State) → IsLegal (units_of ss) s
legal [] s = tt
legal (x ∷ xs) s = ((refl, refl), legal xs (record { map = finmap.insert s.map x.0 x.1; locks = s.locks }))

-- from a core that has done nothing
pub from_first : (text : List ℕ) (asked : Result (List Setting) TextFault) (core : Cored) (s : Machine) → settings_of text ≡ asked → core ≡ new_core → HasSetAll asked core.machine s → HasSetAll (settings_of text) nothing_done s
from_first text asked core s is new h = subst (λ (r : Result (List Setting) TextFault). HasSetAll r nothing_done s) (sym is) (subst (λ (c : Cored). HasSetAll asked c.machine s) new h)

pub legal_loaded : (asked : Result (List Setting) TextFault) (s : Machine) → HasSetAll asked nothing_done s → IsLegal s.units initial
legal_loaded asked s h = subst (λ (us : List JournalUnit). IsLegal us initial) (sym (ap (λ (m : Machine). m.units) h.machine)) (legal h.settings initial)

pub loaded : (text : List ℕ) (s : Machine) → HasSetAll (settings_of text) nothing_done s → IsLoaded text s
loaded text s h =
    let units : s.units ≡ units_of h.settings = ap (λ (m : Machine). m.units) h.machine in
    record {
      settings = h.settings;
      asked = h.is;
      story = h.machine ∙ sym (story_is h.settings nothing_done refl);
      units = units;
      content = ap (λ (us : List JournalUnit). (after us initial).map) units ∙ ap (λ (t : State). t.map) (left h.settings initial);
      unlocked = ap (λ (us : List JournalUnit). (after us initial).locks) units ∙ ap (λ (t : State). t.locks) (left h.settings initial);
    }
