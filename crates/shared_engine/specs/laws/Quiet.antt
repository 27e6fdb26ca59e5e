-- What no other unit can overtake.
use Rattle.std.proofs.Common.{◌≡◌, List, [], ◌∷◌, ◌++◌, drop, refl, sym, ◌∙◌, true≢false}
use Rattle.std.specs.Prelude.{Bool, true, false, ◌||◌, ◌&&◌, IfOk, Result, Ok, Err}
use Rattle.std.specs.List.{All, list_any}
use Rattle.std.specs.FinMap as finmap
use Rattle.std.proofs.lemmas.List.Folds.{list_any_none}
use Rattle.std.proofs.lemmas.List.Elements.{All-nil, All-cons}
use Rattle.refusal.specs.declared.Refusal.{Refusal}
use Rattle.collation.specs.Reference.{Reference}
use Rattle.collation.specs.Database.{Database}
use Rattle.command.specs.declared.access.DataCommand.{DataCommand}
use Rattle.command.specs.declared.access.DataCommand.TheVariants.{Set, Kill, Merge, Increment, Look}
use Rattle.command.specs.declared.access.Answer.{Answer}
use Rattle.command.specs.Data.{data_after}
use Rattle.journal.specs.declared.unit.Exchange.{Exchange}
use Rattle.journal.specs.declared.unit.Unit.{Unit as JournalUnit}
use Rattle.journal.specs.History.{State, after_unit}
use Rattle.journal.specs.Touching.{read_set, own_after, is_read, has_read, touched, any_touched}
use Rattle.serial.specs.Machine.{state_at}
use Rattle.validate_commit.specs.Verdicts.{has_been_overtaken}
use Rattle.job_core.specs.Sessions.{Session as JobSession}
use Rattle.shared_engine.specs.declared.locked.Ended.{Ended}
use Rattle.shared_engine.specs.declared.locked.Ended.TheVariants.{Committed, Restarted}
use Rattle.shared_engine.specs.Sessions.{Held}
use Rattle.shared_engine.specs.Engines.{HasEnded}
use Rattle.shared_engine.specs.Writes.{is_write, AreWrites}

pub everywhere : {X : Type 0} (p : X → Bool) (xs : List X) → ((x : X) → p x ≡ false) → All (λ x. p x ≡ false) xs
everywhere {X} p [] h = All-nil (λ (x : X). p x ≡ false)
everywhere {X} p (x ∷ xs) h = All-cons (λ (y : X). p y ≡ false) x xs (h x) (everywhere p xs h)

and_false : (b c : Bool) → c ≡ false → (b && c) ≡ false
and_false true c e = e
and_false false c e = refl

-- where nothing was read, nothing that was read is touched
pub unread : (test : Reference → Bool) (us : List JournalUnit) (s : State) → ((x : Reference) → test x ≡ false) → any_touched test us s ≡ false
unread test [] s none = refl
unread test (u ∷ us) s none =
    let passes : Reference → Bool = λ x. touched u s x && test x in
    let keys : List Reference = finmap.keys s.map ++ finmap.keys (after_unit u s).map in
    let here : list_any passes keys ≡ false = list_any_none passes keys (everywhere passes keys (λ x. and_false (touched u s x) (test x) (none x))) in
    let there = unread test us (after_unit u s) none in
    λ i. here i || there i

none_read : (c : DataCommand) (a : Answer) (own : Reference → Bool) (x : Reference) → is_write c ≡ true → read_set c a own x ≡ false
none_read (Set r v) a own x w = refl
none_read (Kill r extent) a own x w = refl
none_read (Merge p q) a own x w = absurd (true≢false (sym w))
none_read (Increment r n) a own x w = absurd (true≢false (sym w))
none_read (Look look) a own x w = absurd (true≢false (sym w))

writes_read : (es : List Exchange) (m : Database) (own : Reference → Bool) (x : Reference) → AreWrites es → is_read es m own x ≡ false
writes_read [] m own x w = refl
writes_read (e ∷ es) m own x w =
    let here = none_read e.command e.answer own x w.0 in
    let there = writes_read es (data_after e.command m) (own_after e.command m own) x w.1 in
    λ i. here i || there i

pub writes_stand : (s : JobSession) (units : List JournalUnit) → AreWrites s.work.exchanges → has_been_overtaken s.work units ≡ false
writes_stand s units w = unread (has_read s.work.exchanges (state_at s.work.start units).map) (drop s.work.start units) (state_at s.work.start units) (λ x. writes_read s.work.exchanges (state_at s.work.start units).map (λ y. false) x w)

pub ended_stands : (e : Ended) (units more : List JournalUnit) (old new : Held) → has_been_overtaken old.state.work units ≡ false → HasEnded e units more old new → HasEnded Committed units more old new
ended_stands Committed units more old new stands h = h
ended_stands (Restarted n) units more old new stands h = absurd (true≢false (sym h.0 ∙ stands))

committed_is : (e : Ended) (units more : List JournalUnit) (old new : Held) → has_been_overtaken old.state.work units ≡ false → HasEnded e units more old new → e ≡ Committed
committed_is Committed units more old new stands h = refl
committed_is (Restarted n) units more old new stands h = absurd (true≢false (sym h.0 ∙ stands))

pub writes_commit : (r : Result Ended Refusal) (units more : List JournalUnit) (old new : Held) → AreWrites old.state.work.exchanges → IfOk r (λ ended. HasEnded ended units more old new) → IfOk r (λ ended. ended ≡ Committed)
writes_commit (Ok e) units more old new w h = committed_is e units more old new (writes_stand old.state units w) h
writes_commit (Err e) units more old new w h = tt
