-- The start stamps beside the sessions: they stay the sessions' through each call, and their least is the least start.
use Rattle.std.proofs.Common.{◌≡◌, ◌≢◌, ◌≤◌, ℕ, List, Bool, true, false, refl, sym, ap, subst, ◌∙◌, inl, inr}
use Rattle.std.specs.Prelude.{cond, unwrap_or, Option, Some, None, IsSome, MatchOption, Result}
use Rattle.std.specs.Option.{option_map}
use Rattle.collation.specs.laws.Order.{is_equal}
use Rattle.std.specs.Ordering.{nat_cmp, eq_by_cmp}
use Rattle.std.specs.Cmp.{nat_cmp_total, eq_by_cmp_equiv}
use Rattle.std.specs.FinMap as finmap
use Rattle.std.specs.FinMap.{nat_cmp-IsAntisymmetric}
use Rattle.slab.specs.Slab.{get}
use Rattle.refusal.specs.declared.Refusal.{Refusal}
use Rattle.command.specs.declared.access.DataCommand.{DataCommand}
use Rattle.command.specs.declared.access.Answer.{Answer}
use Rattle.journal.specs.declared.unit.Unit.{Unit as JournalUnit}
use Rattle.job_core.specs.Starts.{Starts, HasBegun, HasChanged, IsBare, IsLeastIn, IsSameButRoom, place_of}
use Rattle.job_core.specs.Sessions.{Session, Sessions, anew, begun_at, changed_at, with_session, AreBegun, IsLeastStart, IsLeastIfAny, HasAnsweredAt}
use Rattle.job_core.proofs.Begun.{are_more, are_changed, are_same, are_none}
use Rattle.job_core.proofs.Held.{here_put, there_put, there_removed, answered_start}

-- where a session began
abbrev pub start_of : Session → ℕ
start_of s = s.work.start

same_job : (q job : ℕ) → eq_by_cmp nat_cmp q job ≡ true → q ≡ job
same_job q job tie = nat_cmp-IsAntisymmetric q job (is_equal (nat_cmp q job) tie)

-- ---- where the jobs' transactions began, after one is put or taken out

begun_put : (m : Sessions) (job : ℕ) (w : Session) → begun_at job (finmap.insert m job w) ≡ Some w.work.start
begun_put m job w = ap (option_map start_of) (here_put m job w)

begun_beside : (m : Sessions) (job : ℕ) (w : Session) (q : ℕ) → q ≢ job → begun_at q (finmap.insert m job w) ≡ begun_at q m
begun_beside m job w q differs = by_key (eq_by_cmp nat_cmp q job) refl
  where
    by_key : (b : Bool) → eq_by_cmp nat_cmp q job ≡ b → begun_at q (finmap.insert m job w) ≡ begun_at q m
    by_key true tie = absurd (differs (same_job q job tie))
    by_key false apart = ap (option_map start_of) (there_put m job w q apart)

begun_gone : (m : Sessions) (job : ℕ) → begun_at job (finmap.remove m job) ≡ None
begun_gone m job = let laws = eq_by_cmp_equiv nat_cmp_total in ap (option_map start_of) (finmap.get-remove nat_cmp_total m job job ∙ ap (λ b. cond b None (finmap.get m job)) (laws.refl job))

begun_left : (m : Sessions) (job q : ℕ) → q ≢ job → begun_at q (finmap.remove m job) ≡ begun_at q m
begun_left m job q differs = by_key (eq_by_cmp nat_cmp q job) refl
  where
    by_key : (b : Bool) → eq_by_cmp nat_cmp q job ≡ b → begun_at q (finmap.remove m job) ≡ begun_at q m
    by_key true tie = absurd (differs (same_job q job tie))
    by_key false apart = ap (option_map start_of) (there_removed m job q apart)

-- a session that begins where it did
begun_again : (m : Sessions) (job : ℕ) (s w : Session) → finmap.get m job ≡ Some s → w.work.start ≡ s.work.start → (q : ℕ) → begun_at q (finmap.insert m job w) ≡ begun_at q m
begun_again m job s w there same q = by_key (eq_by_cmp nat_cmp q job) refl
  where
    by_key : (b : Bool) → eq_by_cmp nat_cmp q job ≡ b → begun_at q (finmap.insert m job w) ≡ begun_at q m
    by_key true tie = ap (λ k. begun_at k (finmap.insert m job w)) (same_job q job tie) ∙ begun_put m job w ∙ ap Some same ∙ ap (option_map start_of) (sym there) ∙ ap (λ k. begun_at k m) (sym (same_job q job tie))
    by_key false apart = ap (option_map start_of) (there_put m job w q apart)

-- ---- the starts stay the sessions'

pub are_still : (s : Starts) (m n : Sessions) → AreBegun s m → ((q : ℕ) → begun_at q n ≡ begun_at q m) → AreBegun s n
are_still s m n are same = are_same s s (λ q. begun_at q m) (λ q. begun_at q n) are (record { stamps = λ place. refl; places = λ job. refl }) same

pub are_room : (old new : Starts) (m : Sessions) → AreBegun old m → IsSameButRoom old new → AreBegun new m
are_room old new m are same = are_same old new (λ q. begun_at q m) (λ q. begun_at q m) are same (λ q. refl)

-- an open transaction's start is in its place
pub is_there : (s : Starts) (m : Sessions) (job before : ℕ) → AreBegun s m → Some before ≡ begun_at job m → IsSome (get s.stamps (place_of s job))
is_there s m job before are was = subst IsSome (sym (are.there job before (sym was))) refl

pub are_none_open : (s : Starts) → IsBare s → AreBegun s finmap.empty
are_none_open s bare = are_none s (λ q. begun_at q finmap.empty) bare (λ q. ap (option_map start_of) (finmap.get-empty nat_cmp q))

pub are_opened : (old new : Starts) (m : Sessions) (job start : ℕ) (w : Session) → AreBegun old m → finmap.get m job ≡ None → w.work.start ≡ start → HasBegun job start old new → AreBegun new (finmap.insert m job w)
are_opened old new m job start w are none begins has = are_more old new job (λ q. begun_at q m) (λ q. begun_at q (finmap.insert m job w)) are (begun_beside m job w) start (ap (option_map start_of) none) (begun_put m job w ∙ ap Some begins) has

pub are_closed : (old new : Starts) (m : Sessions) (job : ℕ) (s : Session) → AreBegun old m → finmap.get m job ≡ Some s → HasChanged job None old new → AreBegun new (finmap.remove m job)
are_closed old new m job s are there has = are_changed old new job (λ q. begun_at q m) (λ q. begun_at q (finmap.remove m job)) are (begun_left m job) None s.work.start (ap (option_map start_of) there) (begun_gone m job) has

pub are_anew : (old new : Starts) (m n : Sessions) (job start before : ℕ) → AreBegun old m → n ≡ with_session (anew start) job m → Some before ≡ begun_at job m → HasChanged job (Some start) old new → AreBegun new n
are_anew old new m n job start before are put was has = by_found (finmap.get m job) refl put was
  where
    by_found : (o : Option Session) → finmap.get m job ≡ o → n ≡ changed_at (anew start) job m o → Some before ≡ option_map start_of o → AreBegun new n
    by_found None none put never = absurd (cc)
    by_found (Some s) there put was =
        subst (AreBegun new) (sym put)
        (are_changed old new job (λ q. begun_at q m) (λ q. begun_at q (finmap.insert m job (anew start s))) are (begun_beside m job (anew start s)) (Some start) s.work.start (ap (option_map start_of) there) (begun_put m job (anew start s)) has)

-- where none is open at the job nothing changes
pub are_nowhere : (s : Starts) (m n : Sessions) (job start : ℕ) → AreBegun s m → n ≡ with_session (anew start) job m → None ≡ begun_at job m → AreBegun s n
are_nowhere s m n job start are put none = by_found (finmap.get m job) put none
  where
    by_found : (o : Option Session) → n ≡ changed_at (anew start) job m o → None ≡ option_map start_of o → AreBegun s n
    by_found None put none = subst (AreBegun s) (sym put) are
    by_found (Some w) put none = absurd (cc)

pub are_kept : (s : Starts) (f : Session → Session) (m : Sessions) (job : ℕ) → AreBegun s m → ((w : Session) → (f w).work.start ≡ w.work.start) → AreBegun s (with_session f job m)
are_kept s f m job are same = by_found (finmap.get m job) refl
  where
    by_found : (o : Option Session) → finmap.get m job ≡ o → AreBegun s (changed_at f job m o)
    by_found None none = are
    by_found (Some w) there = are_still s m (finmap.insert m job (f w)) are (begun_again m job w (f w) there (same w))

pub are_answered : (s : Starts) (command : DataCommand) (result : Result Answer Refusal) (units : List JournalUnit) (job : ℕ) (old new : Sessions) → AreBegun s old → HasAnsweredAt command result units job old new (finmap.get old job) → AreBegun s new
are_answered s command result units job old new are answered = by_found (finmap.get old job) refl answered
  where
    by_found : (o : Option Session) → finmap.get old job ≡ o → HasAnsweredAt command result units job old new o → AreBegun s new
    by_found None none never = absurd never
    by_found (Some w) there put = subst (AreBegun s) (sym put.put) (are_still s old (finmap.insert old job put.session) are (begun_again old job w put.session there (answered_start command result units w put.session put.answered)))

-- ---- the least start is the least stamp

none_begun : (m : Sessions) → ((q : ℕ) → begun_at q m ≡ None) → m ≡ finmap.empty
none_begun m none = finmap.same_map nat_cmp_total nat_cmp-IsAntisymmetric m finmap.empty (λ q. by_found (finmap.get m q) (none q) ∙ sym (finmap.get-empty nat_cmp q))
  where
    by_found : (o : Option Session) → option_map start_of o ≡ None → o ≡ None
    by_found None is = refl
    by_found (Some s) is = absurd (cc)

pub least_again : (s : Starts) (m : Sessions) (o : Option ℕ) (stamp : ℕ) → AreBegun s m → MatchOption o (IsBare s) (λ k. IsLeastIn k s) → IsLeastIfAny (unwrap_or o stamp) m
least_again s m None stamp are bare = inl (none_begun m (λ q. by_begun q (begun_at q m) refl))
  where
    by_begun : (q : ℕ) (o : Option ℕ) → begun_at q m ≡ o → o ≡ None
    by_begun q None is = refl
    by_begun q (Some k) is = let never = sym (are.there q k is) ∙ bare (place_of s q) in absurd (cc)
least_again s m (Some k) stamp are least = inr (by_found owner.0 (finmap.get m owner.0) refl owner.1)
  where
    owner : (job : ℕ) × (begun_at job m ≡ Some k) × (place_of s job ≡ least.place)
    owner = are.owned least.place k least.there

    from : (q : ℕ) (w : Session) → finmap.get m q ≡ Some w → k ≤ w.work.start
    from q w there = least.from (place_of s q) w.work.start (are.there q w.work.start (ap (option_map start_of) there))

    by_found : (job : ℕ) (o : Option Session) → finmap.get m job ≡ o → option_map start_of o ≡ Some k → IsLeastStart k m
    by_found job None there is = absurd (cc)
    by_found job (Some w) there is = let start : w.work.start ≡ k = cc in record { from = from; job = job; session = w; there = there; start = start }
