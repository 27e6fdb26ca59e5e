-- A TCOMMIT of a block never begins its transaction anew.
use Rattle.std.proofs.Common.{◌≡◌, ℕ, zero, suc, ◌-◌, ◌<◌, List, refl, sym, ap, ◌∙◌, subst, arith}
use Rattle.std.specs.Prelude.{Result, Ok, Err}
use Rattle.refusal.specs.declared.Refusal.{Refusal}
use Rattle.refusal.specs.declared.Refusal.TheVariants.{NoTransaction}
use Rattle.command.specs.declared.request.Command.{Command}
use Rattle.command.specs.declared.request.Command.TheVariants.{Commit}
use Rattle.command.specs.declared.request.Reply.{Reply}
use Rattle.command.specs.declared.request.Reply.TheVariants.{AtLevel, Committed as committed_reply, Restarted as restarted_reply, Refused}
use Rattle.journal.specs.declared.unit.Unit.{Unit as JournalUnit}
use Rattle.shared_engine.specs.Sessions.{Held}
use Rattle.shared_engine.specs.Blocks.{said, IsCommitted, HasDone, IsNoRestart}

-- the level is 0, 1 or more
by_level : {P : Type 0} (level : ℕ) → (level ≡ 0 → P) → (level ≡ 1 → P) → (1 < level → P) → P
by_level zero none one deep = none refl
by_level (suc zero) none one deep = one refl
by_level (suc (suc n)) none one deep = deep (omega arith)

answer_stays : (result answer : Result Reply Refusal) (restarts : ℕ) → result ≡ answer → (said (λ r. r) answer ≡ restarted_reply restarts → ⊥) → said (λ r. r) result ≡ restarted_reply restarts → ⊥
answer_stays result answer restarts is other again = other (sym (ap (λ (r : Result Reply Refusal). said (λ x. x) r) is) ∙ again)

lower_restarted : (level restarts : ℕ) → AtLevel level ≡ restarted_reply restarts → ⊥
lower_restarted level restarts is = absurd (cc)

whole_restarted : (restarts : ℕ) → committed_reply ≡ restarted_reply restarts → ⊥
whole_restarted restarts is = absurd (cc)

refused_restarted : (refusal : Refusal) (restarts : ℕ) → Refused refusal ≡ restarted_reply restarts → ⊥
refused_restarted refusal restarts is = absurd (cc)

whole_stays : (result : Result Reply Refusal) (units more : List JournalUnit) (old new : Held) (restarts : ℕ) → IsCommitted result units more old new → said (λ r. r) result ≡ restarted_reply restarts → ⊥
whole_stays (Ok reply) units more old new restarts h is = whole_restarted restarts (sym h.0 ∙ is)
whole_stays (Err refusal) units more old new restarts h is = refused_restarted refusal restarts is

pub no_restart : (command : Command) (reply : Reply) (units more : List JournalUnit) (old new : Held) → HasDone command reply units more old new → IsNoRestart command reply
no_restart command reply units more old new h is restarts restarted =
    let done : HasDone Commit reply units more old new = subst (λ (c : Command). HasDone c reply units more old new) is h in
    let again : said (λ r. r) done.0 ≡ restarted_reply restarts = sym done.1 ∙ restarted in
    by_level old.state.level (λ none. answer_stays done.0 (Err NoTransaction) restarts (done.2 none).0 (refused_restarted NoTransaction restarts) again)
    (λ one. whole_stays done.0 units more old new restarts (done.3 one) again)
    (λ deep. answer_stays done.0 (Ok (AtLevel (old.state.level - 1))) restarts (done.4 deep).0 (lower_restarted (old.state.level - 1) restarts) again)
