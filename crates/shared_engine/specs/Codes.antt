-- How sessions, seats and books are stored.
use Rattle.std.specs.Prelude.{ℕ, List, Option, refl}
use Rattle.std.specs.Coded.{Coded, code_by, coded×, coded_ℕ, coded_list, coded_option}
use Rattle.journal.specs.declared.unit.Unit.{Unit as JournalUnit}
use Rattle.journal.specs.contracts.unit.Unit as u
use Rattle.journal.specs.Kept.{Claim}
use Rattle.atomic_table.specs.Seated.{TableId, table_id_coded}
use Rattle.pin_board.specs.Named.{FreeAt}
use Rattle.job_core.specs.Sessions.{Session as JobSession}
use Rattle.job_core.specs.Codes.{session_code}
use Rattle.shared_engine.specs.Receipts.{Book}
use Rattle.shared_engine.specs.Sessions.{Held}
use Rattle.shared_engine.specs.Named.{SessionAt, PassAt}
use Rattle.refusal.specs.declared.Refusal.{Refusal}
use Rattle.refusal.specs.contracts.Refusal as f
use Rattle.command.specs.declared.access.DataCommand.{DataCommand}
use Rattle.command.specs.contracts.access.DataCommand as d
use Rattle.command.specs.declared.request.Reply.{Reply}
use Rattle.command.specs.contracts.request.Reply as r
use Rattle.shared_engine.specs.declared.asked.Ask.{Ask}
use Rattle.shared_engine.specs.contracts.asked.Ask as a
use Rattle.shared_engine.specs.Holds.{Lines, Asking, Telling}

abbrev pub claim_code : Coded Claim
claim_code = code_by (ℕ × (ℕ × JournalUnit)) (coded× coded_ℕ (coded× coded_ℕ u.the_row.coded)) (λ c. (c.job, (c.number, c.unit))) (λ p. record { job = p.0; number = p.1.0; unit = p.1.1 }) (λ _. refl)

abbrev pub held_code : Coded Held
held_code =
    code_by (JobSession × (Option (List JournalUnit) × (List Claim × (List Claim × List JournalUnit))))
    (coded× session_code (coded× (coded_option (coded_list u.the_row.coded)) (coded× (coded_list claim_code) (coded× (coded_list claim_code) (coded_list u.the_row.coded)))))
    (λ s. (s.state, (s.start, (s.receipts, (s.others, s.seen))))) (λ p. record { state = p.0; start = p.1.0; receipts = p.1.1.0; others = p.1.1.1.0; seen = p.1.1.1.1 }) (λ _. refl)

abbrev pub book_code : Coded Book
book_code =
    code_by (ℕ × (List Claim × (List Claim × List JournalUnit))) (coded× coded_ℕ (coded× (coded_list claim_code) (coded× (coded_list claim_code) (coded_list u.the_row.coded))))
    (λ b. (b.job, (b.receipts, (b.others, b.seen)))) (λ p. record { job = p.0; receipts = p.1.0; others = p.1.1.0; seen = p.1.1.1 }) (λ _. refl)

abbrev pub session_at_code : Coded SessionAt
session_at_code = code_by (TableId × Held) (coded× table_id_coded held_code) (λ s. (s.table, s.held)) (λ p. record { table = p.0; held = p.1 }) (λ _. refl)

abbrev pub pass_at_code : Coded PassAt
pass_at_code = code_by (TableId × Book) (coded× table_id_coded book_code) (λ p. (p.table, p.book)) (λ p. record { table = p.0; book = p.1 }) (λ _. refl)

abbrev free_code : Coded FreeAt
free_code = code_by (TableId × ℕ) (coded× table_id_coded coded_ℕ) (λ s. (s.table, s.place)) (λ p. record { table = p.0; place = p.1 }) (λ _. refl)

abbrev pub seats_code : Coded (List (Option FreeAt))
seats_code = coded_list (coded_option free_code)

abbrev pub lines_code : Coded Lines
lines_code =
    code_by (List (Option Refusal) × (List DataCommand × (List Reply × ℕ))) (coded× (coded_list (coded_option f.the_row.coded)) (coded× (coded_list d.the_row.coded) (coded× (coded_list r.the_row.coded) coded_ℕ)))
    (λ l. (l.places, (l.commands, (l.served, l.room)))) (λ p. record { places = p.0; commands = p.1.0; served = p.1.1.0; room = p.1.1.1 }) (λ _. refl)

abbrev pub asking_code : Coded Asking
asking_code =
    code_by (List Ask × (List DataCommand × (ℕ × ℕ))) (coded× (coded_list a.the_row.coded) (coded× (coded_list d.the_row.coded) (coded× coded_ℕ coded_ℕ)))
    (λ l. (l.tags, (l.commands, (l.room, l.others)))) (λ p. record { tags = p.0; commands = p.1.0; room = p.1.1.0; others = p.1.1.1 }) (λ _. refl)

abbrev pub telling_code : Coded Telling
telling_code = code_by (List Reply × (ℕ × ℕ)) (coded× (coded_list r.the_row.coded) (coded× coded_ℕ coded_ℕ)) (λ l. (l.served, (l.room, l.answers))) (λ p. record { served = p.0; room = p.1.0; answers = p.1.1 }) (λ _. refl)
