-- How a job's sessions and its run are stored.
use Rattle.std.specs.Prelude.{ℕ, List, Option, refl}
use Rattle.std.specs.Coded.{Coded, code_by, coded×, coded_ℕ, coded_list, coded_option}
use Rattle.command.specs.declared.request.Reply.{Reply}
use Rattle.command.specs.contracts.request.Reply as r
use Rattle.shared_engine.specs.Receipts.{Book}
use Rattle.shared_engine.specs.Sessions.{Held}
use Rattle.shared_engine.specs.Codes.{held_code, book_code}
use Rattle.job_server.specs.Steps.{Past, past, SessionsSoFar, sessions_so_far}
use Rattle.job_server.specs.Telling.{Running}

abbrev pub past_code : Coded Past
past_code = code_by (ℕ × List Book) (coded× coded_ℕ (coded_list book_code)) (λ p. (p.since, p.books)) (λ p. past p.0 p.1) (λ _. refl)

abbrev pub sessions_code : Coded SessionsSoFar
sessions_code = code_by (Past × Option Held) (coded× past_code (coded_option held_code)) (λ s. (s.past, s.session)) (λ p. sessions_so_far p.0 p.1) (λ _. refl)

abbrev pub running_code : Coded Running
running_code = code_by (List Reply × SessionsSoFar) (coded× (coded_list r.the_row.coded) sessions_code) (λ r. (r.replies, r.sessions)) (λ p. record { replies = p.0; sessions = p.1 }) (λ _. refl)
