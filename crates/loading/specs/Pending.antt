-- A text of which the settings are read one after the other.
-- Read asked_of.
use Rattle.std.specs.Prelude.{ℕ, List, Result, refl}
use Rattle.std.specs.Coded.{Coded, code_by, coded×, coded_ℕ, coded_list}
use Rattle.loading.specs.Lines.{all_lines}
use Rattle.loading.specs.Settings.{Setting, TextFault, asked_from}

-- the text that is left, and the number of its first line
pub record Pending : Type 0 where
  pub number : ℕ
  pub text : List ℕ

abbrev pub pending : ℕ → List ℕ → Pending
pending number text = record { number = number; text = text }

-- what it asks for
abbrev pub asked_of : Pending → Result (List Setting) TextFault
asked_of p = asked_from p.number (all_lines p.text)

-- how it is stored
abbrev pub pending_code : Coded Pending
pending_code = code_by (ℕ × List ℕ) (coded× coded_ℕ (coded_list coded_ℕ)) (λ p. (p.number, p.text)) (λ q. record { number = q.0; text = q.1 }) (λ _. refl)
