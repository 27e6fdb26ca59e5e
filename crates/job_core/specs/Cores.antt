-- What callers see of a core.
use Rattle.std.specs.Prelude.{ℕ, refl}
use Rattle.std.specs.Coded.{Coded, code_by, coded×, coded_ℕ}
use Rattle.journal.specs.Story.{Machine, nothing_done}
use Rattle.job_core.specs.Codes.{machine_code}

-- the machine, and how many of its units the journal has dropped
pub record Cored : Type 0 where
  pub machine : Machine
  pub base : ℕ

-- a core that has done nothing
abbrev pub new_core : Cored
new_core = record { machine = nothing_done; base = 0 }

abbrev pub core_code : Coded Cored
core_code = code_by (Machine × ℕ) (coded× machine_code coded_ℕ) (λ c. (c.machine, c.base)) (λ p. record { machine = p.0; base = p.1 }) (λ _. refl)
