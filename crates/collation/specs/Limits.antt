-- The limits, each once; a subscript's length is `limit` of `canonic_number`. Source: docs/RULES.md, "Limits".
use Rattle.std.specs.Prelude.{ℕ, Bool, ◌&&◌, nat_le}

-- bytes of a name
abbrev pub most_name_bytes : ℕ
most_name_bytes = 31

-- subscripts of a reference
abbrev pub most_subscripts : ℕ
most_subscripts = 31

-- bytes of a value or a default, where a line is read
abbrev pub most_value_bytes : ℕ
most_value_bytes = 32767

-- the highest job
abbrev pub most_jobs : ℕ
most_jobs = 4096

-- a job's number
abbrev pub is_job : ℕ → Bool
is_job n = nat_le 1 n && nat_le n most_jobs

-- levels of a transaction
abbrev pub most_levels : ℕ
most_levels = 127

-- data commands of a transaction
abbrev pub most_commands : ℕ
most_commands = 65535

-- how many times a job may have a lock name
abbrev pub most_locks : ℕ
most_locks = 65535
