-- Lines by job. Source: docs/CONCURRENCY.md, "Many jobs at the same time".
-- Read groups_in, then groups_of, lines_under and firsts; the contract of scripts_of cites groups_in.
use Rattle.std.specs.Prelude.{◌≡◌, ℕ, not, List, [], ◌∷◌, ◌++◌, ◌==◌, if◌then◌else◌, map, filter, length, unwrap_or, Option, None, Some}
use Rattle.bstr.specs.Text.{lines_of, without_terminator}
use Rattle.script.specs.Line.{job_of_line}
use Rattle.job_scripts.specs.declared.lines.Script.{Script}
use Rattle.job_scripts.specs.Lines.{lent_lines}

-- the number under which a line stands: its job's, or 0
abbrev pub group_of : List ℕ → ℕ
group_of line = unwrap_or (job_of_line line) 0

-- the lines under a number, in order
abbrev pub lines_under : ℕ → List (List ℕ) → List (List ℕ)
lines_under n lines = filter (λ line. group_of line == n) lines

-- each number once, in order of first appearance
abbrev pub firsts : List ℕ → List ℕ
firsts [] = []
firsts (n ∷ ns) = n ∷ filter (λ m. not (m == n)) (firsts ns)

-- a script's job, or none, and its lines
pub record Group : Type 0 where
  pub job : Option ℕ
  pub lines : List (List ℕ)

-- the job of a number, none of 0
abbrev pub job_at : ℕ → Option ℕ
job_at n = if n == 0 then None else Some n

-- the group of a number
abbrev pub group : List (List ℕ) → ℕ → Group
group lines n = record { job = job_at n; lines = lines_under n lines }

-- the groups of lines, in order of first appearance
abbrev pub groups_of : List (List ℕ) → List Group
groups_of lines = map (group lines) (firsts (map group_of lines))

-- the lines that aren't empty
abbrev pub nonempty : List (List ℕ) → List (List ℕ)
nonempty lines = filter (λ line. not (length line == 0)) lines

-- the lines of a text, each without its end and a byte 13 before that
abbrev pub all_lines : List ℕ → List (List ℕ)
all_lines text = map without_terminator (lines_of text)

-- those that aren't empty
abbrev pub lines_in : List ℕ → List (List ℕ)
lines_in text = nonempty (all_lines text)

-- the groups of a text's lines
abbrev pub groups_in : List ℕ → List Group
groups_in text = groups_of (lines_in text)

-- what a script shows
abbrev pub shown : Script → Group
shown s = record { job = s.job; lines = lent_lines s.lines.items }

-- the groups' numbers
abbrev pub numbers_in : List Group → List ℕ
numbers_in groups = map (λ g. unwrap_or g.job 0) groups

-- the groups of some lines and of those that follow them, put together: the groups of all
abbrev pub AreJoined : List Group → List Group → List Group → Type 0
AreJoined first second all = (lines more : List (List ℕ)) → first ≡ groups_of lines → second ≡ groups_of more → all ≡ groups_of (lines ++ more)
