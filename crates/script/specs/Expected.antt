-- The text of what was expected where a line is at fault. Source: docs/FORMATS.md, "Faults of lines".
use Rattle.std.specs.Prelude.{ℕ, List, codes}
use Rattle.refusal.specs.declared.Refusal.{Refusal}
use Rattle.refusal.specs.declared.Refusal.TheVariants.{BadLine, BadName, EmptySubscript, SubscriptTooLong, TooManySubscripts, ValueTooLong, NeedSubscript, MergeOverlap, NoTransaction, LevelTooDeep, LockCountFull, BadJob, TransactionTooLong, OutOfMemory, StampsUsedUp, Gone, Again, Ahead, SumTooLong}
use Rattle.script.specs.declared.expected.Expected.{Expected}
use Rattle.script.specs.declared.expected.Expected.TheVariants as expectations

-- what a line of the grammar lacks that is refused so
abbrev pub rule_text : Refusal → List ℕ
rule_text BadLine = codes "a line of the grammar"
rule_text BadName = codes "a letter or %, then letters and digits, at most 31 bytes"
rule_text EmptySubscript = codes "a subscript that isn't empty"
rule_text SubscriptTooLong = codes "a subscript of at most 255 bytes"
rule_text TooManySubscripts = codes "at most 31 subscripts"
rule_text ValueTooLong = codes "a value of at most 32767 bytes"
rule_text NeedSubscript = codes "a subscript"
rule_text MergeOverlap = codes "two references of which neither lies under the other"
rule_text NoTransaction = codes "an open transaction, which TSTART begins"
rule_text LevelTooDeep = codes "a level below 127"
rule_text LockCountFull = codes "a count below 65535"
rule_text BadJob = codes "a job, 1 to 4096"
rule_text TransactionTooLong = codes "at most 65535 data commands in a transaction"
rule_text OutOfMemory = codes "more memory"
rule_text StampsUsedUp = codes "a journal that isn't full"
rule_text Gone = codes "a stamp that is kept"
rule_text Again = codes "another try"
rule_text Ahead = codes "a stamp that has come"
rule_text SumTooLong = codes "a sum of at most 32767 bytes"

-- what should stand there
abbrev pub expected_text : Expected → List ℕ
expected_text expectations.Job = codes "a job, 1 to 4096, first in the line"
expected_text expectations.Blank = codes "a blank"
expected_text expectations.Operand = codes "a blank and ^ and a name"
expected_text expectations.Command = codes "SET, KILL, KVALUE, KSUBSCRIPTS, MERGE, LOCK, TSTART, TCOMMIT, TROLLBACK, TRESTART or HALT, or $ and a function"
expected_text expectations.Function = codes "DATA, GET, INCREMENT, ORDER, QUERY, TLEVEL or TRESTART"
expected_text expectations.Reference = codes "^ and a name"
expected_text expectations.Name = codes "a name"
expected_text expectations.LockName = codes "a lock name"
expected_text expectations.Subscript = codes "a number, \"text\" with both quotes or $C(0 to 255), without a blank"
expected_text expectations.Value = codes "a number, \"text\" with both quotes or $C(0 to 255), without a blank"
expected_text expectations.Equals = codes "= without a blank"
expected_text expectations.Opening = codes "("
expected_text expectations.Closing = codes ")"
expected_text expectations.CommaOrClosing = codes "a comma or )"
expected_text expectations.Direction = codes "1 or -1"
expected_text expectations.Number = codes "a number"
expected_text expectations.Global = codes "GLOBAL"
expected_text expectations.Timeout = codes "one to nine digits"
expected_text expectations.End = codes "the end of the line"
expected_text (expectations.Rule refusal) = rule_text refusal
