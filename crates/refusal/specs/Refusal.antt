-- What is printed of a refusal: its number and its name. Source: docs/RULES.md, "Refusals".
use Rattle.std.specs.Prelude.{ℕ, List, ◌∷◌, ◌++◌, codes, decimal}
use Rattle.refusal.specs.declared.Refusal.{Refusal}
use Rattle.refusal.specs.declared.Refusal.TheVariants.{BadLine, BadName, EmptySubscript, SubscriptTooLong, TooManySubscripts, ValueTooLong, NeedSubscript, MergeOverlap, NoTransaction, LevelTooDeep, LockCountFull, BadJob, TransactionTooLong, OutOfMemory, StampsUsedUp, Gone, Again, Ahead, SumTooLong}

-- the number and the name
abbrev pub as_printed : Refusal → ℕ × List ℕ
as_printed BadLine = (1, codes "BadLine")
as_printed BadName = (2, codes "BadName")
as_printed EmptySubscript = (3, codes "EmptySubscript")
as_printed SubscriptTooLong = (4, codes "SubscriptTooLong")
as_printed TooManySubscripts = (5, codes "TooManySubscripts")
as_printed ValueTooLong = (6, codes "ValueTooLong")
as_printed NeedSubscript = (7, codes "NeedSubscript")
as_printed MergeOverlap = (8, codes "MergeOverlap")
as_printed NoTransaction = (9, codes "NoTransaction")
as_printed LevelTooDeep = (10, codes "LevelTooDeep")
as_printed LockCountFull = (11, codes "LockCountFull")
as_printed BadJob = (12, codes "BadJob")
as_printed TransactionTooLong = (13, codes "TransactionTooLong")
as_printed OutOfMemory = (14, codes "OutOfMemory")
as_printed StampsUsedUp = (15, codes "StampsUsedUp")
as_printed Gone = (16, codes "Gone")
as_printed Again = (17, codes "Again")
as_printed Ahead = (18, codes "Ahead")
as_printed SumTooLong = (19, codes "SumTooLong")

-- the number
abbrev pub refusal_number : Refusal → ℕ
refusal_number refusal = (as_printed refusal).0

-- the name
abbrev pub name_of : Refusal → List ℕ
name_of refusal = (as_printed refusal).1

-- the number, a space and the name
abbrev pub refusal_text : Refusal → List ℕ
refusal_text refusal = decimal (refusal_number refusal) ++ 32 ∷ name_of refusal
