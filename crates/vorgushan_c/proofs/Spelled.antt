-- What a key that was spelled tells.
use Rattle.std.proofs.Common.{◌≡◌, arith}
use Rattle.std.specs.Prelude.{OnOk, Result, Ok, Err}
use Rattle.refusal.specs.Refusal.{refusal_number}
use Rattle.refusal.specs.declared.Refusal.{Refusal}
use Rattle.refusal.specs.declared.Refusal.TheVariants.{BadLine, BadName, EmptySubscript, SubscriptTooLong, TooManySubscripts, ValueTooLong, NeedSubscript, MergeOverlap, NoTransaction, LevelTooDeep, LockCountFull, BadJob, TransactionTooLong, OutOfMemory, StampsUsedUp, Gone, Again, Ahead, SumTooLong}

-- what holds whatever the answer is
pub on_ok : {A E : Type 0} {P : Type 0} (r : Result A E) → P → OnOk r P
on_ok (Ok a) p = p
on_ok (Err e) p = tt

-- no refusal is told as done
pub refusal_not_0 : (r : Refusal) → refusal_number r ≡ 0 → ⊥
refusal_not_0 BadLine e = omega (arith, e)
refusal_not_0 BadName e = omega (arith, e)
refusal_not_0 EmptySubscript e = omega (arith, e)
refusal_not_0 SubscriptTooLong e = omega (arith, e)
refusal_not_0 TooManySubscripts e = omega (arith, e)
refusal_not_0 ValueTooLong e = omega (arith, e)
refusal_not_0 NeedSubscript e = omega (arith, e)
refusal_not_0 MergeOverlap e = omega (arith, e)
refusal_not_0 NoTransaction e = omega (arith, e)
refusal_not_0 LevelTooDeep e = omega (arith, e)
refusal_not_0 LockCountFull e = omega (arith, e)
refusal_not_0 BadJob e = omega (arith, e)
refusal_not_0 TransactionTooLong e = omega (arith, e)
refusal_not_0 OutOfMemory e = omega (arith, e)
refusal_not_0 StampsUsedUp e = omega (arith, e)
refusal_not_0 Gone e = omega (arith, e)
refusal_not_0 Again e = omega (arith, e)
refusal_not_0 Ahead e = omega (arith, e)
refusal_not_0 SumTooLong e = omega (arith, e)
