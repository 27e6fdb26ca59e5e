-- What holds whatever a call was answered.
use Rattle.std.specs.Prelude.{OnErr, Result, Ok, Err}

pub on_err : {A E : Type 0} {P : Type 0} (r : Result A E) → P → OnErr r P
on_err (Ok a) p = tt
on_err (Err e) p = p
