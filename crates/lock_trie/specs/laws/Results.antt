-- Facts of a call that may be refused, carried on.
use Rattle.std.specs.Prelude.{Result, Ok, Err, OnOk, OnErr, IfOk, IfErr}

pub onward : {A E P Q : Type 0} (r : Result A E) → (P → Q) → OnOk r P → OnOk r Q
onward (Ok a) f p = f p
onward (Err e) f p = tt

pub err_onward : {A E P Q : Type 0} (r : Result A E) → (P → Q) → OnErr r P → OnErr r Q
err_onward (Ok a) f p = tt
err_onward (Err e) f p = f p

pub if_ok_onward : {A E : Type 0} {P Q : A → Type 0} (r : Result A E) → ((a : A) → P a → Q a) → IfOk r P → IfOk r Q
if_ok_onward (Ok a) f p = f a p
if_ok_onward (Err e) f p = tt

pub if_err_onward : {A E : Type 0} {P Q : E → Type 0} (r : Result A E) → ((e : E) → P e → Q e) → IfErr r P → IfErr r Q
if_err_onward (Ok a) f p = tt
if_err_onward (Err e) f p = f e p
