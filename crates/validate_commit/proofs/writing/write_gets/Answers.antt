use Rattle.std.proofs.Common.{◌≡◌, ◌+◌, ◌≤◌, ◌<◌, ◌++◌, length, max, sym, ap, subst, ◌∙◌, arith, length-append}
use Rattle.journal.specs.declared.unit.Unit.{Unit as JournalUnit}
use Rattle.version_store.specs.Versions.{Stored}
use Rattle.validate_commit.specs.Agreement.{Agreement}
use Rattle.validate_commit.proofs.Gathered.{gets_agreed, agreed_cut, later}
use Rattle.validate_commit.proofs.Horizon.{least_behind}
use Rattle.validate_commit.proofs.writing.write_gets.Goals as goal

pub returns-clause-agreed : goal.returns-clause-agreed
returns-clause-agreed c =
    let units = c.args.journal.now.units in
    let gets = c.args.gets.now.units in
    let old = c.args.store.now in
    let is = c.requires.agreed in
    let now = c.now-now.ensures in
    let did = c.in_ok-receipts.ensures in
    let stamp : length units + length gets ≡ c.now-now.result + c.len.result = omega (arith, now.present, is.present, c.len.ensures) in
    let long = length-append units gets in
    let horizon : c.unwrap_or-horizon.result ≤ length units + length gets = rw c.unwrap_or-horizon.ensures (least_behind c.args.oldest (length units) (c.now-now.result + c.len.result) (length units + length gets) (omega arith) (omega (arith, stamp)) c.requires.oldest) in
    let all = gets_agreed old units gets is now.settled now.falls c.requires.right did.counted in
    let cut = max old.cut c.unwrap_or-horizon.result in
    let raised = agreed_cut (later old (length units + length gets)) (units ++ gets) cut all (omega arith) (omega (arith, is.cut, horizon, long)) in
    let new : (record (later old (length units + length gets)) { cut = cut }) ≡ c.pass.new.self = (λ i. record old { present = stamp i; cut = cut }) ∙ sym c.pass.ensures in
    subst (λ (us : _). Agreement c.pass.new.self us) (sym did.units) (subst (λ (s : Stored). Agreement s (units ++ gets)) new raised)
