use Rattle.std.proofs.Common.{sym, ap, ◌∙◌, arith}
use Rattle.loading.specs.Pending.{asked_of}
use Rattle.loading.proofs.Sets.{fault_next}
use Rattle.loading.proofs.reader.SettingReader.next.Goals as goal

pub returns-in-Err-clause-fault : goal.returns-in-Err-clause-fault
returns-in-Err-clause-fault c =
    let asked = ap asked_of (sym c.self.view_is) ∙ c.next_line-number.ensures.asked in
    fault_next _ _ _ _ _ c.in-Err.ensures.fault (omega arith) asked
