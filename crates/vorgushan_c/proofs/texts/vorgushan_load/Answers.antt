use Rattle.std.proofs.Common.{rules}
use Rattle.vorgushan_c.proofs.Loaded.{loaded}
use Rattle.vorgushan_c.proofs.texts.vorgushan_load.Goals as goal

pub returns-in-Ok : goal.returns-in-Ok
returns-in-Ok c = loaded _ _ _ _ _ _ _ _ _ _ (search rules) c.in-Ok.made c.put_new.result c.in-Ok.ensures.loaded c.in-Ok.ensures.sound c.number-in-Ok.ensures c.put_new.ensures
