use Rattle.script.proofs.Naming.{kept, faulty, added, on_ok, same_name}
use Rattle.std.proofs.Common.{[], ◌++◌, ◌∷◌, ◌∙◌, ap, refl, sym}
use Rattle.collation.specs.Reference.{Resource}
use Rattle.script.proofs.names.Names.push.Goals as goal

pub returns-then-is_some : goal.returns-then-is_some
returns-then-is_some c = λ ns r named is. kept _ ns _ named (sym c.is_some.ensures ∙ c.if-is_some.true)

pub returns-in-Ok : goal.returns-in-Ok
returns-in-Ok c = λ ns r named is.
    let judged = rw c.in-Ok.is at (c.in_ok-key.ensures r is) in
    let n : Resource = record { has_caret = c.args.has_caret; reference = r } in
    let same = same_name c.new.result c.args.has_caret r c.new.ensures.caret (c.new.ensures.reference ∙ judged.1) in
    on_ok c.add.result (λ more. added c.args.self.now c.add.new.self ns n named (sym c.is_some.ensures ∙ c.if-is_some.false) judged.0 c.add.ensures.fault (more ∙ ap (λ (x : Resource). c.args.self.now.found.items ++ x ∷ []) same)) c.add.ensures.found

pub returns-in-Err : goal.returns-in-Err
returns-in-Err c = λ ns r named is.
    let judged = rw c.in-Err.is at (c.in_ok-key.ensures r is) in
    faulty c.args.self.now _ ns (record { has_caret = c.args.has_caret; reference = r }) c.in-Err.fault named (sym c.is_some.ensures ∙ c.if-is_some.false) judged refl
