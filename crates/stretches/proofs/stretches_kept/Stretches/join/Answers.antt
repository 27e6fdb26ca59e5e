use Rattle.std.proofs.Common.{arith, ◌-◌}
use Rattle.stretches.proofs.Places.{alike_more, has_more, no_more, one_at}
use Rattle.stretches.proofs.stretches_kept.Stretches.join.Goals as goal

pub returns-in-Some : goal.returns-in-Some
returns-in-Some c =
    let old = c.args.self.now in
    let items = c.self.inside.list.items in
    let first = one_at items old c.args.first c.index.result.now c.self.view_is (omega (arith, c.requires, c.if-last-len.false, c.len.ensures, c.self.inside.list.ok.0)) c.index.ensures in
    let last = one_at items old (c.args.last - 1) c.index-2.result.now c.self.view_is (omega (arith, c.requires, c.if-last-len.false, c.len.ensures, c.self.inside.list.ok.0)) c.index-2.ensures in
    alike_more c.in-Some.joined c.args.stretch.now old c.put.new.self (λ x h. has_more c.index.result.now c.index-2.result.now c.args.stretch.now old first last x (c.in-Some.ensures x h))
    (no_more c.args.first c.args.last old c.put.new.self c.in-Some.joined c.put.ensures)
