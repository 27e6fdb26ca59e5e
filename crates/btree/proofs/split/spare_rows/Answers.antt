use Rattle.std.proofs.Common.{ap, arith}
use Rattle.btree.proofs.Growth.{full_there}
use Rattle.btree.proofs.split.spare_rows.Goals.{then-separators-lt32-via-then-separators-lt32, then-separators-lt32-via-else-separators-lt32+then-count-lt32}
use Rattle.btree.proofs.split.spare_rows.Goals as goal

pub returns-then-separators-lt32 : goal.returns-then-separators-lt32
returns-then-separators-lt32 g c full full_kid =
    elim c.then-separators-lt32.branch [
      | then-separators-lt32-via-then-separators-lt32 w ↦ absurd (omega (arith, full, w.if-separators-lt32.true))
      | then-separators-lt32-via-else-separators-lt32+then-count-lt32 w ↦
          let kid = full_there c.args.at c.args.kids.now w.index-kids-at.result c.requires full_kid in
          absurd (omega (arith, kid, ap (λ b. b.count) w.index-kids-at.is, w.count.ensures, w.if-count-lt32.true))
    ]
