use Rattle.std.proofs.Common.{refl, subst, length, ◌<◌, sym}
use Rattle.validate_commit.specs.Working.{Working}
use Rattle.validate_commit.proofs.ByReference.{kept_set}
use Rattle.validate_commit.proofs.work.Work.set_lent.Goals as goal

pub returns-in-Ok-clause-kept : goal.returns-in-Ok-clause-kept
returns-in-Ok-clause-kept c =
    let short = subst (λ (w : Working). length w.exchanges < 65535) (sym c.self.view_is) (c.is_full.ensures.short c.if-is_full.false) in
    rw (← c.self.view_is) (kept_set _ _ c.args.key.now c.args.value.now short c.in-Ok.ensures.exchanges refl c.in-Ok.ensures.written (λ m empty none. c.follow.ensures _ (c.left_by_set-left.ensures.behind c.args.value.now m empty) tt) refl refl)
