use Rattle.std.proofs.Common.{◌≡◌, ℕ, arith, subst}
use Rattle.stretches.specs.Empty.{ArePut, FitsIn}
use Rattle.stretches.proofs.Places.{put_between}
use Rattle.stretches.proofs.stretches_kept.Stretches.put.Goals as goal

pub put_more-requires-clause-fits : goal.put_more-requires-clause-fits
put_more-requires-clause-fits c =
    let same : c.args.last ≡ c.args.first = omega (arith, c.if-first-last.false, c.requires.order) in
    subst (λ (n : ℕ). FitsIn c.args.first n c.args.stretch c.args.self.now) same (c.have_place.ensures.fits c.if-not-have_place.false)

pub returns-then-first-last : goal.returns-then-first-last
returns-then-first-last c = put_between c.args.first c.args.last c.args.self.now c.replace.new.self c.args.stretch c.replace.ensures

pub returns-else-first-last : goal.returns-else-first-last
returns-else-first-last c =
    let same : c.args.first ≡ c.args.last = omega (arith, c.if-first-last.false, c.requires.order) in
    subst (λ (n : ℕ). ArePut c.args.first n c.args.stretch c.args.self.now c.put_more.new.self) same c.put_more.ensures
