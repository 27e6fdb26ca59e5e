use Rattle.std.proofs.Common.{◌≡◌, ◌-◌, cond, is_some, length, ap, ◌∙◌, arith}
use Rattle.std.specs.Prelude.{ℕ}
use Rattle.std.specs.FinMap.Entries.{find}
use Rattle.btree.proofs.Alone.{found_alone, without_alone, none_before}
use Rattle.btree.proofs.Roots.{root_shrunk, length_taken}
use Rattle.btree.proofs.root.Tree.take_alone.Goals as goal

pub invariant_of-self : goal.invariant_of-self
invariant_of-self g c =
    let before = g.P.Point.before c.args.past.now in
    let old = c.self.inside.root.pairs in
    let gone = without_alone g.K.Ord.cmp g.met.K.Ord.total before (g.met.P.Point.downward c.args.past.now) c.args.key.now c.in-Some.value old c.take_alone.new.self.pairs c.self.invariant.0.sorted c.in-Some.ensures.taken in
    let found = found_alone g.K.Ord.cmp g.met.K.Ord.total before (g.met.P.Point.downward c.args.past.now) c.args.key.now c.in-Some.value old c.take_alone.new.self.pairs c.self.invariant.0.sorted c.in-Some.ensures.taken in
    let pairs = c.fall.ensures.pairs ∙ gone in
    let size = length_taken g.K.Ord.cmp c.self.inside.root c.self.invariant.0 c.args.key.now g.met.K.Ord.total c.fall.new.self.pairs pairs in
    let one : ◌≡◌ {A = ℕ} (cond (is_some (find g.K.Ord.cmp c.args.key.now old)) 1 0) 1 = ap (λ a. cond (is_some a) 1 0) found in
    let len : c.self.inside.len - 1 ≡ length c.fall.new.self.pairs = omega (arith, size, one, c.self.invariant.1) in
    (root_shrunk g.K.Ord.cmp c.self.inside.root c.self.invariant.0 c.args.key.now c.fall.new.self pairs c.fall.ensures.most c.fall.ensures.full c.fall.ensures.inner c.fall.ensures.many, len, omega (arith, c.fall.ensures.height.0, c.take_alone.ensures.size.level, c.self.invariant.2))

pub returns-in-Some-clause-value : goal.returns-in-Some-clause-value
returns-in-Some-clause-value g c = rw (← c.self.view_is) (found_alone g.K.Ord.cmp g.met.K.Ord.total (g.P.Point.before c.args.past.now) (g.met.P.Point.downward c.args.past.now) c.args.key.now c.in-Some.value c.self.inside.root.pairs c.take_alone.new.self.pairs c.self.invariant.0.sorted c.in-Some.ensures.taken)

pub returns-in-Some-clause-pairs : goal.returns-in-Some-clause-pairs
returns-in-Some-clause-pairs g c = rw (← c.self.view_is) (λ some. c.fall.ensures.pairs ∙ without_alone g.K.Ord.cmp g.met.K.Ord.total (g.P.Point.before c.args.past.now) (g.met.P.Point.downward c.args.past.now) c.args.key.now c.in-Some.value c.self.inside.root.pairs c.take_alone.new.self.pairs c.self.invariant.0.sorted c.in-Some.ensures.taken)

pub returns-in-Some-clause-alone : goal.returns-in-Some-clause-alone
returns-in-Some-clause-alone g c = rw (← c.self.view_is) (λ some. none_before g.K.Ord.cmp g.met.K.Ord.total (g.P.Point.before c.args.past.now) (g.met.P.Point.downward c.args.past.now) c.args.key.now c.in-Some.value c.self.inside.root.pairs c.take_alone.new.self.pairs c.self.invariant.0.sorted c.in-Some.ensures.taken)
