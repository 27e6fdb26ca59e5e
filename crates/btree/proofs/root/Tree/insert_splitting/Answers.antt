use Rattle.std.proofs.Common.{◌≡◌, ◌-◌, ◌+◌, IsSome, refl, sym, length, ap, subst, ◌∙◌, arith, cond, is_some}
use Rattle.std.specs.FinMap.Entries.{put}
use Rattle.btree.specs.Rows.{HasBecome}
use Rattle.btree.proofs.Roots.{root_kept, root_risen, length_put, low}
use Rattle.btree.proofs.root.Tree.insert_splitting.Goals as goal

pub invariant_of-self-in-Some-1 : goal.invariant_of-self-in-Some-1
invariant_of-self-in-Some-1 g c =
    let grown = subst (λ s. HasBecome g.K.Ord.cmp c.self.inside.root.count c.self.inside.root.height (put g.K.Ord.cmp c.args.key c.args.value c.self.inside.root.pairs) c.insert.new.self s) c.in-Some.is c.in_ok-before.ensures.grown in
    let count = c.count.ensures ∙ ap (λ v. cond (is_some v) 1 0) c.in_ok-before.ensures.before in
    let size = length_put g.K.Ord.cmp g.met.K.Ord.total c.self.inside.root c.self.invariant.0 c.args.key c.args.value c.rise.new.self.pairs (c.rise.ensures.pairs ∙ grown.2) in
    let split = subst IsSome (sym c.in-Some.is) refl in
    let fresh = sym c.in_ok-before.ensures.before ∙ c.in_ok-before.ensures.fresh split in
    let root = root_risen g.K.Ord.cmp g.met.K.Ord.total c.self.inside.root c.self.invariant.0 c.args.key c.args.value c.insert.new.self c.in-Some.beside.1 c.rise.new.self grown.0 grown.1 grown.2 (c.in_ok-before.ensures.only_full split) fresh c.rise.ensures.pairs c.rise.ensures.height c.rise.ensures.count c.rise.ensures.sizes in
    let len : c.self.inside.len + (1 - c.count.result) ≡ length c.rise.new.self.pairs = omega (arith, size, count, c.self.invariant.1) in
    (root, len, low g.K.Ord.cmp c.rise.new.self root (omega arith))

pub invariant_of-self-in-None-1 : goal.invariant_of-self-in-None-1
invariant_of-self-in-None-1 g c =
    let grown = subst (λ s. HasBecome g.K.Ord.cmp c.self.inside.root.count c.self.inside.root.height (put g.K.Ord.cmp c.args.key c.args.value c.self.inside.root.pairs) c.insert.new.self s) c.in_default-beside.is c.in_ok-before.ensures.grown in
    let count = c.count.ensures ∙ ap (λ v. cond (is_some v) 1 0) c.in_ok-before.ensures.before in
    let size = length_put g.K.Ord.cmp g.met.K.Ord.total c.self.inside.root c.self.invariant.0 c.args.key c.args.value c.insert.new.self.pairs grown.1 in
    let root = root_kept g.K.Ord.cmp g.met.K.Ord.total c.self.inside.root c.self.invariant.0 c.args.key c.args.value c.insert.new.self grown.0 grown.1 in
    let len : c.self.inside.len + (1 - c.count.result) ≡ length c.insert.new.self.pairs = omega (arith, size, count, c.self.invariant.1) in
    (root, len, low g.K.Ord.cmp c.insert.new.self root (omega arith))
