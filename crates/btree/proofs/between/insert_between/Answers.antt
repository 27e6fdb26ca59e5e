use Rattle.std.proofs.Common.{◌≡◌, IfSome, IsSome, refl, subst, sym, ap, ◌∙◌}
use Rattle.std.specs.Option.{option_map}
use Rattle.std.specs.List.{insert}
use Rattle.btree.specs.Parts.{IsWithin}
use Rattle.btree.specs.Gap.{IsPutIn}
use Rattle.btree.proofs.Leaves.{put_at, within_at}
use Rattle.btree.proofs.between.insert_between.Goals as goal

pub returns-clause-put : goal.returns-clause-put
returns-clause-put g c = λ _.
    let R = g.K.Ord.cmp in
    let key = c.in-Some.key in
    let value = c.in-Some.field-0-1 in
    let low = option_map (λ k. k.now) c.args.low in
    let high = option_map (λ k. k.now) c.args.high in
    let above = rw c.deref.ensures.value at (c.if-not-goes_to.ensures.above refl) in
    let below = rw c.deref.ensures.value at (c.if-not-goes_to.ensures.below refl) in
    let same : c.in-Some-take.pair ≡ (key, value) = cc (c.in-Some-take.is, c.take.ensures.value) in
    let items = c.insert_reserved.ensures.items ∙ ap (insert c.args.row.now.items c.args.at) same in
    subst (λ o. IfSome o (λ p. IsPutIn R p.0 p.1 c.args.row.now.items c.insert_reserved.new.row.items)) (sym c.in-Some.is)
    (put_at R g.met.K.Ord.total key low high c.args.at c.args.row.now.items c.requires.in_range c.requires.sorted c.requires.inside above below value c.insert_reserved.new.row.items items)

pub returns-clause-within : goal.returns-clause-within
returns-clause-within g c = λ _.
    let R = g.K.Ord.cmp in
    let key = c.in-Some.key in
    let low = option_map (λ k. k.now) c.args.low in
    let high = option_map (λ k. k.now) c.args.high in
    let above = rw c.deref.ensures.value at (c.if-not-goes_to.ensures.above refl) in
    let below = rw c.deref.ensures.value at (c.if-not-goes_to.ensures.below refl) in
    subst (λ o. IfSome o (λ p. IsWithin R low high p.0)) (sym c.in-Some.is)
    (within_at R g.met.K.Ord.total key low high c.args.at c.args.row.now.items c.requires.in_range c.requires.sorted c.requires.inside above below)

pub returns-clause-some : goal.returns-clause-some
returns-clause-some g c = λ _. subst IsSome (sym c.in-Some.is) refl
