use Rattle.std.proofs.Common.{rules, List, ℕ, length, ◌<◌, sym, ap, subst, ◌∙◌}
use Rattle.std.specs.Prelude.{◌==◌}
use Rattle.key_codec.specs.Shown.{AreKeys}
use Rattle.key_codec.proofs.Showing.{HasNext, next_of, last_alone, last_later, none_last, rest_less}
use Rattle.key_codec.proofs.shown.+last_key.Goals as goal

pub returns-then-is_empty : goal.returns-then-is_empty
returns-then-is_empty t c = λ ss a e. none_last c.args.keys.now ss a e (sym c.if-is_empty.ensures)

pub first_subscript-requires : goal.first_subscript-requires
first_subscript-requires t c =
    let next : HasNext c.args.keys.now = next_of c.args.keys.now c.requires (sym c.if-is_empty.ensures) in
    next.first

pub last_key-requires : goal.last_key-requires
last_key-requires t c =
    let next : HasNext c.args.keys.now = next_of c.args.keys.now c.requires (sym c.if-is_empty.ensures) in
    let keys : AreKeys c.first_subscript.result.1.now = subst AreKeys (sym c.first_subscript.ensures.rest) next.rest in
    let less : length c.first_subscript.result.1.now < length c.args.keys.now = subst (λ u. length u < length c.args.keys.now) (sym c.first_subscript.ensures.rest) (rest_less c.args.keys.now next.first) in
    search rules

pub returns-then-is_empty-2 : goal.returns-then-is_empty-2
returns-then-is_empty-2 t c = λ ss a e. last_alone c.args.keys.now ss a e (ap (λ (u : List ℕ). length u == 0) (sym c.first_subscript.ensures.rest) ∙ sym c.if-is_empty-2.ensures)

pub returns-else-is_empty-2 : goal.returns-else-is_empty-2
returns-else-is_empty-2 t c = λ ss a e.
    last_later c.args.keys.now c.last_key.result.now ss a e (sym c.if-is_empty.ensures) (ap (λ (u : List ℕ). length u == 0) (sym c.first_subscript.ensures.rest) ∙ sym c.if-is_empty-2.ensures)
    (λ rs b k. sym c.first_subscript.ensures.rest ∙ c.last_key.ensures rs b (c.first_subscript.ensures.rest ∙ k))
