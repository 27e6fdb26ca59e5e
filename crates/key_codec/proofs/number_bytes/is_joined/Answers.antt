use Rattle.std.proofs.Common.{◌≡◌, ◌++◌, sym, ap, ◌∙◌}
use Rattle.std.specs.Cmp.Lexicographic.{bytes_decides}
use Rattle.key_codec.proofs.Reading.{joined_test, other_front}
use Rattle.key_codec.proofs.number_bytes.is_joined.Goals as goal

pub returns-then-eq : goal.returns-then-eq
returns-then-eq c =
    let front : c.split_at.result.0.now ≡ c.args.first.now = (bytes_decides c.split_at.result.0.now c.args.first.now).0 (sym c.eq.ensures ∙ c.if-eq.true) in
    let all : c.args.all.now ≡ c.args.first.now ++ c.split_at.result.1.now = c.split_at.ensures.by_index.0 ∙ ap (λ x. x ++ c.split_at.result.1.now) front in
    joined_test c.args.all.now c.args.first.now c.args.second.now c.split_at.result.1.now c.eq-then-eq.result all c.split_at.ensures.back c.eq-then-eq.ensures

pub returns-else-eq : goal.returns-else-eq
returns-else-eq c = other_front c.args.all.now c.args.first.now c.args.second.now c.split_at.result.0.now c.eq.result c.split_at.ensures.front c.eq.ensures c.if-eq.false
