use Rattle.std.proofs.Common.{◌≡◌, ◌++◌, ◌∷◌, [], ◌-◌, ◌∙◌, OnOk, length, take, drop, map, replicate, append_assoc, ap, sym, subst, arith}
use Rattle.canonic_number.specs.Place.{pointed}
use Rattle.key_codec.specs.Reading.{digit_of}
use Rattle.key_codec.proofs.Showing.{pointed_few, pointed_many}
use Rattle.key_codec.proofs.number_bytes.push_pointed.Goals as goal

pub returns-in_ok-push_digits-clause-ok : goal.returns-in_ok-push_digits-clause-ok
returns-in_ok-push_digits-clause-ok c =
    let out = c.args.out.now.items in
    let few = pointed_few (digit_of c.args.negative) c.args.whole c.args.bytes.now (omega (arith, c.if-bytes-whole.true)) in
    let zeros = replicate (c.args.whole - length c.args.bytes.now) 48 in
    let all : c.push_digits.new.out.items ++ zeros ≡ out ++ pointed c.args.whole (map (digit_of c.args.negative) c.args.bytes.now) =
    ap (λ t. t ++ zeros) c.in_ok-push_digits.ensures.ok ∙ append_assoc out (map (digit_of c.args.negative) c.args.bytes.now) zeros ∙ ap (λ t. out ++ t) (sym few) in
    subst (λ t. OnOk c.push_zeros.result (c.push_zeros.new.out.items ≡ t)) all c.push_zeros.ensures.ok

pub returns-in_ok-push-clause-ok : goal.returns-in_ok-push-clause-ok
returns-in_ok-push-clause-ok c =
    let f = digit_of c.args.negative in
    let out = c.args.out.now.items in
    let front = take c.args.whole c.args.bytes.now in
    let back = drop c.args.whole c.args.bytes.now in
    let many = pointed_many f c.args.whole c.args.bytes.now (omega (arith, c.if-bytes-whole.false)) in
    let pushed = c.in_ok-push.ensures in
    let first : c.push_digits-else-bytes-whole.new.out.items ≡ out ++ map f front = c.in_ok-push_digits-2.ensures.ok ∙ ap (λ t. out ++ map f t) c.split_at.ensures.front in
    let all : c.push.new.self.items ++ map f c.split_at.result.1.now ≡ out ++ pointed c.args.whole (map f c.args.bytes.now) =
    ap (λ t. c.push.new.self.items ++ map f t) c.split_at.ensures.back ∙ ap (λ t. t ++ map f back) (pushed.items ∙ ap (λ t. t ++ 46 ∷ []) first)
    ∙ append_assoc (out ++ map f front) (46 ∷ []) (map f back) ∙ append_assoc out (map f front) (46 ∷ map f back) ∙ ap (λ t. out ++ t) (sym many) in
    subst (λ t. OnOk c.push_digits-else-bytes-whole-2.result (c.push_digits-else-bytes-whole-2.new.out.items ≡ t)) all c.push_digits-else-bytes-whole-2.ensures.ok
