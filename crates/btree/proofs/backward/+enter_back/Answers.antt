use Rattle.std.proofs.Common.{◌≡◌, ◌<◌, ◌+◌, ◌-◌, ◌∙◌, ◌++◌, ap, sym, subst, arith, rules, length, reverse, take, append_assoc}
use Rattle.std.proofs.lemmas.List.{reverse-append}
use Rattle.btree.specs.Parts.{flat}
use Rattle.btree.specs.Walk.{left_back_of}
use Rattle.btree.proofs.Nodes.{leaf_row, inner_pairs, inner_level}
use Rattle.btree.proofs.Walks.{room_in, room_taken, room_at, flat_last}
use Rattle.btree.proofs.backward.+enter_back.Goals as goal

pub returns-in-empty-clause-left : goal.returns-in-empty-clause-left
returns-in-empty-clause-left g t c =
    let none : length c.rows.result.2.now ≡ 0 = omega (arith, c.in-empty.len_below) in
    ap (λ zs. reverse zs ++ left_back_of c.args.path.now.items) (sym (leaf_row g.K.Ord.cmp c.args.node.now c.rows.result.0.now c.rows.result.1.now c.rows.result.2.now c.rows.ensures.same_view c.rows.ensures.sound none))

pub returns-in-empty-clause-some : goal.returns-in-empty-clause-some
returns-in-empty-clause-some g t c = λ p.
    let none : length c.rows.result.2.now ≡ 0 = omega (arith, c.in-empty.len_below) in
    subst (λ zs. 0 < length zs) (leaf_row g.K.Ord.cmp c.args.node.now c.rows.result.0.now c.rows.result.1.now c.rows.result.2.now c.rows.ensures.same_view c.rows.ensures.sound none) p

pub push_left-requires : goal.push_left-requires
push_left-requires g t c =
    let some : length c.rows.result.2.now ≡ 0 → ⊥ = λ e. omega (arith, e) in
    let level = inner_level g.K.Ord.cmp c.args.node.now c.rows.result.0.now c.rows.result.1.now c.rows.result.2.now c.rows.ensures.same_view c.rows.ensures.sound some (length c.rows.result.2.now - 1) c.last-item.result (omega arith) in
    let below = room_taken (length c.args.path.now.items) (length c.rows.result.2.now - 1) c.rows.result.2.now (room_in g.K.Ord.cmp (length c.args.path.now.items) c.rows.result.0.now c.rows.result.1.now c.rows.result.2.now c.args.node.now c.rows.ensures.same_view c.rows.ensures.sound c.requires.room) in
    (omega arith, (omega (arith, level, c.requires.room), (c.requires.path, below)))

pub enter_back-requires : goal.enter_back-requires
enter_back-requires g t c κs within =
    let some : length c.rows.result.2.now ≡ 0 → ⊥ = λ e. omega (arith, e) in
    let height = inner_level g.K.Ord.cmp c.args.node.now c.rows.result.0.now c.rows.result.1.now c.rows.result.2.now c.rows.ensures.same_view c.rows.ensures.sound some (length c.rows.result.2.now - 1) c.last-item.result (omega arith) in
    let level : c.last-item.result.height + 1 ≡ c.args.node.now.height = omega (arith, height, ap (λ b. b.height) c.last-item.is) in
    let path = c.push_left.ensures.path in
    let room : length c.push_left.new.path.items + c.last-item.result.height < 16 = omega (arith, level, c.push_left.ensures.length, c.requires.room) in
    search rules

pub returns-in-len1-up-clause-left : goal.returns-in-len1-up-clause-left
returns-in-len1-up-clause-left g t c =
    let some : length c.rows.result.2.now ≡ 0 → ⊥ = λ e. omega (arith, e) in
    let earlier = flat (take (length c.rows.result.2.now - 1) c.rows.result.2.now) in
    let here = inner_pairs g.K.Ord.cmp c.args.node.now c.rows.result.0.now c.rows.result.1.now c.rows.result.2.now c.rows.ensures.same_view c.rows.ensures.sound some ∙ flat_last c.rows.result.2.now c.last-item.result (omega arith) ∙ ap (λ b. earlier ++ b.pairs) (sym c.last-item.is) in
    let back = ap reverse here ∙ reverse-append earlier c.last-item.result.pairs in
    c.enter_back.ensures.left ∙ ap (λ zs. reverse c.last-item.result.pairs ++ zs) c.push_left.ensures.back
    ∙ sym (append_assoc (reverse c.last-item.result.pairs) (reverse earlier) (left_back_of c.args.path.now.items)) ∙ ap (λ zs. zs ++ left_back_of c.args.path.now.items) (sym back)

pub returns-in-len1-up-clause-some : goal.returns-in-len1-up-clause-some
returns-in-len1-up-clause-some g t c = λ _.
    let room = room_in g.K.Ord.cmp (length c.args.path.now.items) c.rows.result.0.now c.rows.result.1.now c.rows.result.2.now c.args.node.now c.rows.ensures.same_view c.rows.ensures.sound c.requires.room in
    c.enter_back.ensures.some (subst (λ b. 0 < length b.pairs) (sym c.last-item.is) (room_at (length c.args.path.now.items) c.rows.result.2.now (length c.rows.result.2.now - 1) c.last-item.result (omega arith) room).1)
