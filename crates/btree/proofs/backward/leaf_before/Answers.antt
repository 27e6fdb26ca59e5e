use Rattle.std.proofs.Common.{◌≡◌, ◌<◌, ◌+◌, ◌-◌, ◌∙◌, ◌++◌, ◌∷◌, [], ap, sym, subst, arith, length, reverse, take, append_assoc}
use Rattle.std.specs.Option.{option_to_list}
use Rattle.std.proofs.lemmas.List.{reverse-append}
use Rattle.btree.specs.Parts.{flat}
use Rattle.btree.specs.Walk.{left_back_of, HaveRoomBelow, IsPath}
use Rattle.btree.proofs.Walks.{left_back_push, path_pop, room_taken, room_at, flat_last}
use Rattle.btree.proofs.backward.leaf_before.Goals as goal

pub returns-in-empty-clause-left : goal.returns-in-empty-clause-left
returns-in-empty-clause-left g c =
    let items : c.args.path.now.items ≡ c.pop.new.self.items ++ c.in-Some.top ∷ [] = c.pop.ensures.items ∙ ap (λ o. c.pop.new.self.items ++ option_to_list o) c.in-Some.is in
    let path = path_pop 0 c.pop.new.self.items c.in-Some.top (subst (IsPath 0) items c.requires.path) in
    absurd (omega (arith, path.1, c.in-empty.len_below))

pub returns-in-empty-clause-path : goal.returns-in-empty-clause-path
returns-in-empty-clause-path g c =
    let items : c.args.path.now.items ≡ c.pop.new.self.items ++ c.in-Some.top ∷ [] = c.pop.ensures.items ∙ ap (λ o. c.pop.new.self.items ++ option_to_list o) c.in-Some.is in
    let path = path_pop 0 c.pop.new.self.items c.in-Some.top (subst (IsPath 0) items c.requires.path) in
    path.0

pub returns-in-empty-clause-end : goal.returns-in-empty-clause-end
returns-in-empty-clause-end g c =
    let items : c.args.path.now.items ≡ c.pop.new.self.items ++ c.in-Some.top ∷ [] = c.pop.ensures.items ∙ ap (λ o. c.pop.new.self.items ++ option_to_list o) c.in-Some.is in
    let path = path_pop 0 c.pop.new.self.items c.in-Some.top (subst (IsPath 0) items c.requires.path) in
    absurd (omega (arith, path.1, c.in-empty.len_below))

pub push_left-requires : goal.push_left-requires
push_left-requires g c =
    let items : c.args.path.now.items ≡ c.pop.new.self.items ++ c.in-Some.top ∷ [] = c.pop.ensures.items ∙ ap (λ o. c.pop.new.self.items ++ option_to_list o) c.in-Some.is in
    let path = path_pop 0 c.pop.new.self.items c.in-Some.top (subst (IsPath 0) items c.requires.path) in
    let rows : 0 + length c.pop.new.self.items ≡ length c.pop.new.self.items = omega arith in
    let below = subst (λ n. HaveRoomBelow n c.in-Some.top.kids.now) rows path.3 in
    (omega arith, (omega (arith, path.2), (path.0, room_taken (length c.pop.new.self.items) (length c.in-Some.top.kids.now - 1) c.in-Some.top.kids.now below)))

pub enter_back-requires : goal.enter_back-requires
enter_back-requires g c =
    let items : c.args.path.now.items ≡ c.pop.new.self.items ++ c.in-Some.top ∷ [] = c.pop.ensures.items ∙ ap (λ o. c.pop.new.self.items ++ option_to_list o) c.in-Some.is in
    let path = path_pop 0 c.pop.new.self.items c.in-Some.top (subst (IsPath 0) items c.requires.path) in
    let rows : 0 + length c.pop.new.self.items ≡ length c.pop.new.self.items = omega arith in
    let below = subst (λ n. HaveRoomBelow n c.in-Some.top.kids.now) rows path.3 in
    let room = room_at (length c.pop.new.self.items) c.in-Some.top.kids.now (length c.in-Some.top.kids.now - 1) c.kid-item.result (omega arith) below in
    (omega arith, (c.push_left.ensures.path, omega (arith, room.0, ap (λ b. b.height) c.kid-item.is, c.push_left.ensures.length)))

pub returns-in-len1-up-clause-left : goal.returns-in-len1-up-clause-left
returns-in-len1-up-clause-left g c =
    let items : c.args.path.now.items ≡ c.pop.new.self.items ++ c.in-Some.top ∷ [] = c.pop.ensures.items ∙ ap (λ o. c.pop.new.self.items ++ option_to_list o) c.in-Some.is in
    let path = path_pop 0 c.pop.new.self.items c.in-Some.top (subst (IsPath 0) items c.requires.path) in
    let earlier = flat (take (length c.in-Some.top.kids.now - 1) c.in-Some.top.kids.now) in
    ap left_back_of items ∙ left_back_push c.pop.new.self.items c.in-Some.top
    ∙ ap (λ zs. reverse zs ++ left_back_of c.pop.new.self.items) (flat_last c.in-Some.top.kids.now c.kid-item.result (omega arith) ∙ ap (λ b. earlier ++ b.pairs) (sym c.kid-item.is))
    ∙ ap (λ zs. zs ++ left_back_of c.pop.new.self.items) (reverse-append earlier c.kid-item.result.pairs) ∙ append_assoc (reverse c.kid-item.result.pairs) (reverse earlier) (left_back_of c.pop.new.self.items)
    ∙ ap (λ zs. reverse c.kid-item.result.pairs ++ zs) (sym c.push_left.ensures.back) ∙ sym c.enter_back.ensures.left

pub returns-in-len1-up-clause-end : goal.returns-in-len1-up-clause-end
returns-in-len1-up-clause-end g c = λ e.
    let items : c.args.path.now.items ≡ c.pop.new.self.items ++ c.in-Some.top ∷ [] = c.pop.ensures.items ∙ ap (λ o. c.pop.new.self.items ++ option_to_list o) c.in-Some.is in
    let path = path_pop 0 c.pop.new.self.items c.in-Some.top (subst (IsPath 0) items c.requires.path) in
    let rows : 0 + length c.pop.new.self.items ≡ length c.pop.new.self.items = omega arith in
    let below = subst (λ n. HaveRoomBelow n c.in-Some.top.kids.now) rows path.3 in
    let room = room_at (length c.pop.new.self.items) c.in-Some.top.kids.now (length c.in-Some.top.kids.now - 1) c.kid-item.result (omega arith) below in
    let some = c.enter_back.ensures.some (subst (λ b. 0 < length b.pairs) (sym c.kid-item.is) room.1) in
    absurd (omega (arith, some, ap length e))
