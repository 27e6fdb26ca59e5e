use Rattle.std.proofs.Common.{◌≡◌, [], ◌∷◌, ◌++◌, ap, sym, ◌∙◌, refl, rules}
use Rattle.std.proofs.lemmas.List.{append-nil}
use Rattle.std.specs.Prelude.{cond}
use Rattle.version_store.proofs.SeenLemmas.{seen_more}
use Rattle.version_store.proofs.turn.Seen.add.Goals as goal

pub returns-in_ok-push : goal.returns-in_ok-push
returns-in_ok-push c =
    let ks = c.args.self.now.keys.items in
    let pushed : c.push.new.self.items ≡ ks ++ c.args.key.now ∷ [] = search rules in
    let copied = pushed ∙ ap (λ b. ks ++ cond b [] (c.args.key.now ∷ [])) (sym (sym c.is_alone.ensures ∙ c.if-not-is_alone.true)) in
    λ ps seen. seen_more c.args.chains.now ps (c.args.key.now, c.args.id) _ _ _ _ _ _ refl refl copied seen

pub returns-else-not-is_alone : goal.returns-else-not-is_alone
returns-else-not-is_alone c =
    let ks = c.args.self.now.keys.items in
    let copied = sym (append-nil ks) ∙ ap (λ b. ks ++ cond b [] (c.args.key.now ∷ [])) (sym (sym c.is_alone.ensures ∙ c.if-not-is_alone.false)) in
    λ ps seen. seen_more c.args.chains.now ps (c.args.key.now, c.args.id) _ _ _ _ _ _ refl refl copied seen
