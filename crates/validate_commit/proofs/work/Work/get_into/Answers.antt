use Rattle.std.proofs.Common.{◌≡◌, ◌++◌, ◌∷◌, ℕ, List, [], true, false, refl, sym, ap, subst, length, ◌∙◌}
use Rattle.std.specs.Prelude.{None, IfOk, OnOk, unwrap_or}
use Rattle.std.specs.FinMap as finmap
use Rattle.std.proofs.lemmas.Result.{on_ok_weaker}
use Rattle.command.specs.declared.access.DataCommand.TheVariants.{Look}
use Rattle.command.specs.declared.access.Look.TheVariants.{Get}
use Rattle.command.specs.declared.access.Answer.TheVariants.{Value}
use Rattle.validate_commit.specs.Working.{Working, IsWorkOn}
use Rattle.validate_commit.proofs.ByReference.{own_value, value_below, got_next, on_ok_both}
use Rattle.validate_commit.proofs.work.Work.get_into.Goals as goal

pub returns-then-not-decides-clause-exchanges : goal.returns-then-not-decides-clause-exchanges
returns-then-not-decides-clause-exchanges g c =
    let key = c.args.key.now in
    let m = g.V.OrderedView.content c.args.view.now in
    let was = subst (λ (w : Working). IsWorkOn w m) (sym c.self.view_is) c.requires.work in
    let own = sym c.decides.ensures ∙ c.if-not-decides.true in
    let same = c.bytes_of-found.ensures ∙ ap (λ o. unwrap_or o []) c.get.ensures ∙ value_below _ m key was own in
    rw (← c.self.view_is) (on_ok_weaker c.keep_copied.result (λ more. more ∙ ap (λ (v : List ℕ). c.self.inside.exchanges ++ record { command = Look (Get key None); answer = Value v } ∷ []) same) c.keep_copied.ensures.exchanges)

pub returns-then-not-decides-clause-size : goal.returns-then-not-decides-clause-size
returns-then-not-decides-clause-size g c =
    let key = c.args.key.now in
    let m = g.V.OrderedView.content c.args.view.now in
    let was = subst (λ (w : Working). IsWorkOn w m) (sym c.self.view_is) c.requires.work in
    let own = sym c.decides.ensures ∙ c.if-not-decides.true in
    let same = c.bytes_of-found.ensures ∙ ap (λ o. unwrap_or o []) c.get.ensures ∙ value_below _ m key was own in
    rw (← c.self.view_is) (subst (λ (v : List ℕ). IfOk c.keep_copied.result (λ size. size ≡ length v)) same c.keep_copied.ensures.size)

pub returns-then-not-decides-clause-copied : goal.returns-then-not-decides-clause-copied
returns-then-not-decides-clause-copied g c =
    let key = c.args.key.now in
    let m = g.V.OrderedView.content c.args.view.now in
    let was = subst (λ (w : Working). IsWorkOn w m) (sym c.self.view_is) c.requires.work in
    let own = sym c.decides.ensures ∙ c.if-not-decides.true in
    let same = c.bytes_of-found.ensures ∙ ap (λ o. unwrap_or o []) c.get.ensures ∙ value_below _ m key was own in
    rw (← c.self.view_is) (subst (λ (v : List ℕ). OnOk c.keep_copied.result (c.keep_copied.new.values.items ≡ c.args.values.now.items ++ v)) same c.keep_copied.ensures.copied)

pub returns-then-not-decides-clause-work : goal.returns-then-not-decides-clause-work
returns-then-not-decides-clause-work g c =
    let key = c.args.key.now in
    let m = g.V.OrderedView.content c.args.view.now in
    let was = subst (λ (w : Working). IsWorkOn w m) (sym c.self.view_is) c.requires.work in
    let own = sym c.decides.ensures ∙ c.if-not-decides.true in
    let same = c.bytes_of-found.ensures ∙ ap (λ o. unwrap_or o []) c.get.ensures ∙ value_below _ m key was own in
    on_ok_both c.keep_copied.result (λ more noted. got_next _ _ m key _ false was same own more noted refl refl) c.keep_copied.ensures.exchanges c.keep_copied.ensures.ranges

pub returns-clause-exchanges : goal.returns-clause-exchanges
returns-clause-exchanges g c =
    let key = c.args.key.now in
    let m = g.V.OrderedView.content c.args.view.now in
    let was = subst (λ (w : Working). IsWorkOn w m) (sym c.self.view_is) c.requires.work in
    let own = sym c.decides.ensures ∙ c.if-not-decides.false in
    let same = c.bytes_of-found-2.ensures ∙ ap (λ o. unwrap_or o []) (c.get-2.ensures ∙ ap (λ d. finmap.get d key) c.written.ensures) ∙ own_value _ m key was own in
    rw (← c.self.view_is) (on_ok_weaker c.keep_copied-2.result (λ more. more ∙ ap (λ (v : List ℕ). c.self.inside.exchanges ++ record { command = Look (Get key None); answer = Value v } ∷ []) same) c.keep_copied-2.ensures.exchanges)

pub returns-clause-size : goal.returns-clause-size
returns-clause-size g c =
    let key = c.args.key.now in
    let m = g.V.OrderedView.content c.args.view.now in
    let was = subst (λ (w : Working). IsWorkOn w m) (sym c.self.view_is) c.requires.work in
    let own = sym c.decides.ensures ∙ c.if-not-decides.false in
    let same = c.bytes_of-found-2.ensures ∙ ap (λ o. unwrap_or o []) (c.get-2.ensures ∙ ap (λ d. finmap.get d key) c.written.ensures) ∙ own_value _ m key was own in
    rw (← c.self.view_is) (subst (λ (v : List ℕ). IfOk c.keep_copied-2.result (λ size. size ≡ length v)) same c.keep_copied-2.ensures.size)

pub returns-clause-copied : goal.returns-clause-copied
returns-clause-copied g c =
    let key = c.args.key.now in
    let m = g.V.OrderedView.content c.args.view.now in
    let was = subst (λ (w : Working). IsWorkOn w m) (sym c.self.view_is) c.requires.work in
    let own = sym c.decides.ensures ∙ c.if-not-decides.false in
    let same = c.bytes_of-found-2.ensures ∙ ap (λ o. unwrap_or o []) (c.get-2.ensures ∙ ap (λ d. finmap.get d key) c.written.ensures) ∙ own_value _ m key was own in
    rw (← c.self.view_is) (subst (λ (v : List ℕ). OnOk c.keep_copied-2.result (c.keep_copied-2.new.values.items ≡ c.args.values.now.items ++ v)) same c.keep_copied-2.ensures.copied)

pub returns-clause-work : goal.returns-clause-work
returns-clause-work g c =
    let key = c.args.key.now in
    let m = g.V.OrderedView.content c.args.view.now in
    let was = subst (λ (w : Working). IsWorkOn w m) (sym c.self.view_is) c.requires.work in
    let own = sym c.decides.ensures ∙ c.if-not-decides.false in
    let same = c.bytes_of-found-2.ensures ∙ ap (λ o. unwrap_or o []) (c.get-2.ensures ∙ ap (λ d. finmap.get d key) c.written.ensures) ∙ own_value _ m key was own in
    on_ok_both c.keep_copied-2.result (λ more noted. got_next _ _ m key _ true was same own more noted refl refl) c.keep_copied-2.ensures.exchanges c.keep_copied-2.ensures.ranges
