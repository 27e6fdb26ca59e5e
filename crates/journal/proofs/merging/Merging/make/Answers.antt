use Rattle.std.proofs.Common.{sym, subst}
use Rattle.journal.proofs.Rising.{Made, sorted_rest, set_made, pass_made, add_made, none_made}
use Rattle.journal.proofs.merging.Merging.make.Goals as goal

pub keep_before-requires : goal.keep_before-requires
keep_before-requires c = sorted_rest c.args.self.now.done c.args.self.now.left c.requires.sorted

pub returns-in-true-Some-clause-made : goal.returns-in-true-Some-clause-made
returns-in-true-Some-clause-made c = (subst (λ o. Made c.args.key o c.args.self.now c.set.new.self) (sym c.in-true-Some.is-1) (set_made c.args.key c.in-true-Some.value c.args.self.now c.keep_before.new.self c.set.new.self (record { all = c.keep_before.ensures.all; before = c.keep_before.ensures.before c.requires.behind; from = c.keep_before.ensures.from; room = c.keep_before.ensures.room; sorted = c.requires.sorted }) (sym c.in-true-Some.ensures) c.set.ensures)).made

pub returns-in-true-Some-clause-behind : goal.returns-in-true-Some-clause-behind
returns-in-true-Some-clause-behind c = (subst (λ o. Made c.args.key o c.args.self.now c.set.new.self) (sym c.in-true-Some.is-1) (set_made c.args.key c.in-true-Some.value c.args.self.now c.keep_before.new.self c.set.new.self (record { all = c.keep_before.ensures.all; before = c.keep_before.ensures.before c.requires.behind; from = c.keep_before.ensures.from; room = c.keep_before.ensures.room; sorted = c.requires.sorted }) (sym c.in-true-Some.ensures) c.set.ensures)).behind

pub returns-in-true-None-clause-made : goal.returns-in-true-None-clause-made
returns-in-true-None-clause-made c = (subst (λ o. Made c.args.key o c.args.self.now c.pass.new.self) (sym c.in-true-None.is-1) (pass_made c.args.key c.args.self.now c.keep_before.new.self c.pass.new.self (record { all = c.keep_before.ensures.all; before = c.keep_before.ensures.before c.requires.behind; from = c.keep_before.ensures.from; room = c.keep_before.ensures.room; sorted = c.requires.sorted }) (sym c.in-true-None.ensures) c.pass.ensures)).made

pub returns-in-true-None-clause-behind : goal.returns-in-true-None-clause-behind
returns-in-true-None-clause-behind c = (subst (λ o. Made c.args.key o c.args.self.now c.pass.new.self) (sym c.in-true-None.is-1) (pass_made c.args.key c.args.self.now c.keep_before.new.self c.pass.new.self (record { all = c.keep_before.ensures.all; before = c.keep_before.ensures.before c.requires.behind; from = c.keep_before.ensures.from; room = c.keep_before.ensures.room; sorted = c.requires.sorted }) (sym c.in-true-None.ensures) c.pass.ensures)).behind

pub returns-in-false-Some-clause-made : goal.returns-in-false-Some-clause-made
returns-in-false-Some-clause-made c = (subst (λ o. Made c.args.key o c.args.self.now c.add.new.self) (sym c.in-false-Some.is-1) (add_made c.args.key c.in-false-Some.value c.args.self.now c.keep_before.new.self c.add.new.self (record { all = c.keep_before.ensures.all; before = c.keep_before.ensures.before c.requires.behind; from = c.keep_before.ensures.from; room = c.keep_before.ensures.room; sorted = c.requires.sorted }) (sym c.in-false-Some.ensures) c.add.ensures)).made

pub returns-in-false-Some-clause-behind : goal.returns-in-false-Some-clause-behind
returns-in-false-Some-clause-behind c = (subst (λ o. Made c.args.key o c.args.self.now c.add.new.self) (sym c.in-false-Some.is-1) (add_made c.args.key c.in-false-Some.value c.args.self.now c.keep_before.new.self c.add.new.self (record { all = c.keep_before.ensures.all; before = c.keep_before.ensures.before c.requires.behind; from = c.keep_before.ensures.from; room = c.keep_before.ensures.room; sorted = c.requires.sorted }) (sym c.in-false-Some.ensures) c.add.ensures)).behind

pub returns-clause-made : goal.returns-clause-made
returns-clause-made c = (subst (λ o. Made c.args.key o c.args.self.now c.keep_before.new.self) (sym c.in-false-None.is-1) (none_made c.args.key c.args.self.now c.keep_before.new.self (record { all = c.keep_before.ensures.all; before = c.keep_before.ensures.before c.requires.behind; from = c.keep_before.ensures.from; room = c.keep_before.ensures.room; sorted = c.requires.sorted }) (sym c.in-false-None.ensures))).made

pub returns-clause-behind : goal.returns-clause-behind
returns-clause-behind c = (subst (λ o. Made c.args.key o c.args.self.now c.keep_before.new.self) (sym c.in-false-None.is-1) (none_made c.args.key c.args.self.now c.keep_before.new.self (record { all = c.keep_before.ensures.all; before = c.keep_before.ensures.before c.requires.behind; from = c.keep_before.ensures.from; room = c.keep_before.ensures.room; sorted = c.requires.sorted }) (sym c.in-false-None.ensures))).behind
