use Rattle.std.proofs.Common.{◌≡◌, ◌+◌, ◌++◌, ◌∷◌, ◌∙◌, [], List, ap, sym, length, length-append, append_assoc, take, arith}
use Rattle.std.specs.Prelude.{map, Ok}
use Rattle.std.proofs.lemmas.List.{map_more}
use Rattle.collation.specs.Reference.{Reference}
use Rattle.command.specs.declared.access.Answer.TheVariants.{Value}
use Rattle.command.specs.declared.request.Reply.{Reply}
use Rattle.command.specs.declared.request.Reply.TheVariants.{Answered}
use Rattle.journal.specs.declared.unit.Unit.{Unit as JournalUnit}
use Rattle.journal.specs.Gathered.{Gathered, got}
use Rattle.journal.specs.History.{initial, after}
use Rattle.job_core.specs.Lent.{value_at}
use Rattle.shared_engine.proofs.Holding.{got_told}
use Rattle.shared_engine.proofs.locked.Locked.gather_each.Goals as goal

pub loop-key-preserved : goal.loop-key-preserved
loop-key-preserved c =
    let before = c.loop-key.invariant in
    let did = c.in_ok-size.ensures in
    let keys = c.args.keys.now in
    let i = c.loop-key.key-index in
    let key = c.key-item.result in
    let job = c.args.gets.now.job in
    let m = (after c.args.self.now.core.units initial).map in
    let value = value_at key m in
    let t = c.loop-key.told-inside in
    let unit : Reference → JournalUnit = λ r. got job r (value_at r m) in
    let reply : Reference → Reply = λ r. Answered (Value (value_at r m)) in
    let within = c.loop-key-test.true in
    let told = got_told t.tags.items c.push_reserved.new.self.items t.values.items c.gather_get.new.values.items value t.answers.items (Ok c.in_ok-size.size) c.push_reserved.ensures.items did.size did.copied tt before.told in
    record {
      in_range = omega (arith, within);
      job = ap (λ (g : Gathered). g.job) did.gathered ∙ before.job;
      gathered = ap (λ (g : Gathered). g.units) did.gathered ∙ ((λ k. before.gathered k ++ got (before.job k) key value ∷ []) ∙ (append_assoc c.args.gets.now.units (map unit (take i keys)) (unit key ∷ []) ∙ ap (λ us. c.args.gets.now.units ++ us) (sym (map_more unit keys i key within ∙ ap (λ r. map unit (take i keys) ++ unit r ∷ []) (sym c.key-item.is)))));
      told = told.0;
      served = told.1 ∙ (ap (λ (rs : List Reply). rs ++ Answered (Value value) ∷ []) before.served ∙ (append_assoc c.args.told.now.served (map reply (take i keys)) (reply key ∷ []) ∙ ap (λ rs. c.args.told.now.served ++ rs) (sym (map_more reply keys i key within ∙ ap (λ r. map reply (take i keys) ++ reply r ∷ []) (sym c.key-item.is)))));
      count = omega (arith, ap length c.push_reserved.ensures.items, length-append t.tags.items (c.push_reserved.new.self.items), before.count);
      capacity = c.push_reserved.ensures.capacity ∙ before.capacity;
      answers = before.answers;
    }
