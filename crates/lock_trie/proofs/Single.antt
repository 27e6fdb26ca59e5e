-- One job with its count, and another beside it.
use Rattle.std.proofs.Common.{zero, suc, ◌≡◌, ◌+◌, ℕ, [], Bool, true, false, refl, sym, ap, ◌∙◌, arith}
use Rattle.std.specs.Prelude.{cond, Some, None, unwrap_or, Result, Ok, Err, IfOk}
use Rattle.std.specs.Ordering.{nat_cmp, eq_by_cmp}
use Rattle.lock_trie.specs.Holders.{counted, one_of, IsCounted}
use Rattle.lock_trie.proofs.Holding.{Jobs}

counted_one : (j c q : ℕ) → counted (one_of j c) q ≡ cond (eq_by_cmp nat_cmp q j) c 0
counted_one j zero q = by_test (eq_by_cmp nat_cmp q j)
  where
    by_test : (b : Bool) → ◌≡◌ {A = ℕ} 0 (cond b 0 0)
    by_test true = refl
    by_test false = refl
counted_one j (suc c) q = by_test (eq_by_cmp nat_cmp q j)
  where
    by_test : (b : Bool) → unwrap_or (cond b (Some (suc c)) None) 0 ≡ cond b (suc c) 0
    by_test true = refl
    by_test false = refl

pub two_counted : {E : Type 0} (r : Result Jobs E) (first mid last : Jobs) (held count job n : ℕ) → first ≡ [] → IsCounted first mid held (counted first held + count) → IsCounted mid last job (counted mid job + n) → IfOk r (λ two. two ≡ last) → IfOk r (λ two. IsCounted (one_of held count) two job (counted (one_of held count) job + n))
two_counted (Err e) first mid last held count job n none one two is = tt
two_counted (Ok hs) first mid last held count job n none one two is = λ q.
    ap (λ z. counted z q) is ∙ two q ∙ ap (λ v. cond (eq_by_cmp nat_cmp q job) (v + n) (counted mid q)) (same job) ∙ ap (cond (eq_by_cmp nat_cmp q job) (counted (one_of held count) job + n)) (same q)
  where
    added : 0 + count ≡ count
    added = omega arith

    same : (q : ℕ) → counted mid q ≡ counted (one_of held count) q
    same q = one q ∙ ap (λ (z : Jobs). cond (eq_by_cmp nat_cmp q held) (counted z held + count) (counted z q)) none ∙ ap (λ v. cond (eq_by_cmp nat_cmp q held) v 0) added ∙ sym (counted_one held count q)
