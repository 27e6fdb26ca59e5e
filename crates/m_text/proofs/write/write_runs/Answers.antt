use Rattle.std.proofs.Common.{◌≡◌, ℕ, List, ◌++◌, ◌∷◌, ◌<◌, [], length, ap, ◌∙◌, append_assoc, arith}
use Rattle.std.proofs.lemmas.Bool.Decides.{nat_tests}
use Rattle.key_codec.specs.laws.Grown.{goes_on_more, goes_on_then}
use Rattle.m_text.specs.Written.{parted, run_text, runs}
use Rattle.m_text.proofs.Runs.{parted_more}
use Rattle.m_text.proofs.write.write_runs.Goals as goal

grown : (a b x y rest total : List ℕ) → b ≡ a ++ x → y ≡ b ++ 95 ∷ [] → a ++ (x ++ (95 ∷ rest)) ≡ total → y ++ rest ≡ total
grown a b x y rest total e f h = rw (f, e, append_assoc (a ++ x) (95 ∷ []) rest, append_assoc a x (95 ∷ rest)) h

pub runs-preserved : goal.runs-preserved
runs-preserved c =
    let after = c.split_run.result.1.now in
    let some : 0 < length after = grind (arith, nat_tests) in
    let all : parted 95 run_text (runs c.runs.rest.now) ≡ run_text c.split_run.result.0.now ++ (95 ∷ parted 95 run_text (runs after)) = ap (parted 95 run_text) c.split_run.ensures.runs ∙ parted_more c.split_run.result.0.now after some in
    let pushed = c.in_ok-push.ensures in
    record {
      written = grown c.runs.out.items c.write_run.new.out.items (run_text c.split_run.result.0.now) c.push.new.self.items (parted 95 run_text (runs after)) _ c.in_ok-write_run.ensures.ok pushed.items (rw (← all) c.runs.invariant.written);
      kept = goes_on_then _ _ _ c.runs.invariant.kept (goes_on_then _ _ _ c.in_ok-write_run.ensures.kept (goes_on_more _ _ _ pushed.items));
    }
