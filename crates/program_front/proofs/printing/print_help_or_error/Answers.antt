use Rattle.std.proofs.Common.{◌≡◌, ◌∙◌, true, false, sym}
use Rattle.program_front.proofs.printing.print_help_or_error.Goals as goal

-- nothing but help and the version is printed there
pub returns-in-Ok-clause-wrong : goal.returns-in-Ok-clause-wrong
returns-in-Ok-clause-wrong g c = λ help version. let never : true ≡ false = sym (c.use_stderr.ensures.1 (help, version)) ∙ c.if-use_stderr.false in absurd (cc)
