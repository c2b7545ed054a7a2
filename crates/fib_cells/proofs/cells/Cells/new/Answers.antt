use Rattle.std.proofs.Common.{◌∙◌, ap, sym, subst, ◌∷◌, [], arith}
use Rattle.std.specs.Prelude.{replicate}
use Rattle.fib_core_lawful.specs.State.{control, first_control}
use Rattle.fib_core_rule.specs.Rule.{IsLawful}
use Rattle.fib_core_rule.proofs.Fresh.{fresh_lawful}
use Rattle.fib_cells.proofs.cells.Cells.new.Goals as goal

pub of_words-requires : goal.of_words-requires
of_words-requires c =
    subst (λ ws. IsLawful c.args.objects ws (control (first_control c.args.objects c.args.workers) ∷ []))
    (sym (c.as_slice.ensures.value ∙ c.in_ok-first.ensures ∙ ap (λ n. replicate n 0) c.words_for.ensures))
    (fresh_lawful c.args.objects c.args.workers (let least = c.requires.least in omega arith) c.requires.eight)
