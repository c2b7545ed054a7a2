use Rattle.std.proofs.Common.{◌∙◌, sym, ap, subst}
use Rattle.std.specs.Prelude.{Contains}
use Rattle.fib_base_list.proofs.Lists.{Contains-nil}
use Rattle.fib_resolve.proofs.Entries.{chosen-no_entry}
use Rattle.fib_resolve_pairs.specs.Numbers.{number_in}
use Rattle.fib_resolve_pairs.proofs.Numbers.{unnumbered}
use Rattle.fib_resolve_pairs.proofs.meaning.Meaning.is_looped.Goals as goal

pub returns-in-None : goal.returns-in-None
returns-in-None c =
    let S = c.args.self.now in
    let none = chosen-no_entry S c.args.e (unnumbered S c.args.e (sym (ap (λ T. number_in T c.args.e) c.self.view_is) ∙ (sym c.number.ensures.value ∙ c.in-None.is))) in
    absurd (Contains-nil c.args.p.now (subst (λ l. Contains l c.args.p.now) none c.requires))
