use Rattle.std.proofs.Common.{ap, length, sym, ◌∙◌}
use Rattle.std.proofs.lemmas.Bool.{false≢true}
use Rattle.std.proofs.lemmas.Bool.Decides.{Decides-eqb}
use Rattle.std.proofs.lemmas.List.{nil_from_length}
use Rattle.fib_follow_looked.proofs.Finding.{fresh_entry, fresh_gone}
use Rattle.fib_follow_looked.proofs.host.made_of.Goals as goal

pub returns-then-is_empty-clause-fresh : goal.returns-then-is_empty-clause-fresh
returns-then-is_empty-clause-fresh c = λ h.
    fresh_gone c.args.config.now.tables c.args.e c.in_ok-found.found.items c.args.around.now
    (sym c.as_slice.ensures.value ∙ nil_from_length c.as_slice.result.now ((Decides-eqb (length c.as_slice.result.now) 0).0 (sym c.is_empty.ensures ∙
    c.if-is_empty.true)))
    c.in_ok-found.ensures h

pub returns-clause-fresh : goal.returns-clause-fresh
returns-clause-fresh c = λ h.
    fresh_entry c.args.config.now.tables c.args.e c.in_ok-found.found.items c.from_vec.result c.args.around.now c.cover_of.result c.from_vec.ensures
    c.cover_of.ensures
    (λ none. false≢true (sym c.if-is_empty.false
    ∙ (c.is_empty.ensures ∙ (Decides-eqb (length c.as_slice.result.now) 0).1 (ap length (c.as_slice.ensures.value ∙ none)))))
    c.in_ok-found.ensures h
