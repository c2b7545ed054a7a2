use Rattle.std.proofs.Common.{refl, sym, ap, ◌∙◌, subst, slice_get}
use Rattle.std.proofs.lemmas.Option.{slice_get_read, slice_get_past}
use Rattle.fib_entries_rows.specs.Known.{StandsFor}
use Rattle.fib_print_listing.specs.inner.Forwards.{AreForwarding}
use Rattle.fib_print_listing.proofs.Marks.{usable_there, usable_nowhere}
use Rattle.fib_print_listing.proofs.view.View.is_usable.Goals as goal

pub returns-in-Some : goal.returns-in-Some
returns-in-Some c =
    let S = c.args.self.now in
    let ks = c.self.inside.forwarding.keys in
    let stands = subst (λ T. StandsFor c.self.inside.entries.now T) c.self.view_is c.self.invariant.stands in
    let are = subst (λ T. AreForwarding T ks) c.self.view_is c.self.invariant.forwarding in
    let e = c.in-Some.ensures.lookup in
    let there = ap (λ l. slice_get l c.args.place) (sym (c.marked.ensures S stands)) ∙ slice_get_read c.marked.result.now _ c.args.place c.in-Some.mark.now refl e.3.0 e.1 in
    c.is_usable.ensures ∙ usable_there S c.args.e ks are c.args.place c.in-Some.mark.now there

pub returns-in-None : goal.returns-in-None
returns-in-None c =
    let S = c.args.self.now in
    let stands = subst (λ T. StandsFor c.self.inside.entries.now T) c.self.view_is c.self.invariant.stands in
    let e = c.in-None.ensures.lookup in
    usable_nowhere S c.args.e c.args.place (ap (λ l. slice_get l c.args.place) (sym (c.marked.ensures S stands)) ∙ slice_get_past c.marked.result.now c.args.place e.3)
