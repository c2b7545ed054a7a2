use Rattle.std.proofs.Common.{arith, ◌∙◌, sym, ap, length, get_or, List}
use Rattle.fib_resolve_pairs.specs.Numbers.{number_in}
use Rattle.test_plain.specs.inner.Rows.{rows_of}
use Rattle.test_plain.specs.declared.facts.PathFacts.{PathFacts}
use Rattle.test_plain.proofs.Viewing.{row_numbered, row_unnumbered, length-rows}
use Rattle.test_plain.proofs.view.row.Goals as goal

pub index-requires : goal.index-requires
index-requires c =
    let S = c.args.view.now in
    let number = ap (λ T. number_in T c.args.e) (sym c.known.ensures) ∙ (sym c.number.ensures.value ∙ c.in-Some.is) in
    let rows = c.view.invariant.rows_are ∙ ap rows_of c.view.view_is in
    omega (arith, length-rows S c.args.e c.in-Some.k number, ap length rows)

pub returns-in-Some : goal.returns-in-Some
returns-in-Some c =
    let S = c.args.view.now in
    let d = c.index.result.now in
    let number = ap (λ T. number_in T c.args.e) (sym c.known.ensures) ∙ (sym c.number.ensures.value ∙ c.in-Some.is) in
    let rows = c.view.invariant.rows_are ∙ ap rows_of c.view.view_is in
    c.as_slice.ensures ∙ (c.index.ensures ∙ (ap (λ (xs : List (List PathFacts)). get_or xs c.in-Some.k d) rows ∙ row_numbered S c.args.e c.in-Some.k d number))

pub returns-in-None : goal.returns-in-None
returns-in-None c =
    let number = ap (λ T. number_in T c.args.e) (sym c.known.ensures) ∙ (sym c.number.ensures.value ∙ c.in-None.is) in
    sym (row_unnumbered c.args.view.now c.args.e number)
