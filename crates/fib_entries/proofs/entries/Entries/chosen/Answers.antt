use Rattle.std.proofs.Common.{◌≡◌, Some, None, sym, ap, ◌∙◌, subst, refl, List, [], ◌∷◌, slice_get}
use Rattle.fib_entries_rows.specs.Known.{ArePairs, row_of, content_of}
use Rattle.fib_base_interned.proofs.Finding.{none_some, contains_at}
use Rattle.fib_base_interned.proofs.Finding.{some_is}
use Rattle.fib_entries_rows.proofs.Standing.{row_there, row_entry, no_entry, never_none, first_chosen, is_chosen, none_chosen, pairs_at}
use Rattle.fib_entries.proofs.entries.Entries.chosen.Goals as goal

head_is : {X : Type 0} (xs : List X) (p : X) → slice_get xs 0 ≡ Some p → (ps : List X) × (xs ≡ p ∷ ps)
head_is [] p h = absurd (none_some p h)
head_is (x ∷ xs) p h = (xs, ap (λ z. z ∷ xs) (some_is x p h))

no_head : {X : Type 0} (xs : List X) → slice_get xs 0 ≡ None → xs ≡ []
no_head [] h = refl
no_head (x ∷ xs) h = absurd (none_some x (sym h))

pub content-requires : goal.content-requires
content-requires c =
    let at = sym c.in-Some.ensures in
    let t = row_there c.self.inside.rows c.args.prefix c.in-Some.r.now at in
    c.self.invariant.used.held c.in-Some.r.now c.in-Some-first.field-0.now t.0
    (contains_at c.in-Some.r.now.pairs 0 c.in-Some-first.field-0.now (ap (λ l. slice_get l 0) (sym c.pairs.ensures) ∙ sym c.in-Some-first.ensures.value))

pub returns-in-Some-first : goal.returns-in-Some-first
returns-in-Some-first c = λ S h.
    let at = ap (λ l. row_of l c.args.prefix) (sym (ap (λ z. z.rows) c.self.view_is)) ∙ sym c.in-Some.ensures in
    let head = head_is c.in-Some.r.now.pairs c.in-Some-first.field-0.now (ap (λ l. slice_get l 0) (sym c.pairs.ensures) ∙ sym c.in-Some-first.ensures.value) in
    let are = subst (ArePairs c.args.self.now.lists S c.args.prefix) head.1 (pairs_at c.args.self.now S h c.args.prefix c.in-Some.r.now at) in
    let is = ap (λ z. content_of z.lists c.in-Some-first.field-0.now.1) (sym c.self.view_is) ∙ c.content.ensures in
    is_chosen c.args.self.now S h c.args.prefix c.content.result.now (row_entry c.args.self.now S h c.args.prefix c.in-Some.r.now at)
    (first_chosen c.args.self.now S h c.args.prefix c.in-Some-first.field-0.now head.0 c.content.result.now h.sound are is)

pub returns-in-None-first : goal.returns-in-None-first
returns-in-None-first c = λ S h.
    let at = ap (λ l. row_of l c.args.prefix) (sym (ap (λ z. z.rows) c.self.view_is)) ∙ sym c.in-Some.ensures in
    absurd (never_none c.args.self.now S h c.args.prefix c.in-Some.r.now at (no_head c.in-Some.r.now.pairs (ap (λ l. slice_get l 0) (sym c.pairs.ensures) ∙ sym c.in-None-first.ensures.value)))

pub returns-in-None : goal.returns-in-None
returns-in-None c = λ S h.
    let at = ap (λ l. row_of l c.args.prefix) (sym (ap (λ z. z.rows) c.self.view_is)) ∙ sym c.in-None.ensures in
    none_chosen c.args.self.now S h c.args.prefix (no_entry c.args.self.now S h c.args.prefix at)
