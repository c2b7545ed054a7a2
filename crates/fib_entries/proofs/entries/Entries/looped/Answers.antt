use Rattle.std.proofs.Common.{Some, None, sym, ap, ◌∙◌, refl, slice_get}
use Rattle.fib_entries_rows.specs.Known.{row_of}
use Rattle.std.proofs.lemmas.Option.{slice_get_read, slice_get_past}
use Rattle.fib_entries_rows.proofs.Standing.{marked_as, none_marked}
use Rattle.fib_entries.proofs.entries.Entries.looped.Goals as goal

pub returns-in-Some-get : goal.returns-in-Some-get
returns-in-Some-get c = λ S h.
    let at = ap (λ l. row_of l c.args.prefix) (sym (ap (λ z. z.rows) c.self.view_is)) ∙ sym c.in-Some.ensures in
    let e = c.in-Some-get.ensures.lookup in
    marked_as c.args.self.now S h c.args.prefix c.in-Some.r.now c.args.place (Some c.in-Some-get.mark.now) at (ap (λ l. slice_get l c.args.place) (sym c.looped.ensures) ∙ slice_get_read c.looped.result.now _ c.args.place c.in-Some-get.mark.now refl e.3.0 e.1)

pub returns-in-None-get : goal.returns-in-None-get
returns-in-None-get c = λ S h.
    let at = ap (λ l. row_of l c.args.prefix) (sym (ap (λ z. z.rows) c.self.view_is)) ∙ sym c.in-Some.ensures in
    let e = c.in-None-get.ensures.lookup in
    marked_as c.args.self.now S h c.args.prefix c.in-Some.r.now c.args.place None at (ap (λ l. slice_get l c.args.place) (sym c.looped.ensures) ∙ slice_get_past c.looped.result.now c.args.place e.3)

pub returns-in-None : goal.returns-in-None
returns-in-None c = λ S h.
    let at = ap (λ l. row_of l c.args.prefix) (sym (ap (λ z. z.rows) c.self.view_is)) ∙ sym c.in-None.ensures in
    none_marked c.args.self.now S h c.args.prefix c.args.place at
