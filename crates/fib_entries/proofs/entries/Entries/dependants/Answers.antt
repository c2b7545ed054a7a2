use Rattle.std.proofs.Common.{sym, ap, ◌∙◌, subst}
use Rattle.fib_entries_rows.specs.Known.{row_of}
use Rattle.std.specs.Prelude.{Contains}
use Rattle.fib_reach.specs.Walks.{AllDiffer}
use Rattle.fib_base_list.proofs.Lists.{Contains-nil}
use Rattle.fib_entries_rows.proofs.Standing.{row_there, leads_there, none_leads}
use Rattle.fib_entries.proofs.entries.Entries.dependants.Goals as goal

pub returns-in-Some-clause-once : goal.returns-in-Some-clause-once
returns-in-Some-clause-once c = λ S h.
    let at = ap (λ l. row_of l c.args.prefix) (sym (ap (λ z. z.rows) c.self.view_is)) ∙ sym c.in-Some.ensures in
    subst AllDiffer (sym (c.as_slice.ensures ∙ c.dependants.ensures)) (h.rows c.in-Some.r.now (row_there c.args.self.now.rows c.args.prefix c.in-Some.r.now at).0).dependants_once

pub returns-in-Some-clause-all : goal.returns-in-Some-clause-all
returns-in-Some-clause-all c = λ S h d.
    let at = ap (λ l. row_of l c.args.prefix) (sym (ap (λ z. z.rows) c.self.view_is)) ∙ sym c.in-Some.ensures in
    let r = leads_there c.args.self.now S h c.args.prefix c.in-Some.r.now d at in
    (λ k. r.0 (subst (λ l. Contains l d) (c.as_slice.ensures ∙ c.dependants.ensures) k), λ k. subst (λ l. Contains l d) (sym (c.as_slice.ensures ∙ c.dependants.ensures)) (r.1 k))

pub returns-in-None-clause-all : goal.returns-in-None-clause-all
returns-in-None-clause-all c = λ S h d.
    let at = ap (λ l. row_of l c.args.prefix) (sym (ap (λ z. z.rows) c.self.view_is)) ∙ sym c.in-None.ensures in
    (λ k. absurd (Contains-nil d k), λ k. absurd (none_leads c.args.self.now S h c.args.prefix d at k))
