use Rattle.std.proofs.Common.{sym, ap, ◌∙◌, subst}
use Rattle.fib_entries_rows.specs.Known.{ArePairs, row_of}
use Rattle.std.specs.Prelude.{Contains, IsSome}
use Rattle.fib_base_list.proofs.Lists.{Contains-nil}
use Rattle.fib_base_interned.specs.Interned.{kept_of}
use Rattle.fib_entries_rows.proofs.Standing.{pairs_at, no_pairs, row_there}
use Rattle.fib_entries.proofs.entries.Entries.pairs.Goals as goal

pub returns-in-Some-clause-pairs : goal.returns-in-Some-clause-pairs
returns-in-Some-clause-pairs c = λ S h.
    let at = ap (λ l. row_of l c.args.prefix) (sym (ap (λ z. z.rows) c.self.view_is)) ∙ sym c.in-Some.ensures in
    subst (ArePairs c.args.self.now.lists S c.args.prefix) (sym c.pairs.ensures) (pairs_at c.args.self.now S h c.args.prefix c.in-Some.r.now at)

pub returns-in-None-clause-pairs : goal.returns-in-None-clause-pairs
returns-in-None-clause-pairs c = λ S h.
    let at = ap (λ l. row_of l c.args.prefix) (sym (ap (λ z. z.rows) c.self.view_is)) ∙ sym c.in-None.ensures in
    no_pairs c.args.self.now S h c.args.prefix at

pub returns-in-Some-clause-kept : goal.returns-in-Some-clause-kept
returns-in-Some-clause-kept c = λ p k.
    let at = sym c.in-Some.ensures in
    let t = row_there c.self.inside.rows c.args.prefix c.in-Some.r.now at in
    let held = c.self.invariant.used.held c.in-Some.r.now p t.0 (subst (λ l. Contains l p) c.pairs.ensures k) in
    subst (λ z. IsSome (kept_of z.lists p.1)) c.self.view_is held

pub returns-in-None-clause-kept : goal.returns-in-None-clause-kept
returns-in-None-clause-kept c = λ p k. absurd (Contains-nil p k)
