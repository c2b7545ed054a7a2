use Rattle.std.proofs.Common.{◌≡◌, ◌<◌, Some, length, subst, sym}
use Rattle.fib_entries_rows.specs.Known.{Known, row_of}
use Rattle.fib_entries_rows.specs.inner.Compare.{AreKept}
use Rattle.fib_entries_rows.proofs.PartRows.{row_is}
use Rattle.fib_entries.proofs.entries.Entries.row_at.Goals as goal

pub returns-clause-found : goal.returns-clause-found
returns-clause-found c =
    let lt = subst (λ (v : Known). c.args.place < length v.rows) (sym c.self.view_is) c.requires in
    subst (λ (v : Known). row_of v.rows c.index.result.now.prefix ≡ Some c.index.result.now) c.self.view_is
    (row_is c.self.inside.rows c.self.invariant.used.ordered c.index.result.now (c.args.place, lt, sym c.index.ensures))

pub returns-clause-held : goal.returns-clause-held
returns-clause-held c =
    let lt = subst (λ (v : Known). c.args.place < length v.rows) (sym c.self.view_is) c.requires in
    subst (λ (v : Known). AreKept v.lists c.index.result.now.pairs) c.self.view_is
    (λ p k. c.self.invariant.used.held c.index.result.now p (c.args.place, lt, sym c.index.ensures) k)
