use Rattle.std.proofs.Common.{refl, subst, sym, ◌∙◌}
use Rattle.std.specs.Prelude.{Contains}
use Rattle.std.proofs.lemmas.Bool.{false≢true}
use Rattle.fib_resolve.specs.Tables.{IsSound}
use Rattle.fib_follow_looked.proofs.Ways.{hop_is}
use Rattle.fib_follow_looked.proofs.named.is_hop_after.Goals as goal

pub returns-then-contains : goal.returns-then-contains
returns-then-contains c = λ led beside. (
  λ t. led (subst (Contains c.args.hops.now) c.host.ensures (c.contains.ensures.0 c.if-contains.true)),
  λ k. refl,
)

pub returns : goal.returns
returns c = λ led beside.
    hop_is c.args.after.now.tables (subst IsSound c.tables-tables.ensures.value c.tables-tables.ensures.sound) c.args.addr c.args.among.now
    c.has_way.result c.has_way.ensures
    (beside (λ k. false≢true (sym c.if-contains.false ∙ c.contains.ensures.1 (subst (Contains c.args.hops.now) (sym c.host.ensures) k))))
