use Rattle.std.proofs.Common.{◌≡◌, ◌<◌, ◌^◌, ℕ, inl, inr, ⊎_elim, true, sym, subst, ◌∙◌}
use Rattle.fib_ply.specs.Rows.{ArePrefixes}
use Rattle.fib_ply.specs.Tables.{Table}
use Rattle.fib_ply.specs.inner.Change.{IsCellOf}
use Rattle.fib_ply.proofs.Laws.{answered, trie_of}
use Rattle.fib_ply.proofs.prefixes.PrefixTable.answer.Goals as goal

pub word-requires-clause-live : goal.word-requires-clause-live
word-requires-clause-live g c =
    let s = c.requires.stands in
    let trie = trie_of s.0 c.args.self.now (g.P.Objects.view c.args.on.now) s.1 in
    let cell = c.find-at.ensures s.1.1 trie in
    ⊎_elim (λ (z : c.find-at.result.ply ≡ 0). inl z) (λ (h : (g.P.Objects.view c.args.on.now).is_held c.find-at.result.ply ≡ true). inr (inl h)) (trie.standing c.find-at.result.ply cell.path.0)

pub unreachable-requires : goal.unreachable-requires
unreachable-requires g c =
    let s = c.requires.stands in
    let cell = c.find-at.ensures s.1.1 (trie_of s.0 c.args.self.now (g.P.Objects.view c.args.on.now) s.1) in
    c.in_default.not-ToBalance cell.leaf.0 (c.word.ensures ∙ cell.leaf.1)

pub returns-clause-walked : goal.returns-clause-walked
returns-clause-walked g c =
    let s = c.requires.stands in
    let u = g.P.Objects.view c.args.on.now in
    let r = c.find-at.result in
    let found = c.find-at.ensures s.1.1 (trie_of s.0 c.args.self.now u s.1) in
    let cell = subst (λ (a : ℕ). IsCellOf s.1.1 u a r.ply r.depth r.slot) c.addr.view_is found in
    let are = subst (λ (t : Table). ArePrefixes t.rows.members) c.self.view_is c.are_prefixes.ensures in
    (answered s.0 c.args.self.now u are s.1 c.args.addr r.ply r.depth r.slot c.in-ToBalance.object (subst (λ (a : ℕ). a < 2 ^ 32) c.addr.view_is c.has_bits.ensures) cell (sym c.word.ensures ∙ c.in-ToBalance.is)).0

pub returns-clause-longest : goal.returns-clause-longest
returns-clause-longest g c =
    let s = c.requires.stands in
    let u = g.P.Objects.view c.args.on.now in
    let r = c.find-at.result in
    let found = c.find-at.ensures s.1.1 (trie_of s.0 c.args.self.now u s.1) in
    let cell = subst (λ (a : ℕ). IsCellOf s.1.1 u a r.ply r.depth r.slot) c.addr.view_is found in
    let are = subst (λ (t : Table). ArePrefixes t.rows.members) c.self.view_is c.are_prefixes.ensures in
    (answered s.0 c.args.self.now u are s.1 c.args.addr r.ply r.depth r.slot c.in-ToBalance.object (subst (λ (a : ℕ). a < 2 ^ 32) c.addr.view_is c.has_bits.ensures) cell (sym c.word.ensures ∙ c.in-ToBalance.is)).1
