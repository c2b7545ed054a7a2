use Rattle.std.proofs.Common.{arith, ◌≡◌, ◌<◌, ◌^◌, ap, ◌∙◌, subst, ℕ, Some, None}
use Rattle.std.proofs.Common.{map}
use Rattle.fib_entries_rows.specs.Known.{prefix_of}
use Rattle.fib_cover.specs.Covers.{IsLongestMatch}
use Rattle.fib_entries.proofs.Covering.{cover_found, cover_none}
use Rattle.fib_entries.proofs.entries.Entries.cover.Goals as goal

small : (m n : ℕ) → m ≡ n → m < 2 ^ 32 → n < 2 ^ 32
small m n e lt = subst (λ k. k < 2 ^ 32) e lt

pub returns-in-Some : goal.returns-in-Some
returns-in-Some c = λ S h.
    let same = c.self.invariant.used.same ∙ ap (λ z. map prefix_of z.rows) c.self.view_is in
    cover_found c.args.self.now S h c.args.addr c.in-Some.prefix (small c.addr.inside.0 c.args.addr c.addr.view_is (omega arith)) (subst (λ l. IsLongestMatch l 32 c.args.addr (Some c.in-Some.prefix)) same c.in-Some.ensures)

pub returns-in-None : goal.returns-in-None
returns-in-None c = λ S h.
    let same = c.self.invariant.used.same ∙ ap (λ z. map prefix_of z.rows) c.self.view_is in
    absurd (cover_none c.args.self.now S h c.args.addr (small c.addr.inside.0 c.args.addr c.addr.view_is (omega arith)) (subst (λ l. IsLongestMatch l 32 c.args.addr None) same c.in-None.ensures))
