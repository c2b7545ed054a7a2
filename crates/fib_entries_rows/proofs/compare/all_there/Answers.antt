use Rattle.std.proofs.Common.{arith, ◌≡◌, sym, ap, ◌∙◌, Some, Bool, false, ℕ, ◌<◌, List, [], ◌∷◌, zero, suc, length, get_or, refl}
use Rattle.std.specs.List.{list_any}
use Rattle.fib_resolve.specs.declared.types.FibSource.{FibSource}
use Rattle.fib_resolve.specs.declared.types.Path.{Path}
use Rattle.fib_entries_rows.specs.Known.{PathKept, content_of}
use Rattle.fib_entries_rows.specs.inner.Compare.{is_that, has_that}
use Rattle.fib_entries_rows.proofs.Alike.{one_fails}
use Rattle.fib_entries_rows.proofs.compare.all_there.Goals as goal

any_default : {X : Type 0} (xs : List X) (k : ℕ) (d e : X) → k < length xs → get_or xs k d ≡ get_or xs k e
any_default [] k d e lt = absurd (omega (arith, lt))
any_default (x ∷ xs) zero d e lt = refl
any_default (x ∷ xs) (suc k) d e lt = any_default xs k d e (omega (arith, lt))

fails_here : (lists others : List PathKept) (held there : List (FibSource × ℕ)) (k : ℕ) (p q : FibSource × ℕ) (paths : List Path) (result : Bool) → k < length held → p ≡ get_or held k p → content_of lists (get_or held k q).1 ≡ Some paths
    → result ≡ list_any (is_that others (get_or held k p).0 paths) there → result ≡ false → has_that others there p.0 (content_of lists p.1) ≡ false
fails_here lists others held there k p q paths result lt is content has no_one =
    ap (λ (z : FibSource × ℕ). has_that others there z.0 (content_of lists z.1)) is
    ∙ (ap (has_that others there (get_or held k p).0) (ap (λ (z : FibSource × ℕ). content_of lists z.1) (any_default held k p q lt) ∙ content) ∙ (sym has ∙ no_one))

pub returns-then-not-has_that : goal.returns-then-not-has_that
returns-then-not-has_that c =
    let p = c.index-held-place.result in
    sym (one_fails (λ (q : FibSource × ℕ). has_that c.args.others.now c.args.there.now q.0 (content_of c.args.lists.now q.1)) c.args.held.now c.loop-place.place p c.loop-place-test.true c.index-held-place.is
    (fails_here c.args.lists.now c.args.others.now c.args.held.now c.args.there.now c.loop-place.place p c.index-held-place-in-loop-place.result c.content.result.now c.has_that.result
    c.loop-place-test.true c.index-held-place.is c.content.ensures c.has_that.ensures c.if-not-has_that.true))
