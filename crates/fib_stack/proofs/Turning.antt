-- The queue's first prefix is of the least rank.
use Rattle.std.proofs.Common.{◌≡◌, ℕ, true, false, List, [], ◌∷◌, refl, sym, ap, ◌∙◌, arith}
use Rattle.std.specs.Prelude.{Option, Some, None}
use Rattle.fib_addr.specs.Prefixes.{Prefix}
use Rattle.fib_resolve.specs.declared.types.Tables.{Tables}
use Rattle.fib_base_ordered.specs.Sets.{first_of}
use Rattle.fib_stack_queue.specs.Queues.{rank_in}
use Rattle.fib_stack_queue.specs.Queues as queues
use Rattle.fib_stack_queue.specs.declared.order.Queued.{Queued}
use Rattle.fib_core_promise.specs.Stack.{is_some}
use Rattle.fib_plane_view.specs.Promise.{Promise}
use Rattle.fib_plane_view.specs.View.{View}
use Rattle.fib_stack.specs.Joined.{Joined, Parts, state_in}
use Rattle.fib_stack.specs.Steps.{IsLeast}

some_rank : (o : Option ℕ) → is_some o ≡ true → (r : ℕ) × (o ≡ Some r)
some_rank None h = absurd (cc)
some_rank (Some r) h = (r, refl)

pub least_of : (S : Tables) (rank : Prefix → ℕ) (p : Promise) (v : View) (s : Parts) (q : Queued) → Joined S rank p v s → queues.IsLeast s.queue q → IsLeast rank (state_in v s) q.prefix
least_of S rank p v s q j h = record {
  queued = ap is_some h.here;
  least = λ d is.
      let r = some_rank (rank_in s.queue d) is in
      let le = h.least d r.0 r.1 in
      let mine = j.ranked q.prefix q.rank h.here in
      let other = j.ranked d r.0 r.1 in
      omega (arith, le, mine, other);
}

pub none_queued : (qs : List Queued) (o : Option Queued) → o ≡ first_of qs → o ≡ None → (d : Prefix) → is_some (rank_in qs d) ≡ false
none_queued [] o e n d = refl
none_queued (q ∷ qs) o e n d = absurd (let bad : Some q ≡ None = sym e ∙ n in cc)
