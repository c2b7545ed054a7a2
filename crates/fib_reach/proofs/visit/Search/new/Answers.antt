use Rattle.std.proofs.Common.{vec_capacity, length, ℕ, ◌≡◌, ◌<◌, sym, subst, get_or, List, refl}
use Rattle.std.specs.Prelude.{replicate}
use Rattle.fib_reach.proofs.Visits.{search_start, zeros_low, zeros_roomy}
use Rattle.fib_reach.proofs.visit.Search.new.Goals as goal

pub invariant_of-result : goal.invariant_of-result
invariant_of-result c =
    let marks : List ℕ = c.in_ok-from_elem.field-0.items in
    let is : marks ≡ replicate c.args.nodes 0 = c.in_ok-from_elem.ensures.items_if_clones_equal (λ y e. e) in
    let exact : vec_capacity c.in_ok-with_capacity.field-0 ≡ c.args.nodes = c.in_ok-with_capacity.ensures.exact in
    search_start (length marks) (vec_capacity c.in_ok-with_capacity.field-0) marks c.in_ok-with_capacity.field-0.items refl (zeros_roomy c.args.nodes marks _ is exact) (λ k. subst (λ (l : List ℕ). get_or l k 0 < 1) (sym is) (zeros_low c.args.nodes k)) c.in_ok-with_capacity.ensures.items
