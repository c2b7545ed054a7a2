use Rattle.std.proofs.Common.{arith, ℕ, List, ◌+◌, ◌<◌, length, get_or, ap, refl, sym, subst}
use Rattle.std.specs.Prelude.{Contains}
use Rattle.std.proofs.lemmas.List.Elements.{Contains-get_or}
use Rattle.fib_loops.specs.inner.Entering.{unset}
use Rattle.fib_loops.specs.inner.Parting.{BackEdge}
use Rattle.fib_loops.proofs.Parted.{rank_some, part_starts, part_whole, step_grows, step_sized}
use Rattle.fib_loops.proofs.part.grow.Goals as goal

pub overflow_add-number : goal.overflow_add-number
overflow_add-number c = omega (arith, c.requires.few, c.requires.rank, rank_some (BackEdge c.args.back.now) (length c.args.back.now) c.args.walk.now.starts.items c.args.walk.now.ranks.items c.args.walk.now.order.items c.requires.ordered c.args.root c.requires.root)

pub loop-place-init : goal.loop-place-init
loop-place-init c =
    let some : 0 < c.args.done + 1 = omega arith in
    rw (c.in_ok-push.ensures.items, c.clear.ensures.items) (part_starts (BackEdge c.args.back.now) (length c.args.back.now) c.args.walk.now.starts.items c.args.walk.now.ranks.items c.args.walk.now.order.items c.requires.ordered (c.args.done + 1) c.args.root some c.requires.root c.args.parts.now.items c.args.done c.requires.parted refl c.requires.rank c.requires.new)

pub targets-sources-requires : goal.targets-sources-requires
targets-sources-requires c =
    let here : c.loop-place.place < length c.loop-place.members.items = omega (arith, c.loop-place.members.ok.0) in
    c.loop-place.invariant.below c.index.result.now (c.loop-place.place, here, sym c.index.ensures)

pub take_in-requires : goal.take_in-requires
take_in-requires c = λ k d l.
    let x : ℕ = get_or c.targets-sources.result.now k d in
    let inside = subst (λ (q : List ℕ). Contains q x) c.targets-sources.ensures (Contains-get_or c.targets-sources.result.now k d l) in
    omega (arith, c.loop-place.invariant.parts_len, c.requires.closed c.index.result.now x inside)

pub loop-place-smaller : goal.loop-place-smaller
loop-place-smaller c =
    let some : 0 < c.args.done + 1 = omega arith in
    let b : List (List ℕ) = c.args.back.now in
    let z = c.index.result.now in
    let here : c.loop-place.place < length c.loop-place.members.items = omega (arith, c.loop-place.members.ok.0) in
    let lead : (x : ℕ) → Contains c.targets-sources.result.now x → (x < length b) × BackEdge b x z = λ x h. let e = rw c.targets-sources.ensures at h in (c.requires.closed z x e, e) in
    let all : (x : ℕ) → BackEdge b x z → Contains c.targets-sources.result.now x = λ x e. rw c.targets-sources.ensures e in
    let sized = step_sized (BackEdge c.args.back.now) (length c.args.back.now) c.args.walk.now.starts.items c.args.walk.now.ranks.items c.args.walk.now.order.items c.requires.ordered (c.args.done + 1) c.args.root some c.requires.root c.loop-place.parts.items c.loop-place.members.items c.targets-sources.result.now c.loop-place.place z c.loop-place.invariant here c.index.ensures lead all in
    omega (arith, here, sized, ap (λ (l : List ℕ). unset l) c.in_ok-take_in.ensures.parts, ap (λ (l : List ℕ). length l) c.in_ok-take_in.ensures.members)

pub loop-place-preserved : goal.loop-place-preserved
loop-place-preserved c =
    let some : 0 < c.args.done + 1 = omega arith in
    let b : List (List ℕ) = c.args.back.now in
    let z = c.index.result.now in
    let here : c.loop-place.place < length c.loop-place.members.items = omega (arith, c.loop-place.members.ok.0) in
    let lead : (x : ℕ) → Contains c.targets-sources.result.now x → (x < length b) × BackEdge b x z = λ x h. let e = rw c.targets-sources.ensures at h in (c.requires.closed z x e, e) in
    let all : (x : ℕ) → BackEdge b x z → Contains c.targets-sources.result.now x = λ x e. rw c.targets-sources.ensures e in
    rw (c.in_ok-take_in.ensures.parts, c.in_ok-take_in.ensures.members) (step_grows (BackEdge c.args.back.now) (length c.args.back.now) c.args.walk.now.starts.items c.args.walk.now.ranks.items c.args.walk.now.order.items c.requires.ordered (c.args.done + 1) c.args.root some c.requires.root c.loop-place.parts.items c.loop-place.members.items c.targets-sources.result.now c.loop-place.place z c.loop-place.invariant here c.index.ensures lead all)

pub returns : goal.returns
returns c =
    let some : 0 < c.args.done + 1 = omega arith in
    part_whole (BackEdge c.args.back.now) (length c.args.back.now) c.args.walk.now.starts.items c.args.walk.now.ranks.items c.args.walk.now.order.items c.requires.ordered (c.args.done + 1) c.args.root some c.requires.root c.loop-place.parts.items c.loop-place.members.items c.loop-place.place c.args.done c.loop-place.invariant (omega (arith, c.loop-place.members.ok.0)) refl c.requires.rank
