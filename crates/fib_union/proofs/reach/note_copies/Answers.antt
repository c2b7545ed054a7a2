use Rattle.std.proofs.Common.{arith, ◌≡◌, ◌-◌, ◌<◌, ℕ, sym, subst, ◌∙◌, map, get_or, length, refl, take}
use Rattle.std.proofs.lemmas.List.{length-map}
use Rattle.fib_union.specs.inner.Fields.{CopyRuns, IsNewest, plain}
use Rattle.fib_union.proofs.Chains.{no_copy, plain_at}
use Rattle.fib_union.proofs.Noting.{runs_here, at_within, starts_here, passed_more, passed_all, grown_then, grown_by, older_at}
use Rattle.fib_union.proofs.reach.note_copies.Goals as goal

pub returns-then-old-to-clause-found : goal.returns-then-old-to-clause-found
returns-then-old-to-clause-found c =
    let i = c.loop-at.invariant in
    subst (λ (q : ℕ). CopyRuns (map plain c.args.retired.now) c.args.node q) c.if-old-to.true (runs_here c.args.retired.now c.args.node c.args.to i.below c.loop-at.at i.within i.newest c.loop-at-test.true no_copy)

pub note-requires : goal.note-requires
note-requires c =
    let i = c.loop-at.invariant in
    let lt = at_within c.args.retired.now c.args.node c.args.to i.below c.loop-at.at i.within i.newest c.loop-at-test.true in
    let l : length (map plain c.args.retired.now) ≡ length c.args.retired.now = length-map c.args.retired.now plain in
    let t = c.requires.targets (c.loop-at.at - 1) (plain no_copy) (omega arith) in
    let e = plain_at c.args.retired.now (c.loop-at.at - 1) no_copy lt in
    let u : (get_or c.args.retired.now (c.loop-at.at - 1) no_copy).to < c.args.search.now.nodes = subst (λ (q : ℕ × ℕ). q.1 < c.args.search.now.nodes) e t in
    let n = i.nodes in omega arith

pub loop-at-preserved : goal.loop-at-preserved
loop-at-preserved c =
    let i = c.loop-at.invariant in
    let lt = at_within c.args.retired.now c.args.node c.args.to i.below c.loop-at.at i.within i.newest c.loop-at-test.true in
    let own = starts_here c.args.retired.now c.args.node c.args.to i.below c.loop-at.at i.within i.newest c.loop-at-test.true no_copy in
    let y : ℕ = (get_or c.args.retired.now (c.loop-at.at - 1) no_copy).to in
    record {
      nodes = c.note.ensures.nodes ∙ i.nodes;
      done = c.note.ensures.done ∙ i.done;
      grown = grown_then (CopyRuns (map plain c.args.retired.now) c.args.node) (λ q. q ≡ y) c.args.search.now.seen c.loop-at.search.seen c.note.new.self.seen i.grown (grown_by (λ q. q ≡ y) c.loop-at.search.seen c.note.new.self.seen y c.note.ensures.grown refl)
          (λ q e. subst (λ (z : ℕ). CopyRuns (map plain c.args.retired.now) c.args.node z) (sym e) (runs_here c.args.retired.now c.args.node c.args.to i.below c.loop-at.at i.within i.newest c.loop-at-test.true no_copy));
      below = c.loop-at.at - 1;
      within = omega (arith, lt);
      newest = rw c.saturating_sub-at.ensures (older_at c.args.retired.now (length c.args.newest.now) c.args.newest.now c.args.node c.loop-at.at c.requires.linked c.loop-at-test.true lt own);
      noted = passed_more c.args.retired.now c.args.node c.args.to i.below c.loop-at.at i.within i.newest c.loop-at-test.true c.loop-at.search.seen c.note.new.self.seen y refl c.note.ensures.grown c.if-old-to.false c.note.ensures.has i.noted;
    }

pub returns-clause-missed : goal.returns-clause-missed
returns-clause-missed c =
    let i = c.loop-at.invariant in
    let at : c.loop-at.at ≡ 0 = omega arith in
    passed_all c.args.retired.now c.args.node c.args.to i.below c.loop-at.search.seen i.within (subst (λ (m : ℕ). IsNewest c.args.node (take i.below c.args.retired.now) m) at i.newest) i.noted
