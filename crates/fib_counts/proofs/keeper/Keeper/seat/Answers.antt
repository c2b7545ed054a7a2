use Rattle.std.proofs.Common.{◌≡◌, ◌∙◌, ◌<◌, ap, sym, subst, arith, length, length-set}
use Rattle.std.specs.Prelude.{slice_set, true}
use Rattle.fib_counts.specs.Counts.{outs, free_in, Keep, sent}
use Rattle.fib_counts.specs.inner.Told.{keep_of, IsFit}
use Rattle.fib_counts.proofs.Moves.{may_send, is_keeper_sent, more_out, fit_sent}
use Rattle.fib_counts.proofs.keeper.Keeper.seat.Goals as goal

pub split_seat-place-requires : goal.split_seat-place-requires
split_seat-place-requires c =
    let inv = c.self.invariant in (
      inv.0,
      (let size = inv.1 in let same = ap (λ t. t.words) inv.0 in omega arith),
      may_send 0 _ _ inv.2 (ap length inv.4 ∙ inv.5) (let few = c.requires.few in let v = ap (λ k. outs k.out) c.self.view_is in omega arith)
          (let room = c.requires.room in let v = ap (λ k. length k.tally) c.self.view_is in omega arith),
    )

pub invariant_of-self : goal.invariant_of-self
invariant_of-self c =
    let inv = c.self.invariant in
    let split = c.split_seat-place.ensures in
    let number = c.free_number-number.ensures.least in
    let k : Keep = keep_of c.self.inside.place.me.0 in
    let eight : length k.out ≡ 8 = ap length inv.4 ∙ inv.5 in
    let few : outs k.out < 8 = (let few = c.requires.few in let v = ap (λ k. outs k.out) c.self.view_is in omega arith) in
    let room = c.requires.room in
    let seen = ap (λ k. length k.tally) c.self.view_is in
    let after : keep_of c.split_seat-place.new.seat.me.0 ≡ sent k = ap (λ m. keep_of m.0) split.2 in (
      split.0 ∙ inv.0,
      ap (λ z. z.words) split.0 ∙ inv.1,
      is_keeper_sent _ _ inv.2 split.2,
      subst IsFit (sym after) (fit_sent k eight few (omega arith) inv.3),
      ap (λ k. k.out) after ∙ ap (λ o. slice_set o (free_in o) true) inv.4 ∙ ap (λ n. slice_set c.self.inside.out n true) (sym number),
      length-set c.self.inside.out c.free_number-number.result true ∙ inv.5,
      ap (λ n. outs (slice_set c.self.inside.out n true)) number ∙ more_out c.self.inside.out inv.5 (let e = ap outs inv.4 in omega arith) ∙ (let n = inv.6 in omega arith),
      ap (λ k. length k.tally) after ∙ inv.7,
    )

pub returns-clause-more : goal.returns-clause-more
returns-clause-more c =
    let inv = c.self.invariant in
    let k : Keep = keep_of c.self.inside.place.me.0 in
    let few = c.requires.few in
    let v = ap (λ k. outs k.out) c.self.view_is in
    ap (λ m. outs (keep_of m.0).out) c.split_seat-place.ensures.2 ∙ more_out k.out (ap length inv.4 ∙ inv.5) (omega arith) ∙ (omega arith)
