use Rattle.std.proofs.Common.{◌∙◌, ap, sym, arith, []}
use Rattle.fib_counts.specs.Counts.{keeper, taken_home}
use Rattle.fib_counts.specs.inner.Told.{keep_of, tally_of}
use Rattle.fib_counts.proofs.Moves.{may_home, may_read, same_table}
use Rattle.fib_counts.proofs.keeper.Keeper.home.Goals as goal

pub join_seat-requires : goal.join_seat-requires
join_seat-requires c =
    let inv = c.self.invariant in
    let you = c.seat.invariant in (
      inv.0,
      same_table _ _ (ap (λ s. s.id) c.seat.view_is ∙ c.requires ∙ sym (ap (λ s. s.id) c.self.view_is)) ∙ inv.0,
      ap (λ m. m.1) you.2,
      (let size = inv.1 in let same = ap (λ t. t.words) inv.0 in omega arith),
      may_home 0 _ _ _ _ inv.2 you.2 (let long = you.5 in omega arith),
    )

pub load-requires : goal.load-requires
load-requires c =
    let inv = c.self.invariant in (
      c.join_seat.ensures.0 ∙ inv.0,
      (let size = inv.1 in let same = ap (λ t. t.words) inv.0 in omega arith),
      may_read _ _ _ _ (c.join_seat.ensures.2 ∙ ap (λ l. (keeper (taken_home (keep_of c.self.inside.place.me.0) (tally_of c.seat.inside.place.me.0)), l)) (ap (λ m. m.1) inv.2)
          ∙ ap (λ v. (keeper (keep_of v), [])) (sym (ap (λ m. m.0) c.join_seat.ensures.2))) (omega arith),
    )
