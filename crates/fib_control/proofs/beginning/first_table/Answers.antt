use Rattle.std.proofs.Common.{◌∷◌, ◌∙◌, ◌<◌, ap, map, take, length, List, arith, refl, subst, sym}
use Rattle.fib_addr.specs.Longest.{everything}
use Rattle.fib_addr.specs.Prefixes.{Prefix}
use Rattle.fib_entries_rows.specs.Known.{prefix_of}
use Rattle.fib_control.specs.inner.Starting.{IsStarted}
use Rattle.fib_control.proofs.Few.{few_named}
use Rattle.fib_control.proofs.Started.{take_next}
use Rattle.fib_control.proofs.beginning.first_table.Goals as goal

pub loop-row-preserved : goal.loop-row-preserved
loop-row-preserved g c =
    let xs = map prefix_of c.args.entries.now.rows in
    record {
      started = subst (λ (ys : List Prefix). IsStarted (g.P.Objects.promise c.place.new.on) c.place.new.table (g.P.Objects.view c.place.new.on) (everything ∷ ys)) (sym (take_next xs c.loop-row.row c.at.result c.at.ensures))
          (c.in_ok-place.ensures.started (everything ∷ take c.loop-row.row xs) c.loop-row.invariant.started);
      promise = c.in_ok-place.ensures.promise ∙ c.loop-row.invariant.promise;
    }

pub place-requires : goal.place-requires
place-requires g c = (
  everything ∷ take c.loop-row.row (map prefix_of c.args.entries.now.rows),
  c.loop-row.invariant.started,
  refl,
  few_named c.args.entries.now c.loop-row.row c.requires.entries,
)
