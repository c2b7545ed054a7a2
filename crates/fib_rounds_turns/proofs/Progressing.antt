-- What stands of what is kept of a script stays so.
use Rattle.std.proofs.Common.{◌≡◌, ◌+◌, ◌<◌, ◌≤◌, ℕ, Option, Some, None, arith, sym, subst}
use Rattle.std.specs.Prelude.{IfSome}
use Rattle.fib_rounds_turns.specs.declared.progress.Batch.{Batch}
use Rattle.fib_rounds_turns.specs.Routers.{Progress, begun_in, counted, new_batch, one_refused, with_kept}
use Rattle.fib_rounds_turns.specs.inner.Kept.{AnyFits, Fits, IsProgress, FitsLast}

taken_of : (p : Progress) (o : Option Batch) → AnyFits p o → IfSome o (λ b. FitsLast (counted p) b)
taken_of p None f = tt
taken_of p (Some b) f = record { written = f.written; few = omega (arith, f.few); fewer = omega (arith, f.fewer) }

pub taken_next : (p : Progress) → IsProgress p → IfSome p.batch (λ b. FitsLast (counted p) b)
taken_next p k = taken_of p p.batch k.batch

pub counted_kept : (p : Progress) → IsProgress p → IsProgress (counted p)
counted_kept p k = record { refused = omega (arith, k.refused); batch = tt }

none_fits : (p : Progress) (o : Option Batch) → o ≡ None → AnyFits p o
none_fits p o e = subst (λ (x : Option Batch). AnyFits p x) (sym e) tt

pub refused_kept : (p : Progress) → p.refused < p.lines → p.batch ≡ None → IsProgress (one_refused p)
refused_kept p lt e = record { refused = omega (arith, lt); batch = none_fits (one_refused p) p.batch e }

pub batch_kept : (p : Progress) (b : Batch) → Fits p b → IsProgress (with_kept p b)
batch_kept p b f = record { refused = omega (arith, f.fewer); batch = record { written = f.written; few = f.few; fewer = f.fewer } }

pub opened_kept : (p : Progress) → p.refused < p.lines → IsProgress (with_kept p (new_batch p.lines))
opened_kept p lt = record { refused = omega (arith, lt); batch = record { written = tt; few = omega (arith, lt); fewer = lt } }

fewer_of : (p : Progress) (o : Option Batch) → AnyFits p o → IfSome (begun_in o) (λ n. p.refused < p.lines)
fewer_of p None f = tt
fewer_of p (Some b) f = f.fewer

-- a line of a batch, its first, isn't refused
pub begun_fewer : (p : Progress) → IsProgress p → IfSome (begun_in p.batch) (λ n. p.refused < p.lines)
begun_fewer p k = fewer_of p p.batch k.batch
