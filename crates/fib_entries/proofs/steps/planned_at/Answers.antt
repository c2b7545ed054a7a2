use Rattle.std.proofs.Common.{Option, Some, None}
use Rattle.std.specs.Prelude.{IfSome}
use Rattle.fib_entries.proofs.steps.planned_at.Goals as goal

some_weaker : {X : Type 0} (P Q : X → Type 0) (o : Option X) → ((x : X) → P x → Q x) → IfSome o P → IfSome o Q
some_weaker P Q None f h = h
some_weaker P Q (Some x) f h = f x h

pub returns-clause-works : goal.returns-clause-works
returns-clause-works c =
    some_weaker _ _ c.in_ok-found.found (λ x works. λ S from after. works S from after (c.in_ok-whole.ensures.part S _ after)) c.in_ok-found.ensures.works
