-- The statuses that a run over files may end with.
use Rattle.std.proofs.Common.{◌≡◌, ℕ, Some, Contains, lit<, refl, subst}
use Rattle.fib_run.specs.Files.{Wanted as Asked, statuses}
use Rattle.fib_tracer.specs.declared.words.Wanted.{Wanted}
use Rattle.fib_tracer.specs.Words.{wanted_in}

module _ (w : Wanted) (o : Asked) (is : Some (wanted_in w) ≡ o) where
  pub may_0 : Contains (statuses o) 0
  may_0 = subst (λ x. Contains (statuses x) 0) is (0, lit< tt, refl)

  pub may_2 : Contains (statuses o) 2
  may_2 = subst (λ x. Contains (statuses x) 2) is (1, lit< tt, refl)

  pub may_3 : Contains (statuses o) 3
  may_3 = subst (λ x. Contains (statuses x) 3) is (2, lit< tt, refl)

  pub may_4 : Contains (statuses o) 4
  may_4 = subst (λ x. Contains (statuses x) 4) is (3, lit< tt, refl)

  pub may_5 : Contains (statuses o) 5
  may_5 = subst (λ x. Contains (statuses x) 5) is (4, lit< tt, refl)

  pub may_6 : Contains (statuses o) 6
  may_6 = subst (λ x. Contains (statuses x) 6) is (5, lit< tt, refl)

  pub may_7 : Contains (statuses o) 7
  may_7 = subst (λ x. Contains (statuses x) 7) is (6, lit< tt, refl)
