-- What is found once nobody is out and nothing is queued.
use Rattle.std.specs.Prelude.{◌≡◌, IsOk}
use Rattle.trial_plain.specs.declared.steps.Answers.{Answers}

-- a scan left no copy, a retry no bucket, and the last version is settled
pub record AreCalm (a : Answers) : Type 0 where
  pub retired : a.retired ≡ 0
  pub deferred : a.deferred ≡ 0
  pub settled : IsOk a.settled
