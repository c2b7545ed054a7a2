-- What one entry adds to the way of a packet.
use Rattle.std.specs.Prelude.{◌≡◌, ◌+◌, ◌/◌, ℕ}
use Rattle.fib_addr.specs.Prefixes.{Prefix}
use Rattle.fib_resolve.specs.Resolution.{Trip, take_kind, follow}
use Rattle.fib_resolve.specs.declared.types.PathKind.{PathKind}
use Rattle.fib_resolve.specs.declared.types.Tables.{Tables}
use Rattle.test_plain.specs.declared.ways.NextStep.{NextStep}
use Rattle.test_plain.specs.declared.ways.NextStep.TheVariants as next_steps

-- where a path of that kind is taken, the packet ends so or goes on there with half its hash
abbrev pub EndsOrGoesOn : Tables → Prefix → PathKind → NextStep → Type 0
EndsOrGoesOn S e kind (next_steps.Ends end) = (go : Prefix → ℕ → Trip) (h : ℕ) → (take_kind S go e h kind).end ≡ end
EndsOrGoesOn S e kind (next_steps.GoesOn to) = (go : Prefix → ℕ → Trip) (h : ℕ) → (take_kind S go e h kind).end ≡ (go to (h / 2)).end

-- the same at an entry with a hash, by the number of entries that may still come
abbrev pub Steps : Tables → Prefix → ℕ → NextStep → Type 0
Steps S e h (next_steps.Ends end) = (n : ℕ) → (follow S (n + 1) e h).end ≡ end
Steps S e h (next_steps.GoesOn to) = (n : ℕ) → (follow S (n + 1) e h).end ≡ (follow S n to (h / 2)).end
