-- The way of a packet, step by step.
use Rattle.std.proofs.Common.{arith, add-one, ◌≡◌, ℕ, suc, ◌+◌, ◌-◌, ◌/◌, ◌%◌, ◌<◌, ◌≤◌, Option, Some, None, length, refl, sym, ◌∙◌, ap}
use Rattle.std.specs.Prelude.{slice_get}
use Rattle.fib_addr.specs.Prefixes.{Prefix}
use Rattle.fib_resolve.specs.Pairs.{entries, best}
use Rattle.fib_resolve.specs.Forwarding.{limit}
use Rattle.fib_resolve.specs.Buckets.{wanted}
use Rattle.fib_resolve.specs.Resolution.{Trip, follow, take_path, resolve, way}
use Rattle.fib_resolve.specs.declared.types.End.{End}
use Rattle.fib_resolve.specs.declared.types.End.TheVariants as answers
use Rattle.fib_resolve.specs.declared.types.Path.{Path}
use Rattle.fib_resolve.specs.declared.types.Tables.{Tables}
use Rattle.test_plain.specs.declared.ways.NextStep.{NextStep}
use Rattle.test_plain.specs.declared.ways.NextStep.TheVariants as next_steps
use Rattle.test_plain.specs.inner.Steps.{EndsOrGoesOn, Steps}

follow_suc : (S : Tables) (n : ℕ) (e : Prefix) (h : ℕ) → follow S (suc n) e h ≡ take_path S (follow S n) e h (slice_get (wanted S e) (h % 16))
unfolding follow
follow_suc S n e h = refl

follow_more : (S : Tables) (n : ℕ) (e : Prefix) (h : ℕ) → follow S (n + 1) e h ≡ take_path S (follow S n) e h (slice_get (wanted S e) (h % 16))
follow_more S n e h = rw add-one (follow_suc S n e h)

pub steps_from : (S : Tables) (e : Prefix) (h : ℕ) (p : Path) (next_step : NextStep) → Some p ≡ slice_get (wanted S e) (h % 16) → EndsOrGoesOn S e p.kind next_step → Steps S e h next_step
steps_from S e h p (next_steps.Ends end) is takes = λ n.
    ap (λ (t : Trip). t.end) (follow_more S n e h ∙ ap (λ (o : Option Path). take_path S (follow S n) e h o) (sym is)) ∙ takes (follow S n) h
steps_from S e h p (next_steps.GoesOn to) is takes = λ n.
    ap (λ (t : Trip). t.end) (follow_more S n e h ∙ ap (λ (o : Option Path). take_path S (follow S n) e h o) (sym is)) ∙ takes (follow S n) h

pub steps_nowhere : (S : Tables) (e : Prefix) (h : ℕ) → None ≡ slice_get (wanted S e) (h % 16) → Steps S e h (next_steps.Ends answers.Drop)
steps_nowhere S e h is = λ n. ap (λ (t : Trip). t.end) (follow_more S n e h ∙ ap (λ (o : Option Path). take_path S (follow S n) e h o) (sym is))

pub resolve_start : (S : Tables) (a h m : ℕ) → m ≡ length (entries S) → (follow S (m + 1 - 0) (best S a) h).end ≡ resolve S a h
unfolding resolve way limit
resolve_start S a h m is =
    let same : m + 1 - 0 ≡ length (entries S) + 1 = omega (arith, is) in
    ap (λ (n : ℕ). (follow S n (best S a) h).end) same

follow_zero : (S : Tables) (e : Prefix) (h : ℕ) → (follow S 0 e h).end ≡ answers.Drop
unfolding follow
follow_zero S e h = refl

pub resolve_stop : (S : Tables) (e : Prefix) (h n m : ℕ) (end : End) → m ≤ n → (follow S (m - n) e h).end ≡ end → answers.Drop ≡ end
resolve_stop S e h n m end done is =
    let none : m - n ≡ 0 = omega (arith, done) in
    sym (ap (λ (k : ℕ). (follow S k e h).end) none ∙ follow_zero S e h) ∙ is

one_less : (n m : ℕ) → n < m → m - (n + 1) + 1 ≡ m - n
one_less n m h = omega (arith, h)

pub resolve_end : (S : Tables) (e : Prefix) (h n m : ℕ) (end answer : End) → n < m → (follow S (m - n) e h).end ≡ answer → Steps S e h (next_steps.Ends end) → end ≡ answer
resolve_end S e h n m end answer more is steps =
    sym (ap (λ (k : ℕ). (follow S k e h).end) (sym (one_less n m more)) ∙ steps (m - (n + 1))) ∙ is

pub resolve_on : (S : Tables) (e to : Prefix) (h n m : ℕ) (answer : End) → n < m → (follow S (m - n) e h).end ≡ answer → Steps S e h (next_steps.GoesOn to) → (follow S (m - (n + 1)) to (h / 2)).end ≡ answer
resolve_on S e to h n m answer more is steps =
    sym (steps (m - (n + 1))) ∙ (ap (λ (k : ℕ). (follow S k e h).end) (one_less n m more) ∙ is)
