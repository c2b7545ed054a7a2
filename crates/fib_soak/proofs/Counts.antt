-- How many lines and flows there are.
use Rattle.std.proofs.Common.{◌≡◌, ℕ, zero, suc, ◌+◌, ◌*◌, ◌++◌, ◌∷◌, [], List, length, refl, arith, length-append}
use Rattle.fib_soak.specs.Draws.{repeated, next, after_4}
use Rattle.fib_soak.specs.Flows.{flows, flow_at, soak_flows}
use Rattle.fib_soak.specs.Scripts.{lines_for, interface_lines, interfaces, neighbors, targets, routes, changes, round_lines, change_line, after_change, after_round, rounds, soak_lines, forward_line}

length-flows : (n x : ℕ) → length (flows n x) ≡ n
unfolding flows
length-flows zero x = refl
length-flows (suc n) x = omega (arith, length-append (flows n x) (flow_at (repeated after_4 n x) ∷ []), length-flows n x)

pub length-lines_for : (f : ℕ → List ℕ) (n : ℕ) → length (lines_for f n) ≡ n
unfolding lines_for
length-lines_for f zero = refl
length-lines_for f (suc n) = omega (arith, length-append (lines_for f n) (f n ∷ []), length-lines_for f n)

pub length-interfaces : (n : ℕ) → length (interfaces n) ≡ 3 * n
unfolding interfaces
length-interfaces zero = refl
length-interfaces (suc n) = omega (arith, length-append (interfaces n) (interface_lines n), length-interfaces n)

length-round : (x : ℕ) → length (round_lines x) ≡ 22
length-round x = omega (arith, length-append (forward_line ∷ changes 20 x) (forward_line ∷ []), length-lines_for (λ j. change_line (repeated after_change j x)) 20)

length-rounds : (n x : ℕ) → length (rounds n x) ≡ 22 * n
unfolding rounds
length-rounds zero x = refl
length-rounds (suc n) x = omega (arith, length-append (rounds n x) (round_lines (repeated after_round n x)), length-rounds n x, length-round (repeated after_round n x))

length-five : (a b c d e : List (List ℕ)) → length a ≡ 12 → length b ≡ 64 → length c ≡ 32 → length d ≡ 2000 → length e ≡ 880 → length (a ++ b ++ c ++ d ++ e) ≡ 2988
length-five a b c d e p q r s t = rw (length-append, length-append, length-append, length-append, p, q, r, s, t) refl

pub all_lines : (seed : ℕ) → length (soak_lines seed) ≡ 2988
unfolding soak_lines
all_lines seed = length-five (interfaces 4) (neighbors 64) (targets 32 seed) (routes 2000 (repeated after_4 32 seed)) (rounds 40 (repeated next 2000 (repeated after_4 32 seed)))
    (length-interfaces 4) (length-lines_for _ 64) (length-lines_for _ 32) (length-lines_for _ 2000) (length-rounds 40 _)

pub all_flows : (seed : ℕ) → length (soak_flows seed) ≡ 40000
unfolding soak_flows
all_flows seed = length-flows 40000 (seed + 1)
