-- What holds of each form of a line holds of each line of the script.
use Rattle.std.proofs.Common.{◌≡◌, ℕ, zero, suc, ◌/◌, ◌%◌, ◌<◌, ◌++◌, ◌∷◌, [], List, length, refl, arith, length-append}
use Rattle.std.specs.List.{AllByRecursion}
use Rattle.fib_base_list.proofs.Lists.{each-append}
use Rattle.fib_soak.specs.Draws.{draw, next, repeated, after_4}
use Rattle.fib_soak.specs.Scripts.{create_line, up_line, address_line, neighbor_line, target_line, route_line, change_line, after_change, after_round, forward_line, lines_for, interface_lines, interfaces, neighbors, targets, routes, changes, round_lines, rounds, soak_lines}
use Rattle.fib_soak.proofs.Counts.{length-lines_for, length-interfaces}

-- each form, but the line that forwards
pub record Forms (P : List ℕ → Type 0) : Type 0 where
  pub create : (k : ℕ) → k < 4 → P (create_line k)
  pub up : (k : ℕ) → k < 4 → P (up_line k)
  pub address : (k : ℕ) → k < 4 → P (address_line k)
  pub neighbor : (j : ℕ) → j < 64 → P (neighbor_line j)
  pub target : (j x : ℕ) → j < 32 → P (target_line j x)
  pub route : (p q z : ℕ) → p < 8 → q < 250 → z < 32 → P (route_line p q z)
  pub change : (x : ℕ) → P (change_line x)

pub drawn_below : (n x : ℕ) → 0 < n → draw n x < n
unfolding draw
drawn_below n x some = omega arith

each-lines_for : (P : List ℕ → Type 0) (f : ℕ → List ℕ) (n : ℕ) → ((j : ℕ) → j < n → P (f j)) → AllByRecursion P (lines_for f n)
unfolding lines_for
each-lines_for P f zero h = tt
each-lines_for P f (suc n) h = each-append P (lines_for f n) (f n ∷ []) (each-lines_for P f n (λ j lt. h j (omega (arith, lt)))) (h n (omega arith), tt)

each-interfaces : (P : List ℕ → Type 0) → Forms P → (n : ℕ) → n < 5 → AllByRecursion P (interfaces n)
unfolding interfaces
each-interfaces P forms zero few = tt
each-interfaces P forms (suc n) few =
    each-append P (interfaces n) (interface_lines n) (each-interfaces P forms n (omega (arith, few)))
    (forms.create n (omega (arith, few)), (forms.up n (omega (arith, few)), (forms.address n (omega (arith, few)), tt)))

-- a round's changes
pub each-changes : (P : List ℕ → Type 0) → Forms P → (n x : ℕ) → AllByRecursion P (changes n x)
each-changes P forms n x = each-lines_for P (λ j. change_line (repeated after_change j x)) n (λ j lt. forms.change (repeated after_change j x))

-- the lines before the rounds
abbrev pub first_lines : ℕ → List (List ℕ)
first_lines seed = interfaces 4 ++ neighbors 64 ++ targets 32 seed ++ routes 2000 (repeated after_4 32 seed)

abbrev pub first_state : ℕ → ℕ
first_state seed = repeated next 2000 (repeated after_4 32 seed)

pub script_parts : (seed : ℕ) → soak_lines seed ≡ first_lines seed ++ rounds 40 (first_state seed)
unfolding soak_lines
script_parts seed = refl

four_parts : (a b c d : List (List ℕ)) → length a ≡ 12 → length b ≡ 64 → length c ≡ 32 → length d ≡ 2000 → length (a ++ b ++ c ++ d) ≡ 2108
four_parts a b c d p q r s = rw (length-append, length-append, length-append, p, q, r, s) refl

pub length-first : (seed : ℕ) → length (first_lines seed) ≡ 2108
length-first seed =
    four_parts (interfaces 4) (neighbors 64) (targets 32 seed) (routes 2000 (repeated after_4 32 seed))
    (length-interfaces 4) (length-lines_for _ 64) (length-lines_for _ 32) (length-lines_for _ 2000)

pub each-first : (P : List ℕ → Type 0) → Forms P → (seed : ℕ) → AllByRecursion P (first_lines seed)
each-first P forms seed =
    let x = repeated after_4 32 seed in
    each-append P (interfaces 4 ++ neighbors 64 ++ targets 32 seed) (routes 2000 x)
    (each-append P (interfaces 4 ++ neighbors 64) (targets 32 seed)
    (each-append P (interfaces 4) (neighbors 64) (each-interfaces P forms 4 (omega arith)) (each-lines_for P neighbor_line 64 forms.neighbor))
    (each-lines_for P _ 32 (λ j lt. forms.target j (repeated after_4 j seed) lt)))
    (each-lines_for P _ 2000 (λ j lt. forms.route (j / 250) (j % 250) (draw 32 (repeated next j x)) (omega (arith, lt)) (omega arith) (drawn_below 32 _ (omega arith))))

each-rounds : (P : List ℕ → Type 0) → Forms P → P forward_line → (n x : ℕ) → AllByRecursion P (rounds n x)
unfolding rounds
each-rounds P forms forward zero x = tt
each-rounds P forms forward (suc n) x =
    let y = repeated after_round n x in
    each-append P (rounds n x) (round_lines y) (each-rounds P forms forward n x)
    (forward, each-append P (changes 20 y) (forward_line ∷ []) (each-changes P forms 20 y) (forward, tt))

-- all lines
pub each-line : (P : List ℕ → Type 0) → Forms P → P forward_line → (seed : ℕ) → AllByRecursion P (soak_lines seed)
each-line P forms forward seed =
    rw (script_parts seed) (each-append P (first_lines seed) (rounds 40 (first_state seed)) (each-first P forms seed) (each-rounds P forms forward 40 (first_state seed)))
