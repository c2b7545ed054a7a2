-- The script's text is read back to its lines.
use Rattle.std.proofs.Common.{◌≡◌, ℕ, ◌+◌, ◌/◌, ◌%◌, ◌<◌, ◌^◌, ◌==◌, ◌∷◌, [], List, refl, arith, inl, inr}
use Rattle.fib_base_list.proofs.Lists.{either}
use Rattle.fib_addr.specs.Texts.{mac_number}
use Rattle.fib_base_lines.specs.Lines.{lines_of}
use Rattle.fib_soak.specs.Draws.{draw, next, after_2, after_3}
use Rattle.fib_soak.specs.Scripts.{create_line, up_line, address_line, neighbor_start, neighbor_mac, neighbor_line, target_line, route_line, state_line, drawn_route_line, deletion_line, path_line, change_of, change_line, soak_lines, soak_script}
use Rattle.fib_soak.proofs.Clean.{IsClean, clean_append, decimal_clean, number_then, mac_clean, lines_again}
use Rattle.fib_soak.proofs.Parts.{Forms, drawn_below, each-line}

drawn : (n x : ℕ) → 0 < n → n < 1000 → draw n x < 2 ^ 64
drawn n x some few = omega (arith, drawn_below n x some)

route_clean : (p q z : ℕ) → p < 8 → q < 250 → z < 32 → IsClean (route_line p q z)
unfolding route_line
route_clean p q z a b c = rw (number_then p _ (omega (arith, a)), number_then q _ (omega (arith, b)), decimal_clean z (omega (arith, c))) refl

state_clean : (x : ℕ) → IsClean (state_line x)
unfolding state_line
state_clean x =
    rw (number_then (draw 4 x) _ (drawn 4 x (omega arith) (omega arith)))
    (elim (either (draw 2 (next x) == 1)) [ inl is ↦ rw is refl | inr isnt ↦ rw isnt refl ])

drawn_route_clean : (x : ℕ) → IsClean (drawn_route_line x)
unfolding drawn_route_line
drawn_route_clean x =
    route_clean (draw 8 x) (draw 250 (next x)) (draw 32 (after_2 x))
    (drawn_below 8 x (omega arith)) (drawn_below 250 (next x) (omega arith)) (drawn_below 32 (after_2 x) (omega arith))

deletion_clean : (x : ℕ) → IsClean (deletion_line x)
unfolding deletion_line
deletion_clean x =
    rw (number_then (draw 8 x) _ (drawn 8 x (omega arith) (omega arith)), number_then (draw 250 (next x)) _ (drawn 250 (next x) (omega arith) (omega arith))) refl

path_clean : (x : ℕ) → IsClean (path_line x)
unfolding path_line
path_clean x =
    rw (
      number_then (draw 32 x) _ (drawn 32 x (omega arith) (omega arith)),
      number_then (draw 8 (next x)) _ (drawn 8 (next x) (omega arith) (omega arith)),
      number_then (draw 250 (after_2 x)) _ (drawn 250 (after_2 x) (omega arith) (omega arith)),
    ) refl

-- a change is one of four lines
pub change_cases : (P : List ℕ → Type 0) → ((x : ℕ) → P (state_line x)) → ((x : ℕ) → P (drawn_route_line x)) → ((x : ℕ) → P (deletion_line x)) → ((x : ℕ) → P (path_line x))
    → (x : ℕ) → P (change_line x)
unfolding change_line change_of
change_cases P state route deletion path x =
    let t = draw 4 x in
    let y = next x in
    elim (either (t == 0)) [
      | inl a ↦ rw a (state y)
      | inr a ↦ elim (either (t == 1)) [
        | inl b ↦ rw (a, b) (route y)
        | inr b ↦ elim (either (t == 2)) [
          | inl c ↦ rw (a, b, c) (deletion y)
          | inr c ↦ rw (a, b, c) (path y)
        ]
      ]
    ]

create_clean : (k : ℕ) → k < 4 → IsClean (create_line k)
unfolding create_line
create_clean k few = rw (decimal_clean k (omega (arith, few))) refl

up_clean : (k : ℕ) → k < 4 → IsClean (up_line k)
unfolding up_line
up_clean k few = rw (number_then k _ (omega (arith, few))) refl

address_clean : (k : ℕ) → k < 4 → IsClean (address_line k)
unfolding address_line
address_clean k few = rw (number_then k _ (omega (arith, few)), number_then k _ (omega (arith, few))) refl

start_clean : (k h : ℕ) → k < 4 → h < 18 → IsClean (neighbor_start k h)
unfolding neighbor_start
start_clean k h few small = rw (number_then k _ (omega (arith, few)), number_then k _ (omega (arith, few)), number_then h _ (omega (arith, small))) refl

neighbor_clean : (j : ℕ) → j < 64 → IsClean (neighbor_line j)
unfolding neighbor_line
neighbor_clean j few =
    clean_append (neighbor_start (j % 4) (2 + j / 4)) (neighbor_mac (j % 4) (2 + j / 4))
    (start_clean (j % 4) (2 + j / 4) (omega arith) (omega (arith, few)))
    (mac_clean (mac_number (2 ∷ 0 ∷ 0 ∷ []) (0 ∷ (j % 4) ∷ (2 + j / 4) ∷ [])))

target_clean : (j x : ℕ) → j < 32 → IsClean (target_line j x)
unfolding target_line
target_clean j x few =
    rw (
      number_then j _ (omega (arith, few)),
      number_then (draw 4 x) _ (drawn 4 x (omega arith) (omega arith)),
      number_then (2 + draw 16 (next x)) _ (omega (arith, drawn_below 16 (next x) (omega arith))),
      number_then (draw 4 (after_2 x)) _ (drawn 4 (after_2 x) (omega arith) (omega arith)),
      decimal_clean (2 + draw 16 (after_3 x)) (omega (arith, drawn_below 16 (after_3 x) (omega arith))),
    ) refl

clean_forms : Forms IsClean
clean_forms = record {
  create = create_clean;
  up = up_clean;
  address = address_clean;
  neighbor = neighbor_clean;
  target = target_clean;
  route = route_clean;
  change = change_cases IsClean state_clean drawn_route_clean deletion_clean path_clean;
}

pub script_again : (seed : ℕ) → lines_of (soak_script seed) ≡ soak_lines seed
unfolding soak_script
script_again seed = lines_again (soak_lines seed) (each-line IsClean clean_forms refl seed)
