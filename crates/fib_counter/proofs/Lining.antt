-- Lines, one after the other.
use Rattle.std.proofs.Common.{◌≡◌, ◌≤◌, ◌+◌, ◌++◌, ◌∷◌, [], ℕ, List, length, drop, ap, ◌∙◌, sym, Some}
use Rattle.std.specs.Prelude.{slice_get}
use Rattle.std.proofs.lemmas.List.{append_assoc, append-nil, drop_all}
use Rattle.fib_worker_crew.proofs.Spans.{drop_at}
use Rattle.fib_rounds_turns.specs.Routers.{Router}
use Rattle.fib_counter.specs.CountOutput.{count_turn, lines_turn}

-- one line more
pub lines_more : (script : List (List ℕ)) (place : ℕ) (line : List ℕ) (r s : Router) (old new : List ℕ) → slice_get script place ≡ Some line
    → s ≡ (count_turn (place + 1) r line).0 → new ≡ old ++ (count_turn (place + 1) r line).1
    → ((lines_turn (place + 1 + 1) s (drop (place + 1) script)).0 ≡ (lines_turn (place + 1) r (drop place script)).0)
    × (new ++ (lines_turn (place + 1 + 1) s (drop (place + 1) script)).1 ≡ old ++ (lines_turn (place + 1) r (drop place script)).1)
lines_more script place line r s old new at router text =
    let rest = drop (place + 1) script in
    let lines : drop place script ≡ line ∷ rest = drop_at script place line at in
    let t = count_turn (place + 1) r line in
    let later = lines_turn (place + 1 + 1) t.0 rest in (
      ap (λ q. (lines_turn (place + 1 + 1) q rest).0) router ∙ sym (ap (λ ls. (lines_turn (place + 1) r ls).0) lines),
      ap (λ q. new ++ (lines_turn (place + 1 + 1) q rest).1) router
          ∙ (ap (λ xs. xs ++ later.1) text ∙ (append_assoc old t.1 later.1 ∙ sym (ap (λ ls. old ++ (lines_turn (place + 1) r ls).1) lines))),
    )

-- no line is left
pub lines_end : (n : ℕ) (r : Router) (script : List (List ℕ)) (place : ℕ) → length script ≤ place
    → ((lines_turn n r (drop place script)).0 ≡ r) × ((old : List ℕ) → old ++ (lines_turn n r (drop place script)).1 ≡ old)
lines_end n r script place le =
    let none : drop place script ≡ [] = drop_all place script le in
    (ap (λ ls. (lines_turn n r ls).0) none, λ old. ap (λ ls. old ++ (lines_turn n r ls).1) none ∙ append-nil old)
