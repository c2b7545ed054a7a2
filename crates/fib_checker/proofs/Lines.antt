-- Lines, one after the other.
use Rattle.std.proofs.Common.{◌≡◌, ◌≤◌, ◌+◌, ◌++◌, ◌∷◌, [], ℕ, zero, suc, List, length, drop, refl, ap, ◌∙◌, sym, Some, arith}
use Rattle.std.specs.Prelude.{None, slice_get}
use Rattle.std.proofs.lemmas.List.{append_assoc, append-nil, drop_all}
use Rattle.fib_resolve.specs.declared.types.Tables.{Tables}
use Rattle.fib_checker.specs.Output.{printed, turn_of}

-- what is left from that place begins with what stands there
rest_at : (xs : List (List ℕ)) (n : ℕ) (x : List ℕ) → slice_get xs n ≡ Some x → drop n xs ≡ x ∷ drop (suc n) xs
rest_at [] n x at = absurd (past n at)
  where
    past : (j : ℕ) → slice_get [] j ≡ Some x → ⊥
    past zero h = let bad : None ≡ Some x = h in cc
    past (suc j) h = let bad : None ≡ Some x = h in cc
rest_at (y ∷ xs) zero x at = let same : Some y ≡ Some x = at in ap (λ z. z ∷ xs) (inside y same)
  where
    inside : (z : List ℕ) → Some z ≡ Some x → z ≡ x
    inside z e = cc
rest_at (y ∷ xs) (suc n) x at = rest_at xs n x at

printed_more : (n : ℕ) (S : Tables) (line : List ℕ) (lines : List (List ℕ)) → printed n S (line ∷ lines) ≡ (turn_of n S line).1 ++ printed (n + 1) (turn_of n S line).0 lines
unfolding printed
printed_more n S line lines = refl

-- one line more
pub lines_more : (script : List (List ℕ)) (place : ℕ) (line : List ℕ) (S T : Tables) (old new : List ℕ) → slice_get script place ≡ Some line
    → T ≡ (turn_of (place + 1) S line).0 → new ≡ old ++ (turn_of (place + 1) S line).1
    → new ++ printed (place + 1 + 1) T (drop (place + 1) script) ≡ old ++ printed (place + 1) S (drop place script)
lines_more script place line S T old new at tables text =
    let next : place + 1 ≡ suc place = omega arith in
    let t = turn_of (place + 1) S line in
    let rest = drop (place + 1) script in
    let lines : drop place script ≡ line ∷ rest = rest_at script place line at ∙ ap (λ n. line ∷ drop n script) (sym next) in
    ap (λ q. new ++ printed (place + 1 + 1) q rest) tables
    ∙ (ap (λ xs. xs ++ printed (place + 1 + 1) t.0 rest) text
    ∙ (append_assoc old t.1 (printed (place + 1 + 1) t.0 rest)
    ∙ (ap (λ xs. old ++ xs) (sym (printed_more (place + 1) S line rest))
    ∙ sym (ap (λ ls. old ++ printed (place + 1) S ls) lines))))

-- no line is left
pub lines_end : (n : ℕ) (S : Tables) (script : List (List ℕ)) (place : ℕ) (text : List ℕ) → length script ≤ place → text ++ printed n S (drop place script) ≡ text
unfolding printed
lines_end n S script place text le = ap (λ ls. text ++ printed n S ls) (drop_all place script le) ∙ append-nil text
