use Rattle.std.proofs.Common.{ℕ, List, [], ◌∷◌, ◌<◌, lit<}
use Rattle.std.proofs.lemmas.List.Elements.{All-from_recursion}
use Rattle.test_base.proofs.loops.cycles_that_share_a_node.Goals as goal

pub mark-requires : goal.mark-requires
mark-requires g c =
    let edges : List (ℕ × ℕ) = (0, 1) ∷ (1, 2) ∷ (2, 1) ∷ (1, 3) ∷ (3, 1) ∷ (3, 4) ∷ (4, 4) ∷ (4, 5) ∷ (0, 5) ∷ (0, 1) ∷ [] in
    All-from_recursion (λ (e : ℕ × ℕ). (e.0 < 7) × (e.1 < 7)) edges ((lit< tt, lit< tt), ((lit< tt, lit< tt), ((lit< tt, lit< tt), ((lit< tt, lit< tt), ((lit< tt, lit< tt), ((lit< tt, lit< tt), ((lit< tt, lit< tt), ((lit< tt, lit< tt), ((lit< tt, lit< tt), ((lit< tt, lit< tt), tt))))))))))
