-- The second point in its own words: from the root, and from any ply into which the union leads and whose path the address has, the plies' part of the walk reaches the balance of the one best entry.
use Rattle.std.proofs.Common.{◌≡◌, ◌≤◌, ◌<◌, ◌^◌, ◌/◌, ◌*◌, ◌-◌, ℕ, zero, suc, ◌+◌, List, Some, refl, ap, ◌∙◌, arith}
use Rattle.fib_addr.specs.Prefixes.{Prefix, nibble}
use Rattle.fib_resolve.specs.declared.types.Tables.{Tables}
use Rattle.fib_core.specs.declared.word.Word.{Word}
use Rattle.fib_core.specs.declared.word.Word.TheVariants as words
use Rattle.fib_core.specs.Walk.{Place, ply, balance, from_ply, word_at, after}
use Rattle.fib_core.specs.Union.{Union}
use Rattle.std.specs.Prelude.{slice_index}
use Rattle.fib_core_steady.specs.Aims.{BestAlike}
use Rattle.fib_core_steady.specs.Names.{Names, IsBelow, IsWalked}
use Rattle.fib_core_steady.specs.Promise.{IsRight, KeepsPlies}
use Rattle.fib_core_steady.proofs.Blocks.{below_next, nibble_small}
use Rattle.fib_core_steady.proofs.Standing.{IsPlyOf, walked_depth, ply_of_child, current_edge, current_child}

module _ (J : List Tables) (n : Names) (u : Union) (ok : KeepsPlies J n u) (a h : ℕ) (fits : a < 2 ^ 32) (e : Prefix) (alike : BestAlike J a e) where
  abbrev Comes : Place → Type 0
  Comes p = (k : ℕ) × (o : ℕ) × (after u.cells a h k p ≡ balance o 0) × (n.balance e ≡ Some o)

  by_word : (x d : ℕ) → d ≤ 7 → IsPlyOf n u a (ply x d) → ((c : ℕ) → IsPlyOf n u a (ply c (suc d)) → (k : ℕ) × (o : ℕ) × (after u.cells a h k (ply c (suc d)) ≡ balance o 0) × (n.balance e ≡ Some o))
      → (w : Word) → word_at u.cells x (nibble a d) ≡ w → IsRight J n x (nibble a d) w → (k : ℕ) × (o : ℕ) × (after u.cells a h k (from_ply d w) ≡ balance o 0) × (n.balance e ≡ Some o)
  by_word x d le p further (words.ToPly c) is right =
      let child = (ply_of_child J n u ok a h x d (16 * x + nibble a d) (slice_index u.cells (16 * x + nibble a d)) c refl is (current_edge J n u ok a h x (nibble a d) c is) p).1 in
      let more = further c child in
      (more.0, more.1, ap (after u.cells a h more.0) (current_child J n u ok a h x d c is p) ∙ more.2, more.3)
  by_word x d le p further (words.ToBalance o) is right = (0, o, refl, right a e (fits, ap (λ i. a / 2 ^ (32 - 4 * (i + 1))) p.1 ∙ below_next a d (n.value x) le p.2) alike)
  by_word x d le p further words.Drop is right = absurd right
  by_word x d le p further words.Receive is right = absurd right
  by_word x d le p further (words.Glean i) is right = absurd right
  by_word x d le p further (words.ToAdjacency y) is right = absurd right
  by_word x d le p further (words.Plain v) is right = absurd right

  from : (left x d : ℕ) → d + left ≡ 8 → IsPlyOf n u a (ply x d) → (k : ℕ) × (o : ℕ) × (after u.cells a h k (ply x d) ≡ balance o 0) × (n.balance e ≡ Some o)
  from zero x d total p = let le : n.depth x ≤ 7 = walked_depth J n u ok a h x p.0 in let deep : n.depth x ≡ d = p.1 in absurd (omega arith)
  from (suc left) x d total p =
      let le : d ≤ 7 = omega arith in
      let total' : suc d + left ≡ 8 = omega arith in
      let next = by_word x d le p (λ c q. from left c (suc d) total' q) (word_at u.cells x (nibble a d)) refl (ok.right x (nibble a d) p.0 (nibble_small a d)) in
      (suc next.0, next.1, next.2, next.3)

  pub plies_reach : (x : ℕ) → IsWalked u x → IsBelow a (n.depth x) (n.value x) → (k : ℕ) × (o : ℕ) × (after u.cells a h k (ply x (n.depth x)) ≡ balance o 0) × (n.balance e ≡ Some o)
  plies_reach x walked below = let le : n.depth x ≤ 7 = walked_depth J n u ok a h x walked in from (8 - n.depth x) x (n.depth x) (omega arith) (walked, refl, below)
