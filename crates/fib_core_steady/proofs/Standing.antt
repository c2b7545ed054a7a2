-- The ply on which a pass stands has a path that the address has.
use Rattle.std.proofs.Common.{◌≡◌, ◌≤◌, ◌<◌, inl, inr, ℕ, suc, ◌+◌, ◌*◌, ◌%◌, true, List, [], ◌∷◌, refl, sym, ap, ◌∙◌, subst, arith}
use Rattle.std.proofs.lemmas.Bool.Decides.{nat_tests}
use Rattle.std.specs.Prelude.{nat_lt, if◌then◌else◌, slice_index}
use Rattle.fib_addr.specs.Prefixes.{nibble}
use Rattle.fib_resolve.specs.declared.types.End.TheVariants as answers
use Rattle.fib_resolve.specs.declared.types.Tables.{Tables}
use Rattle.fib_core.specs.declared.word.Word.{Word}
use Rattle.fib_core.specs.declared.word.Word.TheVariants as words
use Rattle.fib_union.specs.Unions.{owner}
use Rattle.fib_core.specs.Words.{decoded, goes}
use Rattle.fib_core.specs.Walk.{Place, ply, balance, adjacency, ended, asked, next, deeper, from_ply, from_balance, word_at, IsFlow}
use Rattle.fib_core.specs.Union.{Union, Goes, Lies}
use Rattle.fib_core.specs.Trails.{Load, Walked, place, Follows}
use Rattle.fib_core.proofs.Numbers.{goes_of, owner_of}
use Rattle.fib_core_steady.specs.Names.{Names, IsBelow, IsChild, IsWalked}
use Rattle.fib_core_steady.specs.Promise.{KeepsPlies}
use Rattle.fib_core_steady.proofs.Edges.{child_of}
use Rattle.fib_core_steady.proofs.Blocks.{below_next, below_all, nibble_small}

pub flow : (a h : ℕ) (t : List Load) → Follows a h t → IsFlow a h
flow a h [] f = f
flow a h (l ∷ t) f = flow a h t f.2

abbrev pub IsPlyOf : Names → Union → ℕ → Place → Type 0
IsPlyOf n u a (ply x d) = IsWalked u x × (n.depth x ≡ d) × IsBelow a d (n.value x)
IsPlyOf n u a (balance o m) = Unit {0}
IsPlyOf n u a (adjacency o read) = Unit {0}
IsPlyOf n u a (ended e) = Unit {0}

-- the number of a ply's cell
pub slot_of : (x a d : ℕ) → (16 * x + nibble a d) % 16 ≡ nibble a d
slot_of x a d = modulo x (nibble a d) (nibble_small a d)
  where
    modulo : (x s : ℕ) → s < 16 → (16 * x + s) % 16 ≡ s
    modulo x s lt = omega arith

module _ (J : List Tables) (n : Names) (u : Union) (ok : KeepsPlies J n u) (a h : ℕ) where
  pub walked_depth : (x : ℕ) → IsWalked u x → n.depth x ≤ 7
  walked_depth x (inl is) = let zero_deep : n.depth x ≡ 0 = ap n.depth is ∙ ok.ways.root.0 in omega arith
  walked_depth x (inr (y, (k, w, from, is, g))) = (child_of n u ok.ways k w x g is).2

  -- an edge on the address's way leads to a ply of its path
  pub ply_of_child : (x d k w c : ℕ) → k ≡ 16 * x + nibble a d → decoded w ≡ words.ToPly c → Goes u k w → IsPlyOf n u a (ply x d) → (d + 1 ≤ 7) × IsPlyOf n u a (ply c (suc d))
  ply_of_child x d k w c at is g here =
      let from : owner k ≡ x = ap owner at ∙ owner_of x (nibble a d) (nibble_small a d) in
      let slot : k % 16 ≡ nibble a d = ap (λ i. i % 16) at ∙ slot_of x a d in
      let child : IsChild n (owner k) (k % 16) c = child_of n u ok.ways k w c g is in
      let deep : n.depth c ≡ d + 1 = child.0 ∙ ap (λ i. n.depth i + 1) from ∙ ap (λ i. i + 1) here.1 in
      let more : d + 1 ≡ suc d = omega arith in
      let le : d + 1 ≤ 7 = subst (λ (i : ℕ). i ≤ 7) deep child.2 in
      let le' : d ≤ 7 = omega arith in
      (le, (inr (owner k, (k, w, refl, is, g)), deep ∙ more, subst (λ (i : ℕ). IsBelow a i (n.value c)) more (below_next a d (n.value x) le' here.2 ∙ sym (child.1 ∙ ap (λ i. 16 * n.value i + k % 16) from ∙ ap (λ i. 16 * n.value x + i) slot))))

  below_seven : (d : ℕ) → d + 1 ≤ 7 → nat_lt d 7 ≡ true
  below_seven d le = let lt : d < 7 = omega arith in grind (arith, nat_tests)

  deeper_test : (d c : ℕ) → d + 1 ≤ 7 → deeper d c ≡ ply c (suc d)
  deeper_test d c le = ap (λ b. if b then ply c (suc d) else ended answers.Drop) (below_seven d le)

  ply_next : (x d k w : ℕ) (W : Word) → decoded w ≡ W → k ≡ 16 * x + nibble a d → (goes w ≡ true → Lies u k w) → IsPlyOf n u a (ply x d) → IsPlyOf n u a (from_ply d W)
  ply_next x d k w (words.ToPly c) is at lies here =
      let going = goes_of w (words.ToPly c) is in
      let all = ply_of_child x d k w c at is (going, lies going) here in
      subst (IsPlyOf n u a) (sym (deeper_test d c all.0)) all.1
  ply_next x d k w (words.ToBalance o) is at lies here = tt
  ply_next x d k w words.Drop is at lies here = tt
  ply_next x d k w words.Receive is at lies here = tt
  ply_next x d k w (words.Glean i) is at lies here = tt
  ply_next x d k w (words.ToAdjacency o) is at lies here = tt
  ply_next x d k w (words.Plain m) is at lies here = tt

  balance_next : (m : ℕ) (W : Word) → IsPlyOf n u a (from_balance m W)
  balance_next m (words.ToPly y) = tt
  balance_next m (words.ToBalance y) = tt
  balance_next m words.Drop = tt
  balance_next m words.Receive = tt
  balance_next m (words.Glean i) = tt
  balance_next m (words.ToAdjacency y) = tt
  balance_next m (words.Plain v) = tt

  pub next_place : (at : Place) (l : Load) → l.0 ≡ asked a h at → (goes l.1 ≡ true → Lies u l.0 l.1) → IsPlyOf n u a at → IsPlyOf n u a (next at (decoded l.1))
  next_place (ply x d) l is lies here = ply_next x d l.0 l.1 (decoded l.1) refl is lies here
  next_place (balance o m) l is lies here = balance_next m (decoded l.1)
  next_place (adjacency o []) l is lies here = tt
  next_place (adjacency o (i ∷ [])) l is lies here = tt
  next_place (adjacency o (i ∷ g ∷ more)) l is lies here = tt
  next_place (ended e) l is lies here = tt

  pub ply_here : (t : List Load) → Walked (Lies u) t → Follows a h t → IsPlyOf n u a (place t)
  ply_here [] walked follows = (inl refl, ok.ways.root.0, below_all a follows.0 ∙ sym ok.ways.root.1)
  ply_here (l ∷ t) walked follows = next_place (place t) l follows.0 walked.1 (ply_here t walked.2 follows.2)

  -- a ply's cell as it is
  pub current_edge : (x s c : ℕ) → word_at u.cells x s ≡ words.ToPly c → Goes u (16 * x + s) (slice_index u.cells (16 * x + s))
  current_edge x s c is = (goes_of (slice_index u.cells (16 * x + s)) (words.ToPly c) is, inl refl)

  pub current_child : (x d c : ℕ) → word_at u.cells x (nibble a d) ≡ words.ToPly c → IsPlyOf n u a (ply x d) → deeper d c ≡ ply c (suc d)
  current_child x d c is here = deeper_test d c (ply_of_child x d (16 * x + nibble a d) (slice_index u.cells (16 * x + nibble a d)) c refl is (current_edge x (nibble a d) c is) here).0
