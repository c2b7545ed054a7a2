-- Names are free: two choices for which the promise holds agree on every entry of a way that is the same in all versions.
use Rattle.std.proofs.Common.{◌≡◌, ◌≤◌, ◌<◌, ◌^◌, ◌/◌, ◌%◌, inl, ℕ, zero, suc, ◌+◌, ◌*◌, ◌-◌, List, [], ◌∷◌, Some, refl, sym, ap, ◌∙◌, subst, arith}
use Rattle.std.specs.Prelude.{Contains, slice_get, slice_index, drop}
use Rattle.fib_addr.specs.Prefixes.{Prefix, nibble}
use Rattle.fib_resolve.specs.Resolution.{Step, Trip}
use Rattle.fib_resolve.specs.Tables.{IsSound}
use Rattle.fib_resolve.specs.declared.types.Tables.{Tables}
use Rattle.fib_core.specs.declared.word.Word.{Word}
use Rattle.fib_core.specs.declared.word.Word.TheVariants as words
use Rattle.fib_core.specs.Walk.{Place, ply, balance, adjacency, ended, halved, word_at, adjacency_end}
use Rattle.fib_core.specs.Union.{Union}
use Rattle.fib_core_steady.specs.Aims.{shown_by, BestAlike}
use Rattle.fib_core_steady.specs.Names.{Names, IsIn}
use Rattle.fib_core_steady.specs.Promise.{IsAimed, IsRight, KeepsPlies, IsPromised}
use Rattle.fib_core_steady.specs.Undisturbed.{WayAlike, IsOnWay}
use Rattle.fib_core_steady.proofs.Lists.{some_same, none_some, drop_at}
use Rattle.fib_core_steady.proofs.Blocks.{below_next, below_all, nibble_small}
use Rattle.fib_core_steady.proofs.Standing.{IsPlyOf, walked_depth, ply_of_child, current_edge}
use Rattle.fib_core_steady.proofs.Loading.{lasting, wants_alike, first_entry}

mod_small : (n : ℕ) → n % 16 < 16
mod_small n = omega arith

before : {X : Type 0} (xs : List X) (k : ℕ) (x : X) → slice_get xs (suc k) ≡ Some x → (y : X) × (slice_get xs k ≡ Some y)
before [] k x e = absurd (none_some x e)
before (y ∷ ys) zero x e = (y, refl)
before (y ∷ ys) (suc k) x e = before ys k x e

balance_same : (x y : ℕ) (w : Word) → w ≡ words.ToBalance x → w ≡ words.ToBalance y → x ≡ y
balance_same x y w p q = cc

-- a balance that both name for the entry
abbrev pub Agree : Names → Names → Prefix → Type 0
Agree n m e = (o : ℕ) × (n.balance e ≡ Some o) × (m.balance e ≡ Some o)

module _ (J : List Tables) (n m : Names) (u : Union) (ok : IsPromised J n u) (also : IsPromised J m u) (a h : ℕ) (fits : a < 2 ^ 32) where
  inside : (k : Names) (x d : ℕ) → d ≤ 7 → IsPlyOf k u a (ply x d) → IsIn k x (nibble a d) a
  inside k x d le p = (fits, ap (λ i. a / 2 ^ (32 - 4 * (i + 1))) p.1 ∙ below_next a d (k.value x) le p.2)

  child_of : (k : Names) → KeepsPlies J k u → (x d c : ℕ) → IsPlyOf k u a (ply x d) → word_at u.cells x (nibble a d) ≡ words.ToPly c → IsPlyOf k u a (ply c (suc d))
  child_of k keeps x d c p is = (ply_of_child J k u keeps a h x d (16 * x + nibble a d) (slice_index u.cells (16 * x + nibble a d)) c refl is (current_edge J k u keeps a h x (nibble a d) c is) p).1

  by_word : (e : Prefix) (x d : ℕ) → d ≤ 7 → BestAlike J a e → IsPlyOf n u a (ply x d) → IsPlyOf m u a (ply x d)
      → ((c : ℕ) → IsPlyOf n u a (ply c (suc d)) → IsPlyOf m u a (ply c (suc d)) → Agree n m e)
      → (w : Word) → word_at u.cells x (nibble a d) ≡ w → IsRight J n x (nibble a d) w → IsRight J m x (nibble a d) w → Agree n m e
  by_word e x d le alike p q further (words.ToPly c) is right right' = further c (child_of n ok.plies x d c p is) (child_of m also.plies x d c q is)
  by_word e x d le alike p q further (words.ToBalance o) is right right' = (o, right a e (inside n x d le p) alike, right' a e (inside m x d le q) alike)
  by_word e x d le alike p q further words.Drop is right right' = absurd right
  by_word e x d le alike p q further words.Receive is right right' = absurd right
  by_word e x d le alike p q further (words.Glean i) is right right' = absurd right
  by_word e x d le alike p q further (words.ToAdjacency y) is right right' = absurd right
  by_word e x d le alike p q further (words.Plain v) is right right' = absurd right

  -- both name the balance to which the plies lead
  meet : (left x d : ℕ) (e : Prefix) → d + left ≡ 8 → BestAlike J a e → IsPlyOf n u a (ply x d) → IsPlyOf m u a (ply x d) → Agree n m e
  meet zero x d e total alike p q = let le : n.depth x ≤ 7 = walked_depth J n u ok.plies a h x p.0 in let deep : n.depth x ≡ d = p.1 in absurd (omega arith)
  meet (suc left) x d e total alike p q =
      let le : d ≤ 7 = omega arith in
      let total' : suc d + left ≡ 8 = omega arith in
      by_word e x d le alike p q (λ c p' q'. meet left c (suc d) e total' alike p' q') (word_at u.cells x (nibble a d)) refl (ok.plies.right x (nibble a d) p.0 (nibble_small a d)) (also.plies.right x (nibble a d) q.0 (nibble_small a d))

  at_root : (k : Names) → KeepsPlies J k u → IsPlyOf k u a (ply 0 0)
  at_root k keeps = (inl refl, keeps.ways.root.0, below_all a fits ∙ sym keeps.ways.root.1)

  module _ (now : Tables) (here : Contains J now) (sound : (S : Tables) → Contains J S → IsSound S) (trip : Trip) (alike : WayAlike J a h trip) where
    pub agree : (k : ℕ) (step : Step) → slice_get trip.steps k ≡ Some step → Agree n m step.entry
    agree zero step at =
        let first = first_entry J now here sound a h trip alike in
        let same : first.0 ≡ step = some_same first.0 step (slice_get trip.steps 0) first.1 at in
        meet 8 0 0 step.entry refl (λ S c. first.2 S c ∙ ap (λ (s : Step). s.entry) same) (at_root n ok.plies) (at_root m also.plies)
    agree (suc k) step at =
        let last = before trip.steps k step at in
        let agreed = agree k last.0 last.1 in
        let x : ℕ = agreed.0 in
        let stays = lasting J now here sound a h trip alike k last.0 last.1 in
        let alike' = wants_alike J now here sound a h trip alike k last.0 last.1 in
        let w : Word = word_at u.cells x (halved h k % 16) in
        let aim_n = ok.buckets.aimed last.0.entry x (halved h k % 16) (shown_by (last.0 ∷ drop (suc k) trip.steps) trip.end) stays agreed.1 (mod_small (halved h k)) alike' in
        let aim_m = also.buckets.aimed last.0.entry x (halved h k % 16) (shown_by (last.0 ∷ drop (suc k) trip.steps) trip.end) stays agreed.2 (mod_small (halved h k)) alike' in
        let more = drop_at trip.steps (suc k) step at in
        let to_n = subst (λ (steps : List Step). IsAimed n.balance (adjacency_end u.cells) (shown_by (last.0 ∷ steps) trip.end) w) more aim_n in
        let to_m = subst (λ (steps : List Step). IsAimed m.balance (adjacency_end u.cells) (shown_by (last.0 ∷ steps) trip.end) w) more aim_m in
        (to_n.0, to_n.2, subst (λ (o : ℕ). m.balance step.entry ≡ Some o) (sym (balance_same to_n.0 to_m.0 w to_n.1 to_m.1)) to_m.2)

    pub renamed : (at : Place) → IsOnWay n.balance u.cells trip at → IsOnWay m.balance u.cells trip at
    renamed (ply x d) stands = tt
    renamed (balance x k) stands =
        let agreed = agree k stands.0 stands.1 in
        (stands.0, stands.1, agreed.2 ∙ sym agreed.1 ∙ stands.2)
    renamed (adjacency x read) stands = stands
    renamed (ended e) stands = stands
