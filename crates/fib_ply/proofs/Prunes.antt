-- A ply that no prefix needs is unlinked and let go.
use Rattle.fib_plane_view.specs.Frames.{Beside}
use Rattle.fib_plane_view.specs.Promise.{MayLetGo, MayPut, Promise}
use Rattle.fib_plane_view.specs.View.{View, IsLive, IsStanding, Kinds, IsLetGo, HasKind}
use Rattle.fib_ply.specs.Prefixes.{Look, IsAnswer, Needs}
use Rattle.fib_ply.specs.Plies.{IsOne, IsListed, Mixed, Has, IsAt, IsTable}
use Rattle.fib_ply.specs.inner.Change.{IsFreed, Prunes, PrunesTo, UnlinksTo, count_cells, is_to_ply, links, minus, IsCalm, IsOnPath, IsCellOf, IsPruned, IsLastOf, IsEnd, CanPrune, CanPruneAt}
use Rattle.fib_ply.specs.Served.{Watch, Paths, IsChild, IsIn, IsRight, IsWalked, IsServed, Wanted}
use Rattle.fib_ply.specs.Fitting.{IsFilled}
use Rattle.fib_ply.specs.inner.Trie.{listed, IsTrie}
use Rattle.fib_ply.specs.inner.View.{IsSent}
use Rattle.fib_core_promise.specs.Matches.{best_block}
use Rattle.fib_core_steady.specs.Names.{IsBelow}
use Rattle.fib_ply.proofs.Counts.{cells_le, cells_lt, cells_filter, one_filter, filter_one, apart_filter, one_less}
use Rattle.fib_ply.proofs.Promises.{may_let_go, IsNew, sound_beside, kept_sent, kept_let_go, may_put}
use Rattle.std.proofs.Common.{ap₂, ◌≡◌, ℕ, suc, ◌+◌, ◌*◌, ◌-◌, ◌/◌, ◌%◌, ◌^◌, ◌<◌, ◌≤◌, ◌⊎◌, inl, inr, ⊎_elim, Bool, true, false, true≢false, not, eqb, eq-eqb, ne_eqb, ◌&&◌, Option, Some, refl, sym, ap, ◌∙◌, subst, arith}
use Rattle.std.proofs.lemmas.Nat.{shr-shr, shr_below}
use Rattle.std.proofs.lemmas.Bool.{cases_lt}
use native.Mathlib.Decide.{ℕ_discrete}
use mathlib.Core.Logic.{dite}
use Rattle.fib_core.specs.declared.word.Word.{Word}
use Rattle.fib_core.specs.declared.word.Word.TheVariants.{Drop, ToPly, ToBalance, Plain, Receive, Glean, ToAdjacency}
use Rattle.fib_ply.proofs.Blocks.{pushed_at, below_next}
use Rattle.fib_ply.proofs.Stores.{walked_live, stands_on}
use Rattle.std.specs.Option.{IsSome}
use Rattle.fib_ply.proofs.Paths.{fits_trie}
use Rattle.fib_ply.proofs.Fitting.{fits_unlinked, served_unlinked, one_cell, at_it, elsewhere, place_above}
use Rattle.fib_ply.proofs.Cycles.{no_cycle_balance}
use Rattle.fib_ply.proofs.Pushes.{agree, best_is_one, best_some}

-- one ply less
pub minus_less : (there : ℕ → ℕ → Bool) (d w e v : ℕ) → minus there d w e v ≡ true → there e v ≡ true
minus_less there d w e v h = by_bool (eqb e d && eqb v w) h
  where
    by_bool : (b : Bool) → (not b && there e v) ≡ true → there e v ≡ true
    by_bool true h = absurd (true≢false (sym h))
    by_bool false h = h

pub minus_gone : (there : ℕ → ℕ → Bool) (d w : ℕ) → minus there d w d w ≡ true → ⊥
minus_gone there d w h = true≢false (sym h ∙ rw (eq-eqb d d refl, eq-eqb w w refl) refl)

pub minus_only : (there : ℕ → ℕ → Bool) (d w e v : ℕ) → there e v ≡ true → (minus there d w e v ≡ true) ⊎ ((e ≡ d) × (v ≡ w))
minus_only there d w e v h = dite (ℕ_discrete e d)
    (λ p. dite (ℕ_discrete v w) (λ q. inr (p, q)) (λ q. inl (rw (eq-eqb e d p, ne_eqb v w q) h)))
    (λ p. inl (rw (ne_eqb e d p) h))

-- the ply above a needed one is needed
pub needs_up : (look : Look) (d w : ℕ) → Needs look (d + 1) w → Needs look d (w / 16)
needs_up look d w h =
    let e : 4 * (d + 1) + h.0 + 1 ≡ 4 * d + (h.0 + 4) + 1 = omega arith in
    let f : h.0 + 1 + 4 ≡ h.0 + 4 + 1 = omega arith in
    let le : 4 * d + (h.0 + 4) + 1 ≤ 32 = omega (arith, h.3) in
    (h.0 + 4, h.1, h.2, le, ap (λ i. h.1 / 2 ^ i) (sym f) ∙ sym (shr-shr h.1 (h.0 + 1) 4) ∙ ap (λ v. v / 16) h.4, subst (λ (i : ℕ). look i h.1 ≡ Some h.2) e h.5)

module _ (wants : Watch) (look : Look) (a : ℕ) (there : ℕ → ℕ → Bool) (n : Paths) (u : View) (x c d s o : ℕ) (pruned : IsPruned wants look a there n u) (last : IsLastOf n u a x c d s) (free : Needs look (d + 1) (a / 2 ^ (28 - 4 * d)) → ⊥) (answer : best_block look (4 * (d + 1)) (a / 2 ^ (28 - 4 * d)) ≡ Some o) where
  slot_few : a / 2 ^ (28 - 4 * d) % 16 < 16
  slot_few = omega arith

  child : (n.is_in c ≡ true) × IsChild n x (a / 2 ^ (28 - 4 * d) % 16) c
  child = subst (λ (z : Word). IsFilled (Mixed look look 0) (Has there) n x (a / 2 ^ (28 - 4 * d) % 16) z) last.edge (pruned.at.fits.cells x (a / 2 ^ (28 - 4 * d) % 16) last.above.0 slot_few)

  place : n.value c ≡ a / 2 ^ (28 - 4 * d)
  place = let e : 32 - 4 * (d + 1) ≡ 28 - 4 * d = omega arith in sym last.cell.path.2 ∙ ap (λ i. a / 2 ^ i) e

  depth : n.depth c ≡ d + 1
  depth = last.cell.path.1

  low_part : (w t : ℕ) → t < 16 → (16 * w + t) / 16 ≡ w
  low_part w t lt = omega arith

  same_low : (b w t r : ℕ) → b ≡ 16 * w + t → b ≡ 16 * w + r → t ≡ r
  same_low b w t r e f = omega arith

  -- no cell of it leads on
  flat : (t : ℕ) → t < 16 → (p : ℕ) × (u.cell c t ≡ ToBalance p)
  flat t lt = by_word (u.cell c t) refl (pruned.at.fits.cells c t child.0 lt)
    where
      deep : (z : ℕ) → u.cell c t ≡ ToPly z → (n.is_in z ≡ true) × IsChild n c t z → ⊥
      deep z is h =
          let dz : n.depth z ≡ d + 1 + 1 = h.1.0 ∙ ap (λ i. i + 1) depth in
          let not_root : z ≡ 0 → ⊥ = λ e. absurd (let r : n.depth z ≡ 0 = ap n.depth e ∙ pruned.at.fits.root.1 in omega arith) in
          let at : there (n.depth z) (n.value z) ≡ true = ⊎_elim (λ (e : z ≡ 0). absurd (not_root e)) (λ (y : there (n.depth z) (n.value z) ≡ true). y) (pruned.at.fits.needed z h.0).1 in
          let at' : there (d + 1 + 1) (16 * n.value c + t) ≡ true = subst (λ (i : ℕ). there i (16 * n.value c + t) ≡ true) dz (subst (λ (i : ℕ). there (n.depth z) i ≡ true) h.1.1 at) in
          ⊎_elim
          (λ (q : Needs look (d + 1 + 1) (16 * n.value c + t)). free (subst (λ (i : ℕ). Needs look (d + 1) i) (low_part (n.value c) t lt ∙ place) (needs_up look (d + 1) (16 * n.value c + t) q)))
          (λ (q : (d + 1 + 1 ≤ 7) × IsBelow a (d + 1 + 1) (16 * n.value c + t)).
          let same : t ≡ s = same_low (a / 2 ^ (32 - 4 * (d + 1 + 1))) (n.value c) t s q.1 last.cell.below in
          let r : ToPly z ≡ ToBalance last.cell.leaf.0 = sym is ∙ ap (u.cell c) same ∙ last.cell.leaf.1 in cc)
          (pruned.extra (d + 1) (16 * n.value c + t) at')

      by_word : (z : Word) → u.cell c t ≡ z → IsFilled (Mixed look look 0) (Has there) n c t z → (p : ℕ) × (u.cell c t ≡ ToBalance p)
      by_word (ToPly z) is h = absurd (deep z is h)
      by_word (ToBalance p) is h = (p, is)
      by_word Drop is h = absurd h
      by_word (Plain b) is h = absurd h
      by_word Receive is h = absurd h
      by_word (Glean b) is h = absurd h
      by_word (ToAdjacency b) is h = absurd h

  inside : (b : ℕ) → IsIn n x (a / 2 ^ (28 - 4 * d) % 16) b → Mixed look look 0 b o
  inside b is =
      let le : d + 1 ≤ 8 = omega (arith, last.cell.few.1) in
      let below : IsBelow b (d + 1) (a / 2 ^ (28 - 4 * d)) = subst (λ (i : ℕ). IsBelow b i (a / 2 ^ (28 - 4 * d))) (sym child.1.0 ∙ depth) (is.1 ∙ sym child.1.1 ∙ place) in
      let h : IsAnswer look b o = pushed_at look (d + 1) (a / 2 ^ (28 - 4 * d)) b le below free ∙ answer in (λ _. h, λ _. h)

  pub prune_kind : HasKind u x (ToBalance o)
  prune_kind = let e = best_is_one look (4 * (d + 1)) (a / 2 ^ (28 - 4 * d)) o answer in pruned.at.sound.balance e.0 e.1 o e.2

  pub prune_calm : IsCalm u x (ToBalance o)
  prune_calm = no_cycle_balance (Wanted wants) n u pruned.at.served pruned.at.kinds x o (pruned.at.fits.held x last.above.0).0 prune_kind.1

  prune_new : IsNew wants u (ToBalance o)
  prune_new = record {
    apart = λ p e. let f : o ≡ p = cc in subst (λ (i : ℕ). u.is_ply i ≡ false) f prune_kind.1;
    still = λ z p t e lt. let f : o ≡ p = cc in let b = best_is_one look (4 * (d + 1)) (a / 2 ^ (28 - 4 * d)) o answer in subst (λ (i : ℕ). u.cell i t ≡ Drop) f (pruned.at.sound.still z b.0 b.1 o t b.2 lt);
  }

  less_list : IsListed (listed n c false)
  less_list = record {
    each = λ y h. dite (ℕ_discrete y c)
        (λ e. absurd (true≢false (sym h ∙ subst (λ (i : ℕ). (listed n c false).is_in i ≡ false) (sym e) (at_it c false n.is_in))))
        (λ ne. one_filter c y n.all (pruned.at.list.each y (sym (elsewhere c false n.is_in y ne) ∙ h)) ne);
    only = λ y one. let r = filter_one c y n.all one in elsewhere c false n.is_in y r.1 ∙ pruned.at.list.only y r.0;
    apart = apart_filter c n.all pruned.at.list.apart;
  }

  module _ (v : View) (put : IsSent u v x (a / 2 ^ (28 - 4 * d) % 16) (ToBalance o)) where
    prune_served : IsServed (Wanted wants) n v
    prune_served = served_unlinked (Wanted wants) (Mixed look look 0) (Has there) (Has (minus there (n.depth c) (n.value c))) n u v x (a / 2 ^ (28 - 4 * d) % 16) o c pruned.at.fits last.above.0 slot_few last.edge flat inside put (minus_less there (n.depth c) (n.value c)) (minus_gone there (n.depth c) (n.value c)) (minus_only there (n.depth c) (n.value c)) pruned.at.served (agree wants look look 0 pruned.at.promised)

    same_right : (y t : ℕ) (z : Word) → IsRight (Wanted wants) n y t z → IsRight (Wanted wants) (listed n c false) y t z
    same_right y t (ToPly b) h = h
    same_right y t (ToBalance b) h = h
    same_right y t Drop h = h
    same_right y t (Plain b) h = h
    same_right y t Receive h = h
    same_right y t (Glean b) h = h
    same_right y t (ToAdjacency b) h = h

    pub pruned_on : Beside u v → Kinds v → IsPruned wants look a (minus there (n.depth c) (n.value c)) (listed n c false) v
    pruned_on beside kv = record {
      at = record {
        fits = fits_unlinked (Wanted wants) (Mixed look look 0) (Has there) (Has (minus there (n.depth c) (n.value c))) n u v x (a / 2 ^ (28 - 4 * d) % 16) o c pruned.at.fits last.above.0 slot_few last.edge flat inside put (minus_less there (n.depth c) (n.value c)) (minus_gone there (n.depth c) (n.value c)) (minus_only there (n.depth c) (n.value c));
        wider = λ e w h. ⊎_elim (λ (q : minus there (n.depth c) (n.value c) (e + 1) w ≡ true). q)
            (λ (q : (e + 1 ≡ n.depth c) × (w ≡ n.value c)). absurd (free (subst (λ (i : ℕ). Needs look i (a / 2 ^ (28 - 4 * d))) (q.0 ∙ depth) (subst (λ (i : ℕ). Needs look (e + 1) i) (q.1 ∙ place) h))))
            (minus_only there (n.depth c) (n.value c) (e + 1) w (pruned.at.wider e w h));
        served = record { root = prune_served.root; paths = prune_served.paths; right = λ y t stands lt. same_right y t (v.cell y t) (prune_served.right y t stands lt) };
        kinds = kv;
        promised = pruned.at.promised;
        was = sound_beside wants look u v beside pruned.at.was;
        sound = sound_beside wants look u v beside pruned.at.sound;
        kept = kept_sent wants u v pruned.at.kept x (a / 2 ^ (28 - 4 * d) % 16) (ToBalance o) pruned.at.kinds (pruned.at.fits.held x last.above.0).0 prune_new beside put;
        list = less_list;
      };
      extra = λ e w h. pruned.extra e w (minus_less there (n.depth c) (n.value c) (e + 1) w h);
    }

    same_cell : (y t : ℕ) → IsOne n.all y → (y ≡ x → t ≡ a / 2 ^ (28 - 4 * d) % 16 → ⊥) → v.cell y t ≡ u.cell y t
    same_cell y t one apart = put.others y t apart (stands_on u v x (a / 2 ^ (28 - 4 * d) % 16) (ToBalance o) put y (pruned.at.fits.held y (pruned.at.list.only y one)).1)

    pub fewer_links : count_cells (λ y t. is_to_ply (v.cell y t)) n.all + 1 ≤ links n u
    fewer_links = cells_lt (λ y t. is_to_ply (v.cell y t)) (λ y t. is_to_ply (u.cell y t)) n.all x (a / 2 ^ (28 - 4 * d) % 16)
        (λ y t one lt h. dite (ℕ_discrete y x)
        (λ e. dite (ℕ_discrete t (a / 2 ^ (28 - 4 * d) % 16))
        (λ f. absurd (true≢false (sym h ∙ ap₂ (λ i j. is_to_ply (v.cell i j)) e f ∙ ap is_to_ply put.cell)))
        (λ ne. ap is_to_ply (sym (same_cell y t one (λ _ f. ne f))) ∙ h))
        (λ ne. ap is_to_ply (sym (same_cell y t one (λ e _. ne e))) ∙ h))
        (pruned.at.list.each x last.above.0) slot_few (ap is_to_ply put.cell) (ap is_to_ply last.edge)

  pub prune_may : MayPut wants.promise u x (a / 2 ^ (28 - 4 * d) % 16) (ToBalance o)
  prune_may = may_put wants u pruned.at.kept n x (a / 2 ^ (28 - 4 * d) % 16) (ToBalance o) pruned.at.served pruned.at.kinds (pruned.at.fits.held x last.above.0).0 prune_calm prune_new (λ v put. prune_served v put)
      (record { links = λ z e ne. absurd (cc); unlinks = λ z e t b f. leaf_only z t b (let k : ToPly z ≡ ToPly c = sym e ∙ last.edge in let m : z ≡ c = cc in m) f }) tt
    where
      leaf_only : (z t b : ℕ) → z ≡ c → u.cell z t ≡ ToPly b → ⊥
      leaf_only z t b e f =
          let g : u.cell c t ≡ ToPly b = ap (λ i. u.cell i t) (sym e) ∙ f in
          let lt : t < 16 = (pruned.at.served.paths c t b (inl g)).0 in
          let k = flat t lt in
          let m : ToPly b ≡ ToBalance k.0 = sym g ∙ k.1 in cc

-- a ply that is not in the table is let go
module _ (wants : Watch) (there : ℕ → ℕ → Bool) (old new : Look) (pos : ℕ) (n : Paths) (u v : View) (c : ℕ) (at : IsAt wants there old new pos n u) (out : n.is_in c ≡ false) (ply : u.is_ply c ≡ true) (go : IsLetGo u v c) where
  still_held : (y : ℕ) → n.is_in y ≡ true → (y ≡ 0) ⊎ (v.is_held y ≡ true)
  still_held y is = ⊎_elim (λ (z : y ≡ 0). inl z) (λ (h : u.is_held y ≡ true). inr (go.held y (λ e. true≢false (sym is ∙ ap n.is_in e ∙ out)) ∙ h)) (at.fits.held y is).1

  live : (y : ℕ) → (y ≡ 0) ⊎ (v.is_held y ≡ true) → IsLive v y
  live y (inl e) = inl e
  live y (inr h) = inr (inl h)

  walked_back : (y : ℕ) → IsWalked v y → IsWalked u y
  walked_back y (inl e) = inl e
  walked_back y (inr h) = inr (h.0, h.1, h.2, go.swept.edges h.0 h.1 y (ToPly y) refl h.3)

  pub let_go_on : Beside u v → Kinds v → IsAt wants there old new pos n v
  let_go_on beside kv = record {
    fits = record {
      root = at.fits.root;
      held = λ y is. (go.swept.kinds y (live y (still_held y is)) ∙ (at.fits.held y is).0, still_held y is);
      apart = at.fits.apart;
      needed = at.fits.needed;
      upward = at.fits.upward;
      cells = λ y t is lt. rw (go.swept.cells y t (live y (still_held y is))) (at.fits.cells y t is lt);
    };
    wider = at.wider;
    served = record {
      root = at.served.root;
      paths = λ y t z g. at.served.paths y t z (go.swept.edges y t z (ToPly z) refl g);
      right = λ y t stands lt. rw (go.swept.cells y t (walked_live v y stands)) (at.served.right y t (walked_back y stands) lt);
    };
    kinds = kv;
    promised = at.promised;
    was = sound_beside wants old u v beside at.was;
    sound = sound_beside wants new u v beside at.sound;
    kept = kept_let_go wants u v at.kept c beside go;
    list = at.list;
  }

-- a cell, wherever it hangs
pub record IsSpot (n : Paths) (u : View) (a ply depth slot : ℕ) : Type 0 where
  pub path : IsOnPath n a ply depth
  pub below : IsBelow a (depth + 1) (16 * n.value ply + slot)
  pub leaf : (o : ℕ) × (u.cell ply slot ≡ ToBalance o)
  pub few : (slot < 16) × (depth ≤ 7)

pub spot_of : (n : Paths) (u : View) (a x d s : ℕ) → IsCellOf n u a x d s → IsSpot n u a x d s
spot_of n u a x d s cell = record { path = cell.path; below = cell.below; leaf = cell.leaf; few = cell.few }

-- an address has one cell
pub one_depth : (wants : Watch) (there : ℕ → ℕ → Bool) (old new : Look) (pos : ℕ) (n : Paths) (u : View) (a x d s y e t : ℕ) → a < 2 ^ 32 → IsAt wants there old new pos n u → IsSpot n u a x d s → IsSpot n u a y e t → e ≡ d
one_depth wants there old new pos n u a x d s y e t lt at p q =
    let f = one_cell (Mixed old new pos) (Has there) n u at.fits x s y t a p.path.0 q.path.0 p.few.0 q.few.0 (leaf x d s p) (leaf y e t q) (lt, at_depth x d s p) (lt, at_depth y e t q) in
    sym q.path.1 ∙ ap n.depth f.0 ∙ p.path.1
  where
    leaf : (z f r : ℕ) → IsSpot n u a z f r → there (n.depth z + 1) (16 * n.value z + r) ≡ true → ⊥
    leaf z f r cell = (subst (λ (i : Word). IsFilled (Mixed old new pos) (Has there) n z r i) cell.leaf.1 (at.fits.cells z r cell.path.0 cell.few.0)).0

    at_depth : (z f r : ℕ) → IsSpot n u a z f r → IsBelow a (n.depth z + 1) (16 * n.value z + r)
    at_depth z f r cell = subst (λ (i : ℕ). IsBelow a (i + 1) (16 * n.value z + r)) (sym cell.path.1) cell.below

module _ (wants : Watch) (look : Look) (a : ℕ) (u : View) (x c d s : ℕ) (there : ℕ → ℕ → Bool) (n : Paths) (pruned : IsPruned wants look a there n u) (ended : IsEnd n u a x c d s) (deep : 1 ≤ d) (free : Needs look d (a / 2 ^ (32 - 4 * d)) → ⊥) (lt : a < 2 ^ 32) where
  d_is : d - 1 + 1 ≡ d
  d_is = omega arith

  shift : 28 - 4 * (d - 1) ≡ 32 - 4 * d
  shift = omega arith

  last : IsLastOf n u a x c (d - 1) s
  last = let l = ended.last (d - 1) (sym d_is) in record { cell = subst (λ (i : ℕ). IsCellOf n u a c i s) (sym d_is) ended.cell; above = l.0; edge = l.1 }

  free_there : Needs look (d - 1 + 1) (a / 2 ^ (28 - 4 * (d - 1))) → ⊥
  free_there = subst (λ (i : ℕ). Needs look i (a / 2 ^ (28 - 4 * (d - 1))) → ⊥) (sym d_is) (subst (λ (i : ℕ). Needs look d (a / 2 ^ i) → ⊥) (sym shift) free)

  -- its cells lead to what the best prefix of its block leads to
  pub leaf_best : (o : ℕ) → u.cell c s ≡ ToBalance o → best_block look (4 * d) (a / 2 ^ (32 - 4 * d)) ≡ Some o
  leaf_best o is = sym (pushed_at look d (a / 2 ^ (32 - 4 * d)) a (omega (arith, ended.cell.few.1)) refl free) ∙ answer
    where
      here : IsIn n c s a
      here = (lt, subst (λ (i : ℕ). IsBelow a (i + 1) (16 * n.value c + s)) (sym ended.cell.path.1) ended.cell.below)

      filled : IsFilled (Mixed look look 0) (Has there) n c s (ToBalance o)
      filled = subst (λ (z : Word). IsFilled (Mixed look look 0) (Has there) n c s z) is (pruned.at.fits.cells c s ended.cell.path.0 ended.cell.few.0)

      answer : IsAnswer look a o
      answer = (filled.1 a here).1 (omega arith)

  pub leaf_live : IsLive u c
  leaf_live = ⊎_elim (λ (z : c ≡ 0). inl z) (λ (h : u.is_held c ≡ true). inr (inl h)) (pruned.at.fits.held c ended.cell.path.0).1

  module _ (o : ℕ) (answer : best_block look (4 * d) (a / 2 ^ (32 - 4 * d)) ≡ Some o) where
    answer_there : best_block look (4 * (d - 1 + 1)) (a / 2 ^ (28 - 4 * (d - 1))) ≡ Some o
    answer_there = ap (λ i. best_block look (4 * i) (a / 2 ^ (28 - 4 * (d - 1)))) d_is ∙ ap (λ i. best_block look (4 * d) (a / 2 ^ i)) shift ∙ answer

    slot_is : a / 2 ^ (28 - 4 * (d - 1)) % 16 ≡ a / 2 ^ (32 - 4 * d) % 16
    slot_is = ap (λ i. a / 2 ^ i % 16) shift

    pub unlink_may : MayPut wants.promise u x (a / 2 ^ (32 - 4 * d) % 16) (ToBalance o)
    unlink_may = subst (λ (i : ℕ). MayPut wants.promise u x i (ToBalance o)) slot_is (prune_may wants look a there n u x c (d - 1) s o pruned last free_there answer_there)

    pub unlink_kind : HasKind u x (ToBalance o)
    unlink_kind = prune_kind wants look a there n u x c (d - 1) s o pruned last free_there answer_there

    pub unlink_calm : IsCalm u x (ToBalance o)
    unlink_calm = prune_calm wants look a there n u x c (d - 1) s o pruned last free_there answer_there

    pub unlink_ply : (u.is_ply x ≡ true) × IsStanding u x
    unlink_ply = pruned.at.fits.held x last.above.0

    pub unlink_target : u.is_held o ≡ true
    unlink_target = let e = best_is_one look (4 * d) (a / 2 ^ (32 - 4 * d)) o answer in (pruned.at.sound.balance e.0 e.1 o e.2).0

    pub unlink_held : (v : View) → IsSent u v x (a / 2 ^ (32 - 4 * d) % 16) (ToBalance o) → v.is_held c ≡ true
    unlink_held v put = put.held c ∙ ⊎_elim (λ (z : c ≡ 0). absurd (let f : n.depth c ≡ 0 = ap n.depth z ∙ pruned.at.fits.root.1 in omega (arith, ended.cell.path.1))) (λ (h : u.is_held c ≡ true). h) (pruned.at.fits.held c ended.cell.path.0).1

    pub unlink_kept : (v : View) → IsSent u v x (a / 2 ^ (32 - 4 * d) % 16) (ToBalance o) → v.is_ply c ≡ true
    unlink_kept v put = put.kinds c (inr (inl (unlink_held v put))) ∙ (pruned.at.fits.held c ended.cell.path.0).0

    pub unlink_let_go : (v : View) → IsSent u v x (a / 2 ^ (32 - 4 * d) % 16) (ToBalance o) → Beside u v → Kinds v → MayLetGo wants.promise v c
    unlink_let_go v put beside kv =
        let there_put = subst (λ (i : ℕ). IsSent u v x i (ToBalance o)) (sym slot_is) put in
        let middle = pruned_on wants look a there n u x c (d - 1) s o pruned last free_there answer_there v there_put beside kv in
        may_let_go wants v middle.at.kept (listed n c false) c (unlink_kept v put) middle.at.served

    pub unlink_spare : links n u ≤ u.spare → 0 < u.spare
    unlink_spare enough = let one = cells_lt (λ y t. false) (λ y t. is_to_ply (u.cell y t)) n.all x (a / 2 ^ (28 - 4 * (d - 1)) % 16) (λ y t k lt h. absurd (true≢false (sym h))) (pruned.at.list.each x last.above.0) (omega arith) refl (ap is_to_ply last.edge) in omega (arith, one, enough)

    module _ (v w : View) (put : IsSent u v x (a / 2 ^ (32 - 4 * d) % 16) (ToBalance o)) (go : IsLetGo v w c) (beside : Beside u v) (beside2 : Beside v w) (kv : Kinds v) (kw : Kinds w) where
      put_there : IsSent u v x (a / 2 ^ (28 - 4 * (d - 1)) % 16) (ToBalance o)
      put_there = subst (λ (i : ℕ). IsSent u v x i (ToBalance o)) (sym slot_is) put

      middle : IsPruned wants look a (minus there (n.depth c) (n.value c)) (listed n c false) v
      middle = pruned_on wants look a there n u x c (d - 1) s o pruned last free_there answer_there v put_there beside kv

      out : (listed n c false).is_in c ≡ false
      out = at_it c false n.is_in

      pub unlinked : IsPruned wants look a (minus there (n.depth c) (n.value c)) (listed n c false) w
      unlinked = record { at = let_go_on wants (minus there (n.depth c) (n.value c)) look look 0 (listed n c false) v w c middle.at out (unlink_kept v put) go beside2 kw; extra = middle.extra }

      not_c : x ≡ c → ⊥
      not_c e = let f : n.depth x ≡ n.depth c = ap n.depth e in let g : n.depth x ≡ d - 1 = last.above.1 in let h : n.depth c ≡ d = ended.cell.path.1 in omega arith

      x_in : (listed n c false).is_in x ≡ true
      x_in = elsewhere c false n.is_in x not_c ∙ last.above.0

      pub cell_after : IsSpot (listed n c false) w a x (d - 1) (a / 2 ^ (28 - 4 * (d - 1)) % 16)
      cell_after = record {
        path = (x_in, last.above.1, last.above.2);
        below = last_below;
        leaf = (o, go.swept.cells x (a / 2 ^ (28 - 4 * (d - 1)) % 16) (live (unlinked.at.fits.held x x_in).1) ∙ put_there.cell);
        few = (omega arith, omega (arith, ended.cell.few.1));
      }
        where
          live : (x ≡ 0) ⊎ (w.is_held x ≡ true) → IsLive w x
          live (inl e) = inl e
          live (inr h) = inr (inl h)

          last_below : IsBelow a (d - 1 + 1) (16 * n.value x + a / 2 ^ (28 - 4 * (d - 1)) % 16)
          last_below =
              let k : ℕ = 8 - d in
              let e : (d - 1) + suc k ≡ 8 = omega (arith, ended.cell.few.1) in
              let f : 4 * k ≡ 28 - 4 * (d - 1) = omega (arith, ended.cell.few.1) in
              subst (λ (i : ℕ). IsBelow a (d - 1 + 1) (16 * n.value x + a / 2 ^ i % 16)) f (below_next a (d - 1) k (n.value x) e last.above.2)

      pub unlink_trie : (m : Paths) × IsTrie m w
      unlink_trie = (listed n c false, fits_trie (Mixed look look 0) (Has (minus there (n.depth c) (n.value c))) (listed n c false) w unlinked.at.fits)

      pub unlink_freed : IsFreed n (listed n c false) u w 1
      unlink_freed =
          let less = fewer_links wants look a there n u x c (d - 1) s o pruned last free_there answer_there v put_there in
          let after : count_cells (λ y t. is_to_ply (w.cell y t)) (listed n c false).all ≤ count_cells (λ y t. is_to_ply (v.cell y t)) (listed n c false).all =
          cells_le (λ y t. is_to_ply (w.cell y t)) (λ y t. is_to_ply (v.cell y t)) (listed n c false).all
          (λ y t one lt h. ap is_to_ply (sym (go.swept.cells y t (stays y (unlinked.at.fits.held y (unlinked.at.list.only y one)).1))) ∙ h) in
          let short = cells_filter (λ y t. is_to_ply (v.cell y t)) c n.all in
          record {
            plies = one_less c n.all (pruned.at.list.each c ended.cell.path.0) pruned.at.list.apart;
            fewer = omega (arith, less, after, short);
            spare = omega (arith, put.spare, go.swept.spare);
            stored = omega (arith, put.stores.few, go.stores.few);
            more = omega (arith, put.stores.more, go.stores.more);
            mine = λ m y is h. dite (ℕ_discrete y c)
                (λ e. absurd (true≢false (sym h ∙ ap w.is_held e ∙ go.gone)))
                (λ ne.
                let held : v.is_held y ≡ true = sym (go.held y ne) ∙ h in
                let ply : v.is_ply y ≡ true = sym (go.swept.kinds y (inr (inl h))) ∙ is in
                let was = m y (sym (put.kinds y (inr (inl held))) ∙ ply) (sym (put.held y) ∙ held) in
                (elsewhere c false n.is_in y ne ∙ was.0, was.1));
          }
        where
          stays : (y : ℕ) → (y ≡ 0) ⊎ (w.is_held y ≡ true) → IsLive w y
          stays y (inl e) = inl e
          stays y (inr h) = inr (inl h)

      pub middle_at : IsAt wants (minus there (n.depth c) (n.value c)) look look 0 (listed n c false) v
      middle_at = middle.at

      module _ (y z e t : ℕ) (found : (m : Paths) → IsTrie m w → IsEnd m w a y z e t) where
        pub ending : IsEnd (listed n c false) w a y z e t
        ending = found (listed n c false) (fits_trie (Mixed look look 0) (Has (minus there (n.depth c) (n.value c))) (listed n c false) w unlinked.at.fits)

        pub unlink_higher : e < d
        unlink_higher = let f : e ≡ d - 1 = one_depth wants (minus there (n.depth c) (n.value c)) look look 0 (listed n c false) w a x (d - 1) (a / 2 ^ (28 - 4 * (d - 1)) % 16) z e t lt unlinked.at cell_after (spot_of (listed n c false) w a z e t ending.cell) in omega arith

-- at the end
pub prune_done : (wants : Watch) (look : Look) (a : ℕ) (u : View) (x c d s : ℕ) (there : ℕ → ℕ → Bool) (n : Paths) (pruned : IsPruned wants look a there n u) (ended : IsEnd n u a x c d s) → (d ≡ 0) ⊎ Needs look d (a / 2 ^ (32 - 4 * d)) → IsTable wants look there n u
prune_done wants look a u x c d s there n pruned ended end = record { at = pruned.at; exact = λ e w h. ⊎_elim (λ (k : Needs look (e + 1) w). k) (λ (k : (e + 1 ≤ 7) × IsBelow a (e + 1) w). on_path e w h k.0 k.1) (pruned.extra e w h) }
  where
    leaf : there (n.depth c + 1) (16 * n.value c + s) ≡ true → ⊥
    leaf = (subst (λ (i : Word). IsFilled (Mixed look look 0) (Has there) n c s i) ended.cell.leaf.1 (pruned.at.fits.cells c s ended.cell.path.0 ended.cell.few.0)).0

    past : (e w : ℕ) → there (e + 1) w ≡ true → e + 1 ≤ 7 → IsBelow a (e + 1) w → d < e + 1 → ⊥
    past e w h le below lt =
        let k : ℕ = e - d in
        let f : d + 1 + k ≡ e + 1 = omega arith in
        let le' : d + 1 + k ≤ 7 = omega arith in
        let r = place_above (Has there) pruned.at.fits.upward a k d w le' (subst (λ (i : ℕ). there i w ≡ true) (sym f) h) (subst (λ (i : ℕ). IsBelow a i w) (sym f) below) in
        leaf (subst (λ (i : ℕ). there (i + 1) (16 * n.value c + s) ≡ true) (sym ended.cell.path.1) (subst (λ (i : ℕ). there (d + 1) i ≡ true) ended.cell.below r))

    within : (e w : ℕ) → e + 1 ≤ d → IsBelow a (e + 1) w → Needs look d (a / 2 ^ (32 - 4 * d)) → Needs look (e + 1) w
    within e w le below needs =
        let k : ℕ = d - (e + 1) in
        let f : d ≡ e + 1 + k = omega arith in
        let le' : e + 1 + k ≤ 7 = omega (arith, ended.cell.few.1) in
        subst (λ (i : ℕ). Needs look (e + 1) i) below (place_above (Needs look) (λ g v y. up g v y) a k e (a / 2 ^ (32 - 4 * (e + 1 + k))) le' (subst (λ (i : ℕ). Needs look i (a / 2 ^ (32 - 4 * i))) f needs) refl)
      where
        up : (g v : ℕ) → Needs look (g + 2) v → Needs look (g + 1) (v / 16)
        up g v y = let r : g + 2 ≡ g + 1 + 1 = omega arith in needs_up look (g + 1) v (subst (λ (i : ℕ). Needs look i v) r y)

    on_path : (e w : ℕ) → there (e + 1) w ≡ true → e + 1 ≤ 7 → IsBelow a (e + 1) w → Needs look (e + 1) w
    on_path e w h le below = elim (cases_lt d (e + 1)) [ inl less ↦ absurd (past e w h le below less) | inr more ↦ ⊎_elim (λ (z : d ≡ 0). absurd (omega arith)) (within e w more below) end ]

pub found_leaf : (p : Promise) (look : Look) (a : ℕ) (u : View) (x c d s : ℕ) → CanPrune p look a u → ((m : Paths) → IsTrie m u → IsEnd m u a x c d s) → CanPruneAt p look a u x c d s
found_leaf p look a u x c d s q found = (q.0, q.1, q.2, q.3, found q.2 (fits_trie (Mixed look look 0) (Has q.1) q.2 u q.3.at.fits), q.4, q.5)

pub freed_none : (n : Paths) (u : View) → IsFreed n n u u 0
freed_none n u = record { plies = omega arith; fewer = omega arith; spare = omega arith; stored = omega arith; more = omega arith; mine = λ m. m }

pub freed_then : (n m k : Paths) (u v w : View) (i : ℕ) → IsFreed n m u v i → IsFreed m k v w 1 → IsFreed n k u w (i + 1)
freed_then n m k u v w i f g = record { plies = omega (arith, f.plies, g.plies); fewer = omega (arith, f.fewer, g.fewer); spare = omega (arith, f.spare, g.spare); stored = omega (arith, f.stored, g.stored); more = omega (arith, f.more, g.more); mine = λ h. g.mine (f.mine h) }

Quad : Type 0
Quad = ℕ × ℕ × ℕ × ℕ

pub prunes_none : (look : Look) (a : ℕ) (u : View) (x c d s : ℕ) → ((m : Paths) → IsTrie m u → IsEnd m u a x c d s) → PrunesTo look a u u x c d s 0
prunes_none look a u x c d s found = λ wants there n pruned. (there, n, pruned, found n (fits_trie (Mixed look look 0) (Has there) n u pruned.at.fits), freed_none n u)

pub prunes_more : (look : Look) (a : ℕ) (u v w : View) (l r : ℕ × ℕ × ℕ × ℕ) (i : ℕ) → PrunesTo look a u v l.0 l.1 l.2 l.3 i → UnlinksTo look a v w l r → PrunesTo look a u w r.0 r.1 r.2 r.3 (i + 1)
prunes_more look a u v w l r i f g = λ wants there n pruned.
    (let h = f wants there n pruned in
    let k = g wants h.0 h.1 h.2 h.3 in
    (k.0, k.1, k.2, k.3, freed_then n h.1 k.1 u v w i h.4 k.4))

pub can_more : (p q : Promise) (look : Look) (a : ℕ) (v w : View) (l r : ℕ × ℕ × ℕ × ℕ) → q ≡ p → CanPruneAt p look a v l.0 l.1 l.2 l.3 → UnlinksTo look a v w l r → CanPruneAt q look a w r.0 r.1 r.2 r.3
can_more p q look a v w l r same c g = let k = g c.0 c.1 c.2 c.3 c.4 in (c.0, k.0, k.1, k.2, k.3, c.5 ∙ sym same, omega (arith, c.6, k.4.fewer, k.4.spare))

pub prunes_done : (look : Look) (a : ℕ) (u v : View) (x c d s i : ℕ) → (d ≡ 0) ⊎ Needs look d (a / 2 ^ (32 - 4 * d)) → PrunesTo look a u v x c d s i → Prunes look a u v i
prunes_done look a u v x c d s i end f = λ wants there n pruned. (let h = f wants there n pruned in (h.0, h.1, prune_done wants look a v x c d s h.0 h.1 h.2 h.3 end, h.4))
