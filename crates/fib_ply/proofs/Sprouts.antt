use Rattle.fib_pool.specs.declared.object.Kind.TheVariants as kinds
-- A new ply: taken, filled beside the table, and linked.
use Rattle.std.proofs.lemmas.Bool.{cases_lt}
use Rattle.fib_core.specs.Union.{IsPlyWord}
use Rattle.fib_plane_view.specs.Frames.{Beside}
use Rattle.fib_plane_view.specs.Promise.{MayPut, Promise}
use Rattle.fib_plane_view.specs.View.{View, IsBalance, Stores, leads, Retired, Goes, IsStanding, Kinds, IsTaken, HasKind}
use Rattle.fib_ply.specs.Prefixes.{Look}
use Rattle.fib_ply.specs.Plies.{IsOne, IsListed, Mixed, Has, IsAt}
use Rattle.fib_ply.specs.inner.Change.{IsPaid, count_cells, is_to_ply, plus, IsCalm, IsFresh, SameIn, CanFill, Aside, IsCellOf}
use Rattle.fib_ply.specs.Served.{Watch, Paths, IsChild, IsIn, IsRight, IsWalked, IsServed, Wanted}
use Rattle.fib_ply.specs.Fitting.{IsFilled}
use Rattle.fib_ply.specs.inner.Trie.{placed, listed}
use Rattle.fib_ply.specs.inner.View.{IsSent, Frame, HoldsNoMore}
use Rattle.fib_core_steady.specs.Names.{IsBelow}
use Rattle.fib_ply.proofs.Counts.{cells_lt, apart_cons}
use Rattle.fib_ply.proofs.Promises.{IsNew, sound_beside, kept_sent, kept_taken, may_put}
use Rattle.std.proofs.Common.{ap₂, ◌≡◌, ℕ, suc, ◌+◌, ◌*◌, ◌-◌, ◌/◌, ◌%◌, ◌^◌, ◌<◌, ◌≤◌, ◌⊎◌, inl, inr, ⊎_elim, Bool, true, false, true≢false, eqb, eq-eqb, ne_eqb, ◌||◌, ◌&&◌, List, Contains, refl, sym, ap, ◌∙◌, subst, arith}
use native.Mathlib.Decide.{ℕ_discrete}
use mathlib.Core.Logic.{dite}
use Rattle.fib_core.specs.declared.word.Word.{Word}
use Rattle.fib_core.specs.declared.word.Word.TheVariants.{Drop, ToPly, ToBalance, Plain, Receive, Glean, ToAdjacency}
use Rattle.fib_ply.proofs.Blocks.{below_next}
use Rattle.fib_ply.proofs.Stores.{served_put, stands_on}
use Rattle.fib_ply.proofs.Fitting.{elsewhere, at_it, fits_linked, served_linked}
use Rattle.fib_ply.proofs.Cycles.{no_cycle_balance, no_cycle_ply}
use Rattle.fib_ply.proofs.Pushes.{agree, best_is_one}

-- a ply is taken and gets a place
module _ (wants : Watch) (there : ℕ → ℕ → Bool) (old new : Look) (pos : ℕ) (n : Paths) (u v : View) (c d w : ℕ) (at : IsAt wants there old new pos n u) (take : IsTaken u v kinds.Ply c) where
  out_of : n.is_in c ≡ false
  out_of = by_bool (n.is_in c) refl
    where
      by_bool : (b : Bool) → n.is_in c ≡ b → n.is_in c ≡ false
      by_bool true is = absurd (⊎_elim (λ (z : c ≡ 0). take.other z) (λ (h : u.is_held c ≡ true). true≢false (sym h ∙ take.fresh)) (at.fits.held c is).1)
      by_bool false is = is

  not_it : (y : ℕ) → n.is_in y ≡ true → y ≡ c → ⊥
  not_it y is e = true≢false (sym is ∙ ap n.is_in e ∙ out_of)

  depth_is : (y : ℕ) → (y ≡ c → ⊥) → (placed n c d w).depth y ≡ n.depth y
  depth_is y ne = elsewhere c d n.depth y ne

  value_is : (y : ℕ) → (y ≡ c → ⊥) → (placed n c d w).value y ≡ n.value y
  value_is y ne = elsewhere c w n.value y ne

  goes_back : (x s : ℕ) (z : Word) → Goes v x s z → Goes u x s z
  goes_back x s z (inl e) = inl (sym (take.cells x s) ∙ e)
  goes_back x s z (inr h) = inr (subst (λ (rs : List Retired). Contains rs (record { from = x; slot = s; word = z })) take.retired h)

  child_placed : (x s z : ℕ) → (x ≡ c → ⊥) → (z ≡ c → ⊥) → IsChild n x s z → IsChild (placed n c d w) x s z
  child_placed x s z ne ne' h = rw (depth_is x ne, depth_is z ne', value_is x ne, value_is z ne') h

  in_placed : (x s a : ℕ) → (x ≡ c → ⊥) → IsIn (placed n c d w) x s a → IsIn n x s a
  in_placed x s a ne h = rw (depth_is x ne, value_is x ne) at h

  filled_placed : (K N : ℕ → ℕ → Type 0) (x s : ℕ) (z : Word) → n.is_in x ≡ true → IsFilled K N n x s z → IsFilled K N (placed n c d w) x s z
  filled_placed K N x s (ToPly y) is h = (h.0, child_placed x s y (not_it x is) (not_it y h.0) h.1)
  filled_placed K N x s (ToBalance o) is h = (λ m. h.0 (rw (depth_is x (not_it x is), value_is x (not_it x is)) at m), λ a i. h.1 a (in_placed x s a (not_it x is) i))
  filled_placed K N x s Drop is h = h
  filled_placed K N x s (Plain b) is h = h
  filled_placed K N x s Receive is h = h
  filled_placed K N x s (Glean b) is h = h
  filled_placed K N x s (ToAdjacency b) is h = h

  right_placed : (x s : ℕ) (z : Word) → (x ≡ c → ⊥) → IsRight (Wanted wants) n x s z → IsRight (Wanted wants) (placed n c d w) x s z
  right_placed x s (ToPly y) ne h = h
  right_placed x s (ToBalance o) ne h = λ a p i want. h a p (in_placed x s a ne i) want
  right_placed x s Drop ne h = h
  right_placed x s (Plain b) ne h = h
  right_placed x s Receive ne h = h
  right_placed x s (Glean b) ne h = h
  right_placed x s (ToAdjacency b) ne h = h

  walked_not : (x : ℕ) → IsWalked v x → (x ≡ c → ⊥) × IsWalked u x
  walked_not x (inl e) = (λ f. take.other (sym f ∙ e), inl e)
  walked_not x (inr h) = let g = goes_back h.0 h.1 (ToPly x) h.3 in (λ f. take.above h.0 h.1 (ToPly c) refl (subst (λ (i : ℕ). Goes u h.0 h.1 (ToPly i)) f g), inr (h.0, h.1, h.2, g))

  ends_not : (x s z : ℕ) → Goes u x s (ToPly z) → (x ≡ c → ⊥) × (z ≡ c → ⊥)
  ends_not x s z g = (λ f. take.below s z (subst (λ (i : ℕ). Goes u i s (ToPly z)) f g), λ f. take.above x s (ToPly c) refl (subst (λ (i : ℕ). Goes u x s (ToPly i)) f g))

  pub taken_on : Beside u v → Kinds v → IsAt wants there old new pos (placed n c d w) v
  taken_on beside kv = record {
    fits = record {
      root = (at.fits.root.0, depth_is 0 (λ e. take.other (sym e)) ∙ at.fits.root.1, value_is 0 (λ e. take.other (sym e)) ∙ at.fits.root.2);
      held = λ y is. let o = take.others y (not_it y is) in (o.1 ∙ (at.fits.held y is).0, ⊎_elim (λ (z : y ≡ 0). inl z) (λ (h : u.is_held y ≡ true). inr (o.0 ∙ h)) (at.fits.held y is).1);
      apart = λ y z is is' e f. at.fits.apart y z is is' (sym (depth_is y (not_it y is)) ∙ e ∙ depth_is z (not_it z is')) (sym (value_is y (not_it y is)) ∙ f ∙ value_is z (not_it z is'));
      needed = λ y is. rw (depth_is y (not_it y is), value_is y (not_it y is)) (at.fits.needed y is);
      upward = at.fits.upward;
      cells = λ y t is lt. rw (take.cells y t) (filled_placed (Mixed old new pos) (Has there) y t (u.cell y t) is (at.fits.cells y t is lt));
    };
    wider = at.wider;
    served = record {
      root = (depth_is 0 (λ e. take.other (sym e)) ∙ at.served.root.0, value_is 0 (λ e. take.other (sym e)) ∙ at.served.root.1);
      paths = λ x s z g. let q = goes_back x s (ToPly z) g in let e = ends_not x s z q in let h = at.served.paths x s z q in (h.0, child_placed x s z e.0 e.1 h.1);
      right = λ x s stands lt. let q = walked_not x stands in rw (take.cells x s) (right_placed x s (u.cell x s) q.0 (at.served.right x s q.1 lt));
    };
    kinds = kv;
    promised = at.promised;
    was = sound_beside wants old u v beside at.was;
    sound = sound_beside wants new u v beside at.sound;
    kept = kept_taken wants u v at.kept c beside take;
    list = record { each = at.list.each; only = at.list.only; apart = at.list.apart };
  }

  pub taken_fresh : IsFresh (placed n c d w) v c
  taken_fresh = record { other = take.other; out = out_of; above = λ x s z l g. take.above x s z l (goes_back x s z g); below = λ s y g. take.below s y (goes_back c s (ToPly y) g); kind = (take.held.1, take.held.0) }

-- a cell of the new ply is filled
module _ (wants : Watch) (there : ℕ → ℕ → Bool) (old new : Look) (pos : ℕ) (n : Paths) (u : View) (c s o : ℕ) (at : IsAt wants there old new pos n u) (fresh : IsFresh n u c) (lt : s < 16) (balance : IsBalance u o) (still : wants.promise.applied ≡ 0 → (t : ℕ) → t < 16 → u.cell o t ≡ Drop) where
  pub aside_calm : IsCalm u c (ToBalance o)
  aside_calm = no_cycle_balance (Wanted wants) n u at.served at.kinds c o fresh.kind.0 balance.1

  aside_new : IsNew wants u (ToBalance o)
  aside_new = record {
    apart = λ p e. let f : o ≡ p = cc in subst (λ (i : ℕ). u.is_ply i ≡ false) f balance.1;
    still = λ z p t e lt. let f : o ≡ p = cc in subst (λ (i : ℕ). u.cell i t ≡ Drop) f (still z t lt);
  }

  module _ (v : View) (put : IsSent u v c s (ToBalance o)) where
    not_new : (z : Word) → z ≡ ToBalance o → leads z c → ⊥
    not_new z e l = let f : o ≡ c = subst (λ (i : Word). leads i c) e l in true≢false (sym fresh.kind.0 ∙ sym (ap u.is_ply f) ∙ balance.1)

    above_on : (x t : ℕ) (z : Word) → leads z c → Goes v x t z → ⊥
    above_on x t z l g = ⊎_elim (λ (q : Goes u x t z). fresh.above x t z l q) (λ (q : (x ≡ c) × (t ≡ s) × (z ≡ ToBalance o)). not_new z q.2 l) (put.edges x t c z l g)

    below_on : (t y : ℕ) → Goes v c t (ToPly y) → ⊥
    below_on t y g = ⊎_elim (λ (q : Goes u c t (ToPly y)). fresh.below t y q) (λ (q : (c ≡ c) × (t ≡ s) × (ToPly y ≡ ToBalance o)). let e : ToPly y ≡ ToBalance o = q.2 in cc) (put.edges c t y (ToPly y) refl g)

    not_walked : IsWalked v c → ⊥
    not_walked (inl e) = fresh.other e
    not_walked (inr h) = above_on h.0 h.1 (ToPly c) refl h.3

    same_in : SameIn n u v
    same_in y t is = put.others y t (λ e _. true≢false (sym is ∙ ap n.is_in e ∙ fresh.out)) (⊎_elim (λ (z : y ≡ 0). inl z) (λ (h : u.is_held y ≡ true). inr (inl (put.held y ∙ h))) (at.fits.held y is).1)

    pub aside_served : IsServed (Wanted wants) n v
    aside_served = served_put (Wanted wants) n u v c s (ToBalance o) put at.served lt (λ z e. absurd (cc)) (λ stands. absurd (not_walked stands))

    pub aside_on : Beside u v → Kinds v → IsAt wants there old new pos n v × IsFresh n v c × SameIn n u v
    aside_on beside kv = (
      record {
        fits = record {
          root = at.fits.root;
          held = λ y is. (put.kinds y (stands_on u v c s (ToBalance o) put y (at.fits.held y is).1) ∙ (at.fits.held y is).0, ⊎_elim (λ (z : y ≡ 0). inl z) (λ (h : u.is_held y ≡ true). inr (put.held y ∙ h)) (at.fits.held y is).1);
          apart = at.fits.apart;
          needed = at.fits.needed;
          upward = at.fits.upward;
          cells = λ y t is lt'. rw (same_in y t is) (at.fits.cells y t is lt');
        };
        wider = at.wider;
        served = aside_served;
        kinds = kv;
        promised = at.promised;
        was = sound_beside wants old u v beside at.was;
        sound = sound_beside wants new u v beside at.sound;
        kept = kept_sent wants u v at.kept c s (ToBalance o) at.kinds fresh.kind.0 aside_new beside put;
        list = at.list;
      },
      record { other = fresh.other; out = fresh.out; above = above_on; below = below_on; kind = (put.kinds c (inr (inl (put.held c ∙ fresh.kind.1))) ∙ fresh.kind.0, put.held c ∙ fresh.kind.1) },
      same_in,
    )

  pub aside_may : MayPut wants.promise u c s (ToBalance o)
  aside_may = may_put wants u at.kept n c s (ToBalance o) at.served at.kinds fresh.kind.0 aside_calm aside_new (λ v put. aside_served v put)
      (record { links = λ z e ne. absurd (cc); unlinks = λ z e t b f. fresh.below s z (inl e) }) tt

-- one ply more
pub plus_more : (there : ℕ → ℕ → Bool) (d w e v : ℕ) → there e v ≡ true → plus there d w e v ≡ true
plus_more there d w e v h = by_bool (eqb e d && eqb v w) h
  where
    by_bool : (b : Bool) → there e v ≡ true → (b || there e v) ≡ true
    by_bool true h = refl
    by_bool false h = h

pub plus_new : (there : ℕ → ℕ → Bool) (d w : ℕ) → plus there d w d w ≡ true
plus_new there d w = rw (eq-eqb d d refl, eq-eqb w w refl) refl

pub plus_only : (there : ℕ → ℕ → Bool) (d w e v : ℕ) → plus there d w e v ≡ true → (there e v ≡ true) ⊎ ((e ≡ d) × (v ≡ w))
plus_only there d w e v h = dite (ℕ_discrete e d)
    (λ p. dite (ℕ_discrete v w) (λ q. inr (p, q)) (λ q. inl (rw (eq-eqb e d p, ne_eqb v w q) at h)))
    (λ p. inl (rw (ne_eqb e d p) at h))

-- the new ply is linked
module _ (wants : Watch) (there : ℕ → ℕ → Bool) (old new : Look) (pos : ℕ) (n : Paths) (u : View) (a x d s o c : ℕ) (at : IsAt wants there old new pos n u) (fresh : IsFresh n u c) (cell : IsCellOf n u a x d s) (was : u.cell x s ≡ ToBalance o) (filled : (t : ℕ) → t < 16 → u.cell c t ≡ ToBalance o) (place : (n.depth c ≡ d + 1) × (n.value c ≡ 16 * n.value x + s)) (room : d ≤ 6) where
  child : IsChild n x s c
  child = (place.0 ∙ ap (λ i. i + 1) (sym cell.path.1), place.1, let e : n.depth c ≡ d + 1 = place.0 in omega arith)

  pub link_kind : HasKind u x (ToPly c)
  link_kind = ((at.fits.held x cell.path.0).0, fresh.kind.0, λ t lt. subst IsPlyWord (sym (filled t lt)) tt)

  link_new : IsNew wants u (ToPly c)
  link_new = record { apart = λ p e. absurd (cc); still = λ z p t e lt. absurd (cc) }

  pub link_calm : IsCalm u x (ToPly c)
  link_calm = no_cycle_ply (Wanted wants) n u at.served at.kinds x s c (at.fits.held x cell.path.0).0 child

  Then : ℕ → ℕ → Type 0
  Then = Has (plus there (n.depth c) (n.value c))

  upward : (e w : ℕ) → Has (plus there (n.depth c) (n.value c)) (e + 2) w → Has (plus there (n.depth c) (n.value c)) (e + 1) (w / 16)
  upward e w h = plus_more there (n.depth c) (n.value c) (e + 1) (w / 16) (⊎_elim
      (λ (q : there (e + 2) w ≡ true). at.fits.upward e w q)
      (λ (q : (e + 2 ≡ n.depth c) × (w ≡ n.value c)).
      let p : e + 1 ≡ n.depth x = omega (arith, q.0, child.0) in
      let r : w / 16 ≡ n.value x = part w (n.value x) s cell.few.0 (q.1 ∙ place.1) in
      let not_root : x ≡ 0 → ⊥ = λ z. absurd (let y : n.depth x ≡ 0 = ap n.depth z ∙ at.fits.root.1 in omega arith) in
      subst (λ (i : ℕ). there i (w / 16) ≡ true) (sym p) (subst (λ (i : ℕ). there (n.depth x) i ≡ true) (sym r) (⊎_elim (λ (z : x ≡ 0). absurd (not_root z)) (λ (y : there (n.depth x) (n.value x) ≡ true). y) (at.fits.needed x cell.path.0).1)))
      (plus_only there (n.depth c) (n.value c) (e + 2) w h))
    where
      part : (w v t : ℕ) → t < 16 → w ≡ 16 * v + t → w / 16 ≡ v
      part w v t lt e = omega arith

  link_list : IsListed (listed n c true)
  link_list = record {
    each = λ y h. dite (ℕ_discrete y c) (λ e. inl (sym e)) (λ ne. inr (at.list.each y (sym (elsewhere c true n.is_in y ne) ∙ h)));
    only = λ y one. ⊎_elim (λ (e : c ≡ y). subst (λ (i : ℕ). (listed n c true).is_in i ≡ true) e (at_it c true n.is_in))
        (λ (k : IsOne n.all y). let is = at.list.only y k in elsewhere c true n.is_in y (λ e. true≢false (sym is ∙ ap n.is_in e ∙ fresh.out)) ∙ is) one;
    apart = (apart_cons c n.all (λ one. true≢false (sym (at.list.only c one) ∙ fresh.out)), at.list.apart);
  }

  module _ (v : View) (put : IsSent u v x s (ToPly c)) where
    pub link_served : IsServed (Wanted wants) n v
    link_served = served_linked (Wanted wants) (Mixed old new pos) (Has there) (Has (plus there (n.depth c) (n.value c))) n u v x s o c at.fits cell.path.0 cell.few.0 was fresh.other fresh.out child fresh.kind.0 fresh.kind.1 filled put (plus_more there (n.depth c) (n.value c)) (plus_new there (n.depth c) (n.value c)) (plus_only there (n.depth c) (n.value c)) upward at.served (agree wants old new pos at.promised)

    pub linked_on : Beside u v → Kinds v → IsAt wants (plus there (n.depth c) (n.value c)) old new pos (listed n c true) v
    linked_on beside kv = record {
      fits = fits_linked (Wanted wants) (Mixed old new pos) (Has there) (Has (plus there (n.depth c) (n.value c))) n u v x s o c at.fits cell.path.0 cell.few.0 was fresh.other fresh.out child fresh.kind.0 fresh.kind.1 filled put (plus_more there (n.depth c) (n.value c)) (plus_new there (n.depth c) (n.value c)) (plus_only there (n.depth c) (n.value c)) upward;
      wider = λ e w h. plus_more there (n.depth c) (n.value c) (e + 1) w (at.wider e w h);
      served = record { root = link_served.root; paths = link_served.paths; right = λ y t stands lt. same_right y t (v.cell y t) (link_served.right y t stands lt) };
      kinds = kv;
      promised = at.promised;
      was = sound_beside wants old u v beside at.was;
      sound = sound_beside wants new u v beside at.sound;
      kept = kept_sent wants u v at.kept x s (ToPly c) at.kinds (at.fits.held x cell.path.0).0 link_new beside put;
      list = link_list;
    }
      where
        same_right : (y t : ℕ) (z : Word) → IsRight (Wanted wants) n y t z → IsRight (Wanted wants) (listed n c true) y t z
        same_right y t (ToPly b) h = h
        same_right y t (ToBalance b) h = h
        same_right y t Drop h = h
        same_right y t (Plain b) h = h
        same_right y t Receive h = h
        same_right y t (Glean b) h = h
        same_right y t (ToAdjacency b) h = h

  pub link_may : MayPut wants.promise u x s (ToPly c)
  link_may = may_put wants u at.kept n x s (ToPly c) at.served at.kinds (at.fits.held x cell.path.0).0 link_calm link_new (λ v put. link_served v put)
      (record { links = λ z e ne. ⊎_elim (λ (r : x ≡ 0). absurd (ne r)) (λ (h : (y : ℕ) × (t : ℕ) × (n.is_in y ≡ true) × (u.cell y t ≡ ToPly x)). (h.0, h.1, h.3)) cell.led; unlinks = λ z e t b f. let g : ToBalance o ≡ ToPly z = sym was ∙ e in absurd (cc) }) tt

  -- the address's cell of the new ply
  pub next_cell : (v : View) → IsSent u v x s (ToPly c) → (t : ℕ) → t ≡ a / 2 ^ (28 - 4 * (d + 1)) % 16 → IsBelow a (d + 2) (16 * n.value c + t) → IsCellOf (listed n c true) v a c (d + 1) t
  next_cell v put t is below = record {
    path = (at_it c true n.is_in, place.0, cell.below ∙ sym place.1);
    below = subst (λ (i : ℕ). IsBelow a i (16 * n.value c + t)) (let e : d + 2 ≡ d + 1 + 1 = omega arith in e) below;
    leaf = (o, put.others c t (λ e _. true≢false (sym cell.path.0 ∙ ap n.is_in (sym e) ∙ fresh.out)) (inr (inl (put.held c ∙ fresh.kind.1))) ∙ filled t (rw is (few (a / 2 ^ (28 - 4 * (d + 1))))));
    few = (rw is (few (a / 2 ^ (28 - 4 * (d + 1)))), omega arith);
    led = inr (x, s, elsewhere c true n.is_in x (λ e. true≢false (sym cell.path.0 ∙ ap n.is_in e ∙ fresh.out)) ∙ cell.path.0, put.cell);
  }
    where
      few : (b : ℕ) → b % 16 < 16
      few b = omega arith

-- a store holds no more
pub sent_no_more : (u v : View) (x s : ℕ) (z : Word) → IsSent u v x s z → HoldsNoMore u v
sent_no_more u v x s z put o is h = (sym (put.kinds o (inr (inl h))) ∙ is, sym (put.held o) ∙ h)

pub no_more_sent : (u v w : View) (x s : ℕ) (z : Word) → HoldsNoMore u v → IsSent v w x s z → HoldsNoMore u w
no_more_sent u v w x s z f put o is h = let q = sent_no_more v w x s z put o is h in f o q.0 q.1

-- the three steps together: u0 before, u1 after the ply is taken, u2 after it is filled
module _ (wants : Watch) (there : ℕ → ℕ → Bool) (old new : Look) (pos : ℕ) (n : Paths) (u0 u1 : View) (a x d s o c : ℕ) (at : IsAt wants there old new pos n u0) (cell : IsCellOf n u0 a x d s) (was : u0.cell x s ≡ ToBalance o) (take : IsTaken u0 u1 kinds.Ply c) (small : a < 2 ^ 32) (beside : Beside u0 u1) (kinds1 : Kinds u1) where
  object_at : IsBalance u0 o × (wants.promise.applied ≡ 0 → (t : ℕ) → t < 16 → u0.cell o t ≡ Drop)
  object_at =
      let f = (subst (λ (z : Word). IsFilled (Mixed old new pos) (Has there) n x s z) was (at.fits.cells x s cell.path.0 cell.few.0)).1 a (small, subst (λ (i : ℕ). IsBelow a (i + 1) (16 * n.value x + s)) (sym cell.path.1) cell.below) in
      elim (cases_lt a pos) [
        | inl less ↦ (let k = best_is_one new 32 a o (f.0 less) in (at.sound.balance k.0 k.1 o k.2, λ z t lt. at.sound.still z k.0 k.1 o t k.2 lt))
        | inr le ↦ (let k = best_is_one old 32 a o (f.1 le) in (at.was.balance k.0 k.1 o k.2, λ z t lt. at.was.still z k.0 k.1 o t k.2 lt))
      ]

  pub object_kind : IsBalance u1 o
  object_kind = beside.balances o object_at.0

  pub object_still : wants.promise.applied ≡ 0 → (t : ℕ) → t < 16 → u1.cell o t ≡ Drop
  object_still z t lt = take.cells o t ∙ object_at.1 z t lt

  first_at : IsAt wants there old new pos (placed n c (d + 1) (a / 2 ^ (28 - 4 * d))) u1
  first_at = taken_on wants there old new pos n u0 u1 c (d + 1) (a / 2 ^ (28 - 4 * d)) at take beside kinds1

  first_fresh : IsFresh (placed n c (d + 1) (a / 2 ^ (28 - 4 * d))) u1 c
  first_fresh = taken_fresh wants there old new pos n u0 u1 c (d + 1) (a / 2 ^ (28 - 4 * d)) at take

  pub can_fill : (p : Promise) → wants.promise ≡ p → CanFill p u1 c o
  can_fill p e = (wants, there, old, new, pos, placed n c (d + 1) (a / 2 ^ (28 - 4 * d)), first_at, first_fresh, e, λ z t lt. object_still (ap (λ (r : Promise). r.applied) e ∙ z) t lt)

  not_x : x ≡ c → ⊥
  not_x = not_it wants there old new pos n u0 u1 c 0 0 at take x cell.path.0

  shift : 32 - 4 * (d + 1) ≡ 28 - 4 * d
  shift = omega arith

  module _ (u2 : View) (aside : Aside u1 u2 c o) (filled : (t : ℕ) → t < 16 → u2.cell c t ≡ ToBalance o) where
    pub ready : IsAt wants there old new pos (placed n c (d + 1) (a / 2 ^ (28 - 4 * d))) u2 × IsFresh (placed n c (d + 1) (a / 2 ^ (28 - 4 * d))) u2 c × SameIn (placed n c (d + 1) (a / 2 ^ (28 - 4 * d))) u1 u2
    ready = aside wants there old new pos (placed n c (d + 1) (a / 2 ^ (28 - 4 * d))) first_at first_fresh object_still

    pub was_still : u2.cell x s ≡ ToBalance o
    was_still = ready.2 x s cell.path.0 ∙ take.cells x s ∙ was

    pub cell_still : IsCellOf (placed n c (d + 1) (a / 2 ^ (28 - 4 * d))) u2 a x d s
    cell_still = record {
      path = (cell.path.0, elsewhere c (d + 1) n.depth x not_x ∙ cell.path.1, cell.path.2 ∙ sym (elsewhere c (a / 2 ^ (28 - 4 * d)) n.value x not_x));
      below = cell.below ∙ ap (λ i. 16 * i + s) (sym (elsewhere c (a / 2 ^ (28 - 4 * d)) n.value x not_x));
      leaf = (o, was_still);
      few = cell.few;
      led = ⊎_elim (λ (z : x ≡ 0). inl z) (λ (h : (y : ℕ) × (t : ℕ) × (n.is_in y ≡ true) × (u0.cell y t ≡ ToPly x)). inr (h.0, h.1, h.2, ready.2 h.0 h.1 h.2 ∙ take.cells h.0 h.1 ∙ h.3)) cell.led;
    }

    pub place_is : ((placed n c (d + 1) (a / 2 ^ (28 - 4 * d))).depth c ≡ d + 1) × ((placed n c (d + 1) (a / 2 ^ (28 - 4 * d))).value c ≡ 16 * (placed n c (d + 1) (a / 2 ^ (28 - 4 * d))).value x + s)
    place_is = (at_it c (d + 1) n.depth, at_it c (a / 2 ^ (28 - 4 * d)) n.value ∙ ap (λ i. a / 2 ^ i) (sym shift) ∙ cell_still.below)

    -- the other cells of the table's plies
    same : (v : View) → IsSent u2 v x s (ToPly c) → (y t : ℕ) → IsOne n.all y → (y ≡ x → t ≡ s → ⊥) → v.cell y t ≡ u0.cell y t
    same v put y t one apart = let is = at.list.only y one in put.others y t apart (stands_on u2 v x s (ToPly c) put y (ready.0.fits.held y is).1) ∙ ready.2 y t is ∙ take.cells y t

    module _ (room : d < 7) where
      low : d ≤ 6
      low = omega arith

      pub sprout_may : MayPut wants.promise u2 x s (ToPly c)
      sprout_may = link_may wants there old new pos (placed n c (d + 1) (a / 2 ^ (28 - 4 * d))) u2 a x d s o c ready.0 ready.1 cell_still was_still filled place_is low

      pub sprout_kind : HasKind u2 x (ToPly c)
      sprout_kind = link_kind wants there old new pos (placed n c (d + 1) (a / 2 ^ (28 - 4 * d))) u2 a x d s o c ready.0 ready.1 cell_still was_still filled place_is low

      pub sprout_calm : IsCalm u2 x (ToPly c)
      sprout_calm = link_calm wants there old new pos (placed n c (d + 1) (a / 2 ^ (28 - 4 * d))) u2 a x d s o c ready.0 ready.1 cell_still was_still filled place_is low

      pub sprout_ply : (u2.is_ply x ≡ true) × IsStanding u2 x
      sprout_ply = ready.0.fits.held x cell.path.0

      pub sprout_target : u2.is_held c ≡ true
      sprout_target = ready.1.kind.1

      pub sprout_paid : (v : View) → IsSent u2 v x s (ToPly c) → u1.spare ≤ u2.spare → Stores u1 u2 16 → HoldsNoMore u1 u2 → IsPaid n (listed (placed n c (d + 1) (a / 2 ^ (28 - 4 * d))) c true) u0 v 1
      sprout_paid v put spare stores plies =
          let more : count_cells (λ y t. is_to_ply (u0.cell y t)) n.all + 1 ≤ count_cells (λ y t. is_to_ply (v.cell y t)) n.all =
          cells_lt (λ y t. is_to_ply (u0.cell y t)) (λ y t. is_to_ply (v.cell y t)) n.all x s
          (λ y t one lt h. dite (ℕ_discrete y x)
          (λ e. dite (ℕ_discrete t s)
          (λ f. absurd (true≢false (sym h ∙ ap₂ (λ i j. is_to_ply (u0.cell i j)) e f ∙ ap is_to_ply was)))
          (λ ne. ap is_to_ply (same v put y t one (λ _ f. ne f)) ∙ h))
          (λ ne. ap is_to_ply (same v put y t one (λ e _. ne e)) ∙ h))
          (at.list.each x cell.path.0) cell.few.0 (ap is_to_ply was) (ap is_to_ply put.cell) in
          record {
            plies = omega arith;
            spare = omega (arith, more, take.spare, spare, put.spare);
            stored = omega (arith, take.free, take.stored, stores.few, put.stores.few);
            more = omega (arith, take.stored, stores.more, put.stores.more);
            mine = λ m y is h.
                let q = no_more_sent u1 u2 v x s (ToPly c) plies put y is h in
                dite (ℕ_discrete y c)
                (λ e. (
                  subst (λ (i : ℕ). (listed (placed n c (d + 1) (a / 2 ^ (28 - 4 * d))) c true).is_in i ≡ true) (sym e) (at_it c true n.is_in),
                  (let deep = ap (placed n c (d + 1) (a / 2 ^ (28 - 4 * d))).depth e ∙ at_it c (d + 1) n.depth in omega (arith, deep)),
                ))
                (λ ne.
                let o = take.others y ne in
                let was = m y (sym o.1 ∙ q.0) (sym o.0 ∙ q.1) in
                (elsewhere c true n.is_in y ne ∙ was.0, (let deep = elsewhere c (d + 1) n.depth y ne in omega (arith, deep, was.1))));
          }

      pub sprout_on : (v : View) → IsSent u2 v x s (ToPly c) → Beside u2 v → Kinds v → u1.spare ≤ u2.spare → Stores u1 u2 16 → HoldsNoMore u1 u2 → (m : Paths) × IsAt wants (plus there (d + 1) (a / 2 ^ (28 - 4 * d))) old new pos m v × IsCellOf m v a c (d + 1) (a / 2 ^ (28 - 4 * (d + 1)) % 16) × IsPaid n m u0 v 1
      sprout_on v put beside2 kv spare stores plies = (
        listed (placed n c (d + 1) (a / 2 ^ (28 - 4 * d))) c true,
        subst (λ (i : ℕ). IsAt wants (plus there (d + 1) i) old new pos (listed (placed n c (d + 1) (a / 2 ^ (28 - 4 * d))) c true) v) (at_it c (a / 2 ^ (28 - 4 * d)) n.value) (subst (λ (i : ℕ). IsAt wants (plus there i ((placed n c (d + 1) (a / 2 ^ (28 - 4 * d))).value c)) old new pos (listed (placed n c (d + 1) (a / 2 ^ (28 - 4 * d))) c true) v) (at_it c (d + 1) n.depth) (linked_on wants there old new pos (placed n c (d + 1) (a / 2 ^ (28 - 4 * d))) u2 a x d s o c ready.0 ready.1 cell_still was_still filled place_is low v put beside2 kv)),
        next_cell wants there old new pos (placed n c (d + 1) (a / 2 ^ (28 - 4 * d))) u2 a x d s o c ready.0 ready.1 cell_still was_still filled place_is low v put (a / 2 ^ (28 - 4 * (d + 1)) % 16) refl below,
        sprout_paid v put spare stores plies,
      )
        where
          below : IsBelow a (d + 2) (16 * (placed n c (d + 1) (a / 2 ^ (28 - 4 * d))).value c + a / 2 ^ (28 - 4 * (d + 1)) % 16)
          below =
              let k : ℕ = 6 - d in
              let e : (d + 1) + suc k ≡ 8 = omega arith in
              let f : 4 * k ≡ 28 - 4 * (d + 1) = omega arith in
              let h : IsBelow a (d + 1) ((placed n c (d + 1) (a / 2 ^ (28 - 4 * d))).value c) = ap (λ i. a / 2 ^ i) shift ∙ sym (at_it c (a / 2 ^ (28 - 4 * d)) n.value) in
              let r : d + 1 + 1 ≡ d + 2 = omega arith in
              subst (λ (j : ℕ). IsBelow a j (16 * (placed n c (d + 1) (a / 2 ^ (28 - 4 * d))).value c + a / 2 ^ (28 - 4 * (d + 1)) % 16)) r (subst (λ (i : ℕ). IsBelow a (d + 1 + 1) (16 * (placed n c (d + 1) (a / 2 ^ (28 - 4 * d))).value c + a / 2 ^ i % 16)) f (below_next a (d + 1) k ((placed n c (d + 1) (a / 2 ^ (28 - 4 * d))).value c) e h))

pub frame_put : (u v w : View) (x s : ℕ) (z : Word) → Frame u v → IsSent v w x s z → Frame u w
frame_put u v w x s z f put = record { keeps = λ o h. let q = f.keeps o h in (put.held o ∙ q.0, put.kinds o (inr (inl (put.held o ∙ q.0))) ∙ q.1) }

pub frame_taken : (u v : View) (c : ℕ) → IsTaken u v kinds.Ply c → Frame u v
frame_taken u v c take = record { keeps = λ o h. let q = take.others o (λ e. true≢false (sym h ∙ ap u.is_held e ∙ take.fresh)) in (q.0 ∙ h, q.1) }

pub frame_none : (u : View) → Frame u u
frame_none u = record { keeps = λ o h. (h, refl) }

pub frame_then : (u v w : View) → Frame u v → Frame v w → Frame u w
frame_then u v w f g = record { keeps = λ o h. let q = f.keeps o h in let r = g.keeps o q.0 in (r.0, r.1 ∙ q.1) }
