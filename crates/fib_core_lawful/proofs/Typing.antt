-- A store keeps edges well typed.
use Rattle.std.proofs.Common.{◌≡◌, ◌≢◌, ℕ, zero, suc, ◌+◌, ◌*◌, ◌%◌, ◌<◌, ◌≤◌, ◌⊎◌, inl, inr, ⊎_elim, Bool, true, List, length, refl, sym, ap, ◌∙◌, subst, arith, get_or-set_same, get_or-set_other}
use Rattle.std.specs.Prelude.{slice_index, slice_set}
use mathlib.Core.Logic.{dite}
use native.Mathlib.Decide.{ℕ_discrete}
use Rattle.fib_reach.specs.Walks.{Walk, Leads, Plus}
use Rattle.fib_reach.proofs.Walking.{walk-map}
use Rattle.fib_core.specs.declared.word.Word.{Word}
use Rattle.fib_core.specs.declared.word.Word.TheVariants as words
use Rattle.fib_union.specs.Unions.{owner}
use Rattle.fib_core.specs.Words.{decoded, tag_of, goes, target}
use Rattle.fib_core.specs.Walk.{word_at}
use Rattle.fib_union.specs.Marks.{Mark}
use Rattle.fib_core.specs.Union.{Union, Goes, Edge, PlyEdge, IsPlyWord, HasForm, IsTyped, stored}
use Rattle.fib_core.proofs.Numbers.{target_of, owner_of, goes_of}
use Rattle.fib_core.proofs.Unions.{goes_stored}
use Rattle.fib_core_lawful.specs.State.{Log}
use Rattle.fib_core_lawful.specs.May.{MayLead, MayStoreLawfully}

-- a walk takes a new edge at most once, where its target doesn't lead back
walk_once : (E : ℕ → ℕ → Type 0) (a b : ℕ) → (Leads E b a → ⊥) → (n x y : ℕ) → Walk (Plus E a b) n x y → Walk E n x y ⊎ ((i : ℕ) × (j : ℕ) × (n ≡ i + 1 + j) × Walk E i x a × Walk E j b y)
walk_once E a b far zero x y w = inl w
walk_once E a b far (suc n) x y w = joined w.1 (walk_once E a b far n w.0 y w.2)
  where
    joined : Plus E a b x w.0 → Walk E n w.0 y ⊎ ((i : ℕ) × (j : ℕ) × (n ≡ i + 1 + j) × Walk E i w.0 a × Walk E j b y) → Walk E (suc n) x y ⊎ ((i : ℕ) × (j : ℕ) × (suc n ≡ i + 1 + j) × Walk E i x a × Walk E j b y)
    joined (inl e) (inl r) = inl (w.0, e, r)
    joined (inl e) (inr q) = inr (suc q.0, q.1, (let is = q.2 in omega arith), (w.0, e, q.3), q.4)
    joined (inr p) (inl r) = inr (0, n, omega arith, p.0, subst (λ (z : ℕ). Walk E n z y) p.1 r)
    joined (inr p) (inr q) = absurd (far (q.0, subst (λ (z : ℕ). Walk E q.0 z a) p.1 q.3))

three : (w : Word) → tag_of w ≡ 3 → (o : ℕ) × (w ≡ words.ToPly o)
three (words.ToPly o) e = (o, refl)
three words.Drop e = absurd (cc)
three words.Receive e = absurd (cc)
three (words.Glean i) e = absurd (cc)
three (words.ToBalance o) e = absurd (cc)
three (words.ToAdjacency o) e = absurd (cc)
three (words.Plain n) e = absurd (cc)

module _ (objects : ℕ) (u : Union) (l : Log) (out : List Bool) (k w : ℕ) (keep : Bool) (marks : List Mark) (may : MayStoreLawfully objects u l out k w) (old : IsTyped u) (room : k < length u.cells) where
  after_put : Union
  after_put = stored keep marks u k w

  lead : (j v : ℕ) → Goes (stored keep marks u k w) j v → v ≡ w → MayLead objects u k w
  lead j v g e = may.edge (ap goes (sym e) ∙ g.0)

  -- the owner of a new edge isn't its target
  loopless : MayLead objects u k w → target w ≢ owner k
  loopless m e = m.apart (0, e)

  word_here : (o s : ℕ) → 16 * o + s ≡ k → word_at (slice_set u.cells k w) o s ≡ decoded w
  word_here o s e = ap decoded (subst (λ i. slice_index (slice_set u.cells k w) i ≡ w) (sym e) (get_or-set_same u.cells k w 0 room))

  word_there : (o s : ℕ) → 16 * o + s ≢ k → word_at (slice_set u.cells k w) o s ≡ word_at u.cells o s
  word_there o s ne = ap decoded (get_or-set_other u.cells k (16 * o + s) w 0 ne)

  slot_is : (o s : ℕ) → s < 16 → 16 * o + s ≡ k → s ≡ k % 16
  slot_is o s lt e = omega arith

  owner_is : (o s : ℕ) → s < 16 → 16 * o + s ≡ k → o ≡ owner k
  owner_is o s lt e = sym (owner_of o s lt) ∙ ap owner e

  pub typed_stored : IsTyped (stored keep marks u k w)
  typed_stored = record {
    one_tag = λ i v j x g q same. ⊎_elim
        (λ (a : Goes u i v). ⊎_elim
        (λ (b : Goes u j x). old.one_tag i v j x a b same)
        (λ (e : (j ≡ k) × (x ≡ w)). (lead j x q e.1).one_tag i v a (same ∙ ap target e.1) ∙ ap (λ n. tag_of (decoded n)) (sym e.1))
        (goes_stored keep marks u k w j x q))
        (λ (d : (i ≡ k) × (v ≡ w)). ⊎_elim
        (λ (b : Goes u j x). ap (λ n. tag_of (decoded n)) d.1 ∙ sym ((lead i v g d.1).one_tag j x b (sym same ∙ ap target d.1)))
        (λ (e : (j ≡ k) × (x ≡ w)). ap (λ n. tag_of (decoded n)) (d.1 ∙ sym e.1))
        (goes_stored keep marks u k w j x q))
        (goes_stored keep marks u k w i v g);
    rootless = λ j v g e. ⊎_elim (λ (a : Goes u j v). old.rootless j v a e) (λ (d : (j ≡ k) × (v ≡ w)). (lead j v g d.1).away (ap target (sym d.1) ∙ e)) (goes_stored keep marks u k w j v g);
    plies = λ i v j x g is q to. ⊎_elim
        (λ (a : Goes u i v). ⊎_elim
        (λ (b : Goes u j x). old.plies i v j x a is b to)
        (λ (e : (j ≡ k) × (x ≡ w)). ap (λ n. tag_of (decoded n)) e.1 ∙ dite (ℕ_discrete (tag_of (decoded w)) 3) (λ (t : tag_of (decoded w) ≡ 3). t) (λ ne. absurd ((lead j x q e.1).others ne i v a is (sym to ∙ ap target e.1))))
        (goes_stored keep marks u k w j x q))
        (λ (d : (i ≡ k) × (v ≡ w)). ⊎_elim
        (λ (b : Goes u j x). (lead i v g d.1).plies (ap (λ n. tag_of (decoded n)) (sym d.1) ∙ is) j x b (to ∙ ap owner d.0))
        (λ (e : (j ≡ k) × (x ≡ w)). absurd (loopless (lead j x q e.1) (ap target (sym e.1) ∙ to ∙ ap owner d.0)))
        (goes_stored keep marks u k w j x q))
        (goes_stored keep marks u k w i v g);
    shallow = shallow_after;
    root = λ s lt. dite (ℕ_discrete (16 * 0 + s) k)
        (λ e. subst (λ x. IsPlyWord x ⊎ (x ≡ words.Drop)) (sym (word_here 0 s e)) (may.root (sym (owner_is 0 s lt e))))
        (λ ne. subst (λ x. IsPlyWord x ⊎ (x ≡ words.Drop)) (sym (word_there 0 s ne)) (old.root s lt));
    formed = λ j v s g lt. ⊎_elim
        (λ (a : Goes u j v). dite (ℕ_discrete (16 * target v + s) k)
        (λ e. subst (HasForm (decoded v) s) (sym (word_here (target v) s e)) (subst (λ i. HasForm (decoded v) i (decoded w)) (sym (slot_is (target v) s lt e)) (may.form j v a (owner_is (target v) s lt e))))
        (λ ne. subst (HasForm (decoded v) s) (sym (word_there (target v) s ne)) (old.formed j v s a lt)))
        (λ (d : (j ≡ k) × (v ≡ w)). subst (λ n. HasForm (decoded n) s (word_at (slice_set u.cells k w) (target n) s)) (sym d.1)
        (subst (HasForm (decoded w) s) (sym (word_there (target w) s (λ e. loopless (lead j v g d.1) (owner_is (target w) s lt e)))) ((lead j v g d.1).formed s lt)))
        (goes_stored keep marks u k w j v g);
  }
    where
      ply_after : goes w ≡ true → tag_of (decoded w) ≡ 3 → (x y : ℕ) → PlyEdge (stored keep marks u k w) x y → Plus (PlyEdge u) (owner k) (target w) x y
      ply_after going is x y (j, v, from, to, g) = ⊎_elim
          (λ (a : Goes u j v). inl (j, v, from, to, a))
          (λ (d : (j ≡ k) × (v ≡ w)). inr (sym from ∙ ap owner d.0, sym (target_of w (words.ToPly y) (ap decoded (sym d.1) ∙ to))))
          (goes_stored keep marks u k w j v g)

      ply_same : (tag_of (decoded w) ≡ 3 → ⊥) → (x y : ℕ) → PlyEdge (stored keep marks u k w) x y → PlyEdge u x y
      ply_same ne x y (j, v, from, to, g) = ⊎_elim
          (λ (a : Goes u j v). (j, v, from, to, a))
          (λ (d : (j ≡ k) × (v ≡ w)). absurd (ne (ap (λ n. tag_of (decoded n)) (sym d.1) ∙ ap tag_of to)))
          (goes_stored keep marks u k w j v g)

      edge_of : (x y : ℕ) → PlyEdge u x y → Edge u x y
      edge_of x y (j, v, from, to, g) = (j, v, from, target_of v (words.ToPly y) to, g)

      shallow_after : (n y : ℕ) → Walk (PlyEdge (stored keep marks u k w)) n 0 y → n ≤ 7
      shallow_after n y walk = dite (ℕ_discrete (tag_of (decoded w)) 3)
          (λ is.
          let t = three (decoded w) is in
          let going : goes w ≡ true = goes_of w (words.ToPly t.0) t.1 in
          let m = may.edge going in
          ⊎_elim
          (λ (r : Walk (PlyEdge u) n 0 y). old.shallow n y r)
          (λ (q : (i : ℕ) × (j : ℕ) × (n ≡ i + 1 + j) × Walk (PlyEdge u) i 0 (owner k) × Walk (PlyEdge u) j (target w) y). let all = m.shallow is q.0 q.1 y q.3 q.4 in let e = q.2 in omega arith)
          (walk_once (PlyEdge u) (owner k) (target w) (λ back. m.apart (back.0, walk-map (PlyEdge u) (Edge u) edge_of back.0 (target w) (owner k) back.1)) n 0 y
          (walk-map (PlyEdge (stored keep marks u k w)) (Plus (PlyEdge u) (owner k) (target w)) (ply_after going is) n 0 y walk)))
          (λ ne. old.shallow n y (walk-map (PlyEdge (stored keep marks u k w)) (PlyEdge u) (ply_same ne) n 0 y walk))
