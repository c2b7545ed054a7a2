-- One step of the walk, over the frames of its path.
use Rattle.std.proofs.Common.{arith, ◌≡◌, ◌≢◌, ℕ, ◌+◌, ◌<◌, ◌≤◌, inl, inr, List, [], ◌∷◌, ◌++◌, length, get_or, set, Result, Ok, Err, OnOk, sym, ◌∙◌, ap, subst}
use Rattle.std.specs.Prelude.{Contains}
use Rattle.std.proofs.lemmas.Bool.{cases_lt}
use Rattle.std.proofs.lemmas.List.{map-append}
use Rattle.std.proofs.lemmas.List.Elements.{Contains-push, Contains-push_cases, Contains-append_left, Contains-get_or}
use Rattle.fib_reach.specs.Walks.{Leads}
use Rattle.fib_reach.specs.Graphs.{IsClosed, Edge, next_of}
use Rattle.fib_reach.proofs.Places.{any_default}
use Rattle.fib_reach.proofs.Walking.{leads_then, edge_leads}
use Rattle.fib_loops.specs.inner.Entering.{IsEntering, IsPassed, ArePassed, KeepsEntered, nodes_of, unset}
use Rattle.fib_loops.specs.declared.enter.Frame.{Frame}
use Rattle.fib_loops.proofs.Entered.{node_entered, node_left_now, entered_kept, pairs_last, unset_less}

pub on_ok_two : {T E : Type 0} {A B C : Type 0} (r : Result T E) → OnOk r A → OnOk r B → (A → B → C) → OnOk r C
on_ok_two (Ok x) a b f = f a b
on_ok_two (Err e) a b f = tt

pub nodes_push : (frames : List Frame) (f : Frame) → nodes_of (frames ++ f ∷ []) ≡ nodes_of frames ++ f.node ∷ []
nodes_push frames f = map-append (λ (e : Frame). e.node) frames (f ∷ [])

-- what holds of equal lists
pub enters_same : (g : List (List ℕ)) (S S' R R' O O' : List ℕ) (P P' : List Frame) → S' ≡ S → R' ≡ R → O' ≡ O → P' ≡ P → IsEntering g S R O (nodes_of P) × ArePassed g S P → IsEntering g S' R' O' (nodes_of P') × ArePassed g S' P'
enters_same g S S' R R' O O' P P' s r o p h = rw (s, r, o, p) h

-- frames that have passed their targets keep doing so
pub passed_kept : (g : List (List ℕ)) (starts later : List ℕ) (frames : List Frame) → KeepsEntered starts later → ArePassed g starts frames → ArePassed g later frames
passed_kept g starts later frames keeps all f c = let p = all f c in (p.0, λ i l. keeps (get_or (next_of g f.node) i 0) (p.1 i l))

pub passed_push : (g : List (List ℕ)) (starts : List ℕ) (frames : List Frame) (f : Frame) → ArePassed g starts frames → IsPassed g starts f → ArePassed g starts (frames ++ f ∷ [])
passed_push g starts frames f all one e c = elim (Contains-push_cases frames f e c) [ inl old ↦ all e old | inr is ↦ subst (λ (d : Frame). IsPassed g starts d) is one ]

pub passed_front : (g : List (List ℕ)) (starts : List ℕ) (frames : List Frame) (f : Frame) → ArePassed g starts (frames ++ f ∷ []) → ArePassed g starts frames
passed_front g starts frames f all e c = all e (Contains-append_left frames (f ∷ []) e c)

module _ (g : List (List ℕ)) (starts ranks order : List ℕ) (frames : List Frame) (f : Frame) (v : IsEntering g starts ranks order (nodes_of (frames ++ f ∷ []))) (p : ArePassed g starts (frames ++ f ∷ [])) (closed : IsClosed g) where
  v' : IsEntering g starts ranks order (nodes_of frames ++ f.node ∷ [])
  v' = subst (λ (l : List ℕ). IsEntering g starts ranks order l) (nodes_push frames f) v

  pub newest_in : f.node < length g
  newest_in = v'.node_open f.node (Contains-push (nodes_of frames) f.node)

  pub newest_passed : IsPassed g starts f
  newest_passed = p f (Contains-push frames f)

  pub target_in : (i : ℕ) → i < length (next_of g f.node) → get_or (next_of g f.node) i 0 < length g
  target_in i l = closed f.node (get_or (next_of g f.node) i 0) (Contains-get_or (next_of g f.node) i 0 l)

  -- a target that isn't entered
  module _ (i : ℕ) (low : i < length (next_of g f.node)) (before : (k : ℕ) → k < i → 0 < get_or starts (get_or (next_of g f.node) k 0) 0) (new : get_or starts (get_or (next_of g f.node) i 0) 0 ≡ 0) where
    abbrev y : ℕ
    y = get_or (next_of g f.node) i 0

    abbrev later : List ℕ
    later = set starts y (length order + 1)

    abbrev moved : Frame
    moved = record { node = f.node; passed = i + 1 }

    abbrev fresh : Frame
    fresh = record { node = y; passed = 0 }

    leads : (x : ℕ) → Contains (nodes_of frames ++ f.node ∷ []) x → Leads (Edge g) x y
    leads x c =
        let edge : Edge g f.node y = Contains-get_or (next_of g f.node) i 0 low in
        elim (Contains-push_cases (nodes_of frames) f.node x c) [
          | inl old ↦ leads_then (Edge g) x f.node y (pairs_last (λ a b. (a ≢ b) × (get_or starts a 0 ≤ get_or starts b 0) × Leads (Edge g) a b) (nodes_of frames) f.node v'.stacked x old).2 (edge_leads (Edge g) f.node y edge)
          | inr e ↦ subst (λ (z : ℕ). Leads (Edge g) z y) e (edge_leads (Edge g) f.node y edge)
        ]

    pub enters_kept : KeepsEntered starts later
    enters_kept = entered_kept g starts ranks order (nodes_of frames ++ f.node ∷ []) v' y (target_in i low) new leads

    pub enters_one : IsEntering g later ranks order (nodes_of ((frames ++ moved ∷ []) ++ fresh ∷ []))
    enters_one =
        subst (λ (l : List ℕ). IsEntering g later ranks order l) (sym (nodes_push (frames ++ moved ∷ []) fresh ∙ ap (λ (l : List ℕ). l ++ y ∷ []) (nodes_push frames moved)))
        (node_entered g starts ranks order (nodes_of frames ++ f.node ∷ []) v' y (target_in i low) new leads)

    now_entered : 0 < get_or later y 0
    now_entered = (enters_one).start_open y (subst (λ (l : List ℕ). Contains l y) (sym (nodes_push (frames ++ moved ∷ []) fresh)) (Contains-push (nodes_of (frames ++ moved ∷ [])) y))

    moved_passed : IsPassed g later moved
    moved_passed = (
      omega (arith, low),
      λ k l. elim (cases_lt k i) [
        | inl lt ↦ enters_kept (get_or (next_of g f.node) k 0) (before k lt)
        | inr ge ↦ (let e : i ≡ k = omega (arith, ge, l) in subst (λ (j : ℕ). 0 < get_or later (get_or (next_of g f.node) j 0) 0) e now_entered)
      ],
    )

    pub passes_one : ArePassed g later ((frames ++ moved ∷ []) ++ fresh ∷ [])
    passes_one =
        passed_push g later (frames ++ moved ∷ []) fresh
        (passed_push g later frames moved (passed_kept g starts later frames enters_kept (passed_front g starts frames f p)) moved_passed)
        (omega arith, λ k l. absurd (omega (arith, l)))

    pub enters_shorter : unset later + 1 ≡ unset starts
    enters_shorter = unset_less starts y (length order) (omega (arith, target_in i low, v'.starts_len)) new

  -- each target is entered
  pub leaves_one : ((k : ℕ) → k < length (next_of g f.node) → 0 < get_or starts (get_or (next_of g f.node) k 0) 0) → IsEntering g starts (set ranks f.node (length order + 1)) (order ++ f.node ∷ []) (nodes_of frames)
  leaves_one all =
      node_left_now g starts ranks order (nodes_of frames) f.node v'
      (λ y c. subst (λ (z : ℕ). 0 < get_or starts z 0) (any_default (next_of g f.node) c.0 0 y c.1 ∙ c.2) (all c.0 c.1))

module _ (g : List (List ℕ)) (starts ranks order : List ℕ) (frames : List Frame) (v : IsEntering g starts ranks order (nodes_of frames)) (none : frames ≡ []) (root : ℕ) (inside : root < length g) (new : get_or starts root 0 ≡ 0) where
  alone : IsEntering g starts ranks order []
  alone = subst (λ (l : List Frame). IsEntering g starts ranks order (nodes_of l)) none v

  nothing : (x : ℕ) → Contains [] x → Leads (Edge g) x root
  nothing x c = absurd (omega (arith, c.1))

  pub root_enters : IsEntering g (set starts root (length order + 1)) ranks order (nodes_of ([] ++ record { node = root; passed = 0 } ∷ []))
  root_enters = node_entered g starts ranks order [] alone root inside new nothing

  pub root_kept : KeepsEntered starts (set starts root (length order + 1))
  root_kept = entered_kept g starts ranks order [] alone root inside new nothing

  pub root_entered : 0 < get_or (set starts root (length order + 1)) root 0
  root_entered = root_enters.start_open root (Contains-push [] root)

pub root_passes : (g : List (List ℕ)) (starts : List ℕ) (root : ℕ) → ArePassed g starts ([] ++ record { node = root; passed = 0 } ∷ [])
root_passes g starts root = passed_push g starts [] (record { node = root; passed = 0 }) (λ f c. absurd (omega (arith, c.1))) (omega arith, λ k l. absurd (omega (arith, l)))
