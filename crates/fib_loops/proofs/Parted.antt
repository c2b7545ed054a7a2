-- A part grows a node at a time, and is whole where all its members are done.
use Rattle.std.proofs.Common.{arith, ◌≡◌, ◌≢◌, ℕ, zero, suc, ◌+◌, ◌-◌, ◌<◌, ◌≤◌, inl, inr, false, eqb, List, [], ◌∷◌, ◌++◌, length, get_or, set, fold, replicate, refl, sym, ◌∙◌, ap, subst, length-append, length-set, get_or-set_same, get_or-set_other}
use Rattle.std.specs.Prelude.{Contains}
use Rattle.std.proofs.lemmas.Bool.{cases_lt, false≢true}
use Rattle.std.proofs.lemmas.Bool.Decides.{Decides-eqb}
use Rattle.std.proofs.lemmas.List.{get_or_append_left, get_or-replicate, get_or_past, length-replicate}
use Rattle.std.proofs.lemmas.List.Elements.{Contains-push, Contains-push_cases, Contains-append_left}
use Rattle.fib_reach.specs.Walks.{Leads}
use Rattle.fib_reach.proofs.Places.{any_default}
use Rattle.fib_reach.proofs.Walking.{leads_self, leads_then, edge_leads}
use Rattle.fib_reach.proofs.Visits.{same_or_not}
use Rattle.fib_loops.specs.inner.Entering.{unset}
use Rattle.fib_loops.specs.inner.Parting.{IsOrdered, IsParted, IsGrowing, take_one}
use Rattle.fib_loops.proofs.Entered.{unset_less}
use Rattle.fib_base_list.proofs.Lists.{either}

-- a number above 0 is written where none was
unset_suc : (v : ℕ) (xs : List ℕ) (i : ℕ) → 0 < v → i < length xs → get_or xs i 0 ≡ 0 → unset (set xs i v) + 1 ≡ unset xs
unset_suc v xs i h l e =
    let is : (v - 1) + 1 ≡ v = omega (arith, h) in
    subst (λ (w : ℕ). unset (set xs i w) + 1 ≡ unset xs) is (unset_less xs i (v - 1) l e)

-- what a step keeps: numbers stay, the members stay in front, and each new one had no number
pub record GrowsParts (parts members parts' members' : List ℕ) : Type 0 where
  pub kept : (x : ℕ) → 0 < get_or parts x 0 → 0 < get_or parts' x 0
  pub sized : unset parts' + length members' ≡ unset parts + length members
  pub longer : length members ≤ length members'
  pub front : (x : ℕ) → Contains members x → Contains members' x
  pub same : (k : ℕ) → k < length members → get_or members' k 0 ≡ get_or members k 0

pub taken_none : (parts members : List ℕ) → GrowsParts parts members parts members
taken_none parts members = record { kept = λ x h. h; sized = refl; longer = omega arith; front = λ x c. c; same = λ k l. refl }

taken_then : (p m p' m' p'' m'' : List ℕ) → GrowsParts p m p' m' → GrowsParts p' m' p'' m'' → GrowsParts p m p'' m''
taken_then p m p' m' p'' m'' a b = record {
  kept = λ x h. b.kept x (a.kept x h);
  sized = omega (arith, a.sized, b.sized);
  longer = omega (arith, a.longer, b.longer);
  front = λ x c. b.front x (a.front x c);
  same = λ k l. b.same k (omega (arith, l, a.longer)) ∙ a.same k l;
}

-- nodes of one rank are one
pub rank_tells : (E : ℕ → ℕ → Type 0) (n : ℕ) (starts ranks order : List ℕ) → IsOrdered E n starts ranks order → (x y : ℕ) → x < n → y < n → get_or ranks x 0 ≡ get_or ranks y 0 → x ≡ y
rank_tells E n starts ranks order o x y x_in y_in e =
    let a = o.placed x x_in in
    let b = o.placed y y_in in
    let at_a = o.rank_at a.0 a.1 in
    let at_b = o.rank_at b.0 b.1 in
    let k : a.0 ≡ b.0 = omega (arith, e, at_a, at_b, ap (λ (q : ℕ). get_or ranks q 0) a.2, ap (λ (q : ℕ). get_or ranks q 0) b.2) in
    sym a.2 ∙ (ap (λ (q : ℕ). get_or order q 0) k ∙ b.2)

-- a rank is at most the number of nodes
pub rank_most : (E : ℕ → ℕ → Type 0) (n : ℕ) (starts ranks order : List ℕ) → IsOrdered E n starts ranks order → (x : ℕ) → x < n → get_or ranks x 0 ≤ n
rank_most E n starts ranks order o x x_in =
    let a = o.placed x x_in in
    omega (arith, a.1, o.rank_at a.0 a.1, ap (λ (q : ℕ). get_or ranks q 0) a.2)

-- the node at a place of the order
pub rank_read : (E : ℕ → ℕ → Type 0) (n : ℕ) (starts ranks order : List ℕ) → IsOrdered E n starts ranks order → (k root : ℕ) → k < n → root ≡ get_or order k root → (root < n) × (get_or ranks root 0 ≡ k + 1)
rank_read E n starts ranks order o k root l e =
    let is : get_or order k 0 ≡ root = any_default order k 0 root (omega (arith, l, o.order_len)) ∙ sym e in
    (subst (λ (q : ℕ). q < n) is (o.node k l), sym (ap (λ (q : ℕ). get_or ranks q 0) is) ∙ o.rank_at k l)

pub rank_some : (E : ℕ → ℕ → Type 0) (n : ℕ) (starts ranks order : List ℕ) → IsOrdered E n starts ranks order → (x : ℕ) → x < n → 0 < get_or ranks x 0
rank_some E n starts ranks order o x x_in =
    let a = o.placed x x_in in
    omega (arith, o.rank_at a.0 a.1, ap (λ (q : ℕ). get_or ranks q 0) a.2)

module _ (E : ℕ → ℕ → Type 0) (n : ℕ) (starts ranks order : List ℕ) (o : IsOrdered E n starts ranks order) (number root : ℕ) (some : 0 < number) (root_in : root < n) where
  -- a node without a number that leads to a member
  module _ (parts members : List ℕ) (done : ℕ) (v : IsGrowing E n starts ranks number root parts members done) (s z : ℕ) (inside : s < n) (member : Contains members z) (edge : E s z) (new : get_or parts s 0 ≡ 0) where
    abbrev later : List ℕ
    later = set parts s number

    part_at : (x : ℕ) → x ≡ s → get_or later x 0 ≡ number
    part_at x e = ap (λ (k : ℕ). get_or later k 0) e ∙ (let l : s < length parts = omega (arith, inside, v.parts_len) in rw get_or-set_same refl)

    part_else : (x : ℕ) → x ≢ s → get_or later x 0 ≡ get_or parts x 0
    part_else x ne = rw get_or-set_other refl

    part_kept : (x : ℕ) → 0 < get_or parts x 0 → get_or later x 0 ≡ get_or parts x 0
    part_kept x h = part_else x (λ e. absurd (omega (arith, h, new, ap (λ (k : ℕ). get_or parts k 0) e)))

    numbered_kept : (x : ℕ) → 0 < get_or parts x 0 → 0 < get_or later x 0
    numbered_kept x h = omega (arith, h, part_kept x h)

    -- a node of an older part is not the new one
    part_old : (x : ℕ) → get_or later x 0 < number → get_or later x 0 ≡ get_or parts x 0
    part_old x h = part_else x (λ e. absurd (omega (arith, h, part_at x e)))

    rank_low : get_or ranks s 0 ≤ get_or ranks root 0
    rank_low = elim (cases_lt (get_or ranks root 0) (get_or ranks s 0)) [
      | inl above ↦ absurd (omega (arith, new, v.numbered s inside above))
      | inr low ↦ low
    ]

    start_low : get_or starts root 0 ≤ get_or ranks s 0
    start_low = omega (arith, o.edges s z inside edge, o.nested z root (v.below z member) root_in (v.within_rank z member) (v.within_start z member))

    pub grown_one : IsGrowing E n starts ranks number root later (members ++ s ∷ []) done
    grown_one = record {
      parts_len = length-set parts s number ∙ v.parts_len;
      high = λ x. elim (same_or_not x s) [ inl e ↦ omega (arith, part_at x e) | inr ne ↦ omega (arith, part_else x ne, v.high x) ];
      numbered = λ x l h. numbered_kept x (v.numbered x l h);
      listed = λ x h. elim (same_or_not x s) [
        | inl e ↦ subst (λ (k : ℕ). Contains (members ++ s ∷ []) k) (sym e) (Contains-push members s)
        | inr ne ↦ Contains-append_left members (s ∷ []) x (v.listed x (sym (part_else x ne) ∙ h))
      ];
      marked = λ x c. elim (Contains-push_cases members s x c) [
        | inl old ↦ (let m = v.marked x old in part_kept x (omega (arith, m, some)) ∙ m)
        | inr e ↦ part_at x (sym e)
      ];
      below = λ x c. elim (Contains-push_cases members s x c) [ inl old ↦ v.below x old | inr e ↦ subst (λ (k : ℕ). k < n) e inside ];
      has_root = Contains-append_left members (s ∷ []) root v.has_root;
      older = λ x y e h lt.
          let same = part_old y lt in
          let old = v.older x y e (omega (arith, h, same)) (omega (arith, lt, same)) in
          (numbered_kept x old.0, omega (arith, part_kept x old.0, same, old.1));
      newer = λ x k l e. numbered_kept x (v.newer x k l (subst (λ (y : ℕ). E x y) (get_or_append_left members (s ∷ []) 0 k (omega (arith, l, v.done_low))) e));
      to_root = λ x c. elim (Contains-push_cases members s x c) [
        | inl old ↦ v.to_root x old
        | inr e ↦ subst (λ (k : ℕ). Leads E k root) e (leads_then E s z root (edge_leads E s z edge) (v.to_root z member))
      ];
      within_start = λ x c. elim (Contains-push_cases members s x c) [ inl old ↦ v.within_start x old | inr e ↦ subst (λ (k : ℕ). get_or starts root 0 ≤ get_or ranks k 0) e start_low ];
      within_rank = λ x c. elim (Contains-push_cases members s x c) [ inl old ↦ v.within_rank x old | inr e ↦ subst (λ (k : ℕ). get_or ranks k 0 ≤ get_or ranks root 0) e rank_low ];
      together = λ x y h lt e.
          let at_x = part_old x lt in
          let at_y = part_old y (omega (arith, lt, e)) in
          v.together x y (omega (arith, h, at_x)) (omega (arith, lt, at_x)) (omega (arith, e, at_x, at_y));
      done_low = omega (arith, v.done_low, length-append members (s ∷ []));
    }

    pub taken_new : GrowsParts parts members later (members ++ s ∷ [])
    taken_new = record {
      kept = numbered_kept;
      sized = omega (arith, unset_suc number parts s some (omega (arith, inside, v.parts_len)) new, length-append members (s ∷ []));
      longer = omega (arith, length-append members (s ∷ []));
      front = λ x c. Contains-append_left members (s ∷ []) x c;
      same = λ k l. get_or_append_left members (s ∷ []) 0 k l;
    }

    pub taken_at : 0 < get_or later s 0
    taken_at = omega (arith, part_at s refl, some)

  -- a node that leads to a member, with or without a number
  taken_step : (s : List ℕ × List ℕ) (done x z : ℕ) → IsGrowing E n starts ranks number root s.0 s.1 done → x < n → Contains s.1 z → E x z → IsGrowing E n starts ranks number root (take_one number s x).0 (take_one number s x).1 done × GrowsParts s.0 s.1 (take_one number s x).0 (take_one number s x).1 × (0 < get_or (take_one number s x).0 x 0)
  taken_step s done x z v inside member edge =
      elim (either (eqb (get_or s.0 x 0) 0)) [
        | inl is ↦ (let new = (Decides-eqb (get_or s.0 x 0) 0).0 is in
            rw is (grown_one s.0 s.1 done v x z inside member edge new, taken_new s.0 s.1 done v x z inside member edge new, taken_at s.0 s.1 done v x z inside member edge new))
        | inr isnt ↦ rw isnt (v, taken_none s.0 s.1, numbered isnt)
      ]
    where
      numbered : eqb (get_or s.0 x 0) 0 ≡ false → 0 < get_or s.0 x 0
      numbered isnt = elim (cases_lt 0 (get_or s.0 x 0)) [
        | inl pos ↦ pos
        | inr none ↦ absurd (false≢true (sym isnt ∙ (Decides-eqb (get_or s.0 x 0) 0).1 (omega (arith, none))))
      ]

  -- all nodes of a list that lead to a member
  pub taken_all : (sources : List ℕ) (s : List ℕ × List ℕ) (done z : ℕ) → ((x : ℕ) → Contains sources x → (x < n) × E x z) → IsGrowing E n starts ranks number root s.0 s.1 done → Contains s.1 z → IsGrowing E n starts ranks number root (fold (take_one number) s sources).0 (fold (take_one number) s sources).1 done × GrowsParts s.0 s.1 (fold (take_one number) s sources).0 (fold (take_one number) s sources).1 × ((x : ℕ) → Contains sources x → 0 < get_or (fold (take_one number) s sources).0 x 0)
  taken_all [] s done z lead v member = (v, taken_none s.0 s.1, λ x c. absurd (omega (arith, c.1)))
  taken_all (x ∷ xs) s done z lead v member =
      let t = take_one number s x in
      let first = lead x (0, omega arith, refl) in
      let one = taken_step s done x z v first.0 member first.1 in
      let rest = taken_all xs t done z (λ y c. lead y (suc c.0, omega (arith, c.1), c.2)) one.0 (one.1.front z member) in
      (rest.0, taken_then s.0 s.1 t.0 t.1 (fold (take_one number) t xs).0 (fold (take_one number) t xs).1 one.1 rest.1, λ y c. each y c one.2 rest.1 rest.2)
    where
      each : (y : ℕ) → Contains (x ∷ xs) y → 0 < get_or (take_one number s x).0 x 0 → GrowsParts (take_one number s x).0 (take_one number s x).1 (fold (take_one number) (take_one number s x) xs).0 (fold (take_one number) (take_one number s x) xs).1 → ((q : ℕ) → Contains xs q → 0 < get_or (fold (take_one number) (take_one number s x) xs).0 q 0) → 0 < get_or (fold (take_one number) (take_one number s x) xs).0 y 0
      each y (zero, l, e) here t all = subst (λ (k : ℕ). 0 < get_or (fold (take_one number) (take_one number s x) xs).0 k 0) e (t.kept x here)
      each y (suc k, l, e) here t all = all y (k, omega (arith, l), e)

  -- one more member has all its predecessors
  pub member_done : (parts members : List ℕ) (done z : ℕ) → IsGrowing E n starts ranks number root parts members done → done < length members → get_or members done 0 ≡ z → ((x : ℕ) → E x z → 0 < get_or parts x 0) → IsGrowing E n starts ranks number root parts members (done + 1)
  member_done parts members done z v l is all = record {
    parts_len = v.parts_len;
    high = v.high;
    numbered = v.numbered;
    listed = v.listed;
    marked = v.marked;
    below = v.below;
    has_root = v.has_root;
    older = v.older;
    to_root = v.to_root;
    within_start = v.within_start;
    within_rank = v.within_rank;
    together = v.together;
    newer = λ x k low e. elim (cases_lt k done) [
      | inl lt ↦ v.newer x k lt e
      | inr ge ↦ (let same : k ≡ done = omega (arith, ge, low) in all x (subst (λ (q : ℕ). E x q) (ap (λ (j : ℕ). get_or members j 0) same ∙ is) e))
    ];
    done_low = omega (arith, l);
  }

  -- the sources of one more member are taken in
  module _ (parts members sources : List ℕ) (place z : ℕ) (v : IsGrowing E n starts ranks number root parts members place) (here : place < length members) (is : z ≡ get_or members place z) (lead : (x : ℕ) → Contains sources x → (x < n) × E x z) (all : (x : ℕ) → E x z → Contains sources x) where
    abbrev taken : List ℕ × List ℕ
    taken = fold (take_one number) (parts, members) sources

    done_all : IsGrowing E n starts ranks number root taken.0 taken.1 place × GrowsParts parts members taken.0 taken.1 × ((x : ℕ) → Contains sources x → 0 < get_or taken.0 x 0)
    done_all = taken_all sources (parts, members) place z lead v (place, here, sym is)

    pub step_grows : IsGrowing E n starts ranks number root taken.0 taken.1 (place + 1)
    step_grows =
        member_done taken.0 taken.1 place z done_all.0 (omega (arith, here, done_all.1.longer))
        (done_all.1.same place here ∙ (any_default members place 0 z here ∙ sym is))
        (λ x e. done_all.2 x (all x e))

    pub step_sized : unset taken.0 + length taken.1 ≡ unset parts + length members
    step_sized = done_all.1.sized

  -- a part starts from its root
  pub part_starts : (parts : List ℕ) (done : ℕ) → IsParted E n ranks parts done → number ≡ done + 1 → get_or ranks root 0 + done ≡ n → get_or parts root 0 ≡ 0 → IsGrowing E n starts ranks number root (set parts root number) (root ∷ []) 0
  part_starts parts done v is rank new = record {
    parts_len = length-set parts root number ∙ v.parts_len;
    high = λ x. elim (same_or_not x root) [ inl e ↦ omega (arith, at x e) | inr ne ↦ omega (arith, else x ne, v.high x, is) ];
    numbered = λ x l h. kept x (v.numbered x l (omega (arith, h, rank)));
    listed = λ x h. elim (same_or_not x root) [ inl e ↦ (0, omega arith, sym e) | inr ne ↦ absurd (omega (arith, h, else x ne, v.high x, is)) ];
    marked = λ x c. at x (sym (only x c));
    below = λ x c. subst (λ (k : ℕ). k < n) (only x c) root_in;
    has_root = (0, omega arith, refl);
    older = λ x y e h lt.
        let same = old y lt in
        let before = v.closed x y e (omega (arith, h, same)) in
        (kept x before.0, omega (arith, else x (apart x before.0), same, before.1));
    newer = λ x k l. absurd (omega (arith, l));
    to_root = λ x c. subst (λ (k : ℕ). Leads E k root) (only x c) (leads_self E root);
    within_start = λ x c. subst (λ (k : ℕ). get_or starts root 0 ≤ get_or ranks k 0) (only x c) (o.early root root_in);
    within_rank = λ x c. subst (λ (k : ℕ). get_or ranks k 0 ≤ get_or ranks root 0) (only x c) (omega arith);
    together = λ x y h lt e.
        let at_x = old x lt in
        let at_y = old y (omega (arith, lt, e)) in
        v.together x y (omega (arith, h, at_x)) (omega (arith, e, at_x, at_y));
    done_low = omega arith;
  }
    where
      at : (x : ℕ) → x ≡ root → get_or (set parts root number) x 0 ≡ number
      at x e = ap (λ (k : ℕ). get_or (set parts root number) k 0) e ∙ (let l : root < length parts = omega (arith, root_in, v.parts_len) in rw get_or-set_same refl)

      else : (x : ℕ) → x ≢ root → get_or (set parts root number) x 0 ≡ get_or parts x 0
      else x ne = rw get_or-set_other refl

      apart : (x : ℕ) → 0 < get_or parts x 0 → x ≢ root
      apart x h e = absurd (omega (arith, h, new, ap (λ (k : ℕ). get_or parts k 0) e))

      kept : (x : ℕ) → 0 < get_or parts x 0 → 0 < get_or (set parts root number) x 0
      kept x h = omega (arith, h, else x (apart x h))

      old : (x : ℕ) → get_or (set parts root number) x 0 < number → get_or (set parts root number) x 0 ≡ get_or parts x 0
      old x h = else x (λ e. absurd (omega (arith, h, at x e)))

      only : (x : ℕ) → Contains (root ∷ []) x → root ≡ x
      only x (zero, l, e) = e
      only x (suc k, l, e) = absurd (omega (arith, l))

  -- a part is whole where all its members are done
  pub part_whole : (parts members : List ℕ) (done before : ℕ) → IsGrowing E n starts ranks number root parts members done → length members ≤ done → number ≡ before + 1 → get_or ranks root 0 + before ≡ n → IsParted E n ranks parts number
  part_whole parts members done before v all is rank = record {
    parts_len = v.parts_len;
    high = v.high;
    numbered = λ x l h. elim (cases_lt (get_or ranks root 0) (get_or ranks x 0)) [
      | inl above ↦ v.numbered x l above
      | inr low ↦ (let same = rank_tells E n starts ranks order o x root l root_in (omega (arith, low, h, is, rank)) in omega (arith, some, v.marked root v.has_root, ap (λ (k : ℕ). get_or parts k 0) same))
    ];
    closed = λ x y e h. elim (cases_lt (get_or parts y 0) number) [
      | inl lt ↦ v.older x y e h lt
      | inr ge ↦ (let c = v.listed y (omega (arith, ge, v.high y)) in
          (v.newer x c.0 (omega (arith, c.1, all)) (subst (λ (q : ℕ). E x q) (sym (any_default members c.0 0 y c.1 ∙ c.2)) e), omega (arith, ge, v.high x)))
    ];
    together = λ x y h e. elim (cases_lt (get_or parts x 0) number) [
      | inl lt ↦ v.together x y h lt e
      | inr ge ↦ (let to = v.listed x (omega (arith, ge, v.high x)) in
          let from = v.listed y (omega (arith, ge, v.high x, e)) in
          leads_then E x root y (v.to_root x to) (o.leads y root (v.below y from) root_in (v.within_rank y from) (v.within_start y from)))
    ];
  }

module _ (E : ℕ → ℕ → Type 0) (n : ℕ) (ranks parts : List ℕ) where
  -- at the start no node has a number
  pub parted_none : length parts ≡ n → ((x : ℕ) → get_or parts x 0 ≡ 0) → ((x : ℕ) → x < n → get_or ranks x 0 ≤ n) → IsParted E n ranks parts 0
  parted_none len none low = record {
    parts_len = len;
    high = λ x. omega (arith, none x);
    numbered = λ x l h. absurd (omega (arith, h, low x l));
    closed = λ x y e h. absurd (omega (arith, h, none y));
    together = λ x y h. absurd (omega (arith, h, none x));
  }

  -- a root that has a number is passed
  pub parted_skip : (done : ℕ) (root : ℕ) → IsParted E n ranks parts done → get_or ranks root 0 + done ≡ n → 0 < get_or parts root 0 → ((x : ℕ) → x < n → get_or ranks x 0 ≡ get_or ranks root 0 → x ≡ root) → IsParted E n ranks parts (done + 1)
  parted_skip done root v rank has by_rank = record {
    parts_len = v.parts_len;
    closed = v.closed;
    together = v.together;
    high = λ x. omega (arith, v.high x);
    numbered = λ x l h. elim (cases_lt n (get_or ranks x 0 + done)) [
      | inl above ↦ v.numbered x l above
      | inr low ↦ omega (arith, has, ap (λ (k : ℕ). get_or parts k 0) (by_rank x l (omega (arith, low, h, rank))))
    ];
  }

-- a list of zeros has no other number
pub all_zero : (n : ℕ) (xs : List ℕ) → xs ≡ replicate n 0 → (x : ℕ) → get_or xs x 0 ≡ 0
all_zero n xs e x = ap (λ (l : List ℕ). get_or l x 0) e ∙ elim (cases_lt x n) [
  | inl lt ↦ get_or-replicate n x 0 0 lt
  | inr ge ↦ get_or_past (replicate n 0) x 0 (let z : ℕ = 0 in omega (arith, ge, length-replicate n z))
]

-- a number that was read and isn't 0
pub positive : (xs : List ℕ) (k v : ℕ) → k < length xs → v ≡ get_or xs k v → v ≢ 0 → 0 < get_or xs k 0
positive xs k v l e ne = elim (cases_lt 0 (get_or xs k 0)) [
  | inl pos ↦ pos
  | inr none ↦ absurd (ne (e ∙ (any_default xs k v 0 l ∙ omega (arith, none))))
]
