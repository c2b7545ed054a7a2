-- Where a pass stands: the object of its place, the edges behind it, and that a walk over acyclic cells comes to an end.
use Rattle.std.proofs.Common.{◌≡◌, ℕ, zero, suc, ◌+◌, ◌*◌, ◌/◌, ◌%◌, ◌^◌, ◌-◌, ◌<◌, ◌≤◌, ◌⊎◌, inl, inr, Bool, true, false, true≢false, List, [], ◌∷◌, refl, sym, ap, ◌∙◌, subst, arith}
use Rattle.std.proofs.lemmas.Bool.Decides.{nat_tests}
use Rattle.std.specs.Prelude.{slice_index, nat_lt, if◌then◌else◌}
use Rattle.fib_addr.specs.Prefixes.{nibble}
use Rattle.fib_reach.specs.Walks.{Walk}
use Rattle.fib_reach.proofs.Walking.{walk_then, walk_cut}
use Rattle.fib_resolve.specs.declared.types.End.{End}
use Rattle.fib_resolve.specs.declared.types.End.TheVariants as answers
use Rattle.fib_core.specs.declared.word.Word.{Word}
use Rattle.fib_core.specs.declared.word.Word.TheVariants as words
use Rattle.fib_union.specs.Unions.{owner}
use Rattle.fib_core.specs.Words.{IsRoomy, decoded, value_of, tag_of, is_edge, goes, target}
use Rattle.fib_core.specs.Walk.{object_of, word_at, Place, ply, balance, adjacency, ended, halved, asked, mac_in, from_ply, from_balance, next, walk, ReadsWhole}
use Rattle.fib_core.specs.Union.{Union, Goes, Usable, PlyEdge, IsPlyWord, IsBucketWord, IsAdjacencyWord, HasForm, IsTyped}
use Rattle.fib_core.specs.Trails.{Load, visited, arrive_if, stands, Walked, place, IsGoing, Follows, IsMac, IsProper, IsFormedAt, IsFormed}
use Rattle.fib_core.proofs.Numbers.{goes_of, target_of, owner_of}
use Rattle.fib_core.proofs.Unions.{usable_lies}
use Rattle.fib_core.proofs.Walks.{Backed}

pub stands_moved : (l : Load) (t : List Load) (y : ℕ) → goes l.1 ≡ true → target l.1 ≡ y → stands (l ∷ t) ≡ y
stands_moved l t y is to = ap (λ b. slice_index (arrive_if b (target l.1) (visited t)) 0) is ∙ to

pub stands_stayed : (l : Load) (t : List Load) → goes l.1 ≡ false → stands (l ∷ t) ≡ stands t
stands_stayed l t is = ap (λ b. slice_index (arrive_if b (target l.1) (visited t)) 0) is

-- a ply's place asks a cell of the ply
abbrev pub IsUnder : Place → ℕ → Type 0
IsUnder (ply o d) k = owner k ≡ o
IsUnder (balance o n) k = owner k ≡ o
IsUnder (adjacency o ws) k = Unit {0}
IsUnder (ended e) k = Unit {0}

pub low16 : (x : ℕ) → x % 16 < 16
low16 x = omega arith

pub asks_under : (a h : ℕ) (q : Place) (k : ℕ) → k ≡ asked a h q → IsUnder q k
asks_under a h (ply o d) k is = ap owner is ∙ owner_of o (nibble a d) (low16 (a / 2 ^ (28 - 4 * d)))
asks_under a h (balance o n) k is = ap owner is ∙ owner_of o (halved h n % 16) (low16 (halved h n))
asks_under a h (adjacency o ws) k is = tt
asks_under a h (ended e) k is = tt

-- the words that an edge word brings a ply's or a balance's walk to
moved_deeper : (d o : ℕ) (b : Bool) → IsGoing (if b then ply o (suc d) else ended answers.Drop) → object_of (if b then ply o (suc d) else ended answers.Drop) ≡ o
moved_deeper d o true g = refl
moved_deeper d o false g = absurd g

pub ply_moves : (d : ℕ) (w : Word) → IsGoing (from_ply d w) → (is_edge w ≡ true) × (object_of (from_ply d w) ≡ value_of w)
ply_moves d (words.ToPly o) g = (refl, moved_deeper d o (nat_lt d 7) g)
ply_moves d (words.ToBalance o) g = (refl, refl)
ply_moves d words.Drop g = absurd g
ply_moves d words.Receive g = absurd g
ply_moves d (words.Glean i) g = absurd g
ply_moves d (words.ToAdjacency o) g = absurd g
ply_moves d (words.Plain n) g = absurd g

pub balance_moves : (m : ℕ) (w : Word) → IsGoing (from_balance m w) → (is_edge w ≡ true) × (object_of (from_balance m w) ≡ value_of w)
balance_moves m (words.ToPly o) g = absurd g
balance_moves m (words.ToBalance o) g = (refl, refl)
balance_moves m (words.ToAdjacency o) g = (refl, refl)
balance_moves m words.Drop g = absurd g
balance_moves m words.Receive g = absurd g
balance_moves m (words.Glean i) g = absurd g
balance_moves m (words.Plain n) g = absurd g

plain_stays : (w : Word) → tag_of w ≡ 6 → is_edge w ≡ false
plain_stays (words.Plain n) e = refl
plain_stays words.Drop e = absurd (cc)
plain_stays words.Receive e = absurd (cc)
plain_stays (words.Glean i) e = absurd (cc)
plain_stays (words.ToPly o) e = absurd (cc)
plain_stays (words.ToBalance o) e = absurd (cc)
plain_stays (words.ToAdjacency o) e = absurd (cc)

-- the words of an adjacency into which the union leads are plain
pub adjacency_word : (u : Union) (o s : ℕ) → IsTyped u → s < 16 → ((k : ℕ) × (w : ℕ) × (decoded w ≡ words.ToAdjacency o) × Goes u k w) → IsAdjacencyWord s (word_at u.cells o s)
adjacency_word u o s typed lt b =
    let to : target b.1 ≡ o = target_of b.1 (words.ToAdjacency o) b.2 in
    subst (λ x. IsAdjacencyWord s (word_at u.cells x s)) to (subst (λ (w : Word). HasForm w s (word_at u.cells (target b.1) s)) b.2 (typed.formed b.0 b.1 s b.3 lt))

-- the numbers that a pass meets have their room
mac_fits : (n : ℕ) → n < 2 ^ 48 + 1 → IsMac (mac_in n)
mac_fits zero lt = tt
mac_fits (suc n) lt = omega arith

proper_deeper : (d o : ℕ) (b : Bool) → nat_lt d 7 ≡ b → IsProper (if b then ply o (suc d) else ended answers.Drop)
proper_deeper d o true is = grind (arith, nat_tests)
proper_deeper d o false is = tt

proper_ply : (d : ℕ) (w : Word) → IsProper (from_ply d w)
proper_ply d (words.ToPly o) = proper_deeper d o (nat_lt d 7) refl
proper_ply d (words.ToBalance o) = tt
proper_ply d words.Drop = tt
proper_ply d words.Receive = tt
proper_ply d (words.Glean i) = tt
proper_ply d (words.ToAdjacency o) = tt
proper_ply d (words.Plain n) = tt

proper_balance : (m : ℕ) (w : Word) → IsRoomy w → IsProper (from_balance m w)
proper_balance m (words.ToPly o) r = tt
proper_balance m (words.ToBalance o) r = tt
proper_balance m (words.ToAdjacency o) r = tt
proper_balance m words.Drop r = tt
proper_balance m words.Receive r = tt
proper_balance m (words.Glean i) r = r
proper_balance m (words.Plain n) r = tt

pub proper_on : (u : Union) (a h : ℕ) → IsTyped u → (q : Place) (w : Word) → IsRoomy w → w ≡ decoded (slice_index u.cells (asked a h q)) → Backed u q → ReadsWhole u.cells q → IsProper q → IsProper (next q w)
proper_on u a h typed (ply o d) w r is b read p = proper_ply d w
proper_on u a h typed (balance o m) w r is b read p = proper_balance m w r
proper_on u a h typed (adjacency o []) w r is b read p = let z : 16 * o + 0 ≡ 16 * o = omega arith in subst (λ x. value_of x < 2 ^ 32) (sym is) (adjacency_word u o 0 typed (omega arith) b).below
proper_on u a h typed (adjacency o (i ∷ [])) w r is b read p = (p, subst (λ x. value_of x < 2 ^ 32) (sym is) (adjacency_word u o 1 typed (omega arith) b).below)
proper_on u a h typed (adjacency o (i ∷ g ∷ [])) w r is b read p = (p.0, p.1, mac_fits (value_of w) (subst (λ x. value_of x < 2 ^ 48 + 1) (sym is) (adjacency_word u o 2 typed (omega arith) b).below))
proper_on u a h typed (adjacency o (i ∷ g ∷ m ∷ ws)) w r is b read p = absurd read
proper_on u a h typed (ended e) w r is b read p = p

module _ (u : Union) (n p : ℕ) where
  -- the edges behind a pass
  backed_deeper : (d o k w : ℕ) (b : Bool) → Walk (PlyEdge u) d 0 (owner k) → decoded w ≡ words.ToPly o → Goes u k w → Backed u (if b then ply o (suc d) else ended answers.Drop)
  backed_deeper d o k w true walk is g =
      let e : d + 1 ≡ suc d = omega arith in
      subst (λ (m : ℕ). Walk (PlyEdge u) m 0 o) e (walk_then (PlyEdge u) d 1 0 (owner k) o walk (o, (k, w, refl, is, g), refl))
  backed_deeper d o k w false walk is g = tt

  backed_ply : (d k w : ℕ) (W : Word) → decoded w ≡ W → Walk (PlyEdge u) d 0 (owner k) → (goes w ≡ true → Usable u n p k w) → Backed u (from_ply d W)
  backed_ply d k w (words.ToPly o) is walk ok = let g = goes_of w (words.ToPly o) is in backed_deeper d o k w (nat_lt d 7) walk is (g, usable_lies u n p k w (ok g))
  backed_ply d k w (words.ToBalance o) is walk ok = let g = goes_of w (words.ToBalance o) is in (k, w, is, (g, usable_lies u n p k w (ok g)))
  backed_ply d k w words.Drop is walk ok = tt
  backed_ply d k w words.Receive is walk ok = tt
  backed_ply d k w (words.Glean i) is walk ok = tt
  backed_ply d k w (words.ToAdjacency o) is walk ok = tt
  backed_ply d k w (words.Plain m) is walk ok = tt

  backed_balance : (m k w : ℕ) (W : Word) → decoded w ≡ W → (goes w ≡ true → Usable u n p k w) → Backed u (from_balance m W)
  backed_balance m k w (words.ToAdjacency o) is ok = let g = goes_of w (words.ToAdjacency o) is in (k, w, is, (g, usable_lies u n p k w (ok g)))
  backed_balance m k w (words.ToPly o) is ok = tt
  backed_balance m k w (words.ToBalance o) is ok = let g = goes_of w (words.ToBalance o) is in (k, w, is, (g, usable_lies u n p k w (ok g)))
  backed_balance m k w words.Drop is ok = tt
  backed_balance m k w words.Receive is ok = tt
  backed_balance m k w (words.Glean i) is ok = tt
  backed_balance m k w (words.Plain x) is ok = tt

  backed_on : (q : Place) (k w : ℕ) → Backed u q → IsUnder q k → (goes w ≡ true → Usable u n p k w) → Backed u (next q (decoded w))
  backed_on (ply o d) k w b here ok = backed_ply d k w (decoded w) refl (subst (Walk (PlyEdge u) d 0) (sym here) b) ok
  backed_on (balance o m) k w b here ok = backed_balance m k w (decoded w) refl ok
  backed_on (adjacency o []) k w b here ok = b
  backed_on (adjacency o (i ∷ [])) k w b here ok = b
  backed_on (adjacency o (i ∷ g ∷ ws)) k w b here ok = tt
  backed_on (ended e) k w b here ok = tt

  pub backed : (a h : ℕ) (t : List Load) → Follows a h t → Walked (Usable u n p) t → Backed u (place t)
  backed a h [] f w = refl
  backed a h (l ∷ t) f w = backed_on (place t) l.0 l.1 (backed a h t f.2 w.2) (asks_under a h (place t) l.0 f.0) w.1

-- the object of the place is the one where the pass stands
stood_on : (u : Union) → IsTyped u → (q : Place) (l : Load) (t : List Load) → Backed u q → (ReadsWhole u.cells q → IsGoing q → object_of q ≡ stands t) → ReadsWhole u.cells (next q (decoded l.1)) → IsGoing (next q (decoded l.1)) → object_of (next q (decoded l.1)) ≡ stands (l ∷ t)
stood_on u typed (ply o d) l t b old read going = let m = ply_moves d (decoded l.1) going in m.1 ∙ sym (stands_moved l t (value_of (decoded l.1)) (goes_of l.1 (decoded l.1) refl ∙ m.0) (target_of l.1 (decoded l.1) refl))
stood_on u typed (balance o m) l t b old read going = let m = balance_moves m (decoded l.1) going in m.1 ∙ sym (stands_moved l t (value_of (decoded l.1)) (goes_of l.1 (decoded l.1) refl ∙ m.0) (target_of l.1 (decoded l.1) refl))
stood_on u typed (adjacency o []) l t b old read going = old tt tt ∙ sym (stands_stayed l t (goes_of l.1 (decoded l.1) refl ∙ ap is_edge (sym read) ∙ plain_stays (word_at u.cells o 0) (adjacency_word u o 0 typed (omega arith) b).plain))
stood_on u typed (adjacency o (i ∷ [])) l t b old read going = old read.0 tt ∙ sym (stands_stayed l t (goes_of l.1 (decoded l.1) refl ∙ ap is_edge (sym read.1) ∙ plain_stays (word_at u.cells o 1) (adjacency_word u o 1 typed (omega arith) b).plain))
stood_on u typed (adjacency o (i ∷ g ∷ ws)) l t b old read going = absurd going
stood_on u typed (ended e) l t b old read going = absurd going

pub stood : (u : Union) (n p a h : ℕ) → IsTyped u → (t : List Load) → Follows a h t → Walked (Usable u n p) t → ReadsWhole u.cells (place t) → IsGoing (place t) → object_of (place t) ≡ stands t
stood u n p a h typed [] f w read going = refl
stood u n p a h typed (l ∷ t) f w read going = stood_on u typed (place t) l t (backed u n p a h t f.2 w.2) (λ r g. stood u n p a h typed t f.2 w.2 r g) read going

-- a ply's edges never lead to a depth of eight
pub never_deeper : (u : Union) (d k w o : ℕ) → IsTyped u → Walk (PlyEdge u) d 0 (owner k) → decoded w ≡ words.ToPly o → Goes u k w → nat_lt d 7 ≡ true
never_deeper u d k w o typed walk is g =
    let most : d + 1 ≤ 7 = typed.shallow (d + 1) o (walk_then (PlyEdge u) d 1 0 (owner k) o walk (o, (k, w, refl, is, g), refl)) in
    let lt : d < 7 = omega arith in
    grind (arith, nat_tests)

-- the walk over acyclic cells

pub going_or_ended : (q : Place) → IsGoing q ⊎ ((e : End) × (q ≡ ended e))
going_or_ended (ply o d) = inl tt
going_or_ended (balance o n) = inl tt
going_or_ended (adjacency o ws) = inl tt
going_or_ended (ended e) = inr (e, refl)

-- the words that a pass finds have the forms of their places

ply_formed : (d : ℕ) (w : Word) → IsPlyWord w ⊎ (w ≡ words.Drop) → ((o : ℕ) → w ≡ words.ToPly o → d < 7) → IsFormedAt d w
ply_formed d w (inr e) deep = subst (IsFormedAt d) (sym e) tt
ply_formed d (words.ToPly o) (inl f) deep = deep o refl
ply_formed d (words.ToBalance o) (inl f) deep = tt
ply_formed d words.Drop (inl f) deep = absurd f
ply_formed d words.Receive (inl f) deep = absurd f
ply_formed d (words.Glean i) (inl f) deep = absurd f
ply_formed d (words.ToAdjacency o) (inl f) deep = absurd f
ply_formed d (words.Plain n) (inl f) deep = absurd f

-- the cells of a ply that plies' edges lead to
ply_cells : (u : Union) → IsTyped u → (d o s : ℕ) → s < 16 → Walk (PlyEdge u) d 0 o → IsPlyWord (word_at u.cells o s) ⊎ (word_at u.cells o s ≡ words.Drop)
ply_cells u typed zero o s lt walk = subst (λ x. IsPlyWord (word_at u.cells x s) ⊎ (word_at u.cells x s ≡ words.Drop)) walk (typed.root s lt)
ply_cells u typed (suc d) o s lt walk =
    let e : suc d ≡ d + 1 = omega arith in
    let cut = walk_cut (PlyEdge u) d 1 0 o (subst (λ (m : ℕ). Walk (PlyEdge u) m 0 o) e walk) in
    let edge : PlyEdge u cut.0 o = subst (PlyEdge u cut.0) cut.2.2 cut.2.1 in
    let formed = subst (λ (w : Word). HasForm w s (word_at u.cells (target edge.1) s)) edge.3 (typed.formed edge.0 edge.1 s edge.4 lt) in
    inl (subst (λ x. IsPlyWord (word_at u.cells x s)) (target_of edge.1 (words.ToPly o) edge.3) formed)

pub formed_on : (u : Union) (a h : ℕ) → IsTyped u → (q : Place) (w : Word) → w ≡ decoded (slice_index u.cells (asked a h q)) → Backed u q → ReadsWhole u.cells q → IsFormed q w
formed_on u a h typed (ply o d) w is b read =
    let s : ℕ = nibble a d in
    let lt : s < 16 = low16 (a / 2 ^ (28 - 4 * d)) in
    let k : ℕ = 16 * o + s in
    subst (IsFormedAt d) (sym is) (ply_formed d (word_at u.cells o s) (ply_cells u typed d o s lt b)
    (λ y e. (let g = goes_of (slice_index u.cells k) (words.ToPly y) e in
    let most = typed.shallow (d + 1) y (walk_then (PlyEdge u) d 1 0 o y b (y, (k, slice_index u.cells k, owner_of o s lt, e, (g, inl refl)), refl)) in
    deep d most)))
  where
    deep : (d : ℕ) → d + 1 ≤ 7 → d < 7
    deep d le = omega arith
formed_on u a h typed (balance o n) w is b read =
    let s : ℕ = halved h n % 16 in
    subst IsBucketWord (sym is) (subst (λ x. IsBucketWord (word_at u.cells x s)) (target_of b.1 (words.ToBalance o) b.2) (subst (λ (v : Word). HasForm v s (word_at u.cells (target b.1) s)) b.2 (typed.formed b.0 b.1 s b.3 (low16 (halved h n)))))
formed_on u a h typed (adjacency o []) w is b read = ap tag_of is ∙ (adjacency_word u o 0 typed (omega arith) b).plain
formed_on u a h typed (adjacency o (i ∷ [])) w is b read = ap tag_of is ∙ (adjacency_word u o 1 typed (omega arith) b).plain
formed_on u a h typed (adjacency o (i ∷ g ∷ [])) w is b read = ap tag_of is ∙ (adjacency_word u o 2 typed (omega arith) b).plain
formed_on u a h typed (adjacency o (i ∷ g ∷ m ∷ ws)) w is b read = absurd read
formed_on u a h typed (ended e) w is b read = tt

-- a pass goes on exactly where it loads an edge
pub goes_on : (q : Place) (w : Word) → IsFormed q w → is_edge w ≡ true → IsGoing q → IsGoing (next q w)
goes_on (ply o d) (words.ToPly y) f e g = let lt : nat_lt d 7 ≡ true = grind (arith, nat_tests) in subst (λ b. IsGoing (if b then ply y (suc d) else ended answers.Drop)) (sym lt) tt
goes_on (ply o d) (words.ToBalance y) f e g = tt
goes_on (ply o d) (words.ToAdjacency y) f e g = absurd f
goes_on (ply o d) words.Drop f e g = absurd (true≢false (sym e))
goes_on (ply o d) words.Receive f e g = absurd f
goes_on (ply o d) (words.Glean i) f e g = absurd f
goes_on (ply o d) (words.Plain n) f e g = absurd f
goes_on (balance o m) (words.ToPly y) f e g = absurd f
goes_on (balance o m) (words.ToBalance y) f e g = tt
goes_on (balance o m) (words.ToAdjacency y) f e g = tt
goes_on (balance o m) words.Drop f e g = absurd (true≢false (sym e))
goes_on (balance o m) words.Receive f e g = absurd (true≢false (sym e))
goes_on (balance o m) (words.Glean i) f e g = absurd (true≢false (sym e))
goes_on (balance o m) (words.Plain n) f e g = absurd f
goes_on (adjacency o ws) w f e g = absurd (true≢false (sym e ∙ plain_stays w f))
goes_on (ended x) w f e g = absurd g
