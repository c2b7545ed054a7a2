-- What the view shows is there: edges, holds and records.
use Rattle.std.proofs.Common.{arith, ◌≡◌, ◌≢◌, ℕ, zero, suc, ◌+◌, ◌*◌, ◌%◌, ◌<◌, inl, inr, Bool, true, false, not, ◌&&◌, ltb, eqb, eq-eqb, eqb-true, List, [], ◌∷◌, map, Option, Some, None, refl, sym, ◌∙◌, ap, subst}
use Rattle.std.specs.Prelude.{Contains, slice_index, option_map, if◌then◌else◌}
use Rattle.std.proofs.lemmas.Bool.{false≢true, lt-ltb, ltb-true}
use Rattle.fib_base_list.proofs.Booleans.{and_both}
use Rattle.fib_base_interned.specs.Interned.{Kept, kept_of, AreInterned}
use Rattle.fib_base_interned.proofs.Finding.{find_place, find_only, some_is, none_some}
use Rattle.fib_union.specs.Unions as edges
use Rattle.fib_union.specs.Unions.{owner, into}
use Rattle.fib_union.proofs.Counts.{has_in_counted}
use Rattle.fib_core.specs.declared.word.Word.{Word}
use Rattle.fib_core.specs.declared.word.Word.TheVariants as words
use Rattle.fib_core.specs.Words.{decoded, is_edge, value_of}
use Rattle.fib_core.specs.Union as core
use Rattle.fib_core.specs.Union.{Retired as Copy, AnyOf}
use Rattle.fib_core.proofs.Numbers.{goes_of, target_of, cell_of}
use Rattle.fib_core.proofs.Unions.{goes_edges}
use Rattle.fib_pool.specs.declared.object.Object.{Object}
use Rattle.fib_pool.specs.declared.object.AdjacencyRecord.{AdjacencyRecord}
use Rattle.fib_pool.specs.Objects.{at, count_in, count_of}
use Rattle.fib_pool.specs.Objects as pool
use Rattle.fib_core_board.specs.Boards.{Board, union_of, word_in}
use Rattle.fib_plane.specs.Planes.{Plane, IsHeld, Holds}
use Rattle.fib_plane.specs.Sound.{IsPlane}
use Rattle.fib_plane_view.specs.View.{Retired, Goes, IsLive, leads}
use Rattle.fib_plane.specs.Views.{cell_in, copy_seen, is_adjacency_at, is_held_in, same_mac, same_record, kept_as, record_in, view_of}

-- edges

pub leads_edge : (w : Word) (y : ℕ) → leads w y → (is_edge w ≡ true) × (value_of w ≡ y)
leads_edge words.Drop y l = absurd l
leads_edge words.Receive y l = absurd l
leads_edge (words.Glean i) y l = absurd l
leads_edge (words.ToPly x) y l = (refl, l)
leads_edge (words.ToBalance x) y l = (refl, l)
leads_edge (words.ToAdjacency x) y l = (refl, l)
leads_edge (words.Plain n) y l = absurd l

pub edge_leads : (w : Word) (y : ℕ) → is_edge w ≡ true → value_of w ≡ y → leads w y
edge_leads words.Drop y e v = absurd (false≢true e)
edge_leads words.Receive y e v = absurd (false≢true e)
edge_leads (words.Glean i) y e v = absurd (false≢true e)
edge_leads (words.ToPly x) y e v = v
edge_leads (words.ToBalance x) y e v = v
edge_leads (words.ToAdjacency x) y e v = v
edge_leads (words.Plain n) y e v = absurd (false≢true e)

-- cells

pub cell_is : (b : Board) (x s : ℕ) → s < 16 → cell_in b x s ≡ word_in b (16 * x + s)
cell_is b x s lt = ap (λ (c : Bool). if c then word_in b (16 * x + s) else words.Drop) (lt-ltb s 16 lt)

pub cell_down : (b : Board) (x s : ℕ) (w : Word) (y : ℕ) → leads w y → cell_in b x s ≡ w → (s < 16) × (word_in b (16 * x + s) ≡ w)
cell_down b x s w y l is = by_test (ltb s 16) refl
  where
    by_test : (c : Bool) → ltb s 16 ≡ c → (s < 16) × (word_in b (16 * x + s) ≡ w)
    by_test true e = (ltb-true s 16 e, sym (ap (λ (c : Bool). if c then word_in b (16 * x + s) else words.Drop) e) ∙ is)
    by_test false e = absurd (subst (λ (v : Word). leads v y) (sym is ∙ ap (λ (c : Bool). if c then word_in b (16 * x + s) else words.Drop) e) l)

pub cell_same : (b c : Board) (x s : ℕ) → (s < 16 → word_in c (16 * x + s) ≡ word_in b (16 * x + s)) → cell_in c x s ≡ cell_in b x s
cell_same b c x s same = by_test (ltb s 16) refl
  where
    shown : (d : Board) (t : Bool) → ltb s 16 ≡ t → cell_in d x s ≡ (if t then word_in d (16 * x + s) else words.Drop)
    shown d t e = ap (λ (q : Bool). if q then word_in d (16 * x + s) else words.Drop) e

    by_test : (t : Bool) → ltb s 16 ≡ t → cell_in c x s ≡ cell_in b x s
    by_test true e = shown c true e ∙ (same (ltb-true s 16 e) ∙ sym (shown b true e))
    by_test false e = shown c false e ∙ sym (shown b false e)

pub cell_up : (b : Board) (k : ℕ) → cell_in b (owner k) (k % 16) ≡ word_in b k
cell_up b k = cell_is b (owner k) (k % 16) (omega arith) ∙ ap (λ (j : ℕ). word_in b j) (sym (cell_of k))

-- copies

pub copy_down : (rs : List Copy) (x s : ℕ) (w : Word) → Contains (map copy_seen rs) (record { from = x; slot = s; word = w }) → (s < 16) × (n : ℕ) × (decoded n ≡ w) × AnyOf (λ r. (r.cell ≡ 16 * x + s) × (r.word ≡ n)) rs
copy_down [] x s w (i, lt, is) = absurd (let bad : ⊥ = omega arith in bad)
copy_down (r ∷ rs) x s w (zero, lt, is) =
    let a : owner r.cell ≡ x = ap (λ (e : Retired). e.from) is in
    let c : r.cell % 16 ≡ s = ap (λ (e : Retired). e.slot) is in
    let small : s < 16 = omega arith in
    let here : r.cell ≡ 16 * x + s = omega arith in
    (small, r.word, ap (λ (e : Retired). e.word) is, inl (here, refl))
copy_down (r ∷ rs) x s w (suc i, lt, is) =
    let q = copy_down rs x s w (i, (let small = lt in omega arith), is) in
    (q.0, q.1, q.2, inr q.3)

pub copy_up : (rs : List Copy) (k n : ℕ) → AnyOf (λ r. (r.cell ≡ k) × (r.word ≡ n)) rs → Contains (map copy_seen rs) (record { from = owner k; slot = k % 16; word = decoded n })
copy_up [] k n a = elim a [ ]
copy_up (r ∷ rs) k n (inl a) = (0, omega arith, ap (λ (c : ℕ). record { from = owner c; slot = c % 16; word = decoded r.word }) a.0 ∙ ap (λ (v : ℕ). record { from = owner k; slot = k % 16; word = decoded v }) a.1)
copy_up (r ∷ rs) k n (inr a) = (let q = copy_up rs k n a in (suc q.0, (let lt = q.1 in omega arith), q.2))

module _ (p : Plane) where
  pub goes_down : (x s : ℕ) (w : Word) (y : ℕ) → leads w y → Goes (view_of p) x s w → (s < 16) × (n : ℕ) × (decoded n ≡ w) × core.Goes p.board.union (16 * x + s) n
  goes_down x s w y l (inl is) =
      let c = cell_down p.board x s w y l is in
      (c.0, slice_index p.board.union.cells (16 * x + s), c.1, (goes_of (slice_index p.board.union.cells (16 * x + s)) w c.1 ∙ (leads_edge w y l).0, inl refl))
  goes_down x s w y l (inr q) =
      let c = copy_down p.board.union.retired x s w q in
      (c.0, c.1, c.2, (goes_of c.1 w c.2 ∙ (leads_edge w y l).0, inr c.3))

  pub goes_up : (k n : ℕ) → core.Goes p.board.union k n → Goes (view_of p) (owner k) (k % 16) (decoded n)
  goes_up k n (going, inl is) = inl (cell_up p.board k ∙ ap decoded is)
  goes_up k n (going, inr a) = inr (copy_up p.board.union.retired k n a)

  -- an edge is counted
  pub into_down : (x s : ℕ) (w : Word) (y : ℕ) → leads w y → Goes (view_of p) x s w → 0 < into (union_of p.board) y
  into_down x s w y l g =
      let q = goes_down x s w y l g in
      has_in_counted (union_of p.board) y (16 * x + s, subst (edges.Goes (union_of p.board) (16 * x + s)) (target_of q.1 w q.2 ∙ (leads_edge w y l).1) (goes_edges p.board.union (16 * x + s) q.1 q.3))

-- holds

not_true : (b : Bool) → not b ≡ true → b ≡ false
not_true true e = absurd (false≢true e)
not_true false e = refl

pub held_down : (b : Board) (xs : List (Option Object)) (x : ℕ) → is_held_in b xs x ≡ true → (x ≢ 0) × IsHeld b xs x × (is_adjacency_at (at xs x) ≡ false)
held_down b xs x h =
    let a = and_both (not (eqb x 0)) (ltb (into (union_of b) x) (count_of xs x) && not (is_adjacency_at (at xs x))) h in
    let c = and_both (ltb (into (union_of b) x) (count_of xs x)) (not (is_adjacency_at (at xs x))) a.1 in (
      (λ z. false≢true (sym (not_true (eqb x 0) a.0) ∙ eq-eqb x 0 z)),
      ltb-true (into (union_of b) x) (count_of xs x) c.0,
      not_true (is_adjacency_at (at xs x)) c.1,
    )

bool_same : (d e : Bool) → (d ≡ true → e ≡ true) → (e ≡ true → d ≡ true) → d ≡ e
bool_same true e f g = sym (f refl)
bool_same false true f g = g refl
bool_same false false f g = refl

and_same : (d m n : Bool) → (d ≡ true → m ≡ n) → (d && m) ≡ (d && n)
and_same true m n f = f refl
and_same false m n f = refl

-- what is held in both is shown so
pub held_same : (b c : Board) (xs ys : List (Option Object)) (x : ℕ) → (IsHeld b xs x → IsHeld c ys x) → (IsHeld c ys x → IsHeld b xs x) → (IsHeld b xs x → is_adjacency_at (at ys x) ≡ is_adjacency_at (at xs x)) → is_held_in c ys x ≡ is_held_in b xs x
held_same b c xs ys x up down kind =
    let tests : ltb (into (union_of c) x) (count_of ys x) ≡ ltb (into (union_of b) x) (count_of xs x) =
    bool_same (ltb (into (union_of c) x) (count_of ys x)) (ltb (into (union_of b) x) (count_of xs x))
    (λ e. lt-ltb (into (union_of b) x) (count_of xs x) (down (ltb-true (into (union_of c) x) (count_of ys x) e)))
    (λ e. lt-ltb (into (union_of c) x) (count_of ys x) (up (ltb-true (into (union_of b) x) (count_of xs x) e))) in
    ap (λ (t : Bool). not (eqb x 0) && (t && not (is_adjacency_at (at ys x)))) tests
    ∙ ap (λ (t : Bool). not (eqb x 0) && t) (and_same (ltb (into (union_of b) x) (count_of xs x)) (not (is_adjacency_at (at ys x))) (not (is_adjacency_at (at xs x))) (λ e. ap not (kind (ltb-true (into (union_of b) x) (count_of xs x) e))))

-- records

same_mac_is : (m n : Option ℕ) → same_mac m n ≡ true → m ≡ n
same_mac_is None None e = refl
same_mac_is None (Some n) e = absurd (false≢true e)
same_mac_is (Some m) None e = absurd (false≢true e)
same_mac_is (Some m) (Some n) e = ap Some (eqb-true m n e)

mac_is_same : (m : Option ℕ) → same_mac m m ≡ true
mac_is_same None = refl
mac_is_same (Some m) = eq-eqb m m refl

pub same_record_is : (a b : AdjacencyRecord) → same_record a b ≡ true → a ≡ b
same_record_is a b e =
    let f = and_both (eqb a.interface b.interface) (eqb a.next_hop b.next_hop && same_mac a.mac b.mac) e in
    let g = and_both (eqb a.next_hop b.next_hop) (same_mac a.mac b.mac) f.1 in
    ap (λ (i : ℕ). record { interface = i; next_hop = a.next_hop; mac = a.mac }) (eqb-true a.interface b.interface f.0)
    ∙ (ap (λ (i : ℕ). record { interface = b.interface; next_hop = i; mac = a.mac }) (eqb-true a.next_hop b.next_hop g.0)
    ∙ ap (λ (m : Option ℕ). record { interface = b.interface; next_hop = b.next_hop; mac = m }) (same_mac_is a.mac b.mac g.1))

and_true : (b c : Bool) → b ≡ true → c ≡ true → (b && c) ≡ true
and_true true c e f = f
and_true false c e f = e

pub record_is_same : (a : AdjacencyRecord) → same_record a a ≡ true
record_is_same a = and_true (eqb a.interface a.interface) (eqb a.next_hop a.next_hop && same_mac a.mac a.mac) (eq-eqb a.interface a.interface refl) (and_true (eqb a.next_hop a.next_hop) (same_mac a.mac a.mac) (eq-eqb a.next_hop a.next_hop refl) (mac_is_same a.mac))

module _ (rows : List (Kept AdjacencyRecord)) (one : AreInterned rows) where
  -- a record that is kept is found under its number, and by its contents
  pub kept_down : (m : AdjacencyRecord) (k : Kept AdjacencyRecord) → kept_as rows m ≡ Some k → (kept_of rows k.id ≡ Some k) × (k.content ≡ m)
  kept_down m k e =
      let f = find_place (λ k. same_record k.content m) rows k e in (
        find_only (λ l. eqb l.id k.id) rows f.0 k f.1 (eq-eqb k.id k.id refl) (λ j l at is. one.numbers_apart j f.0 l k at f.1 (eqb-true l.id k.id is)),
        same_record_is k.content m f.2,
      )

  pub kept_up : (o : ℕ) (k : Kept AdjacencyRecord) → kept_of rows o ≡ Some k → kept_as rows k.content ≡ Some k
  kept_up o k e =
      let f = find_place (λ l. eqb l.id o) rows k e in
      find_only (λ l. same_record l.content k.content) rows f.0 k f.1 (record_is_same k.content) (λ j l at is. one.contents_apart j f.0 l k at f.1 (same_record_is l.content k.content is))

  pub record_down : (m : AdjacencyRecord) (x : ℕ) → record_in rows m ≡ Some x → (k : Kept AdjacencyRecord) × (kept_of rows x ≡ Some k) × (k.content ≡ m) × (kept_as rows m ≡ Some k)
  record_down m x e = by_kept (kept_as rows m) refl e
    where
      by_kept : (o : Option (Kept AdjacencyRecord)) → kept_as rows m ≡ o → option_map (λ k. k.id) o ≡ Some x → (k : Kept AdjacencyRecord) × (kept_of rows x ≡ Some k) × (k.content ≡ m) × (kept_as rows m ≡ Some k)
      by_kept None is f = absurd (none_some x f)
      by_kept (Some k) is f = (let d = kept_down m k is in (k, subst (λ (i : ℕ). kept_of rows i ≡ Some k) (some_is k.id x f) d.0, d.1, is))

-- what is in use is counted
pub live_down : (p : Plane) → IsPlane p → (x : ℕ) → IsLive (view_of p) x → pool.IsLive p.objects x
live_down p told x (inl e) = (let r : Holds p 0 = told.root in let c : count_of p.objects x ≡ count_of p.objects 0 = ap (λ (q : ℕ). count_of p.objects q) e in omega arith)
live_down p told x (inr (inl h)) = (let d = (held_down p.board p.objects x h).1 in omega arith)
live_down p told x (inr (inr (inl r))) =
    let k = record_down p.records told.interned r.0 x r.1 in
    let a = told.records.adjacencies x k.0 k.1 in
    let c : count_of p.objects x ≡ a.count = ap count_in a.taken in
    let l = a.live in omega arith
live_down p told x (inr (inr (inr h))) = (let n = into_down p h.0 h.1 h.2 x h.3 h.4 in let l = (told.counted x).least in omega arith)
