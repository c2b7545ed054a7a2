-- Objects that are taken and let go.
use Rattle.std.proofs.Common.{arith, ◌≡◌, ◌≢◌, ℕ, ◌+◌, ◌*◌, ◌-◌, ◌≤◌, inl, inr, Bool, true, false, not, ◌&&◌, ◌||◌, ltb, eqb, ne_eqb, List, length, Option, Some, None, refl, sym, ◌∙◌, ap, subst, get_or-set_same, get_or-set_other, length-set}
use Rattle.std.specs.Prelude.{IfSome, IfNone}
use Rattle.std.proofs.lemmas.Bool.{true≢false, cases_eq, lt-ltb}
use Rattle.fib_base_list.proofs.Lists.{either}
use Rattle.fib_base_interned.specs.Interned.{Kept, kept_of}
use Rattle.fib_union.specs.Unions.{owner, into}
use Rattle.fib_core.specs.declared.word.Word.{Word}
use Rattle.fib_core.specs.declared.word.Word.TheVariants as words
use Rattle.fib_core.specs.Union.{IsBucketWord}
use Rattle.fib_core.proofs.Numbers.{owner_of}
use Rattle.fib_pool.specs.declared.object.Kind.{Kind}
use Rattle.fib_pool.specs.declared.object.Kind.TheVariants as kinds
use Rattle.fib_pool.specs.declared.object.Object.{Object}
use Rattle.fib_pool.specs.declared.object.AdjacencyRecord.{AdjacencyRecord}
use Rattle.fib_pool.specs.Objects.{at, count_in, count_of, with_count, as_new, free_in}
use Rattle.fib_pool.specs.Objects as pool
use Rattle.fib_pool.proofs.Pools.{live_at}
use Rattle.fib_core_board.specs.Boards.{Board, HasNoPly, union_of, word_in}
use Rattle.fib_plane.specs.Planes.{Plane, IsHeld, released}
use Rattle.fib_plane.specs.Planes as plane
use Rattle.fib_plane.specs.Sound as sound
use Rattle.fib_plane.proofs.Boarding.{at_other, count_same, none_same, kind_same}
use Rattle.fib_plane_view.specs.View.{View, Goes, IsPlane, IsTaken, IsLetGo, leads, is_ply_kind}
use Rattle.fib_plane.specs.Views.{is_ply_at, is_adjacency_kind, is_adjacency_at, record_in, users_of_record, view_of, AreRecorded}
use Rattle.fib_plane.proofs.Views.Seeing.{cell_is, goes_down, held_down, held_same, record_down, into_down}
use Rattle.fib_plane.proofs.Views.Sounding.{sound_of}
use Rattle.fib_plane.proofs.Views.Backed.{recorded_by}
use Rattle.fib_plane.proofs.Views.Sweeping.{none_some, ply_kept, adjacency_kept, free_kept, sound_swept, swept_seen, swept_held, swept_stores, swept_adjacencies}

pub not_held : (b : Bool) → (b ≡ true → ⊥) → b ≡ false
not_held b far = elim (either b) [ inl h ↦ absurd (far h) | inr n ↦ n ]

ply_new : (kind : Kind) → is_ply_at (as_new kind) ≡ is_ply_kind kind
ply_new kind = refl

no_adjacency : (kind : Kind) → (kind ≡ kinds.Adjacency → ⊥) → is_adjacency_kind kind ≡ false
no_adjacency kinds.Ply ne = refl
no_adjacency kinds.Balance ne = refl
no_adjacency kinds.Adjacency ne = absurd (ne refl)

eqb_not : (x : ℕ) → x ≢ 0 → eqb x 0 ≡ false
eqb_not x ne = ne_eqb x 0 ne

-- a free object is taken
module _ (p q : Plane) (kind : Kind) (c : ℕ) (other : kind ≡ kinds.Adjacency → ⊥) (told : sound.IsPlane p) (after : sound.IsPlane q) (board : q.board ≡ p.board) (records : q.records ≡ p.records) (spare : q.spare ≡ p.spare)
    (taken : pool.TookObject p.objects q.objects c kind) (free : free_in q.objects + 1 ≡ free_in p.objects) (plies : HasNoPly q.board c) where
  abbrev u : View
  u = view_of p

  abbrev v : View
  v = view_of q

  none_in : into (union_of p.board) c ≡ 0
  none_in = (let l = (told.counted c).least in let z : count_of p.objects c ≡ 0 = ap count_in taken.free in omega arith)

  not_root : c ≢ 0
  not_root e = (let r = told.root in let z : count_of p.objects 0 ≡ 0 = ap (λ (i : ℕ). count_of p.objects i) (sym e) ∙ ap count_in taken.free in absurd (let bad : ⊥ = omega arith in bad))

  at_c : at q.objects c ≡ as_new kind
  at_c = ap (λ (xs : List (Option Object)). at xs c) taken.taken ∙ get_or-set_same p.objects c (as_new kind) None taken.inside

  at_else : (y : ℕ) → y ≢ c → at q.objects y ≡ at p.objects y
  at_else y ne = ap (λ (xs : List (Option Object)). at xs y) taken.taken ∙ get_or-set_other p.objects c y (as_new kind) None ne

  above : (x s : ℕ) (w : Word) → leads w c → Goes u x s w → ⊥
  above x s w l g = (let n = into_down p x s w c l g in let z = none_in in absurd (let bad : ⊥ = omega arith in bad))

  below : (s y : ℕ) → Goes u c s (words.ToPly y) → ⊥
  below s y g = (let d = goes_down p c s (words.ToPly y) y refl g in
      let none = subst (λ (b : Board). HasNoPly b c) board plies in
      (none (16 * c + s) d.1 y d.3 d.2).0 (owner_of c s d.0))

  held_new : v.is_held c ≡ true
  held_new =
      let n : count_of q.objects c ≡ 1 = ap count_in at_c in
      let z : into (union_of q.board) c ≡ 0 = ap (λ (b : Board). into (union_of b) c) board ∙ none_in in
      ap (λ (t : Bool). not t && (ltb (into (union_of q.board) c) (count_of q.objects c) && not (is_adjacency_at (at q.objects c)))) (eqb_not c not_root)
      ∙ (ap (λ (t : Bool). t && not (is_adjacency_at (at q.objects c))) (lt-ltb (into (union_of q.board) c) (count_of q.objects c) (omega arith))
      ∙ ap not (ap is_adjacency_at at_c ∙ no_adjacency kind other))

  ply_is : v.is_ply c ≡ is_ply_kind kind
  ply_is = ap (λ (t : Bool). t || is_ply_at (at q.objects c)) (eqb_not c not_root) ∙ ap is_ply_at at_c

  held_else : (y : ℕ) → y ≢ c → v.is_held y ≡ u.is_held y
  held_else y ne =
      let n : count_of q.objects y ≡ count_of p.objects y = ap count_in (at_else y ne) in
      let z : into (union_of q.board) y ≡ into (union_of p.board) y = ap (λ (b : Board). into (union_of b) y) board in
      held_same p.board q.board p.objects q.objects y (λ h. omega arith) (λ h. omega arith) (λ h. ap is_adjacency_at (at_else y ne))

  ply_else : (y : ℕ) → y ≢ c → v.is_ply y ≡ u.is_ply y
  ply_else y ne = ap (λ (t : Bool). eqb y 0 || t) (ap is_ply_at (at_else y ne))

  cell_eq : (y t : ℕ) → v.cell y t ≡ u.cell y t
  cell_eq y t = ap (λ (b : Board). (view_of (record p { board = b })).cell y t) board

  pub taken_seen : IsTaken u v kind c
  taken_seen = record {
    other = not_root;
    fresh = not_held (u.is_held c) (λ h. (let d = (held_down p.board p.objects c h).1 in let z : count_of p.objects c ≡ 0 = ap count_in taken.free in absurd (let bad : ⊥ = omega arith in bad)));
    unrecorded = λ r. (let k = record_down p.records told.interned r.0 c r.1 in let a = told.records.adjacencies c k.0 k.1 in none_some _ (sym taken.free ∙ a.taken));
    above = above;
    below = below;
    cells = cell_eq;
    dropped = λ t lt. cell_eq c t ∙ (cell_is p.board c t lt ∙ told.free (16 * c + t) (ap (at p.objects) (owner_of c t lt) ∙ taken.free));
    retired = ap (λ (b : Board). (view_of (record p { board = b })).retired) board;
    held = (held_new, ply_is);
    others = λ y ne. (held_else y ne, ply_else y ne);
    records = record { record_of = ap record_in records; users = ap users_of_record records };
    free = sym free;
    stored = ap (λ (b : Board). b.stored) board;
    spare = spare;
  }

  goes_back : (x s : ℕ) (w : Word) → Goes v x s w → Goes u x s w
  goes_back x s w g = subst (λ (b : Board). Goes (view_of (record p { board = b })) x s w) board g

  -- an edge of the union neither leaves nor enters it, but for those out of it that are no ply's
  pub taken_sound : IsPlane u → IsPlane v
  taken_sound was = sound_of q after (record {
    ply = λ x s y g. (let h = goes_back x s (words.ToPly y) g in let k = was.kinds.ply x s y h in
        (ply_else x (λ e. below s y (subst (λ (i : ℕ). Goes u i s (words.ToPly y)) e h)) ∙ k.0, ply_else y (λ e. above x s (words.ToPly y) e h) ∙ k.1));
    balance = λ x s y g. (let h = goes_back x s (words.ToBalance y) g in let k = was.kinds.balance x s y h in
        (ply_else y (λ e. above x s (words.ToBalance y) e h) ∙ k.0, λ r. k.1 (r.0, ap (λ (f : AdjacencyRecord → Option ℕ). f r.0) (sym (ap record_in records)) ∙ r.1)));
    adjacency = λ x s y g. (let h = goes_back x s (words.ToAdjacency y) g in let k = was.kinds.adjacency x s y h in
        (ply_else y (λ e. above x s (words.ToAdjacency y) e h) ∙ k.0, held_else y (λ e. above x s (words.ToAdjacency y) e h) ∙ k.1));
  }) (λ x s b lt. elim (cases_eq x c) [
    | inl same ↦ subst IsBucketWord (sym (ap (λ (i : ℕ). v.cell i s) same ∙ taken_seen.dropped s lt)) tt
    | inr ne ↦ subst IsBucketWord (sym (cell_eq x s)) (was.buckets x s (sym (held_else x ne) ∙ b.0, sym (ply_else x ne) ∙ b.1) lt)
  ])

  pub taken_recorded : AreRecorded p → AreRecorded q
  taken_recorded all = recorded_by p q all (λ y is h. (
      let ne : y ≢ c = (λ same. true≢false (sym is ∙ ap (λ (i : ℕ). is_adjacency_at (at q.objects i)) same ∙ ap is_adjacency_at at_c ∙ no_adjacency kind other)) in
      let n : count_of q.objects y ≡ count_of p.objects y = ap count_in (at_else y ne) in
      let z : into (union_of q.board) y ≡ into (union_of p.board) y = ap (λ (b : Board). into (union_of b) y) board in
      (ap is_adjacency_at (sym (at_else y ne)) ∙ is, omega (arith, n, z, h)))) records

-- a hold ends
module _ (p q : Plane) (c : ℕ) (told : sound.IsPlane p) (after : sound.IsPlane q) (held : (view_of p).is_held c ≡ true) (s : plane.IsSwept p.board q.board (released p c) q.objects) (records : q.records ≡ p.records) (spare : p.spare ≤ q.spare) where
  abbrev mid : Plane
  mid = record p { objects = released p c }

  is_held : IsHeld p.board p.objects c
  is_held = (held_down p.board p.objects c held).1

  there : (x : Object) × (at p.objects c ≡ Some x)
  there = live_at p.objects c (let h = is_held in omega arith)

  mid_size : length mid.objects ≡ length p.objects
  mid_size = length-set p.objects c _

  mid_none : (o : ℕ) → at mid.objects o ≡ None → at p.objects o ≡ None
  mid_none = none_same p.objects c (count_of p.objects c - 1) there.0 there.1

  mid_kinds : (o : ℕ) (y : Object) → at mid.objects o ≡ Some y → (x : Object) × (at p.objects o ≡ Some x) × (x.kind ≡ y.kind)
  mid_kinds = kind_same p.objects c (count_of p.objects c - 1) there.0 there.1

  size : length q.objects ≡ length mid.objects
  size = (let a = mid_size in let b = told.size in let d = after.size in let e : q.board.objects ≡ p.board.objects = ap (λ (x : Board). x.objects) s.frame in omega arith)

  long : length p.board.union.cells ≡ 16 * length mid.objects
  long = (let a = mid_size in let b = told.size in let l = told.board.long in omega arith)

  drops : (k : ℕ) → at mid.objects (owner k) ≡ None → word_in p.board k ≡ words.Drop
  drops k e = told.free k (mid_none (owner k) e)

  held_mid : (y : ℕ) → y ≢ c → (view_of mid).is_held y ≡ (view_of p).is_held y
  held_mid y ne =
      let n : count_of mid.objects y ≡ count_of p.objects y = ap count_in (at_other p.objects c (count_of p.objects c - 1) there.0 there.1 y ne) in
      held_same p.board p.board p.objects mid.objects y (λ h. omega arith) (λ h. omega arith) (λ h. adjacency_kept p.objects mid.objects mid_size mid_none mid_kinds y)

  else_held : (y : ℕ) → y ≢ c → (view_of q).is_held y ≡ (view_of p).is_held y
  else_held y ne = swept_held mid q s after size long drops y ∙ held_mid y ne

  gone : (view_of q).is_held c ≡ false
  gone = not_held ((view_of q).is_held c) (λ h.
      let d = (held_down q.board q.objects c h).1 in
      let e = s.holds c in
      let n : count_of mid.objects c ≡ count_of p.objects c - 1 = count_same p.objects c (count_of p.objects c - 1) there.0 there.1 in
      let m = (told.counted c).most in
      absurd (let bad : ⊥ = omega arith in bad))

  pub gone_seen : IsLetGo (view_of p) (view_of q) c
  gone_seen =
      let w = swept_seen mid q s after size long drops spare in
      let t = swept_stores mid q s after size long drops in
      let f = free_kept p.objects mid.objects mid_size mid_none mid_kinds in
      record {
        swept = record {
          cells = w.cells;
          edges = w.edges;
          kinds = λ y live. w.kinds y live ∙ ply_kept p.objects mid.objects mid_size mid_none mid_kinds y;
          free = (let a = w.free in omega arith);
          spare = w.spare;
        };
        gone = gone;
        held = else_held;
        records = record { record_of = ap record_in records; users = ap users_of_record records };
        stores = (let a = t.more in let b = t.few in record { more = a; few = omega arith });
      }

  pub gone_sound : IsPlane (view_of p) → IsPlane (view_of q)
  gone_sound was = sound_swept (view_of p) q after was gone_seen.swept
      (λ y h. elim (cases_eq y c) [ inl same ↦ ap (λ (i : ℕ). (view_of p).is_held i) same ∙ held | inr ne ↦ sym (else_held y ne) ∙ h ])
      (λ m x e. ap (λ (f : AdjacencyRecord → Option ℕ). f m) (sym (ap record_in records)) ∙ e)

  pub gone_recorded : AreRecorded p → AreRecorded q
  gone_recorded all = recorded_by p q all (λ y is h. (
      let d = swept_adjacencies mid q s after size long drops y is h in (
        sym (adjacency_kept p.objects mid.objects mid_size mid_none mid_kinds y) ∙ d.0,
        elim (cases_eq y c) [
          | inl same ↦ absurd (let e = count_same p.objects c (count_of p.objects c - 1) there.0 there.1 in
              let n : count_of mid.objects y ≡ count_of mid.objects c = ap (count_of mid.objects) same in
              let i : into (union_of p.board) y ≡ into (union_of p.board) c = ap (into (union_of p.board)) same in
              let m = (told.counted c).most in omega (arith, e, n, i, m, d.1))
          | inr ne ↦ (let n : count_of mid.objects y ≡ count_of p.objects y = ap count_in (at_other p.objects c (count_of p.objects c - 1) there.0 there.1 y ne) in omega (arith, n, d.1))
        ],
      ))) records

-- another object stays held, and what was taken as a ply or a balance has no record
pub held_released : (p : Plane) (c : ℕ) → (view_of p).is_held c ≡ true → (o : ℕ) → (o ≡ c → ⊥) → (view_of p).is_held o ≡ true → IsHeld p.board (released p c) o
held_released p c held o ne h =
    let d : IsHeld p.board p.objects c = (held_down p.board p.objects c held).1 in
    let x = live_at p.objects c (omega arith) in
    let e : IsHeld p.board p.objects o = (held_down p.board p.objects o h).1 in
    let n : count_of (released p c) o ≡ count_of p.objects o = ap count_in (at_other p.objects c (count_of p.objects c - 1) x.0 x.1 o ne) in
    omega arith

pub unrecorded : (p : Plane) → sound.IsPlane p → (c : ℕ) → (view_of p).is_held c ≡ true → kept_of p.records c ≡ None
unrecorded p told c held = by_kept (kept_of p.records c) refl
  where
    by_kept : (o : Option (Kept AdjacencyRecord)) → kept_of p.records c ≡ o → kept_of p.records c ≡ None
    by_kept None is = is
    by_kept (Some k) is =
        let a = told.records.adjacencies c k is in
        let n = (held_down p.board p.objects c held).2 in
        absurd (true≢false (sym (ap is_adjacency_at a.taken) ∙ n))

-- the same of what a take answers
module _ (p q : Plane) (kind : Kind) (r : Option ℕ) (other : kind ≡ kinds.Adjacency → ⊥) (told : sound.IsPlane p) (after : sound.IsPlane q) (board : q.board ≡ p.board) (records : q.records ≡ p.records) (spare : q.spare ≡ p.spare) where
  pub take_seen : IfSome r (λ c. pool.TookObject p.objects q.objects c kind) → IfSome r (λ c. free_in q.objects + 1 ≡ free_in p.objects) → IfSome r (λ c. HasNoPly q.board c) → IfSome r (λ c. IsTaken (view_of p) (view_of q) kind c)
  take_seen taken free plies = by_answer r taken free plies
    where
      by_answer : (o : Option ℕ) → IfSome o (λ c. pool.TookObject p.objects q.objects c kind) → IfSome o (λ c. free_in q.objects + 1 ≡ free_in p.objects) → IfSome o (λ c. HasNoPly q.board c) → IfSome o (λ c. IsTaken (view_of p) (view_of q) kind c)
      by_answer None t f n = tt
      by_answer (Some c) t f n = taken_seen p q kind c other told after board records spare t f n

  pub take_recorded : IfSome r (λ c. pool.TookObject p.objects q.objects c kind) → IfSome r (λ c. free_in q.objects + 1 ≡ free_in p.objects) → IfSome r (λ c. HasNoPly q.board c) → IfNone r (q ≡ p) → AreRecorded p → AreRecorded q
  take_recorded taken free plies same all = by_answer r taken free plies same
    where
      by_answer : (o : Option ℕ) → IfSome o (λ c. pool.TookObject p.objects q.objects c kind) → IfSome o (λ c. free_in q.objects + 1 ≡ free_in p.objects) → IfSome o (λ c. HasNoPly q.board c) → IfNone o (q ≡ p) → AreRecorded q
      by_answer None t f n e = subst AreRecorded (sym e) all
      by_answer (Some c) t f n e = taken_recorded p q kind c other told after board records spare t f n all

  pub take_sound : IfSome r (λ c. pool.TookObject p.objects q.objects c kind) → IfSome r (λ c. free_in q.objects + 1 ≡ free_in p.objects) → IfSome r (λ c. HasNoPly q.board c) → IfNone r (q ≡ p) → IsPlane (view_of p) → IsPlane (view_of q)
  take_sound taken free plies same was = by_answer r taken free plies same
    where
      by_answer : (o : Option ℕ) → IfSome o (λ c. pool.TookObject p.objects q.objects c kind) → IfSome o (λ c. free_in q.objects + 1 ≡ free_in p.objects) → IfSome o (λ c. HasNoPly q.board c) → IfNone o (q ≡ p) → IsPlane (view_of q)
      by_answer None t f n e = subst (λ (x : Plane). IsPlane (view_of x)) (sym e) was
      by_answer (Some c) t f n e = taken_sound p q kind c other told after board records spare t f n was
