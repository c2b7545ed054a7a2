-- Records that are taken and given back, by the view.
use Rattle.std.proofs.Common.{arith, ◌≡◌, ◌≢◌, ℕ, suc, ◌+◌, ◌*◌, ◌-◌, ◌^◌, ◌<◌, ◌≤◌, inl, inr, Bool, true, false, cond, ◌&&◌, ◌||◌, ◌==◌, eqb, eq-eqb, List, length, map, set, Option, Some, None, Result, Ok, Err, refl, sym, ◌∙◌, ap, subst, get_or-set_other, length-set}
use Rattle.std.specs.Prelude.{Contains, IfNone, IfOk, IfSome, OnErr, option_map, slice_index, if◌then◌else◌, is_some}
use Rattle.std.proofs.lemmas.Bool.{false≢true, true≢false, cases_eq, cases_lt}
use Rattle.fib_base_list.proofs.Lists.{either}
use Rattle.std.specs.declared.alloc.AllocError.{AllocError}
use Rattle.fib_base_interned.specs.Interned.{AreInterned, Kept, kept_of, users_in, users_of, lowered}
use Rattle.fib_union.specs.Unions as edges
use Rattle.fib_union.specs.Unions.{owner, into, left_at_once, left_if, one}
use Rattle.fib_core.specs.declared.word.Word.{Word}
use Rattle.fib_core.specs.declared.word.Word.TheVariants as words
use Rattle.fib_core.specs.Words.{IsRoomy, encoded, goes}
use Rattle.fib_core.specs.Union.{IsBucketWord, must_retire, retire_if}
use Rattle.fib_core.specs.StandsFor.{mac_word}
use Rattle.fib_core.proofs.Numbers.{goes_of, owner_of}
use Rattle.fib_core_lawful.specs.State.{fresh_marks}
use Rattle.fib_pool.specs.declared.object.Kind.TheVariants as kinds
use Rattle.fib_pool.specs.declared.object.Object.{Object}
use Rattle.fib_pool.specs.declared.object.AdjacencyRecord.{AdjacencyRecord}
use Rattle.fib_pool.specs.Records.{IsNew}
use Rattle.fib_pool.specs.Objects.{at, as_new, count_in, count_of, free_in, is_free}
use Rattle.fib_pool.specs.Objects as pool
use Rattle.fib_pool.proofs.Pools.{free_set, live_at, live_in}
use Rattle.fib_pool.proofs.Keeping.{kept_contains}
use Rattle.fib_core_board.specs.Boards.{Board, as_control, board_stored, edge_of, union_of, word_in}
use Rattle.fib_core_board.proofs.Serving.{edge_at_drop, edge_none}
use Rattle.fib_plane.specs.Planes.{Plane, IsHeld, released}
use Rattle.fib_plane.specs.Records as plane
use Rattle.fib_plane.specs.Records.{board_filled, given_objects}
use Rattle.fib_plane.specs.Sound as sound
use Rattle.fib_plane.specs.Sound.{IsInRange}
use Rattle.fib_plane.proofs.Boarding.{at_other, count_same, edge_at_word, into_stored, kind_same, none_same, word_other}
use Rattle.fib_plane.proofs.Filling.{filled_else}
use Rattle.fib_plane.proofs.Recording.{given_from}
use Rattle.fib_plane_view.specs.View.{View, GaveRecord, Goes, HasIn, IsPlane, IsRecord, Stores, TookOne, TookRecord, leads}
use Rattle.fib_plane.specs.Views.{cell_in, copy_seen, is_adjacency_at, is_ply_at, is_ply_of, kept_as, promise_of, record_in, same_record, users_of_record, view_of, AreRecorded}
use Rattle.fib_plane.proofs.Views.Seeing.{cell_down, cell_same, held_down, held_same, kept_down, live_down, record_down, record_is_same, same_record_is}
use Rattle.fib_plane.proofs.Views.Sounding.{adjacency_not_held, record_apart, record_no_edge, sound_of}
use Rattle.fib_plane.proofs.Views.Sweeping.{adjacency_kept, edge_live, free_kept, into_up, none_some, ply_kept, ply_leaves, sound_swept, swept_held, swept_seen, swept_stores, swept_adjacencies}
use Rattle.fib_plane.proofs.Views.Paying.{free_grows}
use Rattle.fib_plane.proofs.Views.Taking.{not_held}
use Rattle.fib_plane.proofs.Views.Interning.{given_else, kept_before, kept_still, one_less, one_more, record_up, taken_else, taken_in, used_before}

-- a number is stored into a Drop cell: no edge comes, and none is retired

and_false : (b c : Bool) → c ≡ false → (b && c) ≡ false
and_false true c e = e
and_false false c e = refl

flat_retired : (b : Board) (k : ℕ) (w : Word) → word_in b k ≡ words.Drop → (board_stored b k w).union.retired ≡ b.union.retired
flat_retired b k w drop = ap (λ (t : Bool). retire_if t (record { cell = k; word = slice_index b.union.cells k; marks = fresh_marks (as_control b) }) b.union.retired)
    (and_false (must_retire b.union k) (goes (slice_index b.union.cells k)) (goes_of (slice_index b.union.cells k) words.Drop drop))

none_left : (t : Bool) (e : Option ℕ) → e ≡ None → left_if t e ≡ None
none_left true e is = refl
none_left false e is = is

flat_into : (b : Board) (k n z : ℕ) → n < 2 ^ 56 → k < length b.union.cells → word_in b k ≡ words.Drop → into (union_of (board_stored b k (words.Plain n))) z ≡ into (union_of b) z
flat_into b k n z few here drop =
    let left : left_at_once (union_of b) k ≡ None = none_left (edges.must_retire (union_of b) k) (edges.edge_at (union_of b).edges k) (edge_at_word b k ∙ edge_at_drop (slice_index b.union.cells k) drop) in
    let a : ◌≡◌ {A = ℕ} (one z (left_at_once (union_of b) k)) 0 = ap (one z) left in
    let c : ◌≡◌ {A = ℕ} (one z (edge_of (words.Plain n))) 0 = ap (one z) (edge_none (words.Plain n) few refl) in
    let i = into_stored b k (words.Plain n) z here in
    omega arith

pub mac_value : (m : Option ℕ) → IfSome m (λ n. n < 2 ^ 48) → (v : ℕ) × (v < 2 ^ 56) × (mac_word m ≡ words.Plain v)
mac_value None h = (0, omega arith, refl)
mac_value (Some m) h = (suc m, (let small = h in omega arith), refl)

module _ (b : Board) (x : ℕ) (r : AdjacencyRecord) (long : 16 * x + 16 ≤ length b.union.cells) (range : IsInRange r) (empty : (s : ℕ) → s < 16 → word_in b (16 * x + s) ≡ words.Drop) where
  abbrev one_in : Board
  one_in = board_stored b (16 * x + 0) (words.Plain r.interface)

  abbrev two_in : Board
  two_in = board_stored one_in (16 * x + 1) (words.Plain r.next_hop)

  first_empty : word_in b (16 * x + 0) ≡ words.Drop
  first_empty = empty 0 (omega arith)

  second_empty : word_in one_in (16 * x + 1) ≡ words.Drop
  second_empty = word_other b (16 * x + 0) (16 * x + 1) (words.Plain r.interface) (λ e. absurd (let bad : ⊥ = omega arith in bad)) ∙ empty 1 (omega arith)

  third_empty : word_in two_in (16 * x + 2) ≡ words.Drop
  third_empty = word_other one_in (16 * x + 1) (16 * x + 2) (words.Plain r.next_hop) (λ e. absurd (let bad : ⊥ = omega arith in bad))
      ∙ (word_other b (16 * x + 0) (16 * x + 2) (words.Plain r.interface) (λ e. absurd (let bad : ⊥ = omega arith in bad)) ∙ empty 2 (omega arith))

  filled_retired : (board_filled b x r).union.retired ≡ b.union.retired
  filled_retired = flat_retired two_in (16 * x + 2) (mac_word r.mac) third_empty ∙ (flat_retired one_in (16 * x + 1) (words.Plain r.next_hop) second_empty ∙ flat_retired b (16 * x + 0) (words.Plain r.interface) first_empty)

  long_one : length one_in.union.cells ≡ length b.union.cells
  long_one = length-set b.union.cells (16 * x + 0) (encoded (words.Plain r.interface))

  long_two : length two_in.union.cells ≡ length b.union.cells
  long_two = length-set one_in.union.cells (16 * x + 1) (encoded (words.Plain r.next_hop)) ∙ long_one

  filled_into : (z : ℕ) → into (union_of (board_filled b x r)) z ≡ into (union_of b) z
  filled_into z =
      let i = range.interface in
      let n = range.next_hop in
      let m = mac_value r.mac range.mac in
      let first = flat_into b (16 * x + 0) r.interface z (omega arith) (omega arith) first_empty in
      let second = flat_into one_in (16 * x + 1) r.next_hop z (omega arith) (let l = long_one in omega arith) second_empty in
      let third : into (union_of (board_stored two_in (16 * x + 2) (words.Plain m.0))) z ≡ into (union_of two_in) z = flat_into two_in (16 * x + 2) m.0 z m.1 (let l = long_two in omega arith) third_empty in
      ap (λ (w : Word). into (union_of (board_stored two_in (16 * x + 2) w)) z) m.2 ∙ (third ∙ (second ∙ first))

  mac_roomy : IsRoomy (mac_word r.mac)
  mac_roomy = (let m = mac_value r.mac range.mac in subst IsRoomy (sym m.2) m.1)

  filled_apart : (k : ℕ) → owner k ≢ x → word_in (board_filled b x r) k ≡ word_in b k
  filled_apart k ne = (let i = range.interface in let n = range.next_hop in filled_else b x r long i n mac_roomy k ne)

-- a record has one user more
module _ (p q : Plane) (told : sound.IsPlane p) (after : sound.IsPlane q) (r : AdjacencyRecord) (x : ℕ) (t : plane.TookRecord p q r x) where
  abbrev u : View
  u = view_of p

  abbrev v : View
  v = view_of q

  range : IsInRange r
  range = after.records.ranges x (record { id = x; content = r; users = users_of p.records x + 1 }) t.takes.taken

  -- what the call left as it was
  abbrev Kept_so : Type 0
  Kept_so =
      ((y s : ℕ) → pool.IsLive p.objects y → v.cell y s ≡ u.cell y s)
      × ((y s d : ℕ) (z : Word) → leads z d → Goes v y s z → Goes u y s z)
      × ((y : ℕ) → pool.IsLive p.objects y → v.is_ply y ≡ u.is_ply y)
      × ((y : ℕ) → v.is_held y ≡ u.is_held y)
      × (u.free ≤ v.free + 1)
      × Stores u v 19

  shared : (q.board ≡ p.board) → (q.objects ≡ p.objects) → Kept_so
  shared board objects = (
    λ y s live. ap (λ (b : Board). cell_in b y s) board,
    λ y s d z l g. subst (λ (b : Board). Goes (view_of (record p { board = b })) y s z) board g,
    λ y live. ap (λ (xs : List (Option Object)). is_ply_of xs y) objects,
    λ y. ap (λ (b : Board). (view_of (record q { board = b })).is_held y) board ∙ ap (λ (xs : List (Option Object)). (view_of (record q { board = p.board; objects = xs })).is_held y) objects,
    (let e : free_in q.objects ≡ free_in p.objects = ap free_in objects in omega arith),
    (let e : free_in q.objects ≡ free_in p.objects = ap free_in objects in let f : q.board.stored ≡ p.board.stored = ap (λ (b : Board). b.stored) board in record { more = omega arith; few = omega arith }),
  )

  module _ (taken : pool.TookObject p.objects q.objects x kinds.Adjacency) (filled : q.board ≡ board_filled p.board x r) where
    pub none_here : count_of p.objects x ≡ 0
    none_here = ap count_in taken.free

    apart : (y : ℕ) → pool.IsLive p.objects y → y ≢ x
    apart y live same = (let e : count_of p.objects y ≡ count_of p.objects x = ap (count_of p.objects) same in let z = none_here in absurd (let bad : ⊥ = omega arith in bad))

    at_else : (y : ℕ) → y ≢ x → at q.objects y ≡ at p.objects y
    at_else y ne = ap (λ (xs : List (Option Object)). at xs y) taken.taken ∙ get_or-set_other p.objects x y (as_new kinds.Adjacency) None ne

    room : 16 * x + 16 ≤ length p.board.union.cells
    room = (let i = taken.inside in let s = told.size in let l = told.board.long in omega arith)

    pub empty : (s : ℕ) → s < 16 → word_in p.board (16 * x + s) ≡ words.Drop
    empty s lt = told.free (16 * x + s) (ap (at p.objects) (owner_of x s lt) ∙ taken.free)

    pub cell_else : (y s : ℕ) → y ≢ x → v.cell y s ≡ u.cell y s
    cell_else y s ne = cell_same p.board q.board y s (λ lt. ap (λ (b : Board). word_in b (16 * y + s)) filled ∙ filled_apart p.board x r room range empty (16 * y + s) (λ own. ne (sym (owner_of y s lt) ∙ own)))

    same_retired : v.retired ≡ u.retired
    same_retired = ap (map copy_seen) (ap (λ (b : Board). b.union.retired) filled ∙ filled_retired p.board x r room range empty)

    same_into : (z : ℕ) → into (union_of q.board) z ≡ into (union_of p.board) z
    same_into z = ap (λ (b : Board). into (union_of b) z) filled ∙ filled_into p.board x r room range empty z

    no_edge : (y s d : ℕ) (z : Word) → leads z d → Goes v y s z → Goes u y s z
    no_edge y s d z l (inl is) = elim (cases_eq y x) [
      | inl same ↦ (let c = cell_down q.board x s z d l (ap (λ (i : ℕ). v.cell i s) (sym same) ∙ is) in
          absurd (record_no_edge r s d (subst (λ (w : Word). leads w d) (sym c.1 ∙ after.records.words x s (record { id = x; content = r; users = users_of p.records x + 1 }) t.takes.taken c.0) l)))
      | inr ne ↦ inl (sym (cell_else y s ne) ∙ is)
    ]
    no_edge y s d z l (inr c) = inr (subst (λ rs. Contains rs (record { from = y; slot = s; word = z })) same_retired c)

    same_held : (y : ℕ) → v.is_held y ≡ u.is_held y
    same_held y = elim (cases_eq y x) [
      | inl same ↦ (let mine : v.is_held x ≡ false = (record_apart q after r x (taken_in p.records q.records told.interned after.interned r x t.takes)).0 in
          let was : u.is_held x ≡ false = not_held (u.is_held x) (λ h. (let d = (held_down p.board p.objects x h).1 in let z = none_here in absurd (let bad : ⊥ = omega arith in bad))) in
          ap v.is_held same ∙ (mine ∙ (sym was ∙ ap u.is_held (sym same))))
      | inr ne ↦ (let n : count_of q.objects y ≡ count_of p.objects y = ap count_in (at_else y ne) in let i = same_into y in
          held_same p.board q.board p.objects q.objects y (λ h. omega arith) (λ h. omega arith) (λ h. ap is_adjacency_at (at_else y ne)))
    ]

    one_free : free_in q.objects + 1 ≡ free_in p.objects
    one_free =
        let e : free_in q.objects ≡ free_in (set p.objects x (as_new kinds.Adjacency)) = ap free_in taken.taken in
        let f = free_set p.objects x (as_new kinds.Adjacency) taken.inside in
        let g : ◌≡◌ {A = ℕ} (cond (is_free (at p.objects x)) 1 0) 1 = ap (λ (o : Option Object). cond (is_free o) 1 0) taken.free in
        omega arith

    pub three : q.board.stored ≡ p.board.stored + 3
    three = (let e : q.board.stored ≡ p.board.stored + 1 + 1 + 1 = ap (λ (b : Board). b.stored) filled in omega arith)

    fresh : Kept_so
    fresh = (
      λ y s live. cell_else y s (apart y live),
      no_edge,
      λ y live. ap (λ (o : Option Object). eqb y 0 || is_ply_at o) (at_else y (apart y live)),
      same_held,
      (let f = one_free in omega arith),
      (let f = one_free in let n = three in record { more = omega arith; few = omega arith }),
    )

  kept_so : Kept_so
  kept_so = by_row (kept_of p.records x) refl
    where
      by_row : (e : Option (Kept AdjacencyRecord)) → kept_of p.records x ≡ e → Kept_so
      by_row None is = (let f = t.fresh is in fresh f.0 f.1)
      by_row (Some k) is = (let s = t.shared k is in shared s.0 s.1)

  pub took_recorded : AreRecorded p → AreRecorded q
  took_recorded all o is h = elim (cases_eq o x) [
    | inl same ↦ ap (λ (i : ℕ). is_some (kept_of q.records i)) same ∙ ap is_some t.takes.taken
    | inr ne ↦ ap is_some (t.takes.others o ne) ∙ by_row ne (kept_of p.records x) refl
  ]
    where
      by_row : o ≢ x → (e : Option (Kept AdjacencyRecord)) → kept_of p.records x ≡ e → is_some (kept_of p.records o) ≡ true
      by_row ne None row =
          let f = t.fresh row in
          let here = at_else f.0 f.1 o ne in
          let n : count_of q.objects o ≡ count_of p.objects o = ap count_in here in
          all o (ap is_adjacency_at (sym here) ∙ is) (let i = same_into f.0 f.1 o in omega (arith, n, i, h))
      by_row ne (Some k) row =
          let s = t.shared k row in
          let n : count_of q.objects o ≡ count_of p.objects o = ap (λ (xs : List (Option Object)). count_of xs o) s.1 in
          let i : into (union_of q.board) o ≡ into (union_of p.board) o = ap (λ (b : Board). into (union_of b) o) s.0 in
          all o (ap (λ (xs : List (Option Object)). is_adjacency_at (at xs o)) (sym s.1) ∙ is) (omega (arith, n, i, h))

  same_free : 0 < users_of_record p.records r → v.free ≡ u.free
  same_free lt = by_row (kept_as p.records r) refl
    where
      by_row : (e : Option (Kept AdjacencyRecord)) → kept_as p.records r ≡ e → v.free ≡ u.free
      by_row None is = (let none : users_of_record p.records r ≡ 0 = ap users_in is in absurd (let bad : ⊥ = omega arith in bad))
      by_row (Some k) is = ap free_in (t.shared k (kept_before p.records q.records told.interned after.interned r x t.takes k is)).1

  still_recorded : (n : AdjacencyRecord) → 0 < users_of_record p.records n → v.record_of n ≡ u.record_of n
  still_recorded n lt = elim (either (same_record n r)) [
    | inl is ↦ (let same = same_record_is n r is in by_row same (kept_as p.records r) refl)
    | inr isnt ↦ ap (option_map (λ (j : Kept AdjacencyRecord). j.id)) (taken_else p.records q.records told.interned after.interned r x t.takes n (λ same. false≢true (sym isnt ∙ (ap (λ (c : AdjacencyRecord). same_record c r) same ∙ record_is_same r))))
  ]
    where
      by_row : n ≡ r → (e : Option (Kept AdjacencyRecord)) → kept_as p.records r ≡ e → v.record_of n ≡ u.record_of n
      by_row same None is = (let none : users_of_record p.records n ≡ 0 = ap (users_of_record p.records) same ∙ ap users_in is in absurd (let bad : ⊥ = omega arith in bad))
      by_row same (Some k) is =
          let there = kept_before p.records q.records told.interned after.interned r x t.takes k is in
          let old : u.record_of r ≡ Some x = ap u.record_of (sym (kept_down p.records told.interned r k is).1) ∙ record_up p.records told.interned x k there in
          ap v.record_of same ∙ (taken_in p.records q.records told.interned after.interned r x t.takes ∙ (sym old ∙ ap u.record_of (sym same)))

  -- to a new object no edge leads
  new_alone : users_of_record p.records r ≡ 0 → HasIn v x → ⊥
  new_alone none h = by_row (kept_of p.records x) refl
    where
      by_row : (e : Option (Kept AdjacencyRecord)) → kept_of p.records x ≡ e → ⊥
      by_row None is = (let f = t.fresh is in apart f.0 f.1 x (live_down p told x (edge_live u h.0 h.1 h.2 x h.3 (kept_so.1 h.0 h.1 x h.2 h.3 h.4))) refl)
      by_row (Some k) is =
          let same : users_of_record p.records r ≡ users_of p.records x = used_before p.records q.records told.interned after.interned r x t.takes in
          let n : users_of p.records x ≡ k.users = ap users_in is in
          let some = told.interned.used k (kept_contains p.records x k is) in
          omega (arith, none, same, n, some)

  pub took_seen : TookRecord u v r x
  took_seen = record {
    here = taken_in p.records q.records told.interned after.interned r x t.takes;
    kept = still_recorded;
    mine = one_more p.records q.records told.interned after.interned r x t.takes;
    others = λ n ne. ap users_in (taken_else p.records q.records told.interned after.interned r x t.takes n ne);
    cells = λ y s live. kept_so.0 y s (live_down p told y live);
    edges = kept_so.1;
    kinds = λ y live. kept_so.2 y (live_down p told y live);
    held = kept_so.3;
    free = kept_so.4;
    same = same_free;
    alone = new_alone;
    stores = kept_so.5;
    spare = t.spare;
  }

  -- a record of an object to which an edge led was one before
  was_record : (o : ℕ) → pool.IsLive p.objects o → IsRecord v o → IsRecord u o
  was_record o live (n, e) =
      let k = record_down q.records after.interned n o e in
      elim (cases_eq o x) [
        | inl same ↦ by_row same (kept_of p.records x) refl
        | inr ne ↦ (k.0.content, record_up p.records told.interned o k.0 (sym (t.takes.others o ne) ∙ k.1))
      ]
    where
      by_row : o ≡ x → (m : Option (Kept AdjacencyRecord)) → kept_of p.records x ≡ m → IsRecord u o
      by_row same None is = absurd (apart (t.fresh is).0 (t.fresh is).1 o live same)
      by_row same (Some j) is = (j.content, record_up p.records told.interned x j is ∙ ap (λ (i : ℕ). Some i) (sym same))

  source_live : (y s c : ℕ) → Goes u y s (words.ToPly c) → pool.IsLive p.objects y
  source_live y s c g = elim (ply_leaves p told y s c g) [
    | inl top ↦ live_down p told y (inl top)
    | inr more ↦ live_down p told y (inr (inr (inr more)))
  ]

  target_live : (y s : ℕ) (z : Word) (o : ℕ) → leads z o → Goes u y s z → pool.IsLive p.objects o
  target_live y s z o l g = live_down p told o (edge_live u y s z o l g)

  pub took_sound : IsPlane u → IsPlane v
  took_sound was = sound_of q after (record {
    ply = λ y s c g. (let h = kept_so.1 y s c (words.ToPly c) refl g in let k = was.kinds.ply y s c h in
        (kept_so.2 y (source_live y s c h) ∙ k.0, kept_so.2 c (target_live y s (words.ToPly c) c refl h) ∙ k.1));
    balance = λ y s o g. (let h = kept_so.1 y s o (words.ToBalance o) refl g in let k = was.kinds.balance y s o h in let live = target_live y s (words.ToBalance o) o refl h in
        (kept_so.2 o live ∙ k.0, λ rec. k.1 (was_record o live rec)));
    adjacency = λ y s o g. (let h = kept_so.1 y s o (words.ToAdjacency o) refl g in let k = was.kinds.adjacency y s o h in
        (kept_so.2 o (target_live y s (words.ToAdjacency o) o refl h) ∙ k.0, kept_so.3 o ∙ k.1));
  }) (λ y s b lt. (let held : u.is_held y ≡ true = sym (kept_so.3 y) ∙ b.0 in let live = live_down p told y (inr (inl held)) in
      subst IsBucketWord (sym (kept_so.0 y s live)) (was.buckets y s (held, sym (kept_so.2 y live) ∙ b.1) lt)))

-- a record that isn't kept has no users
new_unused : (rows : List (Kept AdjacencyRecord)) → AreInterned rows → (r : AdjacencyRecord) → IsNew rows r → users_of_record rows r ≡ 0
new_unused rows one r new = by_row (kept_as rows r) refl
  where
    by_row : (e : Option (Kept AdjacencyRecord)) → kept_as rows r ≡ e → users_of_record rows r ≡ 0
    by_row None is = ap users_in is
    by_row (Some k) is = (let d = kept_down rows one r k is in absurd (new k (kept_contains rows k.id k d.0) d.1))

-- what the call answers
module _ (p q : Plane) (told : sound.IsPlane p) (after : sound.IsPlane q) (r : AdjacencyRecord) where
  pub took_one : (a : Result (Option ℕ) AllocError) → IfOk a (λ o. IfSome o (λ x. plane.TookRecord p q r x)) → IfOk a (λ o. IfNone o (IsNew p.records r × (free_in p.objects ≡ 0))) → IfOk a (λ o. IfNone o (q ≡ p)) → OnErr a (q ≡ p) → TookOne (view_of p) (view_of q) r a
  took_one (Ok (Some x)) took none same err = took_seen p q told after r x took
  took_one (Ok None) took none same err = (ap view_of same, new_unused p.records told.interned r none.0, none.1)
  took_one (Err e) took none same err = ap view_of err

  pub one_recorded : AreRecorded p → (a : Result (Option ℕ) AllocError) → IfOk a (λ o. IfSome o (λ x. plane.TookRecord p q r x)) → IfOk a (λ o. IfNone o (q ≡ p)) → OnErr a (q ≡ p) → AreRecorded q
  one_recorded all (Ok (Some x)) took same err = took_recorded p q told after r x took all
  one_recorded all (Ok None) took same err = subst AreRecorded (sym same) all
  one_recorded all (Err e) took same err = subst AreRecorded (sym err) all

  pub one_sound : IsPlane (view_of p) → (a : Result (Option ℕ) AllocError) → IfOk a (λ o. IfSome o (λ x. plane.TookRecord p q r x)) → IfOk a (λ o. IfNone o (q ≡ p)) → OnErr a (q ≡ p) → IsPlane (view_of q)
  one_sound was (Ok (Some x)) took same err = took_sound p q told after r x took was
  one_sound was (Ok None) took same err = subst (λ (x : Plane). IsPlane (view_of x)) (sym same) was
  one_sound was (Err e) took same err = subst (λ (x : Plane). IsPlane (view_of x)) (sym err) was

  pub one_promise : (a : Result (Option ℕ) AllocError) → IfOk a (λ o. IfSome o (λ x. plane.TookRecord p q r x)) → IfOk a (λ o. IfNone o (q ≡ p)) → OnErr a (q ≡ p) → promise_of q.board ≡ promise_of p.board
  one_promise (Ok (Some x)) took same err = by_row (kept_of p.records x) refl
    where
      by_row : (e : Option (Kept AdjacencyRecord)) → kept_of p.records x ≡ e → promise_of q.board ≡ promise_of p.board
      by_row None is = ap promise_of (took.fresh is).1
      by_row (Some k) is = ap promise_of (took.shared k is).0
  one_promise (Ok None) took same err = ap (λ (x : Plane). promise_of x.board) same
  one_promise (Err e) took same err = ap (λ (x : Plane). promise_of x.board) err

-- a record has one user less

-- other counts, of one object alone
abbrev IsRecounted : List (Option Object) → List (Option Object) → ℕ → Type 0
IsRecounted xs ys o =
    (length ys ≡ length xs)
    × ((z : ℕ) → at ys z ≡ None → at xs z ≡ None)
    × ((z : ℕ) (y : Object) → at ys z ≡ Some y → (w : Object) × (at xs z ≡ Some w) × (w.kind ≡ y.kind))
    × ((z : ℕ) → z ≢ o → count_of ys z ≡ count_of xs z)

given_recounts : (p : Plane) (o : ℕ) → pool.IsLive p.objects o → IsRecounted p.objects (given_objects p o) o
given_recounts p o live = by_test (users_of p.records o == 1)
  where
    by_test : (t : Bool) → IsRecounted p.objects (if t then released p o else p.objects) o
    by_test false = (refl, λ z e. e, λ z y e. (y, e, refl), λ z ne. refl)
    by_test true =
        let x = live_at p.objects o live in (
          length-set p.objects o _,
          none_same p.objects o (count_of p.objects o - 1) x.0 x.1,
          kind_same p.objects o (count_of p.objects o - 1) x.0 x.1,
          λ z ne. ap count_in (at_other p.objects o (count_of p.objects o - 1) x.0 x.1 z ne),
        )

-- another object stays held
pub held_given : (p : Plane) → sound.IsPlane p → (m : AdjacencyRecord) (o : ℕ) → record_in p.records m ≡ Some o → (y : ℕ) → (view_of p).is_held y ≡ true → IsHeld p.board (given_objects p o) y
held_given p told m o e y h =
    let k = record_down p.records told.interned m o e in
    let a = told.records.adjacencies o k.0 k.1 in
    let n : count_of p.objects o ≡ a.count = ap count_in a.taken in
    let l = a.live in
    let r = given_recounts p o (omega arith) in
    let ne : y ≢ o = (λ same. true≢false (sym h ∙ (ap (view_of p).is_held same ∙ (record_apart p told m o e).0))) in
    let c = r.3 y ne in
    let d : IsHeld p.board p.objects y = (held_down p.board p.objects y h).1 in
    omega arith

module _ (p q : Plane) (told : sound.IsPlane p) (after : sound.IsPlane q) (m : AdjacencyRecord) (o : ℕ) (e : record_in p.records m ≡ Some o) (g : plane.GaveRecord p q o) where
  abbrev w : View
  w = view_of p

  abbrev z : View
  z = view_of q

  mine : (k : Kept AdjacencyRecord) × (kept_of p.records o ≡ Some k) × (k.content ≡ m) × (kept_as p.records m ≡ Some k)
  mine = record_down p.records told.interned m o e

  live_o : pool.IsLive p.objects o
  live_o = (let a = told.records.adjacencies o mine.0 mine.1 in let n : count_of p.objects o ≡ a.count = ap count_in a.taken in let l = a.live in omega arith)

  r : IsRecounted p.objects (given_objects p o) o
  r = given_recounts p o live_o

  abbrev mid : Plane
  mid = record p { objects = given_objects p o }

  size : length q.objects ≡ length mid.objects
  size = (let a = r.0 in let b = told.size in let d = after.size in let f : q.board.objects ≡ p.board.objects = ap (λ (x : Board). x.objects) g.swept.frame in omega arith)

  long : length p.board.union.cells ≡ 16 * length mid.objects
  long = (let a = r.0 in let b = told.size in let l = told.board.long in omega arith)

  drops : (k : ℕ) → at mid.objects (owner k) ≡ None → word_in p.board k ≡ words.Drop
  drops k n = told.free k (r.1 (owner k) n)

  loose : w.is_held o ≡ false
  loose = (record_apart p told m o e).0

  held_eq : (y : ℕ) → z.is_held y ≡ w.is_held y
  held_eq y = swept_held mid q g.swept after size long drops y ∙ elim (cases_eq y o) [
    | inl same ↦ (let a = told.records.adjacencies o mine.0 mine.1 in
        let flag : is_adjacency_at (at mid.objects o) ≡ true = adjacency_kept p.objects mid.objects r.0 r.1 r.2 o ∙ ap is_adjacency_at a.taken in
        ap (view_of mid).is_held same ∙ (adjacency_not_held (eqb o 0) _ (is_adjacency_at (at mid.objects o)) flag ∙ (sym loose ∙ ap w.is_held (sym same))))
    | inr ne ↦ (let c = r.3 y ne in held_same p.board p.board p.objects mid.objects y (λ h. omega arith) (λ h. omega arith) (λ h. adjacency_kept p.objects mid.objects r.0 r.1 r.2 y))
  ]

  -- an object without a hold and without an edge into it is free
  freed_object : users_of p.records o ≡ 1 → (HasIn w o → ⊥) → free_in p.objects + 1 ≤ free_in q.objects
  freed_object last none =
      let was = live_at p.objects o live_o in
      let inside : o < length p.objects = live_in p.objects o live_o in
      let no_edge : into (union_of p.board) o ≡ 0 = elim (cases_lt 0 (into (union_of p.board) o)) [
        | inl some ↦ absurd (none (into_up p told o some))
        | inr le ↦ omega (arith, le)
      ] in
      let given : given_objects p o ≡ released p o = ap (λ (t : Bool). if t then released p o else p.objects) (eq-eqb (users_of p.records o) 1 last) in
      let most = (told.counted o).most in
      let count : count_of (given_objects p o) o ≡ 0 = ap (λ (xs : List (Option Object)). count_of xs o) given ∙ (count_same p.objects o (count_of p.objects o - 1) was.0 was.1 ∙ (let z : count_of p.objects o - 1 ≡ 0 = omega (arith, most, no_edge) in z)) in
      let fewer = g.swept.fewer o in
      let gone : at q.objects o ≡ None = gone_at (at q.objects o) refl (omega (arith, fewer, count)) in
      let cleared : free_in (set p.objects o None) ≤ free_in q.objects = free_grows (set p.objects o None) q.objects (let a = length-set p.objects o None in let b = size in let c = r.0 in omega (arith, a, b, c))
      (λ i n. elim (cases_eq i o) [
        | inl same ↦ ap (at q.objects) same ∙ gone
        | inr ne ↦ still_none i (sym (get_or-set_other p.objects o i None None ne) ∙ n)
      ]) in
      let one_more = free_set p.objects o None inside in
      let taken : ◌≡◌ {A = ℕ} (cond (is_free (at p.objects o)) 1 0) 0 = ap (λ (y : Option Object). cond (is_free y) 1 0) was.1 in
      omega (arith, cleared, one_more, taken)
    where
      gone_at : (y : Option Object) → at q.objects o ≡ y → count_of q.objects o ≤ 0 → at q.objects o ≡ None
      gone_at None is le = is
      gone_at (Some y) is le = absurd (let some = after.taken o y is in let n : count_of q.objects o ≡ y.count = ap count_in is in omega (arith, some, n, le))

      still_none : (i : ℕ) → at p.objects i ≡ None → at q.objects i ≡ None
      still_none i n = by_case (at q.objects i) refl
        where
          by_case : (y : Option Object) → at q.objects i ≡ y → at q.objects i ≡ None
          by_case None is = is
          by_case (Some y) is = absurd (let a = g.swept.taken i y is in let b = r.2 i a.0 a.1 in none_some b.0 (sym n ∙ b.1))

  freed : (x : ℕ) → w.record_of m ≡ Some x → w.users m ≡ 1 → (HasIn w x → ⊥) → w.free + 1 ≤ z.free
  freed x is last none =
      let same : o ≡ x = some_one o x (sym e ∙ is) in
      let users : users_of p.records o ≡ 1 = ap users_in mine.1 ∙ (sym (ap users_in mine.3) ∙ last) in
      freed_object users (λ h. none (subst (HasIn w) same h))
    where
      some_one : (a b : ℕ) → Some a ≡ Some b → a ≡ b
      some_one a b s = cc

  pub gave_seen : GaveRecord w z m
  gave_seen =
      let s = swept_seen mid q g.swept after size long drops g.spare in
      let t = swept_stores mid q g.swept after size long drops in
      let f = free_kept p.objects mid.objects r.0 r.1 r.2 in
      let lt = told.interned.used mine.0 (kept_contains p.records o mine.0 mine.1) in
      record {
        mine = subst (λ (c : AdjacencyRecord). users_of_record q.records c + 1 ≡ users_of_record p.records c) mine.2 (one_less p.records q.records told.interned after.interned o mine.0 mine.1 g.gives lt);
        others = λ n ne. ap users_in (given_else p.records q.records told.interned after.interned o mine.0 mine.1 g.gives n (λ same. ne (same ∙ mine.2)));
        kept = kept_still p.records q.records told.interned after.interned o mine.0 mine.1 g.gives;
        swept = record {
          cells = s.cells;
          edges = s.edges;
          kinds = λ y live. s.kinds y live ∙ ply_kept p.objects mid.objects r.0 r.1 r.2 y;
          free = (let a = s.free in omega arith);
          spare = s.spare;
        };
        held = held_eq;
        freed = freed;
        stores = (let a = t.more in let b = t.few in record { more = a; few = omega arith });
      }

  pub gave_sound : IsPlane w → IsPlane z
  gave_sound was = sound_swept w q after was gave_seen.swept (λ y h. sym (held_eq y) ∙ h)
      (λ n x f. (let k = record_down q.records after.interned n x f in let j = given_from p.records q.records o g.gives x k.0 k.1 in
      ap (record_in p.records) (sym (j.2 ∙ k.2)) ∙ record_up p.records told.interned x j.0 j.1))

  -- the record whose last user it was is held no more
  pub gave_recorded : AreRecorded p → AreRecorded q
  gave_recorded all y is h =
      let d = swept_adjacencies mid q g.swept after size long drops y is h in
      let was : is_adjacency_at (at p.objects y) ≡ true = sym (adjacency_kept p.objects mid.objects r.0 r.1 r.2 y) ∙ d.0 in
      elim (cases_eq y o) [
        | inl same ↦ ap (λ (i : ℕ). is_some (kept_of q.records i)) same ∙ ap is_some g.gives.given ∙ ap (λ k. is_some (lowered k)) mine.1
            ∙ still_kept (users_of p.records o == 1) refl (subst (λ (i : ℕ). IsHeld p.board mid.objects i) same d.1)
        | inr ne ↦ ap is_some (g.gives.others y ne) ∙ all y was (let c = r.3 y ne in omega (arith, c, d.1))
      ]
    where
      users_are : users_of p.records o ≡ mine.0.users
      users_are = ap users_in mine.1

      still_kept : (b : Bool) → (users_of p.records o == 1) ≡ b → IsHeld p.board mid.objects o → is_some (lowered (Some mine.0)) ≡ true
      still_kept true last held = absurd (
          let x = live_at p.objects o live_o in
          let n : count_of mid.objects o ≡ count_of (released p o) o = ap (λ (t : Bool). count_of (if t then released p o else p.objects) o) last in
          let e : count_of (released p o) o ≡ count_of p.objects o - 1 = count_same p.objects o (count_of p.objects o - 1) x.0 x.1 in
          let m = (told.counted o).most in omega (arith, n, e, m, held))
      still_kept false more held = ap (λ (t : Bool). is_some {T = Kept AdjacencyRecord} (if t then None else Some (record { id = mine.0.id; content = mine.0.content; users = mine.0.users - 1 }))) (ap (λ (i : ℕ). i == 1) (sym users_are) ∙ more)
