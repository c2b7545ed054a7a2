-- A put by the view: what it asks of the plane, and what it does.
use Rattle.std.proofs.Common.{arith, ◌≡◌, ◌≢◌, ℕ, zero, suc, ◌+◌, ◌*◌, ◌<◌, inl, inr, ⊎_elim, true, false, length, map, Option, Some, None, refl, sym, ◌∙◌, ap, subst, length-set}
use Rattle.std.specs.Prelude.{slice_index}
use Rattle.std.proofs.lemmas.Bool.{true≢false, cases_eq}
use Rattle.fib_base_list.proofs.Lists.{either}
use Rattle.fib_base_interned.specs.Interned.{kept_of}
use Rattle.fib_reach.proofs.Walking.{leads-map}
use Rattle.fib_union.specs.Unions as edges
use Rattle.fib_union.specs.Unions.{owner, into}
use Rattle.fib_core.specs.declared.word.Word.{Word}
use Rattle.fib_core.specs.declared.word.Word.TheVariants as words
use Rattle.fib_core.specs.Words.{IsRoomy, decoded, encoded}
use Rattle.fib_core.proofs.Numbers.{goes_of, owner_of, target_of}
use Rattle.fib_core.proofs.Edges.{edge_is}
use Rattle.fib_pool.specs.Objects.{at, count_in, count_of}
use Rattle.fib_pool.specs.Objects as pool
use Rattle.fib_pool.proofs.Pools.{live_at, at_in}
use Rattle.fib_core_rule.specs.Steady.{MayStoreSteadily}
use Rattle.fib_core_board.specs.Boards.{Board, as_control, board_stored, edge_of, union_of, word_in}
use Rattle.fib_core_board.specs.May as may
use Rattle.fib_plane.specs.Planes.{Plane, Holds, IsUncounted, leads_from, IsHeld}
use Rattle.fib_plane.specs.Puts as plane
use Rattle.fib_plane.specs.Sound as sound
use Rattle.fib_plane.proofs.Boarding.{leaves, word_other}
use Rattle.fib_plane.proofs.Recording.{books_of, joined_of, stored_recounts}
use Rattle.fib_plane_view.specs.declared.put.Put.{Put}
use Rattle.fib_plane_view.specs.declared.put.Put.TheVariants as puts
use Rattle.fib_plane_view.specs.View.{View, Answered, Closes, Edge, Goes, HasIn, HasKind, IsLive, IsPlane, IsPut, IsStanding, IsSwept, leads}
use Rattle.fib_plane_view.specs.Promise.{KeepsRooted, Serves}
use Rattle.fib_plane_view.specs.Promise as joined
use Rattle.fib_plane.specs.Views.{copy_seen, promise_of, record_in, users_of_record, view_of, AreRecorded, is_adjacency_at}
use Rattle.fib_plane.proofs.Views.Seeing.{cell_is, edge_leads, held_same, live_down}
use Rattle.fib_plane.proofs.Views.Backed.{recorded_by}
use Rattle.fib_plane.proofs.Views.Sweeping.{adjacency_kept, free_kept, into_up, ply_kept, sound_kept, swept_held, swept_seen, swept_stores, swept_adjacencies}
use Rattle.fib_plane.proofs.Views.Promising.{allows_down}
use Rattle.fib_plane.proofs.Views.Storing.{cell_else, cell_here, closes_down, closes_up, edge_down, edge_named, goes_new, is_put, retired_left, retired_more, retired_same, stored_buckets, stored_kinds, stored_view}
use Rattle.fib_plane.proofs.Views.Changing.{may_change, may_steadily, serves_stored}
use Rattle.fib_plane.proofs.Views.Taking.{unrecorded}

pub standing_live : (u : View) (x : ℕ) → IsStanding u x → IsLive u x
standing_live u x (inl top) = inl top
standing_live u x (inr held) = inr (inl held)

-- what stands is no record's
pub standing_unrecorded : (p : Plane) → sound.IsPlane p → (x : ℕ) → IsStanding (view_of p) x → kept_of p.records x ≡ None
standing_unrecorded p told x (inr held) = unrecorded p told x held
standing_unrecorded p told x (inl top) = by_kept (kept_of p.records x) refl
  where
    by_kept : (o : Option _) → kept_of p.records x ≡ o → kept_of p.records x ≡ None
    by_kept None is = is
    by_kept (Some k) is = absurd (told.records.other x k is top)

module _ (p : Plane) (told : sound.IsPlane p) (x : ℕ) (standing : IsStanding (view_of p) x) where
  pub source : pool.IsLive p.objects x
  source = live_down p told x (standing_live (view_of p) x standing)

  pub in_board : x < p.board.objects
  in_board = (let y = live_at p.objects x source in let i = at_in p.objects x y.0 y.1 in let s = told.size in omega arith)

  pub in_cells : (s : ℕ) → s < 16 → 16 * x + s < length p.board.union.cells
  in_cells s lt = (let i = in_board in let l = told.board.long in omega arith)

-- the target is counted, and a replaced edge has room
pub target_down : (p : Plane) → sound.IsPlane p → (w : Word) → IsRoomy w → ((y : ℕ) → leads w y → IsLive (view_of p) y) → (y : ℕ) → edge_of w ≡ Some y → pool.IsLive p.objects y
target_down p told w roomy target y e = live_down p told y (target y (edge_named w roomy y e))

pub replaced_down : (p : Plane) (x s : ℕ) → s < 16 → (y : ℕ) → leads_from p.board (16 * x + s) ≡ Some y → leads ((view_of p).cell x s) y
replaced_down p x s lt y e =
    let n : ℕ = slice_index p.board.union.cells (16 * x + s) in
    let is = edge_is n y e in
    subst (λ (w : Word). leads w y) (sym (cell_is p.board x s lt)) (edge_leads (decoded n) y (sym (goes_of n (decoded n) refl) ∙ is.0) (sym (target_of n (decoded n) refl) ∙ is.1))

drop_leads : (y : ℕ) → leads words.Drop y → ⊥
drop_leads y l = l

no_link : (c : ℕ) → words.Drop ≡ words.ToPly c → ⊥
no_link c e = cc

stored_not : puts.Stored ≢ puts.Same
stored_not e = cc

dropped_not : puts.Dropped ≢ puts.Same
dropped_not e = cc

module _ (p : Plane) (told : sound.IsPlane p) (was : IsPlane (view_of p)) (x s : ℕ) (lt : s < 16) (standing : IsStanding (view_of p) x) (w : Word) (roomy : IsRoomy w) (kind : HasKind (view_of p) x w)
    (calm : (view_of p).is_ply x ≡ true → Closes (view_of p) x w → ⊥) where
  abbrev u : View
  u = view_of p

  here : 16 * x + s < length p.board.union.cells
  here = in_cells p told x standing s lt

  abbrev with_word : View
  with_word = stored_view p x s lt here w roomy

  abbrev with_drop : View
  with_drop = stored_view p x s lt here words.Drop tt

  -- an edge that closes a cycle isn't there
  other_word : Closes u x w → u.cell x s ≢ w
  other_word (y, l, r) e =
      let back = leads-map (Edge u) (edges.Edge (union_of p.board)) (edge_down p) y x r in
      told.acyclic x (back.0, (y, edge_down p x y (s, w, l, inl e), back.1))

  flat : Closes u x w → u.is_ply x ≡ false
  flat closes = elim (either (u.is_ply x)) [ inl is ↦ absurd (calm is closes) | inr isnt ↦ isnt ]

  other_cell : word_in p.board (16 * x + s) ≢ w → u.cell x s ≢ w
  other_cell other e = other (sym (cell_is p.board x s lt) ∙ e)

  put_word : word_in p.board (16 * x + s) ≢ w → (Closes u x w → ⊥) → IsPut u with_word x s w puts.Stored
  put_word other far = is_put p x s lt here w roomy told w puts.Stored stored_not (other_cell other, cell_here p x s lt here w roomy, far) (λ c l. refl)

  put_drop : Closes u x w → IsPut u with_drop x s w puts.Dropped
  put_drop closes = is_put p x s lt here words.Drop tt told w puts.Dropped dropped_not (other_word closes, cell_here p x s lt here words.Drop tt, closes) (λ c l. absurd (drop_leads c l))

  module _ (asked : joined.MayPut (promise_of p.board) u x s w) where
    later_word : word_in p.board (16 * x + s) ≢ w → (Closes u x w → ⊥) → Serves (promise_of p.board) asked.names with_word
    later_word other far = asked.after with_word puts.Stored (put_word other far)

    later_drop : Closes u x w → Serves (promise_of p.board) asked.names with_drop
    later_drop closes = asked.after with_drop puts.Dropped (put_drop closes)

    rooted_drop : Closes u x w → KeepsRooted u x s words.Drop
    rooted_drop closes = record {
      links = λ c e ne. absurd (no_link c e);
      unlinks = λ c e t d f. true≢false (sym (was.kinds.ply x s c (inl e)).0 ∙ flat closes);
    }

    abbrev k : ℕ
    k = 16 * x + s

    pub may_put : plane.MayPut p (16 * x + s) w
    may_put = record {
      allowed = allows_down p.board asked.allowed;
      roomy = roomy;
      seen = λ other far reach. (
          let later = later_word other (λ c. far (closes_down p x s lt w roomy c)) in
          may_change p told was x s lt here w roomy asked.names asked.before later standing kind
          (λ d e. later.paths.paths x s d (inl (cell_here p x s lt here w roomy ∙ e))) asked.rooted asked.ends);
      dropped = λ closes reach. (
          let c = closes_up p x s lt w roomy told closes in
          may_change p told was x s lt here words.Drop tt asked.names asked.before (later_drop c) standing (flat c)
          (λ d e. absurd (no_link d e)) (rooted_drop c) tt);
      aside = λ other either_way away. ⊎_elim
          (λ (is : w ≡ words.Drop). subst (λ (a : Word). MayStoreSteadily (as_control p.board) (16 * x + s) (encoded a)) is
          (may_steadily p told was x s lt here w roomy asked.names asked.before (later_word other (λ c. drop_leads c.0 (subst (λ (a : Word). leads a c.0) is c.1)))))
          (λ (closes : plane.Closes p.board (16 * x + s) w). may_steadily p told was x s lt here words.Drop tt asked.names asked.before (later_drop (closes_up p x s lt w roomy told closes)))
          either_way;
      serves = λ z stores other. ⊎_elim
          (λ (q : (z ≡ w) × (plane.Closes p.board (16 * x + s) w → ⊥)). subst (λ (a : Word). may.HoldsPromise (board_stored p.board (16 * x + s) a) (Holds p)) (sym q.0)
          (serves_stored p told was x s lt here w roomy asked.names asked.before (later_word (λ e. other (e ∙ sym q.0)) (λ c. q.1 (closes_down p x s lt w roomy c)))))
          (λ (q : (z ≡ words.Drop) × plane.Closes p.board (16 * x + s) w). subst (λ (a : Word). may.HoldsPromise (board_stored p.board (16 * x + s) a) (Holds p)) (sym q.0)
          (serves_stored p told was x s lt here words.Drop tt asked.names asked.before (later_drop (closes_up p x s lt w roomy told q.1))))
          stores;
    }

  -- what it did
  module _ (q : Plane) (after : sound.IsPlane q) (short : length (union_of p.board).retired < 4294967296) where
    abbrev v : View
    v = view_of q

    -- where nothing was stored no edge was replaced
    nothing : (answer : Put) → q ≡ p → ((y : ℕ) → leads (u.cell x s) y → answer ≢ puts.Same → ⊥) → Answered u x s w (u.cell x s) answer → IsPut u v x s w answer
    nothing answer same only_same answered = subst (λ (a : Plane). IsPut u (view_of a) x s w answer) (sym same) (record {
      answered = answered;
      others = λ y t ne live. refl;
      edges = λ y t c z l g. inl g;
      retired = λ none. refl;
      kept = λ e. refl;
      left = λ ne none. refl;
      copied = λ y l ne some. absurd (only_same y l ne);
      kinds = λ y live. refl;
      held = λ y. refl;
      records = record { record_of = refl; users = refl };
      free = omega arith;
      stores = record { more = omega arith; few = omega arith };
      spare = omega arith;
      spared = λ ne none. omega arith;
    })

    module _ (z : Word) (fits : IsRoomy z) (target : (y : ℕ) → edge_of z ≡ Some y → pool.IsLive p.objects y) (st : plane.IsStored p q (16 * x + s) z) where
      abbrev c : Board
      c = board_stored p.board (16 * x + s) z

      abbrev m : Plane
      m = record { board = c; objects = plane.stored_objects p (16 * x + s) z; records = p.records; spare = q.spare }

      abbrev sv : View
      sv = stored_view p x s lt here z fits

      own : owner (16 * x + s) ≡ x
      own = owner_of x s lt

      live_x : pool.IsLive p.objects (owner (16 * x + s))
      live_x = subst (λ (i : ℕ). pool.IsLive p.objects i) (sym own) (source p told x standing)

      counts : IsUncounted p.board c p.objects m.objects
      counts = stored_recounts p.board (books_of p.board) p.objects (joined_of p told short) (16 * x + s) z here live_x target

      size : length q.objects ≡ length m.objects
      size = (let a = counts.size in let d = told.size in let e = after.size in let f : q.board.objects ≡ p.board.objects = ap (λ (b : Board). b.objects) st.swept.frame in omega arith)

      long : length c.union.cells ≡ 16 * length m.objects
      long = (let a = counts.size in let d = told.size in let l = told.board.long in let e : length c.union.cells ≡ length p.board.union.cells = length-set p.board.union.cells (16 * x + s) (encoded z) in omega arith)

      drops : (j : ℕ) → at m.objects (owner j) ≡ None → word_in c j ≡ words.Drop
      drops j e = elim (cases_eq j (16 * x + s)) [
        | inl same ↦ (let none : count_of p.objects (owner j) ≡ 0 = ap count_in (counts.none (owner j) e) in
            let more : count_of p.objects (owner j) ≡ count_of p.objects (owner (16 * x + s)) = ap (λ (i : ℕ). count_of p.objects (owner i)) same in
            let l = live_x in absurd (let bad : ⊥ = omega arith in bad))
        | inr ne ↦ word_other p.board (16 * x + s) j z ne ∙ told.free j (counts.none (owner j) e)
      ]

      swept : IsSwept (view_of m) v
      swept = swept_seen m q st.swept after size long drops (omega arith)

      held_mid : (y : ℕ) → (view_of m).is_held y ≡ u.is_held y
      held_mid y = (let e = counts.counts y in held_same p.board c p.objects m.objects y (λ h. omega arith) (λ h. omega arith) (λ h. adjacency_kept p.objects m.objects counts.size counts.none counts.kinds y))

      held_eq : (y : ℕ) → v.is_held y ≡ u.is_held y
      held_eq y = swept_held m q st.swept after size long drops y ∙ held_mid y

      stored_adjacencies : (y : ℕ) → is_adjacency_at (at q.objects y) ≡ true → IsHeld q.board q.objects y → (is_adjacency_at (at p.objects y) ≡ true) × IsHeld p.board p.objects y
      stored_adjacencies y is h =
          let d = swept_adjacencies m q st.swept after size long drops y is h in
          (sym (adjacency_kept p.objects m.objects counts.size counts.none counts.kinds y) ∙ d.0, (let e = counts.counts y in omega (arith, e, d.1)))

      kinds_eq : (y : ℕ) → IsLive v y → v.is_ply y ≡ u.is_ply y
      kinds_eq y live = swept.kinds y live ∙ ply_kept p.objects m.objects counts.size counts.none counts.kinds y

      still : IsStanding v x
      still = ⊎_elim (λ (top : x ≡ 0). inl top) (λ (held : u.is_held x ≡ true). inr (held_eq x ∙ held)) standing

      cell_now : v.cell x s ≡ z
      cell_now = swept.cells x s (standing_live v x still) ∙ cell_here p x s lt here z fits

      none_in : (HasIn u x → ⊥) → into (union_of p.board) (owner (16 * x + s)) ≡ 0
      none_in none = by_count (into (union_of p.board) x) refl ∙ refl
        where
          by_count : (n : ℕ) → into (union_of p.board) x ≡ n → into (union_of p.board) (owner (16 * x + s)) ≡ 0
          by_count zero e = ap (λ (i : ℕ). into (union_of p.board) i) own ∙ e
          by_count (suc n) e = absurd (none (into_up p told x (omega arith)))

      stored_seen : (answer : Put) → answer ≢ puts.Same → Answered u x s w z answer → ((d : ℕ) → leads z d → z ≡ w) → IsPut u v x s w answer
      stored_seen answer stored answered only =
          let t = swept_stores m q st.swept after size long drops in
          let f = free_kept p.objects m.objects counts.size counts.none counts.kinds in
          record {
            answered = subst (λ (a : Word). Answered u x s w a answer) (sym cell_now) answered;
            others = λ y t' ne live. swept.cells y t' live ∙ cell_else p x s lt here z fits y t' ne;
            edges = λ y t' d a l g. ⊎_elim (λ (old : Goes u y t' a). inl old) (λ (n : (y ≡ x) × (t' ≡ s) × (a ≡ z)). inr (n.0, n.1, n.2 ∙ only d (subst (λ (b : Word). leads b d) n.2 l)))
                (goes_new p x s lt here z fits y t' d a l (swept.edges y t' d a l g));
            retired = λ none. ap (λ (b : Board). map copy_seen b.union.retired) st.swept.frame ∙ retired_same p x s lt here z fits none;
            kept = λ e. absurd (stored e);
            left = λ ne none. ap (λ (b : Board). map copy_seen b.union.retired) st.swept.frame ∙ retired_left p x s lt here z fits told ne none;
            copied = λ y l ne some. ap (λ (b : Board). map copy_seen b.union.retired) st.swept.frame ∙ retired_more p x s lt here z fits told y l some;
            kinds = kinds_eq;
            held = held_eq;
            records = record { record_of = ap record_in st.records; users = ap users_of_record st.records };
            free = (let a = swept.free in omega arith);
            stores = (let a = t.more in let d = t.few in record { more = omega arith; few = omega arith });
            spare = st.spare;
            spared = λ ne none. st.spared (leaves p.board (16 * x + s) (λ e. ne (sym own ∙ e)) (none_in none));
          }

      stored_sound : HasKind u x z → IsPlane v
      stored_sound fit = sound_kept (record sv { spare = q.spare }) q after (let k = stored_kinds p x s lt here z fits was fit in record { ply = k.ply; balance = k.balance; adjacency = k.adjacency }) (stored_buckets p x s lt here z fits was fit)
          (record { cells = swept.cells; edges = swept.edges; kinds = kinds_eq; free = (let a = swept.free in let f = free_kept p.objects m.objects counts.size counts.none counts.kinds in omega arith); spare = omega arith })
          (λ y h. sym (held_eq y) ∙ h)
          (λ r y e. ap (λ (f : _ → Option ℕ). f r) (sym (ap record_in st.records)) ∙ e)

    target_drop : (y : ℕ) → edge_of words.Drop ≡ Some y → pool.IsLive p.objects y
    target_drop y e = absurd (edge_named words.Drop tt y e)

    module _ (target : (y : ℕ) → leads w y → IsLive u y) where
      pub put_seen : (answer : Put) → plane.IsPlanePut p q (16 * x + s) w answer → IsPut u v x s w answer
      put_seen puts.Same h = nothing puts.Same h.1 (λ y l ne. absurd (ne refl)) (cell_is p.board x s lt ∙ h.0, cell_is p.board x s lt ∙ h.0)
      put_seen puts.Stored h = stored_seen w roomy (target_down p told w roomy target) h.2 puts.Stored stored_not ((λ e. h.0 (sym (cell_is p.board x s lt) ∙ e)), refl, λ c. h.1 (closes_down p x s lt w roomy c)) (λ d l. refl)
      put_seen puts.Dropped h =
          let closes = closes_up p x s lt w roomy told h.1 in
          let ne : u.cell x s ≢ w = (λ e. h.0 (sym (cell_is p.board x s lt) ∙ e)) in
          ⊎_elim
          (λ (n : (word_in p.board (16 * x + s) ≡ words.Drop) × (q ≡ p)). nothing puts.Dropped n.1 (λ y l same. subst (λ (a : Word). leads a y) (cell_is p.board x s lt ∙ n.0) l) (ne, cell_is p.board x s lt ∙ n.0, closes))
          (λ (n : (word_in p.board (16 * x + s) ≢ words.Drop) × plane.IsStored p q (16 * x + s) words.Drop). stored_seen words.Drop tt target_drop n.1 puts.Dropped dropped_not (ne, refl, closes) (λ d l. absurd (drop_leads d l)))
          h.2

      pub put_sound : (answer : Put) → plane.IsPlanePut p q (16 * x + s) w answer → IsPlane v
      put_sound puts.Same h = subst (λ (a : Plane). IsPlane (view_of a)) (sym h.1) was
      put_sound puts.Stored h = stored_sound w roomy (target_down p told w roomy target) h.2 kind
      put_sound puts.Dropped h = ⊎_elim
          (λ (n : (word_in p.board (16 * x + s) ≡ words.Drop) × (q ≡ p)). subst (λ (a : Plane). IsPlane (view_of a)) (sym n.1) was)
          (λ (n : (word_in p.board (16 * x + s) ≢ words.Drop) × plane.IsStored p q (16 * x + s) words.Drop). stored_sound words.Drop tt target_drop n.1 (flat (closes_up p x s lt w roomy told h.1)))
          h.2

      pub put_recorded : AreRecorded p → (answer : Put) → plane.IsPlanePut p q (16 * x + s) w answer → AreRecorded q
      put_recorded all puts.Same h = subst AreRecorded (sym h.1) all
      put_recorded all puts.Stored h = recorded_by p q all (stored_adjacencies w roomy (target_down p told w roomy target) h.2) h.2.records
      put_recorded all puts.Dropped h = ⊎_elim
          (λ (n : (word_in p.board (16 * x + s) ≡ words.Drop) × (q ≡ p)). subst AreRecorded (sym n.1) all)
          (λ (n : (word_in p.board (16 * x + s) ≢ words.Drop) × plane.IsStored p q (16 * x + s) words.Drop). recorded_by p q all (stored_adjacencies words.Drop tt target_drop n.1) n.1.records)
          h.2

      pub put_promise : (answer : Put) → plane.IsPlanePut p q (16 * x + s) w answer → promise_of q.board ≡ promise_of p.board
      put_promise puts.Same h = ap (λ (a : Plane). promise_of a.board) h.1
      put_promise puts.Stored h = ap promise_of h.2.swept.frame
      put_promise puts.Dropped h = ⊎_elim
          (λ (n : (word_in p.board (16 * x + s) ≡ words.Drop) × (q ≡ p)). ap (λ (a : Plane). promise_of a.board) n.1)
          (λ (n : (word_in p.board (16 * x + s) ≢ words.Drop) × plane.IsStored p q (16 * x + s) words.Drop). ap promise_of n.1.swept.frame)
          h.2
