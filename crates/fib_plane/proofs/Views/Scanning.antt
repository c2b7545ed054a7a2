-- A scan by the view: copies leave, and what they alone kept in use.
use Rattle.std.proofs.Common.{arith, ◌≡◌, ℕ, zero, suc, ◌+◌, ◌*◌, inl, inr, Bool, true, false, List, [], ◌∷◌, length, map, Option, None, refl, sym, ◌∙◌, ap, subst}
use Rattle.std.specs.Prelude.{Contains}
use Rattle.std.proofs.lemmas.List.{length-map}
use Rattle.fib_union.specs.Marks.{looked, all_passed}
use Rattle.fib_union.specs.Unions.{owner}
use Rattle.fib_core.specs.declared.word.Word.{Word}
use Rattle.fib_core.specs.declared.word.Word.TheVariants as words
use Rattle.fib_core.specs.Union.{Retired as Copy, drop_if, remark, scan_retired}
use Rattle.fib_pool.specs.declared.object.AdjacencyRecord.{AdjacencyRecord}
use Rattle.fib_pool.specs.Objects.{at}
use Rattle.fib_core_board.specs.Boards.{Board, word_in, board_scanned, board_scans}
use Rattle.fib_plane.specs.Planes.{Plane, IsHeld}
use Rattle.fib_plane.specs.Planes as plane
use Rattle.fib_plane.specs.Sound as sound
use Rattle.fib_plane_view.specs.View.{Retired, Goes, IsPlane, IsScanned}
use Rattle.fib_plane.specs.Views.{copy_seen, promise_of, record_in, users_of_record, view_of, AreRecorded}
use Rattle.fib_plane.proofs.Views.Seeing.{held_same}
use Rattle.fib_plane.proofs.Views.Backed.{recorded_by}
use Rattle.fib_plane.proofs.Views.Sweeping.{ply_kept, adjacency_kept, free_kept, sound_swept, swept_seen, swept_held, swept_stores, swept_adjacencies}

-- looks change nothing but the copies, of which some leave
scans_frame : (n : ℕ) (ws : List ℕ) (b : Board) → board_scans n ws b ≡ plane.with_cells b b.union.cells (board_scans n ws b).union.retired b.stored
scans_frame n [] b = refl
scans_frame n (w ∷ ws) b = scans_frame (n + 1) ws (board_scanned n w b)

one_fewer : (b : Bool) (r : Copy) (rs : List Copy) (e : Retired) → Contains (map copy_seen (drop_if b r rs)) e → Contains (map copy_seen (r ∷ rs)) e
one_fewer true r rs e (i, lt, is) = (suc i, (let small = lt in omega arith), is)
one_fewer false r rs e c = c

more_seen : (r q : Copy) (rs qs : List Copy) (e : Retired) → copy_seen r ≡ copy_seen q → (Contains (map copy_seen rs) e → Contains (map copy_seen qs) e) → Contains (map copy_seen (r ∷ rs)) e → Contains (map copy_seen (q ∷ qs)) e
more_seen r q rs qs e same rest (zero, lt, is) = (zero, omega arith, sym same ∙ is)
more_seen r q rs qs e same rest (suc i, lt, is) = (let c = rest (i, (let small = lt in omega arith), is) in (suc c.0, (let l = c.1 in omega arith), c.2))

look_fewer : (n w : ℕ) (rs : List Copy) (e : Retired) → Contains (map copy_seen (scan_retired n w rs)) e → Contains (map copy_seen rs) e
look_fewer n w [] e c = c
look_fewer n w (r ∷ rs) e c = more_seen (remark n w r) r (scan_retired n w rs) rs e refl (look_fewer n w rs e) (one_fewer (all_passed (looked n w r.marks)) (remark n w r) (scan_retired n w rs) e c)

scans_fewer : (n : ℕ) (ws : List ℕ) (b : Board) (e : Retired) → Contains (map copy_seen (board_scans n ws b).union.retired) e → Contains (map copy_seen b.union.retired) e
scans_fewer n [] b e c = c
scans_fewer n (w ∷ ws) b e c = look_fewer n w b.union.retired e (scans_fewer (n + 1) ws (board_scanned n w b) e c)

module _ (p q : Plane) (told : sound.IsPlane p) (after : sound.IsPlane q) (s : plane.IsPlaneScanned p q) where
  abbrev looked_at : Board
  looked_at = board_scans 0 s.words p.board

  abbrev mid : Plane
  mid = record p { board = looked_at; objects = s.mid }

  frame : looked_at ≡ plane.with_cells p.board p.board.union.cells looked_at.union.retired p.board.stored
  frame = scans_frame 0 s.words p.board

  cells_same : looked_at.union.cells ≡ p.board.union.cells
  cells_same = ap (λ (b : Board). b.union.cells) frame

  stored_same : looked_at.stored ≡ p.board.stored
  stored_same = ap (λ (b : Board). b.stored) frame

  objects_same : looked_at.objects ≡ p.board.objects
  objects_same = ap (λ (b : Board). b.objects) frame

  size : length q.objects ≡ length s.mid
  size = (let a = s.counted.size in let b = told.size in let d = after.size in let o = objects_same in let e : q.board.objects ≡ looked_at.objects = ap (λ (x : Board). x.objects) s.swept.frame in omega arith)

  long : length looked_at.union.cells ≡ 16 * length s.mid
  long = (let a = s.counted.size in let b = told.size in let l = told.board.long in let e : length looked_at.union.cells ≡ length p.board.union.cells = ap (λ (cs : List ℕ). length cs) cells_same in omega arith)

  word_same : (k : ℕ) → word_in looked_at k ≡ word_in p.board k
  word_same k = ap (λ (b : Board). word_in b k) frame

  drops : (k : ℕ) → at s.mid (owner k) ≡ None → word_in looked_at k ≡ words.Drop
  drops k e = word_same k ∙ told.free k (s.counted.none (owner k) e)

  cell_eq : (y t : ℕ) → (view_of mid).cell y t ≡ (view_of p).cell y t
  cell_eq y t = ap (λ (b : Board). (view_of (record p { board = b })).cell y t) frame

  goes_back : (y t : ℕ) (w : Word) → Goes (view_of mid) y t w → Goes (view_of p) y t w
  goes_back y t w (inl is) = inl (sym (cell_eq y t) ∙ is)
  goes_back y t w (inr c) = inr (scans_fewer 0 s.words p.board (record { from = y; slot = t; word = w }) c)

  held_mid : (y : ℕ) → (view_of mid).is_held y ≡ (view_of p).is_held y
  held_mid y = (let e = s.counted.counts y in held_same p.board looked_at p.objects s.mid y (λ h. omega arith) (λ h. omega arith) (λ h. adjacency_kept p.objects s.mid s.counted.size s.counted.none s.counted.kinds y))

  held_eq : (y : ℕ) → (view_of q).is_held y ≡ (view_of p).is_held y
  held_eq y = swept_held mid q s.swept after size long drops y ∙ held_mid y

  pub scanned_seen : (left : ℕ) → left ≡ length q.board.union.retired → IsScanned (view_of p) (view_of q) left
  scanned_seen left is =
      let w = swept_seen mid q s.swept after size long drops s.spare in
      let t = swept_stores mid q s.swept after size long drops in
      let f = free_kept p.objects s.mid s.counted.size s.counted.none s.counted.kinds in
      record {
        long = length-map q.board.union.retired copy_seen ∙ sym is;
        fewer = λ e c. scans_fewer 0 s.words p.board e (subst (λ (rs : List Copy). Contains (map copy_seen rs) e) (ap (λ (b : Board). b.union.retired) s.swept.frame) c);
        swept = record {
          cells = λ y t' live. w.cells y t' live ∙ cell_eq y t';
          edges = λ y t' d z l g. goes_back y t' z (w.edges y t' d z l g);
          kinds = λ y live. w.kinds y live ∙ ply_kept p.objects s.mid s.counted.size s.counted.none s.counted.kinds y;
          free = (let a = w.free in omega arith);
          spare = w.spare;
        };
        held = held_eq;
        records = record { record_of = ap record_in s.records; users = ap users_of_record s.records };
        stores = (let a = t.more in let b = t.few in let e = stored_same in record { more = omega arith; few = omega arith });
      }

  pub scanned_sound : IsPlane (view_of p) → IsPlane (view_of q)
  scanned_sound was = sound_swept (view_of p) q after was (scanned_seen (length q.board.union.retired) refl).swept
      (λ y h. sym (held_eq y) ∙ h)
      (λ m x e. ap (λ (f : AdjacencyRecord → Option ℕ). f m) (sym (ap record_in s.records)) ∙ e)

  pub scanned_recorded : AreRecorded p → AreRecorded q
  scanned_recorded all = recorded_by p q all (λ y is h. (
      let d = swept_adjacencies mid q s.swept after size long drops y is h in
      (sym (adjacency_kept p.objects s.mid s.counted.size s.counted.none s.counted.kinds y) ∙ d.0, (let e = s.counted.counts y in omega (arith, e, d.1))))) s.records

  pub scanned_promise : promise_of q.board ≡ promise_of p.board
  scanned_promise = ap promise_of s.swept.frame ∙ ap promise_of frame
