-- A look at a worker's word, on the plane.
use Rattle.std.proofs.Common.{arith, inl, inr, ◌≡◌, ◌≢◌, ℕ, zero, suc, ◌+◌, ◌-◌, ◌<◌, ◌≤◌, Bool, true, false, cond, eqb, eq-eqb, ne_eqb, List, [], ◌∷◌, ◌++◌, length, get_or, Option, Some, None, refl, sym, ◌∙◌, ap, subst, length-set}
use Rattle.std.specs.Prelude.{Contains, replicate, slice_index, slice_index_or}
use Rattle.std.proofs.lemmas.Bool.{cases_lt}
use Rattle.fib_union.specs.Marks.{is_even}
use Rattle.fib_reach.specs.Walks.{IsAcyclic}
use Rattle.fib_plane.proofs.Sweeping.{swept_none}
use Rattle.std.specs.List.{list_any}
use Rattle.std.proofs.lemmas.Bool.Decides.{Decides-eqb}
use Rattle.std.proofs.lemmas.Map.Keys.{IsDistinct-from_apart}
use Rattle.std.proofs.lemmas.Map.Steps.{length-le_from_distinct_below}
use Rattle.std.proofs.lemmas.Map.Views.{Contains-from_any}
use Rattle.std.proofs.lemmas.List.{append-nil, length-map, length-replicate, length_push, get_or_default, get_or_append_left, get_or_push, get_or-replicate}
use Rattle.std.proofs.lemmas.List.Sums.{sum_by-append, sum_by_push}
use Rattle.fib_union.specs.Unions.{Union, owner, Edge, one, into, scanned, gone_to, Kept}
use Rattle.fib_pool.specs.declared.object.Object.{Object}
use Rattle.fib_pool.specs.Objects.{at, count_of, with_count, IsLive}
use Rattle.fib_core_board.specs.Boards.{Board, union_of, board_scanned, board_scans}
use Rattle.fib_core_board.specs.May.{Allows}
use Rattle.fib_plane.specs.Planes.{with_cells}
use Rattle.fib_plane.specs.Planes.{AreAtRest, IsUncounted, IsSwept, IsPlaneScanned, Plane, left_after}
use Rattle.fib_plane.specs.inner.Joined.{IsJoined, IsLoose, IsDropped, AreDying}
use Rattle.fib_union.specs.Unions.{times}
use Rattle.fib_union.proofs.Scans.{into-scanned, acyclic-scanned}
use Rattle.fib_core.specs.Union.{Retired as Copy, copy_of, scan_retired}
use Rattle.fib_pool.proofs.Pools.{at_in, live_at}
use Rattle.fib_core_board.proofs.Serving.{union_scanned}
use Rattle.fib_plane.proofs.Boarding.{dying_count, none_same, kind_same, count_less}

times-append : (o : ℕ) (xs ys : List ℕ) → times o (xs ++ ys) ≡ times o xs + times o ys
times-append o xs ys = sum_by-append (λ (x : ℕ). cond (eqb x o) 1 0) xs ys

-- between calls nothing is loose
pub joined_loose : (b : Board) (u : Kept) (xs : List (Option Object)) → IsJoined b u xs → IsLoose b u xs
joined_loose b u xs h =
    let none : (o : ℕ) → times o u.left ≡ 0 = λ o. ap (times o) h.left in
    record {
      size = h.size;
      long = h.long;
      few = h.few;
      workers = h.workers;
      same = h.same;
      least = λ o. (let z = none o in let l = (h.counted o).least in omega arith);
      most = λ o. (let z = none o in let m = (h.counted o).most in omega arith);
      root = (let z = none 0 in let r = h.root in omega arith);
      free = h.free;
    }

pub loose_joined : (b : Board) (u : Kept) (xs : List (Option Object)) → IsLoose b u xs → u.left ≡ [] → length u.union.retired < 4294967296 → IsJoined b u xs
loose_joined b u xs h left short =
    let none : (o : ℕ) → times o u.left ≡ 0 = λ o. ap (times o) left in
    record {
      size = h.size;
      long = h.long;
      few = h.few;
      workers = h.workers;
      same = h.same;
      left = left;
      short = short;
      counted = λ o. (let z = none o in let l = h.least o in let m = h.most o in record { least = omega arith; most = omega arith });
      root = (let z = none 0 in let r = h.root in omega arith);
      free = h.free;
    }

-- a look
pub look_loose : (b c : Board) (u v : Kept) (xs : List (Option Object)) (n w : ℕ) → IsLoose b u xs → c ≡ board_scanned n w b → v.union ≡ scanned n w u.union → v.left ≡ u.left ++ gone_to n w u.union → v.workers ≡ u.workers → IsLoose c v xs
look_loose b c u v xs n w h is union left workers = subst (λ (q : Board). IsLoose q v xs) (sym is) (
    let here : union_of (board_scanned n w b) ≡ scanned n w (union_of b) = union_scanned b n w in
    let counts : (o : ℕ) → into (union_of (board_scanned n w b)) o + times o v.left ≡ into (union_of b) o + times o u.left =
    (λ o. (let a = into-scanned o (union_of b) n w in let e : into (union_of (board_scanned n w b)) o ≡ into (scanned n w (union_of b)) o = ap (λ (q : Union). into q o) here in
    let g : times o v.left ≡ times o u.left + times o (gone_to n w (union_of b)) = ap (times o) left ∙ (times-append o u.left (gone_to n w u.union) ∙ ap (λ (q : Union). times o u.left + times o (gone_to n w q)) h.same) in omega arith)) in
    record {
      size = h.size;
      long = h.long;
      few = h.few;
      workers = workers ∙ h.workers;
      same = union ∙ (ap (λ (q : Union). scanned n w q) h.same ∙ sym here);
      least = λ o. (let k = counts o in let l = h.least o in omega arith);
      most = λ o. (let k = counts o in let m = h.most o in omega arith);
      root = (let k = counts 0 in let r = h.root in omega arith);
      free = h.free;
    })

-- an edge that left is counted no more
module _ (b : Board) (u v : Kept) (xs : List (Option Object)) (y : ℕ) (h : IsLoose b u xs) (left : u.left ≡ v.left ++ y ∷ []) where
  counted_there : (o : ℕ) → times o u.left ≡ times o v.left + one o (Some y)
  counted_there o = ap (times o) left ∙ sum_by_push (λ (x : ℕ). cond (eqb x o) 1 0) v.left y

  pub left_live : IsLive xs y
  left_live = (let c = counted_there y in let l = h.least y in let s : ◌≡◌ {A = ℕ} (one y (Some y)) 1 = ap (λ (t : Bool). cond t 1 0) (eq-eqb y y refl) in omega arith)

  pub left_loose : v.union ≡ u.union → v.workers ≡ u.workers → IsLoose b v (with_count xs y (count_of xs y - 1))
  left_loose union workers =
      let x = live_at xs y left_live in
      let l = left_live in
      let less : (z : ℕ) → count_of (with_count xs y (count_of xs y - 1)) z + one z (Some y) ≡ count_of xs z = λ z. count_less xs y (count_of xs y - 1) x.0 x.1 z (omega arith) in
      record {
        size = length-set xs y _ ∙ h.size;
        long = h.long;
        few = h.few;
        workers = workers ∙ h.workers;
        same = union ∙ h.same;
        least = λ o. (let c = counted_there o in let k = less o in let m = h.least o in omega arith);
        most = λ o. (let c = counted_there o in let k = less o in let m = h.most o in omega arith);
        root = (let c = counted_there 0 in let k = less 0 in let m = h.root in omega arith);
        free = λ k e. h.free k (none_same xs y (count_of xs y - 1) x.0 x.1 (owner k) e);
      }

pub scans_workers : (n : ℕ) (ws : List ℕ) (b : Board) → (board_scans n ws b).workers ≡ b.workers
scans_workers n [] b = refl
scans_workers n (w ∷ ws) b = scans_workers (n + 1) ws (board_scanned n w b)

pub scans_push : (n : ℕ) (ws : List ℕ) (w : ℕ) (b : Board) → board_scans n (ws ++ w ∷ []) b ≡ board_scanned (n + length ws) w (board_scans n ws b)
scans_push n [] w b = (let e : n ≡ n + 0 = omega arith in ap (λ (m : ℕ). board_scanned m w b) e)
scans_push n (v ∷ ws) w b = (let e : (n + 1) + length ws ≡ n + suc (length ws) = omega arith in scans_push (n + 1) ws w (board_scanned n v b) ∙ ap (λ (m : ℕ). board_scanned m w (board_scans (n + 1) ws (board_scanned n v b))) e)

pub scans_more : (ws : List ℕ) (w worker : ℕ) (b m c : Board) → length ws ≡ worker → m ≡ board_scans 0 ws b → c ≡ board_scanned worker w m → c ≡ board_scans 0 (ws ++ w ∷ []) b
scans_more ws w worker b m c len is e = e ∙ (ap (λ (q : Board). board_scanned worker w q) is ∙ (ap (λ (k : ℕ). board_scanned k w (board_scans 0 ws b)) (let z : worker ≡ 0 + length ws = omega arith in z) ∙ sym (scans_push 0 ws w b)))

-- a look changes nothing of who is out
pub scans_out : (n : ℕ) (ws : List ℕ) (b : Board) (worker : ℕ) → slice_index_or (board_scans n ws b).out worker false ≡ slice_index_or b.out worker false
scans_out n [] b worker = refl
scans_out n (w ∷ ws) b worker = scans_out (n + 1) ws (board_scanned n w b) worker

pub rests_more : (b : Board) (ws : List ℕ) (w : ℕ) → (slice_index_or b.out (length ws) false ≡ false → is_even w ≡ true) → AreAtRest b ws → AreAtRest b (ws ++ w ∷ [])
rests_more b ws w even rests n lt home = elim (cases_lt n (length ws)) [
  | inl old ↦ ap is_even (get_or_append_left ws (w ∷ []) 0 n old) ∙ rests n old home
  | inr ge ↦ (let l = length_push ws w in
      let is : n ≡ length ws = omega arith in
      ap is_even (get_or_push ws w 0 n (sym is)) ∙ even (subst (λ (i : ℕ). slice_index_or b.out i false ≡ false) is home))
]

-- how a look moves the counts
pub look_counts : (b c : Board) (u v : Kept) (n w o : ℕ) → u.union ≡ union_of b → c ≡ board_scanned n w b → v.left ≡ u.left ++ gone_to n w u.union → into (union_of c) o + times o v.left ≡ into (union_of b) o + times o u.left
look_counts b c u v n w o same is left =
    let a = into-scanned o (union_of b) n w in
    let e : into (union_of c) o ≡ into (scanned n w (union_of b)) o = ap (λ (q : Board). into (union_of q) o) is ∙ ap (λ (q : Union). into q o) (union_scanned b n w) in
    let g : times o v.left ≡ times o u.left + times o (gone_to n w (union_of b)) = ap (times o) left ∙ (times-append o u.left (gone_to n w u.union) ∙ ap (λ (q : Union). times o u.left + times o (gone_to n w q)) same) in
    omega arith

-- some of what left was counted no more
pub record LeftSoFar (all rest : List ℕ) (xs ys : List (Option Object)) : Type 0 where
  pub size : length ys ≡ length xs
  pub counts : (o : ℕ) → count_of ys o + times o all ≡ count_of xs o + times o rest
  pub none : (o : ℕ) → at ys o ≡ None → at xs o ≡ None
  pub kinds : (o : ℕ) (y : Object) → at ys o ≡ Some y → (x : Object) × (at xs o ≡ Some x) × (x.kind ≡ y.kind)

pub nothing_left : (all : List ℕ) (xs : List (Option Object)) → LeftSoFar all all xs xs
nothing_left all xs = record { size = refl; counts = λ o. refl; none = λ o e. e; kinds = λ o y e. (y, e, refl) }

pub one_left : (all rest less : List ℕ) (xs ys : List (Option Object)) (y : ℕ) → LeftSoFar all rest xs ys → rest ≡ less ++ y ∷ [] → IsLive ys y → LeftSoFar all less xs (with_count ys y (count_of ys y - 1))
one_left all rest less xs ys y s e live =
    let x = live_at ys y live in
    record {
      size = length-set ys y _ ∙ s.size;
      counts = λ o. (let a = s.counts o in let t : times o rest ≡ times o less + one o (Some y) = ap (times o) e ∙ sum_by_push (λ (z : ℕ). cond (eqb z o) 1 0) less y in let k = count_less ys y (count_of ys y - 1) x.0 x.1 o (let l = live in omega arith) in omega arith);
      none = λ o q. s.none o (none_same ys y (count_of ys y - 1) x.0 x.1 o q);
      kinds = λ o v q. (let w = kind_same ys y (count_of ys y - 1) x.0 x.1 o v q in let z = s.kinds o w.0 w.1 in (z.0, z.1, z.2 ∙ w.2));
    }

-- the root is none of them, so the list has room for one more
pub dying_less : (xs : List (Option Object)) (ds : List ℕ) → AreDying xs ds → IsLive xs 0 → length ds < length xs
dying_less xs ds h root =
    let x = live_at xs 0 root in
    let front : (i : ℕ) → i < length ds → slice_index ds i ≢ 0 = (λ i lt e. (let d = dying_count xs (slice_index ds i) (h.there i lt) in let q : count_of xs (slice_index ds i) ≡ count_of xs 0 = ap (λ (p : ℕ). count_of xs p) e in absurd (let bad : ⊥ = omega arith in bad))) in
    let n : length (0 ∷ ds) ≤ length xs = length-le_from_distinct_below (0 ∷ ds) (length xs) (IsDistinct-from_apart eqb (0 ∷ ds) (apart front)) (below x) in
    omega arith
  where
    apart : ((i : ℕ) → i < length ds → slice_index ds i ≢ 0) → (i j d : ℕ) → i < j → j < length (0 ∷ ds) → eqb (get_or (0 ∷ ds) i d) (get_or (0 ∷ ds) j d) ≡ false
    apart front i zero d lt l = absurd (let bad : ⊥ = omega arith in bad)
    apart front zero (suc j) d lt l = ne_eqb 0 (get_or ds j d) (λ e. front j (omega arith) (get_or_default ds j 0 d (omega arith) ∙ sym e))
    apart front (suc i) (suc j) d lt l = ne_eqb (get_or ds i d) (get_or ds j d) (λ e. h.apart i j (omega arith) (omega arith) (get_or_default ds i 0 d (omega arith) ∙ (e ∙ get_or_default ds j d 0 (omega arith))))

    below : (x : Object) × (at xs 0 ≡ Some x) → (q : ℕ) → list_any (eqb q) (0 ∷ ds) ≡ true → q < length xs
    below x q c = (let p = Contains-from_any (λ a b. (Decides-eqb a b).0) q (0 ∷ ds) c in by_place p)
      where
        by_place : Contains (0 ∷ ds) q → q < length xs
        by_place (zero, lt, e) = subst (λ (m : ℕ). m < length xs) e (at_in xs 0 x.0 x.1)
        by_place (suc i, lt, e) = (let d = h.there i (omega arith) in let f : slice_index ds i ≡ q = get_or_default ds i 0 q (omega arith) ∙ e in subst (λ (m : ℕ). m < length xs) f (at_in xs (slice_index ds i) _ d.1))

pub all_left : (all rest : List ℕ) (xs ys : List (Option Object)) → LeftSoFar all rest xs ys → rest ≡ [] → IsDropped all xs ys
all_left all rest xs ys s e = record { size = s.size; counts = λ o. (let a = s.counts o in let z : times o rest ≡ 0 = ap (times o) e in omega arith); none = s.none; kinds = s.kinds }

pub nothing_more : (rest new : List ℕ) → rest ≡ [] → rest ≡ new ++ [] → new ≡ []
nothing_more rest new e f = sym (append-nil new) ∙ (sym f ∙ e)

-- a look takes edges away

pub scans_acyclic : (n : ℕ) (ws : List ℕ) (b : Board) → IsAcyclic (Edge (union_of b)) → IsAcyclic (Edge (union_of (board_scans n ws b)))
scans_acyclic n [] b calm = calm
scans_acyclic n (w ∷ ws) b calm = scans_acyclic (n + 1) ws (board_scanned n w b) (subst (λ (u : Union). IsAcyclic (Edge u)) (sym (union_scanned b n w)) (acyclic-scanned (union_of b) n w calm))

pub scans_allows : (n : ℕ) (ws : List ℕ) (b : Board) → Allows b → Allows (board_scans n ws b)
scans_allows n [] b a = a
scans_allows n (w ∷ ws) b a = scans_allows (n + 1) ws (board_scanned n w b) a

pub scans_objects : (n : ℕ) (ws : List ℕ) (b : Board) → (board_scans n ws b).objects ≡ b.objects
scans_objects n [] b = refl
scans_objects n (w ∷ ws) b = scans_objects (n + 1) ws (board_scanned n w b)

scanned_none : (n w : ℕ) (b : Board) → b.union.retired ≡ [] → board_scanned n w b ≡ b
scanned_none n w b e =
    ap (λ (rs : List Copy). with_cells b b.union.cells (scan_retired n w rs) b.stored) e
    ∙ ap (λ (rs : List Copy). with_cells b b.union.cells rs b.stored) (sym e)

pub scans_none : (n : ℕ) (ws : List ℕ) (b : Board) → b.union.retired ≡ [] → board_scans n ws b ≡ b
scans_none n [] b e = refl
scans_none n (w ∷ ws) b e = ap (λ (q : Board). board_scans (n + 1) ws q) (scanned_none n w b e) ∙ scans_none (n + 1) ws b e

pub dropped_uncounted : (b m : Board) (left all : List ℕ) (xs ys : List (Option Object)) → left ≡ [] → IsDropped all xs ys → ((o : ℕ) → into (union_of m) o + times o all ≡ into (union_of b) o + times o left) → IsUncounted b m xs ys
dropped_uncounted b m left all xs ys none d looks = record {
  size = d.size;
  counts = λ o. (let a = d.counts o in let l = looks o in let z : times o left ≡ 0 = ap (times o) none in omega arith);
  none = d.none;
  kinds = d.kinds;
}

-- how many copies there are
pub copies_are : (b : Board) (u : Kept) → u.union ≡ union_of b → length u.union.retired ≡ length b.union.retired
copies_are b u same = ap (λ (v : Union). length v.retired) same ∙ length-map b.union.retired copy_of

pub no_copies : {A : Type 0} (xs : List A) (n : ℕ) → n ≡ 0 → n ≡ length xs → xs ≡ []
no_copies [] n e f = refl
no_copies (x ∷ xs) n e f = absurd (let bad : ⊥ = omega arith in bad)

-- where nothing is retired, a scan changes nothing
pub scanned_nothing : (p : Plane) → p.board.union.retired ≡ [] → IsPlaneScanned p p
scanned_nothing p e =
    let ws : List ℕ = replicate p.board.workers 0 in
    let same : board_scans 0 ws p.board ≡ p.board = scans_none 0 ws p.board e in
    record {
      words = ws;
      each = length-replicate p.board.workers 0;
      rests = λ n lt home. ap is_even (get_or-replicate p.board.workers n 0 0 (let l : length (replicate {A = ℕ} p.board.workers 0) ≡ p.board.workers = length-replicate p.board.workers 0 in omega (arith, lt, l)));
      copies = e ∙ sym (ap (λ (rs : List Copy). left_after 0 ws rs) e);
      mid = p.objects;
      counted = subst (λ (q : Board). IsUncounted p.board q p.objects p.objects) (sym same) (record { size = refl; counts = λ o. refl; none = λ o q. q; kinds = λ o y q. (y, q, refl) });
      swept = subst (λ (q : Board). IsSwept q p.board p.objects p.objects) (sym same) (swept_none p.board p.objects);
      records = refl;
      spare = omega arith;
    }
