-- Between calls: what is always so of a plane, at its calls.
use Rattle.std.proofs.Common.{arith, ◌≡◌, ◌≢◌, ℕ, zero, suc, ◌+◌, ◌*◌, ◌-◌, ◌<◌, ◌≤◌, inl, inr, ⊎_elim, List, [], length, set, map, Option, Some, None, refl, sym, ◌∙◌, ap, subst, get_or-set_same, get_or-set_other, length-set}
use Rattle.std.specs.Prelude.{IfSome, IfNone}
use Rattle.std.proofs.lemmas.Bool.{cases_eq}
use Rattle.std.proofs.lemmas.List.{length-map}
use Rattle.fib_reach.specs.Walks.{Leads, IsAcyclic}
use Rattle.fib_union.specs.Unions.{Union, owner, Edge, into, left_at_once, Kept}
use Rattle.fib_pool.specs.declared.object.Kind.{Kind}
use Rattle.fib_pool.specs.declared.object.Object.{Object}
use Rattle.fib_pool.specs.Objects.{at, count_in, count_of, with_count, as_new, TookObject, IsLive, IsDying}
use Rattle.fib_core.specs.declared.word.Word.{Word}
use Rattle.fib_core.specs.declared.word.Word.TheVariants as words
use Rattle.fib_core_board.specs.Boards.{Board, HasNoPly, edge_of, word_in, union_of, board_stored, board_begun, board_settled}
use Rattle.fib_core_board.specs.May.{MayStore}
use Rattle.fib_plane.specs.Planes.{IsHeld, IsSwept, counted_more, uncounted}
use Rattle.fib_plane_view.specs.declared.put.Put.{Put}
use Rattle.fib_plane_view.specs.declared.put.Put.TheVariants as puts
use Rattle.fib_plane.specs.Puts.{MayPut, Closes, IsPlanePut, IsStored}
use Rattle.fib_plane.specs.Views.{plane_of}
use Rattle.fib_plane.specs.Sound.{IsCounted}
use Rattle.fib_plane.specs.inner.Joined.{IsJoined, AreDying, IsAtRest}
use Rattle.fib_base_interned.specs.Interned as interned
use Rattle.fib_union.proofs.Stores.{some_none}
use Rattle.fib_core.specs.Words.{IsRoomy}
use Rattle.fib_core.specs.Union.{edge_in}
use Rattle.fib_pool.specs.declared.object.AdjacencyRecord.{AdjacencyRecord}
use Rattle.fib_pool.proofs.Pools.{none_some, at_in, live_at}
use Rattle.fib_core_board.proofs.Serving.{edge_drop}
use Rattle.fib_plane.specs.Planes.{Plane}
use Rattle.fib_plane.specs.Sound.{AreRecords, IsPlane}
use Rattle.fib_resolve.specs.declared.types.Tables.{Tables}
use Rattle.fib_core_board.specs.Told.{IsBoard}
use Rattle.fib_plane.proofs.Holding.{held_stays, free_plies}
use Rattle.fib_plane.proofs.Recording.{records_swept, records_stored}
use Rattle.fib_plane.proofs.Boarding.{word_same, dying_count, at_other, count_same, none_same}
use Rattle.fib_plane.proofs.Storing.{swept_acyclic, owner_is, hold_stored}

module _ (b : Board) (u : Kept) (xs : List (Option Object)) (rows : List (interned.Kept AdjacencyRecord)) (ds : List ℕ) (room : ℕ) (p : IsAtRest b u xs rows ds room) where
  -- a free object is taken
  module _ (o : ℕ) (kind : Kind) (here : o < length xs) (free : at xs o ≡ None) where
    taken_at : at (set xs o (as_new kind)) o ≡ as_new kind
    taken_at = get_or-set_same xs o (as_new kind) None here

    taken_else : (z : ℕ) → z ≢ o → at (set xs o (as_new kind)) z ≡ at xs z
    taken_else z ne = get_or-set_other xs o z (as_new kind) None ne

    counts : (z : ℕ) → IsCounted b (set xs o (as_new kind)) z
    counts z = elim (cases_eq z o) [
      | inl same ↦ (let c : count_of (set xs o (as_new kind)) z ≡ 1 = ap (λ (q : ℕ). count_of (set xs o (as_new kind)) q) same ∙ ap count_in taken_at in
          let e : count_of xs z ≡ 0 = ap (λ (q : ℕ). count_of xs q) same ∙ ap count_in free in
          let l = (p.joined.counted z).least in record { least = omega arith; most = omega arith })
      | inr ne ↦ (let c : count_of (set xs o (as_new kind)) z ≡ count_of xs z = ap count_in (taken_else z ne) in
          let l = (p.joined.counted z).least in let m = (p.joined.counted z).most in record { least = omega arith; most = omega arith })
    ]

    not_root : 0 ≢ o
    not_root e = (let c : count_of xs 0 ≡ 0 = ap (λ (q : ℕ). count_of xs q) e ∙ ap count_in free in let r = p.joined.root in absurd (let bad : ⊥ = omega arith in bad))

    -- a record's object isn't free
    not_free : (z : ℕ) (k : interned.Kept AdjacencyRecord) → interned.kept_of rows z ≡ Some k → z ≢ o
    not_free z k e same = (let a = p.records.adjacencies z k e in absurd (none_some (sym free ∙ (ap (λ (q : ℕ). at xs q) (sym same) ∙ a.taken))))

    taken_records : AreRecords b (set xs o (as_new kind)) rows
    taken_records = record {
      adjacencies = λ z k e. (let a = p.records.adjacencies z k e in record { count = a.count; taken = taken_else z (not_free z k e) ∙ a.taken; live = a.live });
      other = p.records.other;
      held = λ z k e. (let h = p.records.held z k e in let c : count_of (set xs o (as_new kind)) z ≡ count_of xs z = ap count_in (taken_else z (not_free z k e)) in omega arith);
      words = p.records.words;
      ranges = p.records.ranges;
    }

    pub taken_plane : IsAtRest b u (set xs o (as_new kind)) rows ds room
    taken_plane = record {
      joined = record {
        size = length-set xs o (as_new kind) ∙ p.joined.size;
        long = p.joined.long;
        few = p.joined.few;
        workers = p.joined.workers;
        same = p.joined.same;
        left = p.joined.left;
        short = p.joined.short;
        counted = counts;
        root = (let c : count_of (set xs o (as_new kind)) 0 ≡ count_of xs 0 = ap count_in (taken_else 0 not_root) in let r = p.joined.root in omega arith);
        free = λ k e. elim (cases_eq (owner k) o) [
          | inl same ↦ absurd (none_some (sym e ∙ (ap (λ (q : ℕ). at (set xs o (as_new kind)) q) same ∙ taken_at)))
          | inr ne ↦ p.joined.free k (sym (taken_else (owner k) ne) ∙ e)
        ];
      };
      acyclic = p.acyclic;
      none = record {
        there = λ i lt. absurd (let bad : ⊥ = omega arith in bad);
        apart = λ i j lt l. absurd (let bad : ⊥ = omega arith in bad);
        listed = λ z d. elim (cases_eq z o) [
          | inl same ↦ (let c : count_of (set xs o (as_new kind)) z ≡ 1 = ap (λ (q : ℕ). count_of (set xs o (as_new kind)) q) same ∙ ap count_in taken_at in let e = dying_count (set xs o (as_new kind)) z d in absurd (let bad : ⊥ = omega arith in bad))
          | inr ne ↦ p.none.listed z (d.0, sym (taken_else z ne) ∙ d.1)
        ];
      };
      calm = p.calm;
      roomy = p.roomy;
      records = taken_records;
    }

  pub take_plane : (kind : Kind) (r : Option ℕ) (ys : List (Option Object)) → IfSome r (λ o. TookObject xs ys o kind) → IfNone r (ys ≡ xs) → IsAtRest b u ys rows ds room
  take_plane kind None ys m n = subst (λ (l : List (Option Object)). IsAtRest b u l rows ds room) (sym n) p
  take_plane kind (Some o) ys m n = subst (λ (l : List (Option Object)). IsAtRest b u l rows ds room) (sym m.taken) (taken_plane o kind m.inside m.free)

  -- a hold ends
  module _ (o : ℕ) (held : IsHeld b xs o) (ne : o ≡ 0 → ⊥) where
    live : IsLive xs o
    live = (let h = held in omega arith)

    pub let_go_joined : IsJoined b u (with_count xs o (count_of xs o - 1))
    let_go_joined =
        let x = live_at xs o live in
        let n : ℕ = count_of xs o - 1 in
        let same : count_of (with_count xs o n) o ≡ n = count_same xs o n x.0 x.1 in
        record {
          size = length-set xs o _ ∙ p.joined.size;
          long = p.joined.long;
          few = p.joined.few;
          workers = p.joined.workers;
          same = p.joined.same;
          left = p.joined.left;
          short = p.joined.short;
          counted = λ z. elim (cases_eq z o) [
            | inl e ↦ (let c : count_of (with_count xs o n) z ≡ n = ap (λ (q : ℕ). count_of (with_count xs o n) q) e ∙ same in
                let i : into (union_of b) z ≡ into (union_of b) o = ap (λ (q : ℕ). into (union_of b) q) e in
                let m = (p.joined.counted o).most in let h = held in record { least = omega arith; most = omega arith })
            | inr other ↦ (let c : count_of (with_count xs o n) z ≡ count_of xs z = ap count_in (at_other xs o n x.0 x.1 z other) in
                let l = (p.joined.counted z).least in let m = (p.joined.counted z).most in record { least = omega arith; most = omega arith })
          ];
          root = (let c : count_of (with_count xs o n) 0 ≡ count_of xs 0 = ap count_in (at_other xs o n x.0 x.1 0 (λ e. ne (sym e))) in let r = p.joined.root in omega arith);
          free = λ k e. p.joined.free k (none_same xs o n x.0 x.1 (owner k) e);
        }

  pub plane_room : length ds < room
  plane_room = (let e : length ds ≡ 0 = ap (λ (l : List ℕ). length l) p.calm in let r = p.roomy in let s = p.joined.size in let c = at_root in omega arith)
    where
      at_root : 0 < length xs
      at_root = (let r = p.joined.root in let l = live_at xs 0 (let q = p.joined.root in omega arith) in at_in xs 0 l.0 l.1)

-- after a sweep
pub swept_plane : (b c : Board) (v : Kept) (xs ys : List (Option Object)) (rows : List (interned.Kept AdjacencyRecord)) (ds : List ℕ) (room : ℕ) → IsSwept b c xs ys → IsAcyclic (Edge (union_of b)) → IsJoined c v ys → AreDying ys ds → ds ≡ [] → b.objects ≤ room → AreRecords b xs rows
    → IsAtRest c v ys rows ds room
swept_plane b c v xs ys rows ds room s calm joined none empty roomy records = record {
  joined = joined;
  acyclic = swept_acyclic b c xs ys s calm;
  none = subst (λ (l : List ℕ). AreDying ys l) empty none;
  calm = empty;
  roomy = (let e : c.objects ≡ b.objects = ap (λ (q : Board). q.objects) s.frame in omega arith);
  records = records_swept b c xs ys rows s records;
}

-- what a put asks is what its stores ask
module _ (p : Plane) (o s : ℕ) (w : Word) (small : s < 16) (inside : o < p.board.objects) (may : MayPut p (16 * o + s) w) where
  pub may_put : word_in p.board (16 * o + s) ≢ w → ((y : ℕ) → edge_of w ≡ Some y → y < p.board.objects) → (Closes p.board (16 * o + s) w → ⊥) → MayStore p.board (16 * o + s) w
  may_put other target far = record {
    place = record {
      inside = omega arith;
      other = other;
      target = λ y e. (target y e, λ l. far (y, e, l));
      allowed = may.allowed;
    };
    seen = may.seen other far;
    aside = λ is none. may.aside other (inl is) none;
  }

  pub may_drop : word_in p.board (16 * o + s) ≢ w → Closes p.board (16 * o + s) w → word_in p.board (16 * o + s) ≢ words.Drop → MayStore p.board (16 * o + s) words.Drop
  may_drop other closes filled = record {
    place = record {
      inside = omega arith;
      other = filled;
      target = λ y e. absurd (some_none y (sym edge_drop ∙ e));
      allowed = may.allowed;
    };
    seen = λ f. may.dropped closes (f refl);
    aside = λ is none. may.aside other (inr closes) none;
  }

  -- a word that may be put is one of a cell
  pub put_roomy : IsRoomy w
  put_roomy = may.roomy

module _ (b : Board) (u : Kept) (xs : List (Option Object)) (h : IsJoined b u xs) where
  pub live_in : (y : ℕ) → IsLive xs y → y < b.objects
  live_in y live = (let x = live_at xs y live in let i = at_in xs y x.0 x.1 in let s = h.size in omega arith)

  pub live_edge : (y : ℕ) → IsLive xs y → 16 * y < length u.union.edges
  live_edge y live =
      let i = live_in y live in
      let e : length u.union.edges ≡ length (union_of b).edges = ap (λ (v : Union). length v.edges) h.same in
      let l : length (map edge_in b.union.cells) ≡ length b.union.cells = length-map b.union.cells edge_in in
      let n = h.long in omega arith

  pub closes_here : (o s : ℕ) (w : Word) → s < 16 → ((y : ℕ) × (edge_of w ≡ Some y) × Leads (Edge u.union) y o) → Closes b (16 * o + s) w
  closes_here o s w small q = (q.0, q.1, subst (λ (z : ℕ). Leads (Edge (union_of b)) q.0 z) (sym (owner_is o s small)) (subst (λ (v : Union). Leads (Edge v) q.0 o) h.same q.2))

  pub here_closes : (o s : ℕ) (w : Word) → s < 16 → Closes b (16 * o + s) w → (y : ℕ) × (edge_of w ≡ Some y) × Leads (Edge u.union) y o
  here_closes o s w small q = (q.0, q.1, subst (λ (v : Union). Leads (Edge v) q.0 o) (sym h.same) (subst (λ (z : ℕ). Leads (Edge (union_of b)) q.0 z) (owner_is o s small) q.2))

-- what a plane rests on says nothing of versions, workers that are out and trails
pub moved_rest : (b c : Board) (u : Kept) (xs : List (Option Object)) (rows : List (interned.Kept AdjacencyRecord)) (ds : List ℕ) (room : ℕ)
    → c ≡ record { id = c.id; objects = b.objects; workers = b.workers; union = b.union; log = c.log; out = c.out; rests = c.rests; trails = c.trails; gathered = c.gathered; stored = c.stored; passes = c.passes }
    → IsAtRest b u xs rows ds room → IsAtRest c u xs rows ds room
moved_rest b c u xs rows ds room same p = subst (λ (q : Board). IsAtRest q u xs rows ds room) (sym same) (record {
  joined = record {
    size = p.joined.size;
    long = p.joined.long;
    few = p.joined.few;
    workers = p.joined.workers;
    same = p.joined.same;
    left = p.joined.left;
    short = p.joined.short;
    counted = λ o. record { least = (p.joined.counted o).least; most = (p.joined.counted o).most };
    root = p.joined.root;
    free = p.joined.free;
  };
  acyclic = p.acyclic;
  none = p.none;
  calm = p.calm;
  roomy = p.roomy;
  records = record { adjacencies = p.records.adjacencies; other = p.records.other; held = p.records.held; words = p.records.words; ranges = p.records.ranges };
})

pub begun_rest : (b c : Board) (next : Tables) (u : Kept) (xs : List (Option Object)) (rows : List (interned.Kept AdjacencyRecord)) (ds : List ℕ) (room : ℕ) → c ≡ board_begun b next → IsAtRest b u xs rows ds room → IsAtRest c u xs rows ds room
begun_rest b c next u xs rows ds room is p = subst (λ (q : Board). IsAtRest q u xs rows ds room) (sym is) (moved_rest b (board_begun b next) u xs rows ds room refl p)

pub settled_rest : (b c : Board) (u : Kept) (xs : List (Option Object)) (rows : List (interned.Kept AdjacencyRecord)) (ds : List ℕ) (room : ℕ) → c ≡ board_settled b → IsAtRest b u xs rows ds room → IsAtRest c u xs rows ds room
settled_rest b c u xs rows ds room is p = subst (λ (q : Board). IsAtRest q u xs rows ds room) (sym is) (moved_rest b (board_settled b) u xs rows ds room refl p)

-- what is told of a plane
pub all_told : (b : Board) (u : Kept) (xs : List (Option Object)) (rows : List (interned.Kept AdjacencyRecord)) (ds : List ℕ) (room spare : ℕ) → IsAtRest b u xs rows ds room → IsBoard b → interned.AreInterned rows
    → IsPlane (record { board = b; objects = xs; records = rows; spare = spare })
all_told b u xs rows ds room spare p told kept = record {
  board = told;
  size = p.joined.size;
  counted = p.joined.counted;
  taken = λ o x is. above o x is;
  free = p.joined.free;
  root = p.joined.root;
  acyclic = p.acyclic;
  interned = kept;
  records = p.records;
}
  where
    by_count : (o : ℕ) (x : Object) (n : ℕ) → at xs o ≡ Some x → x.count ≡ n → 0 < n
    by_count o x zero is e = (let d : IsDying xs o = (x.kind, is ∙ ap (λ (n : ℕ). Some (record { kind = x.kind; count = n })) e) in let lt = (p.none.listed o d).1 in absurd (let bad : ⊥ = omega arith in bad))
    by_count o x (suc n) is e = omega arith

    above : (o : ℕ) (x : Object) → at xs o ≡ Some x → 0 < x.count
    above o x is = by_count o x x.count is refl

-- a taken object
pub plies_taken : (b : Board) (u : Kept) (xs ys : List (Option Object)) (kind : Kind) (r : Option ℕ) → IsJoined b u xs → IsBoard b → IfSome r (λ o. TookObject xs ys o kind) → IfSome r (λ o. HasNoPly b o)
plies_taken b u xs ys kind None h told m = tt
plies_taken b u xs ys kind (Some o) h told m = free_plies b u xs h told o m.free

-- a cell that was stored, in an object that is held
pub held_word : (b c : Board) (xs ys : List (Option Object)) (o s : ℕ) (w : Word) → s < 16 → IsSwept (board_stored b (16 * o + s) w) c xs ys → IsHeld (board_stored b (16 * o + s) w) xs o → IsRoomy w → 16 * o + s < length b.union.cells → word_in c (16 * o + s) ≡ w
held_word b c xs ys o s w small swept held roomy room =
    let more : IsHeld c ys o = held_stays (board_stored b (16 * o + s) w) c xs ys swept o held in
    swept.cells (16 * o + s) (subst (λ (q : ℕ). IsLive ys q) (sym (owner_is o s small)) (omega arith)) ∙ word_same b (16 * o + s) w roomy room

-- a store, and what it frees
pub put_rest : (b c : Board) (u v : Kept) (xs ys : List (Option Object)) (rows : List (interned.Kept AdjacencyRecord)) (ds es : List ℕ) (room more : ℕ) (o s : ℕ) (w : Word) → IsAtRest b u xs rows ds room → s < 16 → IsLive xs o → ((y : ℕ) → edge_of w ≡ Some y → IsLive xs y) → interned.kept_of rows o ≡ None
    → IsSwept (board_stored b (16 * o + s) w) c (uncounted (left_at_once (union_of b) (16 * o + s)) (counted_more (edge_of w) xs)) ys
    → IsJoined c v ys → IsAcyclic (Edge (union_of c)) → AreDying ys [] → es ≡ [] → c.objects ≤ more → IsAtRest c v ys rows es more
put_rest b c u v xs ys rows ds es room more o s w p small source target apart swept joined acyclic none empty roomy = record {
  joined = joined;
  acyclic = acyclic;
  none = none;
  calm = empty;
  roomy = roomy;
  records = records_swept (board_stored b (16 * o + s) w) c (uncounted (left_at_once (union_of b) (16 * o + s)) (counted_more (edge_of w) xs)) ys rows swept
      (records_stored b u xs p.joined rows p.records (16 * o + s) w inside (subst (λ (q : ℕ). IsLive xs q) (sym (owner_is o s small)) source) target (subst (λ (q : ℕ). interned.kept_of rows q ≡ None) (sym (owner_is o s small)) apart));
}
  where
    inside : 16 * o + s < 16 * b.objects
    inside = (let i = live_in b u xs p.joined o source in omega arith)

-- a held object holds the word that was put
pub put_word : (b c : Board) (u : Kept) (xs ys : List (Option Object)) (o s : ℕ) (w : Word) → IsJoined b u xs → s < 16 → IsLive xs o → ((y : ℕ) → edge_of w ≡ Some y → IsLive xs y) → IsRoomy w
    → IsSwept (board_stored b (16 * o + s) w) c (uncounted (left_at_once (union_of b) (16 * o + s)) (counted_more (edge_of w) xs)) ys
    → IsHeld b xs o → word_in c (16 * o + s) ≡ w
put_word b c u xs ys o s w h small source target roomy swept held =
    held_word b c (uncounted (left_at_once (union_of b) (16 * o + s)) (counted_more (edge_of w) xs)) ys o s w small swept
    (hold_stored b u xs h (16 * o + s) w here (subst (λ (q : ℕ). IsLive xs q) (sym (owner_is o s small)) source) target o held) roomy here
  where
    here : 16 * o + s < length b.union.cells
    here = (let i = live_in b u xs h o source in let l = h.long in omega arith)

-- a change of a cell, and what it frees
pub change_rest : (b c : Board) (u v : Kept) (xs ys : List (Option Object)) (rows : List (interned.Kept AdjacencyRecord)) (ds es : List ℕ) (room more : ℕ) (o s : ℕ) (w : Word) (answer : Put)
    → IsAtRest b u xs rows ds room → s < 16 → IsLive xs o → ((y : ℕ) → edge_of w ≡ Some y → IsLive xs y) → interned.kept_of rows o ≡ None → word_in b (16 * o + s) ≢ w
    → IsPlanePut (plane_of b u xs []) (plane_of c v ys []) (16 * o + s) w answer
    → IsJoined c v ys → IsAcyclic (Edge (union_of c)) → AreDying ys [] → es ≡ [] → c.objects ≤ more → IsAtRest c v ys rows es more
change_rest b c u v xs ys rows ds es room more o s w puts.Same p small source target apart other put joined acyclic none empty roomy = absurd (other put.0)
change_rest b c u v xs ys rows ds es room more o s w puts.Stored p small source target apart other put joined acyclic none empty roomy =
    put_rest b c u v xs ys rows ds es room more o s w p small source target apart put.2.swept joined acyclic none empty roomy
change_rest b c u v xs ys rows ds es room more o s w puts.Dropped p small source target apart other put joined acyclic none empty roomy = ⊎_elim
    (λ (n : (word_in b (16 * o + s) ≡ words.Drop) × (plane_of c v ys [] ≡ plane_of b u xs [])). record {
      joined = joined;
      acyclic = acyclic;
      none = none;
      calm = empty;
      roomy = roomy;
      records = subst (λ (q : Plane). AreRecords q.board q.objects rows) (sym n.1) p.records;
    })
    (λ (n : (word_in b (16 * o + s) ≢ words.Drop) × IsStored (plane_of b u xs []) (plane_of c v ys []) (16 * o + s) words.Drop).
    put_rest b c u v xs ys rows ds es room more o s words.Drop p small source (λ y e. absurd (some_none y (sym edge_drop ∙ e))) apart n.1.swept joined acyclic none empty roomy)
    put.2

-- what a put does says nothing of the records, which it keeps
module _ (b c : Board) (u v : Kept) (xs ys : List (Option Object)) (rows : List (interned.Kept AdjacencyRecord)) (k : ℕ) where
  abbrev with_rows : Plane → Plane
  with_rows p = record { board = p.board; objects = p.objects; records = rows; spare = p.spare }

  stored_rows : (w : Word) → IsStored (plane_of b u xs []) (plane_of c v ys []) k w → IsStored (plane_of b u xs rows) (plane_of c v ys rows) k w
  stored_rows w s = record { swept = s.swept; records = refl; spare = s.spare; spared = s.spared }

  pub put_rows : (w : Word) (answer : Put) → IsPlanePut (plane_of b u xs []) (plane_of c v ys []) k w answer → IsPlanePut (plane_of b u xs rows) (plane_of c v ys rows) k w answer
  put_rows w puts.Same put = (put.0, ap with_rows put.1)
  put_rows w puts.Stored put = (put.0, put.1, stored_rows w put.2)
  put_rows w puts.Dropped put = (
    put.0,
    put.1,
    ⊎_elim
        (λ (n : (word_in b k ≡ words.Drop) × (plane_of c v ys [] ≡ plane_of b u xs [])). inl (n.0, ap with_rows n.1))
        (λ (n : (word_in b k ≢ words.Drop) × IsStored (plane_of b u xs []) (plane_of c v ys []) k words.Drop). inr (n.0, stored_rows words.Drop n.1))
        put.2,
  )

  pub may_rows : (w : Word) → MayPut (plane_of b u xs rows) k w → MayPut (plane_of b u xs []) k w
  may_rows w may = record { allowed = may.allowed; roomy = may.roomy; seen = may.seen; dropped = may.dropped; aside = may.aside; serves = may.serves }

-- what is told of a plane by its parts
pub told_of : (p : Plane) (b : Board) (u : Kept) (xs : List (Option Object)) (rows : List (interned.Kept AdjacencyRecord)) (ds : List ℕ) (room : ℕ)
    → plane_of b u xs rows ≡ p → IsAtRest b u xs rows ds room → IsBoard b → interned.AreInterned rows → IsPlane p
told_of p b u xs rows ds room is rest told kept = subst IsPlane is (all_told b u xs rows ds room u.spare rest told kept)

-- a plane keeps fewer copies than 32 bits number
pub few_copies : (p : Plane) (b : Board) (u : Kept) (xs : List (Option Object)) (rows : List (interned.Kept AdjacencyRecord))
    → plane_of b u xs rows ≡ p → IsJoined b u xs → length (union_of p.board).retired < 4294967296
few_copies p b u xs rows is joined = subst (λ (q : Plane). length (union_of q.board).retired < 4294967296) is (subst (λ (v : Union). length v.retired < 4294967296) joined.same joined.short)

-- where nothing is taken the plane is as it was
pub none_taken : (p : Plane) (b : Board) (u : Kept) (xs ys : List (Option Object)) (rows : List (interned.Kept AdjacencyRecord)) (r : Option ℕ) → plane_of b u xs rows ≡ p → IfNone r (ys ≡ xs) → IfNone r (plane_of b u ys rows ≡ p)
none_taken p b u xs ys rows None is same = ap (λ (l : List (Option Object)). plane_of b u l rows) same ∙ is
none_taken p b u xs ys rows (Some o) is same = tt
