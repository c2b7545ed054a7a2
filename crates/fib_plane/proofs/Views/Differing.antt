-- Of a plane's calls: as many stores as cells that differ, and where these may be.
use Rattle.std.proofs.Common.{arith, ◌≡◌, ◌≢◌, ◌⊎◌, ℕ, zero, suc, ◌+◌, ◌*◌, ◌<◌, ◌≤◌, inl, inr, ⊎_elim, Bool, true, false, List, [], ◌∷◌, length, Option, Some, None, refl, sym, ◌∙◌, ap, subst}
use Rattle.std.specs.Prelude.{slice_index, IfNone, IfOk, IfSome, OnErr, Result, Ok, Err}
use Rattle.std.specs.declared.alloc.AllocError.{AllocError}
use Rattle.std.proofs.lemmas.Bool.{true≢false, cases_eq, cases_lt}
use Rattle.std.proofs.lemmas.List.{get_or_past, length-set}
use Rattle.fib_base_list.proofs.Lists.{either}
use Rattle.fib_base_interned.specs.Interned.{Kept, kept_of, users_of}
use Rattle.fib_core.specs.declared.word.Word.{Word}
use Rattle.fib_core.specs.declared.word.Word.TheVariants as words
use Rattle.fib_core.specs.Words.{IsRoomy, decoded, encoded}
use Rattle.fib_core.proofs.Numbers.{owner_of}
use Rattle.fib_pool.specs.declared.object.Object.{Object}
use Rattle.fib_pool.specs.declared.object.AdjacencyRecord.{AdjacencyRecord}
use Rattle.fib_pool.specs.declared.object.Kind.TheVariants as kinds
use Rattle.fib_pool.specs.Objects.{at, count_in}
use Rattle.fib_pool.specs.Objects as pool
use Rattle.fib_core_board.specs.Boards.{Board, board_stored, word_in}
use Rattle.fib_plane.specs.Planes.{Plane, IsSwept, filled, is_word}
use Rattle.fib_plane.specs.Puts as plane
use Rattle.fib_plane.specs.Records as records
use Rattle.fib_plane.specs.Records.{board_filled}
use Rattle.fib_plane.specs.Sound as sound
use Rattle.fib_plane.proofs.Boarding.{word_other, word_same}
use Rattle.fib_plane_view.specs.declared.put.Put.{Put}
use Rattle.fib_plane_view.specs.declared.put.Put.TheVariants as puts
use Rattle.fib_plane_view.specs.View.{View, GaveRecord, IsLive, IsPut}
use Rattle.fib_plane_view.specs.Stores.{Has, IsFreed, StoresEach}
use Rattle.fib_plane_view.proofs.Storing.{stores_none, stores_weaker}
use Rattle.fib_plane.specs.Views.{AreRecorded, cell_in, view_of}
use Rattle.fib_plane.proofs.Views.Storing.{cell_else as stored_else}
use Rattle.fib_plane.proofs.Views.Counting.{has_lost, lost, lost_has, lost_long, lost_once}
use Rattle.fib_plane.proofs.Views.Recorded.{counted_seen}
use Rattle.fib_plane.proofs.Views.Recording.{cell_else, empty, mac_value, none_here, three}
use Rattle.fib_plane.proofs.Views.Seeing.{cell_is, cell_same, live_down}

abbrev is_full : ℕ → Bool
is_full n = is_word (decoded n)

not_full : (w : Word) → is_word w ≡ false → w ≡ words.Drop
not_full words.Drop e = refl
not_full words.Receive e = absurd (true≢false e)
not_full (words.Glean i) e = absurd (true≢false e)
not_full (words.ToPly x) e = absurd (true≢false e)
not_full (words.ToBalance x) e = absurd (true≢false e)
not_full (words.ToAdjacency x) e = absurd (true≢false e)
not_full (words.Plain n) e = absurd (true≢false e)

zero_bare : is_full 0 ≡ false
unfolding decoded
zero_bare = refl

-- what is swept from c on
module _ (c : Board) (q : Plane) (xs : List (Option Object)) (sw : IsSwept c q.board xs q.objects) (long : length q.board.union.cells ≡ length c.union.cells) where
  abbrev gone : List (ℕ × ℕ)
  gone = lost is_full 0 c.union.cells q.board.union.cells

  fewer : (k : ℕ) → is_word (word_in q.board k) ≡ true → is_word (word_in c k) ≡ true
  fewer k full = ⊎_elim
      (λ (same : word_in q.board k ≡ word_in c k). ap is_word (sym same) ∙ full)
      (λ (drop : word_in q.board k ≡ words.Drop). absurd (true≢false (sym full ∙ ap is_word drop)))
      (sw.cleared k)

  gone_stored : q.board.stored ≡ c.stored + length gone
  unfolding filled
  gone_stored = (let l = lost_long is_full 0 c.union.cells q.board.union.cells long (λ k lt full. fewer k full) in let s = sw.stored in omega (arith, l, s))

  gone_has : (y t : ℕ) → Has gone y t → (t < 16) × (is_word (word_in c (16 * y + t)) ≡ true) × (is_word (word_in q.board (16 * y + t)) ≡ false)
  gone_has y t h =
      let r = lost_has is_full 0 c.union.cells q.board.union.cells y t h in
      let k : r.0 ≡ 16 * y + t = omega (arith, r.1) in
      (r.2, ap (λ (i : ℕ). is_word (word_in c i)) (sym k) ∙ r.3, ap (λ (i : ℕ). is_word (word_in q.board i)) (sym k) ∙ r.4)

  has_gone : (y t : ℕ) → t < 16 → word_in c (16 * y + t) ≢ word_in q.board (16 * y + t) → Has gone y t
  has_gone y t few ne =
      let k : ℕ = 16 * y + t in
      let drop : word_in q.board k ≡ words.Drop = ⊎_elim (λ (same : word_in q.board k ≡ word_in c k). absurd (ne (sym same))) (λ (d : word_in q.board k ≡ words.Drop). d) (sw.cleared k) in
      let full : is_word (word_in c k) ≡ true = elim (either (is_word (word_in c k))) [ inl whole ↦ whole | inr bare ↦ absurd (ne (not_full (word_in c k) bare ∙ sym drop)) ] in
      elim (cases_lt k (length c.union.cells)) [
        | inl lt ↦ has_lost is_full 0 c.union.cells q.board.union.cells k y t lt long (omega arith) few full (ap is_word drop)
        | inr past ↦ absurd (true≢false (sym full ∙ ap is_full (get_or_past c.union.cells k 0 past) ∙ zero_bare))
      ]

module _ (p : Plane) (told : sound.IsPlane p) (all : AreRecorded p) (q : Plane) (after : sound.IsPlane q) where
  abbrev u : View
  u = view_of p

  abbrev v : View
  v = view_of q

  -- what isn't Drop is in use
  used : (y t : ℕ) → t < 16 → is_word (word_in p.board (16 * y + t)) ≡ true → IsLive u y
  used y t few full = by_object (at p.objects y) refl
    where
      by_object : (o : Option Object) → at p.objects y ≡ o → IsLive u y
      by_object None none = absurd (true≢false (sym full ∙ ap is_word (told.free (16 * y + t) (ap (at p.objects) (owner_of y t few) ∙ none))))
      by_object (Some o) some = counted_seen p told all y (subst (λ (x : ℕ). 0 < x) (sym (ap count_in some)) (told.taken y o some))

  -- all that is swept was so
  module _ (xs : List (Option Object)) (sw : IsSwept p.board q.board xs q.objects) (long : length q.board.union.cells ≡ length p.board.union.cells) (stays : (y t : ℕ) → IsLive v y → v.cell y t ≡ u.cell y t) where
    pub swept_stores : StoresEach (λ x s. IsFreed u v x) u v
    swept_stores = record {
      cells = gone p.board q xs sw long;
      once = lost_once is_full 0 p.board.union.cells q.board.union.cells;
      each = λ y t h. (let r = gone_has p.board q xs sw long y t h in
          let ne : u.cell y t ≢ v.cell y t = (λ same. true≢false (sym r.1 ∙ ap is_word (sym (cell_is p.board y t r.0) ∙ same ∙ cell_is q.board y t r.0) ∙ r.2)) in
          (ne, (used y t r.0 r.1, λ live. ne (sym (stays y t live)))));
      all = λ y t ne. elim (cases_lt t 16) [
        | inl few ↦ has_gone p.board q xs sw long y t few (λ same. ne (cell_is p.board y t few ∙ same ∙ sym (cell_is q.board y t few)))
        | inr past ↦ absurd (ne (sym (cell_same p.board q.board y t (λ few. absurd (let bad : ⊥ = omega arith in bad)))))
      ];
      stored = gone_stored p.board q xs sw long;
    }

  -- one store, and what it frees
  module _ (x s : ℕ) (lt : s < 16) (z : Word) (other : word_in p.board (16 * x + s) ≢ z) (xs : List (Option Object)) (sw : IsSwept (board_stored p.board (16 * x + s) z) q.board xs q.objects)
      (long : length q.board.union.cells ≡ length p.board.union.cells) (word_c : word_in (board_stored p.board (16 * x + s) z) (16 * x + s) ≡ z) (word_q : word_in q.board (16 * x + s) ≡ z)
      (else : (j : ℕ) → j ≢ 16 * x + s → word_in (board_stored p.board (16 * x + s) z) j ≡ word_in p.board j)
      (stays : (y t : ℕ) → (y ≡ x → t ≡ s → ⊥) → IsLive v y → v.cell y t ≡ u.cell y t) where
    abbrev c : Board
    c = board_stored p.board (16 * x + s) z

    long_c : length q.board.union.cells ≡ length c.union.cells
    long_c = long ∙ sym (length-set p.board.union.cells (16 * x + s) (encoded z))

    not_here : Has (gone c q xs sw long_c) x s → ⊥
    not_here h = let r = gone_has c q xs sw long_c x s h in true≢false (sym r.1 ∙ ap is_word (word_c ∙ sym word_q) ∙ r.2)

    elsewhere : (y t : ℕ) → t < 16 → (y ≡ x → t ≡ s → ⊥) → 16 * y + t ≢ 16 * x + s
    elsewhere y t few ne same = ne (omega arith) (omega arith)

    apart : (y t : ℕ) → Has (gone c q xs sw long_c) y t → y ≡ x → t ≡ s → ⊥
    apart y t h e f = not_here (subst (λ (i : ℕ). Has (gone c q xs sw long_c) i s) e (subst (λ (i : ℕ). Has (gone c q xs sw long_c) y i) f h))

    pub store_stores : StoresEach (λ y t. ((y ≡ x) × (t ≡ s)) ⊎ IsFreed u v y) u v
    store_stores = record {
      cells = (x, s) ∷ gone c q xs sw long_c;
      once = (not_here, lost_once is_full 0 c.union.cells q.board.union.cells);
      each = each;
      all = λ y t ne. elim (cases_lt t 16) [
        | inl few ↦ elim (cases_eq (16 * y + t) (16 * x + s)) [
          | inl same ↦ inl (omega (arith, same, few, lt), omega (arith, same, few, lt))
          | inr away ↦ inr (has_gone c q xs sw long_c y t few (λ same. ne (cell_is p.board y t few ∙ sym (else (16 * y + t) away) ∙ same ∙ sym (cell_is q.board y t few))))
        ]
        | inr past ↦ absurd (ne (sym (cell_same p.board q.board y t (λ few. absurd (let bad : ⊥ = omega arith in bad)))))
      ];
      stored = (let g = gone_stored c q xs sw long_c in omega (arith, g));
    }
      where
        each : (y t : ℕ) → Has ((x, s) ∷ gone c q xs sw long_c) y t → (u.cell y t ≢ v.cell y t) × (((y ≡ x) × (t ≡ s)) ⊎ IsFreed u v y)
        each y t (inl e) =
            let is : 16 * y + t ≡ 16 * x + s = omega (arith, e.0, e.1) in
            let few : t < 16 = omega (arith, e.1, lt) in
            (λ same. other (ap (word_in p.board) (sym is) ∙ sym (cell_is p.board y t few) ∙ same ∙ cell_is q.board y t few ∙ ap (word_in q.board) is ∙ word_q), inl (sym e.0, sym e.1))
        each y t (inr h) =
            let r = gone_has c q xs sw long_c y t h in
            let full : is_word (word_in p.board (16 * y + t)) ≡ true = ap is_word (sym (else (16 * y + t) (elsewhere y t r.0 (apart y t h)))) ∙ r.1 in
            let ne : u.cell y t ≢ v.cell y t = (λ same. true≢false (sym full ∙ ap is_word (sym (cell_is p.board y t r.0) ∙ same ∙ cell_is q.board y t r.0) ∙ r.2)) in
            (ne, inr (used y t r.0 full, λ live. ne (sym (stays y t (apart y t h) live))))

-- a record that loses a user
pub gave_stores : (p : Plane) → sound.IsPlane p → AreRecorded p → (q : Plane) → sound.IsPlane q → (m : AdjacencyRecord) (o : ℕ) → records.GaveRecord p q o → GaveRecord (view_of p) (view_of q) m → StoresEach (λ x s. IsFreed (view_of p) (view_of q) x) (view_of p) (view_of q)
gave_stores p told all q after m o g seen = swept_stores p told all q after (records.given_objects p o) g.swept (let l = told.board.long in let e = after.board.long in let f : q.board.objects ≡ p.board.objects = ap (λ (b : Board). b.objects) g.swept.frame in omega arith) (λ y t live. seen.swept.cells y t live)

-- a put
module _ (p : Plane) (told : sound.IsPlane p) (all : AreRecorded p) (q : Plane) (after : sound.IsPlane q) (x s : ℕ) (lt : s < 16) (here : 16 * x + s < length p.board.union.cells) where
  abbrev P : ℕ → ℕ → Type 0
  P y t = ((y ≡ x) × (t ≡ s)) ⊎ IsFreed (view_of p) (view_of q) y

  one : (z : Word) → IsRoomy z → word_in p.board (16 * x + s) ≢ z → plane.IsStored p q (16 * x + s) z → (view_of q).cell x s ≡ z
      → ((y t : ℕ) → (y ≡ x → t ≡ s → ⊥) → IsLive (view_of q) y → (view_of q).cell y t ≡ (view_of p).cell y t) → StoresEach P (view_of p) (view_of q)
  one z fits other st now stays = store_stores p told all q after x s lt z other (plane.stored_objects p (16 * x + s) z) st.swept
      (let l = told.board.long in let e = after.board.long in let f : q.board.objects ≡ p.board.objects = ap (λ (b : Board). b.objects) st.swept.frame in omega arith)
      (word_same p.board (16 * x + s) z fits here) (sym (cell_is q.board x s lt) ∙ now) (λ j ne. word_other p.board (16 * x + s) j z ne) stays

  nothing : q ≡ p → StoresEach P (view_of p) (view_of q)
  nothing same = stores_none P (view_of p) (view_of q) (λ y t. ap (λ (a : Plane). (view_of a).cell y t) same) (ap (λ (a : Plane). a.board.stored) same)

  pub put_stores : (w : Word) → IsRoomy w → (a : Put) → plane.IsPlanePut p q (16 * x + s) w a → IsPut (view_of p) (view_of q) x s w a → StoresEach P (view_of p) (view_of q)
  put_stores w fits puts.Same h seen = nothing h.1
  put_stores w fits puts.Stored h seen = one w fits h.0 h.2 seen.answered.1 seen.others
  put_stores w fits puts.Dropped h seen = ⊎_elim
      (λ (n : (word_in p.board (16 * x + s) ≡ words.Drop) × (q ≡ p)). nothing n.1)
      (λ (n : (word_in p.board (16 * x + s) ≢ words.Drop) × plane.IsStored p q (16 * x + s) words.Drop). one words.Drop tt n.0 n.1 seen.answered.1 seen.others)
      h.2

-- a word that was laid into an empty cell: no other cell was stored
pub laid_stores : (p : Plane) → sound.IsPlane p → AreRecorded p → (q : Plane) → sound.IsPlane q → (x s : ℕ) → s < 16 → 16 * x + s < length p.board.union.cells → (w : Word) → IsRoomy w
    → plane.IsPlanePut p q (16 * x + s) w puts.Stored → IsPut (view_of p) (view_of q) x s w puts.Stored → q.board ≡ board_stored p.board (16 * x + s) w
    → StoresEach (λ y t. (y ≡ x) × (t ≡ s)) (view_of p) (view_of q)
laid_stores p told all q after x s lt here w fits h seen is = stores_weaker (λ y t. ((y ≡ x) × (t ≡ s)) ⊎ IsFreed (view_of p) (view_of q) y) (λ y t. (y ≡ x) × (t ≡ s)) (view_of p) (view_of q) one_cell
    (put_stores p told all q after x s lt here w fits puts.Stored h seen)
  where
    same : (y t : ℕ) → (y ≡ x → t ≡ s → ⊥) → (view_of q).cell y t ≡ (view_of p).cell y t
    same y t ne = ap (λ (b : Board). cell_in b y t) is ∙ stored_else p x s lt here w fits y t ne

    one_cell : (y t : ℕ) → (view_of p).cell y t ≢ (view_of q).cell y t → ((y ≡ x) × (t ≡ s)) ⊎ IsFreed (view_of p) (view_of q) y → (y ≡ x) × (t ≡ s)
    one_cell y t ne (inl e) = e
    one_cell y t ne (inr freed) = elim (cases_eq y x) [
      | inl a ↦ elim (cases_eq t s) [ inl b ↦ (a, b) | inr other ↦ absurd (ne (sym (same y t (λ e f. other f)))) ]
      | inr other ↦ absurd (ne (sym (same y t (λ e f. other e))))
    ]

-- a record that gets a user: only a new one stores, into three cells of an object that wasn't in use
plain_full : (n : ℕ) → words.Plain n ≡ words.Drop → ⊥
plain_full n e = cc

record_full : (r : AdjacencyRecord) → sound.IsInRange r → (t : ℕ) → t < 3 → sound.record_word r t ≡ words.Drop → ⊥
record_full r range zero lt e = plain_full r.interface e
record_full r range (suc zero) lt e = plain_full r.next_hop e
record_full r range (suc (suc zero)) lt e = (let m = mac_value r.mac range.mac in plain_full m.0 (sym m.2 ∙ e))
record_full r range (suc (suc (suc t))) lt e = omega (arith, lt)

record_empty : (r : AdjacencyRecord) (t : ℕ) → 3 ≤ t → sound.record_word r t ≡ words.Drop
record_empty r zero le = absurd (omega (arith, le))
record_empty r (suc zero) le = absurd (omega (arith, le))
record_empty r (suc (suc zero)) le = absurd (omega (arith, le))
record_empty r (suc (suc (suc t))) le = refl

module _ (p q : Plane) (told : sound.IsPlane p) (after : sound.IsPlane q) (r : AdjacencyRecord) (x : ℕ) (took : records.TookRecord p q r x) (Is : ℕ → Type 0) (is : Is x) where
  abbrev New : ℕ → ℕ → Type 0
  New y t = Is y × (IsLive (view_of p) y → ⊥)

  module _ (taken : pool.TookObject p.objects q.objects x kinds.Adjacency) (full : q.board ≡ board_filled p.board x r) where
    word_now : (t : ℕ) → t < 16 → (view_of q).cell x t ≡ sound.record_word r t
    word_now t lt = cell_is q.board x t lt ∙ after.records.words x t (record { id = x; content = r; users = users_of p.records x + 1 }) took.takes.taken lt

    word_before : (t : ℕ) → t < 16 → (view_of p).cell x t ≡ words.Drop
    word_before t lt = cell_is p.board x t lt ∙ empty p q told after r x took taken full t lt

    unused : IsLive (view_of p) x → ⊥
    unused live = (let some = live_down p told x live in let none = none_here p q told after r x took taken full in omega (arith, some, none))

    differs : (t : ℕ) → t < 3 → (view_of p).cell x t ≢ (view_of q).cell x t
    differs t lt same = record_full r (after.records.ranges x (record { id = x; content = r; users = users_of p.records x + 1 }) took.takes.taken) t lt (sym (word_now t (omega (arith, lt))) ∙ sym same ∙ word_before t (omega (arith, lt)))

    here : (y t n : ℕ) → n < 3 → (x ≡ y) × (n ≡ t) → ((view_of p).cell y t ≢ (view_of q).cell y t) × New y t
    here y t n lt e =
        subst (λ (i : ℕ). ((view_of p).cell i t ≢ (view_of q).cell i t) × New i t) e.0
        (subst (λ (i : ℕ). ((view_of p).cell x i ≢ (view_of q).cell x i) × New x i) e.1 (differs n lt, (is, unused)))

    fresh_stores : StoresEach New (view_of p) (view_of q)
    fresh_stores = record {
      cells = (x, 0) ∷ (x, 1) ∷ (x, 2) ∷ [];
      once = (
        λ h. ⊎_elim (λ (e : (x ≡ x) × (1 ≡ 0)). omega (arith, e.1)) (λ (k : ((x ≡ x) × (2 ≡ 0)) ⊎ ⊥). ⊎_elim (λ (e : (x ≡ x) × (2 ≡ 0)). omega (arith, e.1)) (λ (b : ⊥). b) k) h,
        (λ h. ⊎_elim (λ (e : (x ≡ x) × (2 ≡ 1)). omega (arith, e.1)) (λ (b : ⊥). b) h, (λ h. h, tt)),
      );
      each = λ y t h. ⊎_elim (λ (e : (x ≡ y) × (0 ≡ t)). here y t 0 (omega arith) e)
          (λ (k : ((x ≡ y) × (1 ≡ t)) ⊎ (((x ≡ y) × (2 ≡ t)) ⊎ ⊥)). ⊎_elim (λ (e : (x ≡ y) × (1 ≡ t)). here y t 1 (omega arith) e)
          (λ (j : ((x ≡ y) × (2 ≡ t)) ⊎ ⊥). ⊎_elim (λ (e : (x ≡ y) × (2 ≡ t)). here y t 2 (omega arith) e) (λ (b : ⊥). absurd b) j) k) h;
      all = λ y t ne. elim (cases_eq y x) [
        | inl same ↦ elim (cases_lt t 3) [
          | inl few ↦ three_of y t (sym same) few
          | inr more ↦ absurd (ne (subst (λ (i : ℕ). (view_of p).cell i t ≡ (view_of q).cell i t) (sym same) (elim (cases_lt t 16) [
            | inl lt ↦ word_before t lt ∙ sym (word_now t lt ∙ record_empty r t more)
            | inr past ↦ sym (cell_same p.board q.board x t (λ lt. absurd (let bad : ⊥ = omega arith in bad)))
          ])))
        ]
        | inr away ↦ absurd (ne (sym (cell_else p q told after r x took taken full y t away)))
      ];
      stored = (let n = three p q told after r x took taken full in omega (arith, n));
    }
      where
        three_of : (y t : ℕ) → x ≡ y → t < 3 → Has ((x, 0) ∷ (x, 1) ∷ (x, 2) ∷ []) y t
        three_of y zero e lt = inl (e, refl)
        three_of y (suc zero) e lt = inr (inl (e, refl))
        three_of y (suc (suc zero)) e lt = inr (inr (inl (e, refl)))
        three_of y (suc (suc (suc t))) e lt = absurd (omega (arith, lt))

  pub took_stores : StoresEach New (view_of p) (view_of q)
  took_stores = by_row (kept_of p.records x) refl
    where
      by_row : (e : Option (Kept AdjacencyRecord)) → kept_of p.records x ≡ e → StoresEach New (view_of p) (view_of q)
      by_row None none = (let f = took.fresh none in fresh_stores f.0 f.1)
      by_row (Some k) some = (let s = took.shared k some in stores_none New (view_of p) (view_of q) (λ y t. ap (λ (b : Board). cell_in b y t) s.0) (ap (λ (b : Board). b.stored) s.0))

pub one_stores : (p q : Plane) → sound.IsPlane p → sound.IsPlane q → (r : AdjacencyRecord) (a : Result (Option ℕ) AllocError) → IfOk a (λ o. IfSome o (λ x. records.TookRecord p q r x)) → IfOk a (λ o. IfNone o (q ≡ p)) → OnErr a (q ≡ p)
    → StoresEach (λ x s. (a ≡ Ok (Some x)) × (IsLive (view_of p) x → ⊥)) (view_of p) (view_of q)
one_stores p q told after r (Ok (Some x)) took same err = took_stores p q told after r x took (λ y. Ok (Some x) ≡ Ok (Some y)) refl
one_stores p q told after r (Ok None) took same err = stores_none _ (view_of p) (view_of q) (λ y t. ap (λ (a : Plane). (view_of a).cell y t) same) (ap (λ (a : Plane). a.board.stored) same)
one_stores p q told after r (Err e) took same err = stores_none _ (view_of p) (view_of q) (λ y t. ap (λ (a : Plane). (view_of a).cell y t) err) (ap (λ (a : Plane). a.board.stored) err)
