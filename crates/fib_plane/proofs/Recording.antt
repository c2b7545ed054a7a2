-- The objects of adjacency records through stores, sweeps and scans.
use Rattle.std.proofs.Common.{arith, ◌≡◌, ℕ, ◌+◌, ◌*◌, ◌-◌, ◌<◌, List, [], ◌∷◌, length, Option, Some, None, refl, sym, ◌∙◌, ap, subst}
use Rattle.std.proofs.Common.{Bool, true, false, inl, inr}
use Rattle.std.specs.Prelude.{◌==◌, if◌then◌else◌}
use Rattle.std.proofs.lemmas.Bool.{cases_eq}
use Rattle.fib_base_interned.specs.Interned.{Kept, kept_of, users_in, users_of, lowered, Takes, Gives}
use Rattle.fib_union.specs.Unions as edges
use Rattle.fib_union.specs.Unions.{owner, into, left_at_once}
use Rattle.fib_core.specs.declared.word.Word.{Word}
use Rattle.fib_pool.specs.declared.object.Kind.{Kind}
use Rattle.fib_pool.specs.declared.object.Kind.TheVariants as kinds
use Rattle.fib_pool.specs.declared.object.Object.{Object}
use Rattle.fib_pool.specs.declared.object.AdjacencyRecord.{AdjacencyRecord}
use Rattle.fib_pool.specs.Objects.{at, count_in, count_of, with_count, IsLive}
use Rattle.fib_pool.specs.Records.{IsAdjacency, IsKeptAs}
use Rattle.fib_pool.proofs.Pools.{live_at}
use Rattle.fib_core_board.specs.Boards.{Board, word_in, union_of, board_stored, board_scanned, board_scans, edge_of}
use Rattle.fib_plane.specs.Planes.{Plane, IsHeld, IsSwept, IsUncounted, counted_more, uncounted}
use Rattle.fib_plane.specs.Sound.{AreRecords, IsInRange, IsPlane, record_word}
use Rattle.fib_plane.specs.inner.Joined.{IsJoined}
use Rattle.fib_plane.proofs.Boarding.{at_other, kind_same, word_other}
use Rattle.fib_plane.proofs.Holding.{held_stays}
use Rattle.fib_plane.proofs.Storing.{hold_stored, into_after, left_live, less, more, owner_is}

-- what is taken afterwards was taken before as the same kind
abbrev pub KeepsKinds : List (Option Object) → List (Option Object) → Type 0
KeepsKinds xs ys = (o : ℕ) (y : Object) → at ys o ≡ Some y → (x : Object) × (at xs o ≡ Some x) × (x.kind ≡ y.kind)

-- a record needs that kinds and holds stay, and the words of its object
module _ (b c : Board) (xs ys : List (Option Object)) (rows : List (Kept AdjacencyRecord)) (r : AreRecords b xs rows) where
  pub records_kept : KeepsKinds xs ys → ((o : ℕ) → IsHeld b xs o → IsHeld c ys o) → ((o s : ℕ) (k : Kept AdjacencyRecord) → kept_of rows o ≡ Some k → s < 16 → word_in c (16 * o + s) ≡ word_in b (16 * o + s)) → AreRecords c ys rows
  records_kept kinds_stay held words = record {
    adjacencies = adjacency;
    other = r.other;
    held = λ o k e. held o (r.held o k e);
    words = λ o s k e lt. words o s k e lt ∙ r.words o s k e lt;
    ranges = r.ranges;
  }
    where
      adjacency : (o : ℕ) (k : Kept AdjacencyRecord) → kept_of rows o ≡ Some k → IsAdjacency ys o
      adjacency o k e =
          let more : IsHeld c ys o = held o (r.held o k e) in
          let live : IsLive ys o = omega arith in
          let y = live_at ys o live in
          let x = kinds_stay o y.0 y.1 in
          let a = r.adjacencies o k e in
          let same : Some x.0 ≡ Some (record { kind = kinds.Adjacency; count = a.count }) = sym x.1 ∙ a.taken in
          let one : x.0 ≡ record { kind = kinds.Adjacency; count = a.count } = cc in
          let is : y.0.kind ≡ kinds.Adjacency = sym x.2 ∙ ap (λ (z : Object). z.kind) one in
          let counted : count_of ys o ≡ y.0.count = ap count_in y.1 in
          record {
            count = y.0.count;
            taken = y.1 ∙ ap (λ (kind : Kind). Some (record { kind = kind; count = y.0.count })) is;
            live = omega arith;
          }

pub records_swept : (b c : Board) (xs ys : List (Option Object)) (rows : List (Kept AdjacencyRecord)) → IsSwept b c xs ys → AreRecords b xs rows → AreRecords c ys rows
records_swept b c xs ys rows s r = records_kept b c xs ys rows r s.taken (held_stays b c xs ys s) words
  where
    words : (o s' : ℕ) (k : Kept AdjacencyRecord) → kept_of rows o ≡ Some k → s' < 16 → word_in c (16 * o + s') ≡ word_in b (16 * o + s')
    words o s' k e lt =
        let more : IsHeld c ys o = held_stays b c xs ys s o (r.held o k e) in
        s.cells (16 * o + s') (subst (λ (q : ℕ). IsLive ys q) (sym (owner_is o s' lt)) (omega arith))

-- counts alone change
pub recounted : (xs : List (Option Object)) (y n : ℕ) → IsLive xs y → KeepsKinds xs (with_count xs y n)
recounted xs y n live = (let x = live_at xs y live in kind_same xs y n x.0 x.1)

kinds_more : (xs : List (Option Object)) (e : Option ℕ) → ((y : ℕ) → e ≡ Some y → IsLive xs y) → KeepsKinds xs (counted_more e xs)
kinds_more xs None live = λ o y is. (y, is, refl)
kinds_more xs (Some y) live = recounted xs y (count_of xs y + 1) (live y refl)

kinds_less : (xs : List (Option Object)) (e : Option ℕ) → ((y : ℕ) → e ≡ Some y → IsLive xs y) → KeepsKinds xs (uncounted e xs)
kinds_less xs None live = λ o y is. (y, is, refl)
kinds_less xs (Some y) live = recounted xs y (count_of xs y - 1) (live y refl)

kinds_then : (xs ys zs : List (Option Object)) → KeepsKinds xs ys → KeepsKinds ys zs → KeepsKinds xs zs
kinds_then xs ys zs f g o z is = (let y = g o z is in let x = f o y.0 y.1 in (x.0, x.1, x.2 ∙ y.2))

-- a store into an object that is no record's
pub records_stored : (b : Board) (u : edges.Kept) (xs : List (Option Object)) → IsJoined b u xs → (rows : List (Kept AdjacencyRecord)) → AreRecords b xs rows → (k : ℕ) (w : Word) → k < 16 * b.objects → IsLive xs (owner k) → ((y : ℕ) → edge_of w ≡ Some y → IsLive xs y) → kept_of rows (owner k) ≡ None
    → AreRecords (board_stored b k w) (uncounted (left_at_once (union_of b) k) (counted_more (edge_of w) xs)) rows
records_stored b u xs h rows r k w inside source target apart =
    let long = h.long in
    records_kept b (board_stored b k w) xs (uncounted (left_at_once (union_of b) k) (counted_more (edge_of w) xs)) rows r
    (kinds_then xs (counted_more (edge_of w) xs) (uncounted (left_at_once (union_of b) k) (counted_more (edge_of w) xs)) (kinds_more xs (edge_of w) target)
    (kinds_less (counted_more (edge_of w) xs) (left_at_once (union_of b) k) (left_live b u xs h k w (omega arith) source target)))
    (hold_stored b u xs h k w (omega arith) source target)
    words
  where
    words : (o s : ℕ) (j : Kept AdjacencyRecord) → kept_of rows o ≡ Some j → s < 16 → word_in (board_stored b k w) (16 * o + s) ≡ word_in b (16 * o + s)
    words o s j e lt = word_other b k (16 * o + s) w (λ same. (let own : owner k ≡ o = ap owner (sym same) ∙ owner_is o s lt in let bad : None ≡ Some j = sym apart ∙ (ap (λ (q : ℕ). kept_of rows q) own ∙ e) in absurd (let no_kept : ⊥ = cc in no_kept)))

-- a plane's books, as its parts keep them
abbrev pub books_of : Board → edges.Kept
books_of b = record { union = union_of b; workers = b.workers; left = []; spare = 0 }

pub joined_of : (p : Plane) → IsPlane p → length (union_of p.board).retired < 4294967296 → IsJoined p.board (books_of p.board) p.objects
joined_of p told short = record {
  size = told.size;
  long = told.board.long;
  few = (let m = told.board.limits.most in omega arith);
  workers = refl;
  same = refl;
  left = refl;
  short = short;
  counted = told.counted;
  root = told.root;
  free = told.free;
}

-- a store changes counts by the edges that come and leave
pub stored_recounts : (b : Board) (u : edges.Kept) (xs : List (Option Object)) → IsJoined b u xs → (k : ℕ) (w : Word) → k < length b.union.cells → IsLive xs (owner k) → ((y : ℕ) → edge_of w ≡ Some y → IsLive xs y)
    → IsUncounted b (board_stored b k w) xs (uncounted (left_at_once (union_of b) k) (counted_more (edge_of w) xs))
stored_recounts b u xs h k w here source target =
    let mid : List (Option Object) = counted_more (edge_of w) xs in
    let left = left_live b u xs h k w here source target in
    let m = more b u xs h k w here source target (edge_of w) target in
    let l = less b u xs h k w here source target (left_at_once (union_of b) k) mid left in
    record {
      size = l.2 ∙ m.2;
      counts = λ o. (let a = m.0 o in let d = l.0 o in let i = into_after b u xs h k w here source target o in omega arith);
      none = λ o e. m.1 o (l.1 o e);
      kinds = kinds_then xs mid (uncounted (left_at_once (union_of b) k) mid) (kinds_more xs (edge_of w) target) (kinds_less mid (left_at_once (union_of b) k) left);
    }

-- a hold of another object ends
pub records_released : (b : Board) (xs : List (Option Object)) (rows : List (Kept AdjacencyRecord)) → AreRecords b xs rows → (o : ℕ) → IsLive xs o → kept_of rows o ≡ None → AreRecords b (with_count xs o (count_of xs o - 1)) rows
records_released b xs rows r o live apart = record {
  adjacencies = λ z k e. (let a = r.adjacencies z k e in record { count = a.count; taken = at_else z k e ∙ a.taken; live = a.live });
  other = r.other;
  held = λ z k e. (let h = r.held z k e in let c : count_of (with_count xs o (count_of xs o - 1)) z ≡ count_of xs z = ap count_in (at_else z k e) in omega arith);
  words = r.words;
  ranges = r.ranges;
}
  where
    at_else : (z : ℕ) (k : Kept AdjacencyRecord) → kept_of rows z ≡ Some k → at (with_count xs o (count_of xs o - 1)) z ≡ at xs z
    at_else z k e = (let x = live_at xs o live in at_other xs o (count_of xs o - 1) x.0 x.1 z (λ same. (let bad : None ≡ Some k = sym apart ∙ (ap (λ (q : ℕ). kept_of rows q) (sym same) ∙ e) in absurd (let no_kept : ⊥ = cc in no_kept))))

-- looks change no cell
pub scans_words : (n : ℕ) (ws : List ℕ) (b : Board) (k : ℕ) → word_in (board_scans n ws b) k ≡ word_in b k
scans_words n [] b k = refl
scans_words n (w ∷ ws) b k = scans_words (n + 1) ws (board_scanned n w b) k

pub records_scanned : (b m : Board) (ws : List ℕ) (xs ys : List (Option Object)) (rows : List (Kept AdjacencyRecord)) → m ≡ board_scans 0 ws b → IsUncounted b m xs ys → AreRecords b xs rows → AreRecords m ys rows
records_scanned b m ws xs ys rows is u r = records_kept b m xs ys rows r u.kinds
    (λ o h. (let c = u.counts o in omega arith))
    (λ o s k e lt. ap (λ (q : Board). word_in q (16 * o + s)) is ∙ scans_words 0 ws b (16 * o + s))

-- a user of a record is lost

lowered_from : (e : Option (Kept AdjacencyRecord)) (k : Kept AdjacencyRecord) → lowered e ≡ Some k → (j : Kept AdjacencyRecord) × (e ≡ Some j) × (j.content ≡ k.content)
lowered_from None k is = absurd (let bad : ⊥ = cc in bad)
lowered_from (Some j) k is = by_test (j.users == 1) is
  where
    by_test : (b : Bool) → (if b then None else Some (record { id = j.id; content = j.content; users = j.users - 1 })) ≡ Some k → (i : Kept AdjacencyRecord) × (Some j ≡ Some i) × (i.content ≡ k.content)
    by_test true same = absurd (let bad : ⊥ = cc in bad)
    by_test false same = (let one : record { id = j.id; content = j.content; users = j.users - 1 } ≡ k = cc in (j, refl, ap (λ (i : Kept AdjacencyRecord). i.content) one))

-- what is kept afterwards was kept before
pub given_from : (rows new : List (Kept AdjacencyRecord)) (o : ℕ) → Gives rows new o → (z : ℕ) (k : Kept AdjacencyRecord) → kept_of new z ≡ Some k → (j : Kept AdjacencyRecord) × (kept_of rows z ≡ Some j) × (j.content ≡ k.content)
given_from rows new o g z k e = elim (cases_eq z o) [
  | inl same ↦ (let was = lowered_from (kept_of rows o) k (sym g.given ∙ (ap (λ (q : ℕ). kept_of new q) (sym same) ∙ e)) in (was.0, ap (λ (q : ℕ). kept_of rows q) same ∙ was.1, was.2))
  | inr ne ↦ (k, sym (g.others z ne) ∙ e, refl)
]

pub records_given : (b : Board) (xs : List (Option Object)) (rows new : List (Kept AdjacencyRecord)) (o : ℕ) → Gives rows new o → AreRecords b xs rows → AreRecords b xs new
records_given b xs rows new o g r = record {
  adjacencies = λ z k e. (let was = given_from rows new o g z k e in r.adjacencies z was.0 was.1);
  other = λ z k e. (let was = given_from rows new o g z k e in r.other z was.0 was.1);
  held = λ z k e. (let was = given_from rows new o g z k e in r.held z was.0 was.1);
  words = λ z s k e lt. (let was = given_from rows new o g z k e in r.words z s was.0 was.1 lt ∙ ap (λ (c : AdjacencyRecord). record_word c s) was.2);
  ranges = λ z k e. (let was = given_from rows new o g z k e in subst IsInRange was.2 (r.ranges z was.0 was.1));
}

lowered_last : (e : Option (Kept AdjacencyRecord)) → users_in e ≡ 1 → lowered e ≡ None
lowered_last None one = refl
lowered_last (Some j) one = ap (λ (b : Bool). if b then None else Some (record { id = j.id; content = j.content; users = j.users - 1 })) (let t : (j.users == 1) ≡ true = ap (λ (n : ℕ). n == 1) one in t)

pub given_last : (rows new : List (Kept AdjacencyRecord)) (o : ℕ) → Gives rows new o → users_of rows o ≡ 1 → kept_of new o ≡ None
given_last rows new o g one = g.given ∙ lowered_last (kept_of rows o) one

-- one more user of a record that is kept
pub records_shared : (b : Board) (xs : List (Option Object)) (rows new : List (Kept AdjacencyRecord)) (r : AdjacencyRecord) (o : ℕ) → Takes rows new r o → IsKeptAs rows r o → AreRecords b xs rows → AreRecords b xs new
records_shared b xs rows new r o t was ok = record {
  adjacencies = λ z k e. (let j = before z k e in ok.adjacencies z j.0 j.1);
  other = λ z k e. (let j = before z k e in ok.other z j.0 j.1);
  held = λ z k e. (let j = before z k e in ok.held z j.0 j.1);
  words = λ z s k e lt. (let j = before z k e in ok.words z s j.0 j.1 lt ∙ ap (λ (c : AdjacencyRecord). record_word c s) j.2);
  ranges = λ z k e. (let j = before z k e in subst IsInRange j.2 (ok.ranges z j.0 j.1));
}
  where
    before : (z : ℕ) (k : Kept AdjacencyRecord) → kept_of new z ≡ Some k → (j : Kept AdjacencyRecord) × (kept_of rows z ≡ Some j) × (j.content ≡ k.content)
    before z k e = elim (cases_eq z o) [
      | inl same ↦ (let taken : Some k ≡ Some (record { id = o; content = r; users = users_of rows o + 1 }) = sym e ∙ (ap (λ (q : ℕ). kept_of new q) same ∙ t.taken) in
          let one : k ≡ record { id = o; content = r; users = users_of rows o + 1 } = cc in
          (was.0, ap (λ (q : ℕ). kept_of rows q) same ∙ was.1, was.2 ∙ ap (λ (q : Kept AdjacencyRecord). q.content) (sym one)))
      | inr ne ↦ (k, sym (t.others z ne) ∙ e, refl)
    ]
