-- A deferred bucket is tried again.
use Rattle.std.proofs.Common.{◌≡◌, ℕ, zero, suc, ◌+◌, ◌<◌, ◌≤◌, inl, inr, ⊎_elim, Bool, true, false, true≢false, List, [], ◌∷◌, length, get_or, refl, sym, ap, ◌∙◌, subst, arith}
use Rattle.std.specs.Prelude.{Contains, Option, Some, None, ◌⊎◌, remove, if◌then◌else◌}
use Rattle.std.specs.Prelude as option
use Rattle.std.proofs.lemmas.List.{get_or_default}
use Rattle.std.proofs.lemmas.List.Edits.{get_or-remove_below}
use native.Mathlib.Decide.{ℕ_discrete}
use mathlib.Core.Logic.{dite}
use Rattle.fib_base_list.proofs.Lists.{either}
use Rattle.fib_addr.specs.Prefixes.{Prefix}
use Rattle.fib_reach.specs.Walks.{Walk}
use Rattle.fib_resolve.specs.Aims.{marked_list}
use Rattle.fib_resolve.specs.declared.aims.Aim.{Aim}
use Rattle.fib_resolve.specs.declared.types.End.{End}
use Rattle.fib_resolve.specs.declared.types.End.TheVariants as answers
use Rattle.fib_resolve.specs.declared.types.Tables.{Tables}
use Rattle.fib_core.specs.declared.word.Word.{Word}
use Rattle.fib_core.specs.declared.word.Word.TheVariants as words
use Rattle.fib_pool.specs.declared.object.AdjacencyRecord.{AdjacencyRecord}
use Rattle.fib_resolve_changes.specs.Ranks.{IsRanked}
use Rattle.fib_resolve_changes.specs.Wanted.{aim_by}
use Rattle.fib_stack_ledger.specs.declared.late.Late.{Late}
use Rattle.fib_stack_ledger.specs.Deferred.{AreApart, AreSlots, is_at, late_at}
use Rattle.fib_stack_ledger.specs.Ledgers.{used_by}
use Rattle.fib_stack_ledger.proofs.LateLists.{at_index, at_is, at_self, at_when, late_removed_here, late_removed_there, late_there}
use Rattle.fib_core_promise.specs.Stack.{Objects, aim_word, is_some}
use Rattle.fib_core_steady.specs.Names.{Names}
use Rattle.fib_plane_view.specs.Frames.{IsQuiet}
use Rattle.fib_plane_view.specs.declared.put.Put.{Put}
use Rattle.fib_plane_view.specs.declared.put.Put.TheVariants as puts
use Rattle.fib_plane_view.specs.Promise.{Promise, EndsIn, MayPut, Serves}
use Rattle.fib_plane_view.specs.View.{View, Answered, Closes, Edge, Goes, HasKind, IsBalance, IsLive, IsPlane, IsPut, IsRecord, Retired, leads}
use Rattle.fib_stack_queue.specs.Queues.{rank_in}
use Rattle.fib_stack.specs.Buckets.{IsLooseBucket, recorded}
use Rattle.fib_stack.specs.Done.{StaysLate}
use Rattle.fib_stack.specs.Joined.{Joined, Parts, balance_in, holds_by, queued_in, state_in, table_of, was_by}
use Rattle.fib_stack.specs.States.{Fits}
use Rattle.fib_stack.specs.Steps.{Retried, StillOrStored}
use Rattle.fib_stack.specs.inner.Growing.{Grew}
use Rattle.fib_stack.proofs.Cycling.{closes_none}
use Rattle.fib_stack.proofs.Ending.{end_counted}
use Rattle.fib_stack.proofs.Joining.{begun_of, table_names, table_quiet, word_ends, word_kind}
use Rattle.fib_stack.proofs.Keeping.{retried_keeps}
use Rattle.fib_stack.proofs.Leaving.{put_quiet}
use Rattle.fib_stack.proofs.Listing.{objects_kept}
use Rattle.fib_stack.proofs.Promising.{late_is_loose, may_put, put_serves}
use Rattle.fib_stack.proofs.Settling.{retried_steady}

-- the same but for what is deferred
abbrev pub with_late : Parts → List Late → Parts
with_late s xs = record s { late = xs }

-- a put in place of Drop: edges only come
module _ (u v : View) (o k : ℕ) (w : Word) (a : Put) (put : IsPut u v o k w a) (drop : u.cell o k ≡ words.Drop) where
  none_led : (y : ℕ) → leads (u.cell o k) y → ⊥
  none_led y l = subst (λ (z : Word). leads z y) drop l

  edge_still : (y t d : ℕ) (z : Word) → IsLive v y → leads z d → Goes u y t z → Goes v y t z
  edge_still y t d z live l (inl c) = inl (put.others y t (λ ey et. none_led d (subst (λ (i : ℕ). leads (u.cell i k) d) ey (subst (λ (j : ℕ). leads (u.cell y j) d) et (subst (λ (q : Word). leads q d) (sym c) l)))) live ∙ c)
  edge_still y t d z live l (inr r) = inr (subst (λ (rs : List Retired). Contains rs (record { from = y; slot = t; word = z })) (sym (put.retired none_led)) r)

  walk_still : (n y z : ℕ) → IsLive v y → Walk (Edge u) n y z → Walk (Edge v) n y z
  walk_still zero y z live walk = walk
  walk_still (suc n) y z live walk =
      let e = walk.1 in
      let g : Goes v y e.0 e.1 = edge_still y e.0 walk.0 e.1 live e.2 e.3 in
      (walk.0, (e.0, e.1, e.2, g), walk_still n walk.0 z (inr (inr (inr (y, e.0, e.1, e.2, g)))) walk.2)

  pub put_grew : Grew u v
  put_grew = record {
    walks = λ y z live l. (l.0, walk_still l.0 y z live l.1);
    held = put.held;
    records = put.records;
    retired = put.retired none_led;
    free = put.free;
    stored = put.stores.more;
    spare = put.spare;
  }

pub none_grew : (u : View) → Grew u u
none_grew u = record { walks = λ y z live l. l; held = λ y. refl; records = record { record_of = refl; users = refl }; retired = refl; free = omega arith; stored = omega arith; spare = omega arith }

-- what a bucket's word leads to stays live
kind_live : (u v : View) (o : ℕ) (w : Word) → IsBalance u o → HasKind u o w → Grew u v → (y : ℕ) → leads w y → IsLive v y
kind_live u v o words.Drop mine kind grew y l = absurd l
kind_live u v o words.Receive mine kind grew y l = absurd l
kind_live u v o (words.Glean i) mine kind grew y l = absurd l
kind_live u v o (words.ToPly c) mine kind grew y l = absurd (true≢false (sym kind.0 ∙ mine.1))
kind_live u v o (words.ToBalance x) mine kind grew y l = inr (inl (subst (λ (i : ℕ). v.is_held i ≡ true) l (grew.held x ∙ kind.0)))
kind_live u v o (words.ToAdjacency x) mine kind grew y l = inr (inr (inl (subst (λ (i : ℕ). IsRecord v i) l (kind.1.0, ap (λ (f : AdjacencyRecord → Option ℕ). f kind.1.0) grew.records.record_of ∙ kind.1.1))))
kind_live u v o (words.Plain n) mine kind grew y l = absurd l

pub closes_still : (u v : View) (o : ℕ) (w : Word) → IsBalance u o → HasKind u o w → Grew u v → Closes u o w → Closes v o w
closes_still u v o w mine kind grew c = (c.0, c.1, grew.walks c.0 o (kind_live u v o w mine kind grew c.0 c.1) c.2)

still_late : (l : Option Word) (c : Word) → StillOrStored l l c c
still_late None c = (refl, refl)
still_late (Some w) c = inl (refl, refl)

same_late : (l l' : Option Word) (c c' : Word) → l' ≡ l → c' ≡ c → StillOrStored l l' c c'
same_late l l' c c' el ec = subst (λ (x : Option Word). StillOrStored l x c c') (sym el) (subst (λ (x : Word). StillOrStored l l c x) (sym ec) (still_late l c))

-- one retry after another
late_then : (a b c : Option Word) (x y z : Word) → StillOrStored a b x y → StillOrStored b c y z → StillOrStored a c x z
late_then None b c x y z f g = by b f.0 g
  where
    by : (b' : Option Word) → b' ≡ None → StillOrStored b' c y z → StillOrStored None c x z
    by None e h = (h.0, h.1 ∙ f.1)
    by (Some w) e h = absurd (cc)
late_then (Some v) b c x y z (inl f) g = ⊎_elim
    (λ (h : (c ≡ Some v) × (z ≡ y)). inl (h.0, h.1 ∙ f.1))
    (λ (h : (c ≡ None) × (z ≡ v)). inr h)
    (subst (λ (q : Option Word). StillOrStored q c y z) f.0 g)
late_then (Some v) b c x y z (inr f) g =
    let h : (c ≡ None) × (z ≡ y) = subst (λ (q : Option Word). StillOrStored q c y z) f.0 g in inr (h.0, h.1 ∙ f.1)

module _ (u v w : View) (r s t : Parts) (f : Retried (state_in u r) (state_in v s)) (g : Retried (state_in v s) (state_in w t)) where
  balance_same : (e : Prefix) → balance_in s e ≡ balance_in r e
  balance_same e = ap (λ (n : Objects). n.balance e) f.objects

  queued_same : (e : Prefix) → queued_in s e ≡ queued_in r e
  queued_same e = ap (λ (q : Prefix → Bool). q e) f.queue

  pub retried_then : Retried (state_in u r) (state_in w t)
  retried_then = record {
    objects = g.objects ∙ f.objects;
    was = g.was ∙ f.was;
    holds = g.holds ∙ f.holds;
    queue = g.queue ∙ f.queue;
    cells = λ e o k at lt q. late_then (late_at r.late e k) (late_at s.late e k) (late_at t.late e k) (u.cell o k) (v.cell o k) (w.cell o k) (f.cells e o k at lt q) (g.cells e o k (balance_same e ∙ at) lt (queued_same e ∙ q));
    waiting = λ e o k at q. let x = f.waiting e o k at q in let y = g.waiting e o k (balance_same e ∙ at) (queued_same e ∙ q) in (y.0 ∙ x.0, y.1 ∙ x.1);
    no_more = λ e k none. g.no_more e k (f.no_more e k none);
  }

pub none_retried : (v : View) (s : Parts) → Retried (state_in v s) (state_in v s)
none_retried v s = record {
  objects = refl;
  was = refl;
  holds = refl;
  queue = refl;
  cells = λ e o k at lt q. still_late (late_at s.late e k) (v.cell o k);
  waiting = λ e o k at q. (refl, refl);
  no_more = λ e k none. none;
}

-- an element that was read
pub read_there : (xs : List Late) (i : ℕ) (d : Late) → i < length xs → AreApart xs → d ≡ get_or xs i d → late_at xs d.entry d.slot ≡ Some d.word
read_there xs i d lt apart is = subst (λ (y : Late). late_at xs y.entry y.slot ≡ Some y.word) (sym is) (late_there xs i d lt apart)

pub read_slot : (xs : List Late) (i : ℕ) (d : Late) → i < length xs → AreSlots xs → d ≡ get_or xs i d → d.slot < 16
read_slot xs i d lt slots is = subst (λ (y : Late). y.slot < 16) (sym is) (at_index (λ (y : Late). y.slot < 16) xs i d lt slots)

-- taken out, its bucket has none, and the others have what they had
pub taken_here : (xs : List Late) (i : ℕ) (d : Late) → i < length xs → AreApart xs → d ≡ get_or xs i d → late_at (remove xs i) d.entry d.slot ≡ None
taken_here xs i d lt apart is = subst (λ (y : Late). late_at (remove xs i) y.entry y.slot ≡ None) (sym is) (late_removed_here xs i d lt apart)

pub taken_there : (xs : List Late) (i : ℕ) (d : Late) (e : Prefix) (k : ℕ) → i < length xs → d ≡ get_or xs i d → is_at d e k ≡ false → late_at (remove xs i) e k ≡ late_at xs e k
taken_there xs i d e k lt is miss = late_removed_there xs i d e k lt (subst (λ (y : Late). is_at y e k ≡ false) is miss)

-- a deferred bucket of a prefix that isn't queued
pub record IsOpen (S : Tables) (rank : Prefix → ℕ) (p : Promise) (v : View) (s : Parts) (x : Late) (ob : ℕ) : Type 0 where
  pub joined : Joined S rank p v s
  pub plane : IsPlane v
  pub there : late_at s.late x.entry x.slot ≡ Some x.word
  pub slot : x.slot < 16
  pub quiet : queued_in s x.entry ≡ false
  pub at : balance_in s x.entry ≡ Some ob

module _ (S : Tables) (rank : Prefix → ℕ) (p : Promise) (v : View) (s : Parts) (x : Late) (ob : ℕ) (h : IsOpen S rank p v s x ob) where
  pub late_waits : p.settled < p.applied
  late_waits = h.joined.deferred x.entry x.slot x.word h.there

  abbrev now : Objects
  now = record { balance = balance_in s; record_of = recorded v }

  abbrev wanted : Aim
  wanted = aim_by (was_by s) (marked_list S x.entry) x.slot

  pub late_fits : Fits (Some x.word) (v.cell ob x.slot) (aim_word now wanted)
  late_fits = subst (λ (l : Option Word). Fits l (v.cell ob x.slot) (aim_word now wanted)) h.there ((h.joined.kept.done x.entry h.quiet).filled ob x.slot h.at h.slot)

  pub late_mine : IsBalance v ob
  late_mine = h.joined.laid.balances x.entry ob h.at

  recorded_is : (end : End) (y : ℕ) → recorded v end ≡ Some y → IsRecord v y
  recorded_is answers.Drop y e = absurd (cc)
  recorded_is answers.Receive y e = absurd (cc)
  recorded_is (answers.Glean i) y e = absurd (cc)
  recorded_is (answers.Hop i a m) y e = (record { interface = i; next_hop = a; mac = m }, e)

  pub late_kind : HasKind v ob x.word
  late_kind = subst (HasKind v ob) (sym late_fits.0) (word_kind v now ob late_mine (λ t y e. h.joined.laid.balances t y e) recorded_is wanted)

  late_ends : EndsIn p v x.word
  late_ends = subst (EndsIn p v) (sym late_fits.0)
      (word_ends p v now h.plane wanted (λ end is. (S, h.joined.newest (begun_of p late_waits), end_counted S (was_by s) x.entry x.slot end is)) (λ i a m y is e. e))

  pub late_names : (n : Names) × (n.balance ≡ balance_in s) × Serves p n v
  late_names = table_names p (table_of s) v h.joined.table

  late_loose : IsLooseBucket p.versions late_names.0.balance ob x.slot
  late_loose = subst (λ (f : Prefix → Option ℕ). IsLooseBucket p.versions f ob x.slot) (sym late_names.1)
      (late_is_loose p.versions (state_in v s) x.entry ob x.slot (h.joined.steady (begun_of p late_waits)) (λ d y is mine. (h.joined.kept.placed x.entry).apart d y mine is) h.at h.slot
      (λ none. let bad : Some x.word ≡ None = sym h.there ∙ none in cc))

  pub late_may : MayPut p v ob x.slot x.word
  late_may = may_put p late_names.0 v ob x.slot x.word (inl late_waits) (begun_of p late_waits) late_names.2 h.plane late_mine h.slot late_kind late_ends (inr late_loose)

  -- after the put
  module _ (w : View) (a : Put) (put : IsPut v w ob x.slot x.word a) (plane' : IsPlane w) (ys : List Late)
      (others : (e : Prefix) (k : ℕ) → is_at x e k ≡ false → late_at ys e k ≡ late_at s.late e k)
      (here : StillOrStored (Some x.word) (late_at ys x.entry x.slot) words.Drop (w.cell ob x.slot)) where
    balance_still : (o : ℕ) → IsBalance v o → IsBalance w o
    balance_still o b = let q = put.held o ∙ b.0 in (q, put.kinds o (inr (inl q)) ∙ b.1)

    recorded_same : recorded w ≡ recorded v
    recorded_same = λ i end. by end i
      where
        by : (end : End) → recorded w end ≡ recorded v end
        by answers.Drop = refl
        by answers.Receive = refl
        by (answers.Glean i) = refl
        by (answers.Hop i b m) = ap (λ (f : AdjacencyRecord → Option ℕ). f (record { interface = i; next_hop = b; mac = m })) put.records.record_of

    -- cells of other buckets of the table stay
    other_cell : (e : Prefix) (o k : ℕ) → balance_in s e ≡ Some o → is_at x e k ≡ false → w.cell o k ≡ v.cell o k
    other_cell e o k at' miss = put.others o k
        (λ same is.
        let e' : e ≡ x.entry = (h.joined.kept.placed x.entry).apart e ob h.at (at' ∙ ap Some same) in
        true≢false (sym (at_when x e k (sym e') (sym is)) ∙ miss))
        (inr (inl (balance_still o (h.joined.laid.balances e o at')).0))

    missed : (e : Prefix) (k : ℕ) → queued_in s e ≡ true → is_at x e k ≡ false
    missed e k q = elim (either (is_at x e k)) [
      | inl hit ↦ absurd (true≢false (sym q ∙ ap (queued_in s) (sym (at_is x e k hit).0) ∙ h.quiet))
      | inr miss ↦ miss
    ]

    pub late_retried : Retried (state_in v s) (state_in w (with_late s ys))
    late_retried = record {
      objects = ap (λ (f : End → Option ℕ). (let n : Objects = record { balance = balance_in s; record_of = f } in n)) recorded_same;
      was = refl;
      holds = refl;
      queue = refl;
      cells = λ e o k at' lt' q. elim (either (is_at x e k)) [
        | inl hit ↦
            let both = at_is x e k hit in
            let o' : ob ≡ o = (let both_at : Some ob ≡ Some o = sym h.at ∙ ap (balance_in s) both.0 ∙ at' in cc) in
            subst (λ (d : Prefix). StillOrStored (late_at s.late d k) (late_at ys d k) (v.cell o k) (w.cell o k)) both.0
            (subst (λ (i : ℕ). StillOrStored (late_at s.late x.entry i) (late_at ys x.entry i) (v.cell o i) (w.cell o i)) both.1
            (subst (λ (i : ℕ). StillOrStored (late_at s.late x.entry x.slot) (late_at ys x.entry x.slot) (v.cell i x.slot) (w.cell i x.slot)) o'
            (subst (λ (l : Option Word). StillOrStored l (late_at ys x.entry x.slot) (v.cell ob x.slot) (w.cell ob x.slot)) (sym h.there)
            (subst (λ (c : Word). StillOrStored (Some x.word) (late_at ys x.entry x.slot) c (w.cell ob x.slot)) (sym late_fits.1) here))))
        | inr miss ↦ same_late (late_at s.late e k) (late_at ys e k) (v.cell o k) (w.cell o k) (others e k miss) (other_cell e o k at' miss)
      ];
      waiting = λ e o k at' q. (others e k (missed e k q), other_cell e o k at' (missed e k q));
      no_more = λ e k none. elim (either (is_at x e k)) [
        | inl hit ↦
            let both = at_is x e k hit in
            absurd (let here' : late_at s.late e k ≡ Some x.word = subst (λ (d : Prefix). late_at s.late d k ≡ Some x.word) both.0 (subst (λ (i : ℕ). late_at s.late x.entry i ≡ Some x.word) both.1 h.there) in
            let bad : Some x.word ≡ None = sym here' ∙ none in cc)
        | inr miss ↦ others e k miss ∙ none
      ];
    }

    serves' : Serves p late_names.0 w
    serves' = put_serves p late_names.0 v w ob x.slot x.word a (begun_of p late_waits) late_names.2 h.plane late_mine h.slot late_kind (inr late_loose) put

    pub late_joined : Joined S rank p w (with_late s ys)
    late_joined = record {
      kept = retried_keeps S (state_in v s) (state_in w (with_late s ys)) h.joined.kept late_retried;
      laid = record {
        counted = λ m. ap (λ (f : AdjacencyRecord → ℕ). f m) put.records.users ∙ h.joined.laid.counted m;
        objects = λ e. objects_kept v w (used_by (s.known e)) (λ m more. ap (λ (f : AdjacencyRecord → Option ℕ). f m) put.records.record_of) (h.joined.laid.objects e);
        balances = λ e o at'. balance_still o (h.joined.laid.balances e o at');
        owned = λ o b. h.joined.laid.owned o (sym (put.held o) ∙ b.0, sym (put.kinds o (inr (inl b.0))) ∙ b.1);
      };
      table = table_quiet p (table_of s) v w late_names.0 (begun_of p late_waits) h.joined.table (put_quiet v w ob x.slot x.word a late_mine late_kind put plane' (balance_in s)) plane' late_names.1 serves';
      fits = h.joined.fits;
      steady = λ b. retried_steady p.versions (state_in v s) (state_in w (with_late s ys)) (h.joined.steady b) late_retried;
      newest = h.joined.newest;
      ranked = h.joined.ranked;
      waiting = h.joined.waiting;
      deferred = λ e k z is. late_waits;
    }

-- a prefix that isn't in the table has nothing deferred
pub late_placed : (S : Tables) (rank : Prefix → ℕ) (p : Promise) (v : View) (s : Parts) (x : Late) → Joined S rank p v s → late_at s.late x.entry x.slot ≡ Some x.word → balance_in s x.entry ≡ None → ⊥
late_placed S rank p v s x j there none =
    let late : late_at s.late x.entry x.slot ≡ None = (j.kept.placed x.entry).late x.slot (ap is_some none) in
    let bad : Some x.word ≡ None = sym there ∙ late in cc

-- a put that would close a cycle stored Drop again; any other one stored the word, and the bucket left the list
module _ (S : Tables) (rank : Prefix → ℕ) (p : Promise) (v : View) (s : Parts) (x : Late) (ob : ℕ) (h : IsOpen S rank p v s x ob)
    (w : View) (a : Put) (put : IsPut v w ob x.slot x.word a) (plane' : IsPlane w) where
  grown : Grew v w
  grown = put_grew v w ob x.slot x.word a put (late_fits S rank p v s x ob h).1

  pub dropped_retried : w.cell ob x.slot ≡ words.Drop → Retried (state_in v s) (state_in w s)
  dropped_retried drop = late_retried S rank p v s x ob h w a put plane' s.late (λ e k miss. refl) (inl (h.there, drop))

  pub dropped_joined : w.cell ob x.slot ≡ words.Drop → Joined S rank p w s
  dropped_joined drop = late_joined S rank p v s x ob h w a put plane' s.late (λ e k miss. refl) (inl (h.there, drop))

  pub dropped_stays : Closes v ob x.word → StaysLate w s x.entry x.word
  dropped_stays c = inr (ob, h.at, closes_still v w ob x.word (late_mine S rank p v s x ob h) (late_kind S rank p v s x ob h) grown c)

  pub stored_retried : (ys : List Late) (i : ℕ) → i < length s.late → AreApart s.late → x ≡ get_or s.late i x → ys ≡ remove s.late i → w.cell ob x.slot ≡ x.word → Retried (state_in v s) (state_in w (with_late s ys))
  stored_retried ys i lt apart is taken now = subst (λ (l : List Late). Retried (state_in v s) (state_in w (with_late s l))) (sym taken)
      (late_retried S rank p v s x ob h w a put plane' (remove s.late i) (λ e k miss. taken_there s.late i x e k lt is miss) (inr (taken_here s.late i x lt apart is, now)))

  pub stored_joined : (ys : List Late) (i : ℕ) → i < length s.late → AreApart s.late → x ≡ get_or s.late i x → ys ≡ remove s.late i → w.cell ob x.slot ≡ x.word → Joined S rank p w (with_late s ys)
  stored_joined ys i lt apart is taken now = subst (λ (l : List Late). Joined S rank p w (with_late s l)) (sym taken)
      (late_joined S rank p v s x ob h w a put plane' (remove s.late i) (λ e k miss. taken_there s.late i x e k lt is miss) (inr (taken_here s.late i x lt apart is, now)))

  pub tried_quiet : (look : Prefix → Option ℕ) → IsQuiet look v w
  tried_quiet = put_quiet v w ob x.slot x.word a (late_mine S rank p v s x ob h) (late_kind S rank p v s x ob h) put plane'

  pub tried_grew : Grew v w
  tried_grew = grown

-- the other conditions of the put
module _ (S : Tables) (rank : Prefix → ℕ) (p : Promise) (v : View) (s : Parts) (x : Late) (ob : ℕ) (h : IsOpen S rank p v s x ob) where
  pub late_target : (y : ℕ) → leads x.word y → IsLive v y
  late_target = kind_live v v ob x.word (late_mine S rank p v s x ob h) (late_kind S rank p v s x ob h) (none_grew v)

  pub late_spare : (y : ℕ) → leads (v.cell ob x.slot) y → 0 < v.spare
  late_spare y l = absurd (subst (λ (z : Word). leads z y) (late_fits S rank p v s x ob h).1 l)

-- what stayed deferred, after a further put
pub stays_still : (S : Tables) (rank : Prefix → ℕ) (p : Promise) (v w : View) (s : Parts) (x : Late) (ys : List Late) → Joined S rank p v s → IsPlane v → Grew v w → late_at s.late x.entry x.slot ≡ Some x.word → x.slot < 16
    → StaysLate v s x.entry x.word → StaysLate w (with_late s ys) x.entry x.word
stays_still S rank p v w s x ys j plane grew there lt stays = elim (either (queued_in s x.entry)) [
  | inl q ↦ inl q
  | inr q ↦ ⊎_elim
      (λ (is : queued_in s x.entry ≡ true). absurd (true≢false (sym is ∙ q)))
      (λ (c : (o : ℕ) × (balance_in s x.entry ≡ Some o) × Closes v o x.word).
      let h : IsOpen S rank p v s x c.0 = record { joined = j; plane = plane; there = there; slot = lt; quiet = q; at = c.1 } in
      inr (c.0, c.1, closes_still v w c.0 x.word (late_mine S rank p v s x c.0 h) (late_kind S rank p v s x c.0 h) grew c.2))
      stays
]

-- what a look-up finds stands in the list
abbrev pub Found : List Late → Prefix → ℕ → Word → Type 0
Found xs e k w = (i : ℕ) × (x : Late) × (i < length xs) × (get_or xs i x ≡ x) × (x.entry ≡ e) × (x.slot ≡ k) × (x.word ≡ w)

pub late_found : (xs : List Late) (e : Prefix) (k : ℕ) (w : Word) → late_at xs e k ≡ Some w → Found xs e k w
late_found [] e k w is = absurd (cc)
late_found (x ∷ xs) e k w is = by (is_at x e k) refl (λ h. late_found xs e k w h)
  where
    some_is : (a b : Word) → Some a ≡ Some b → a ≡ b
    some_is a b h = cc

    by : (b : Bool) → is_at x e k ≡ b → (late_at xs e k ≡ Some w → Found xs e k w) → Found (x ∷ xs) e k w
    by true hit rest = (0, x, omega arith, refl, (at_is x e k hit).0, (at_is x e k hit).1, some_is x.word w (sym (ap (λ b. if b then Some x.word else late_at xs e k) hit) ∙ is))
    by false miss rest =
        let r = rest (sym (ap (λ b. if b then Some x.word else late_at xs e k) miss) ∙ is) in
        (suc r.0, r.1, omega (arith, r.2), r.3, r.4, r.5, r.6)

-- where all is calm, nothing stays deferred
pub none_left : (xs : List Late) → ((e : Prefix) (k : ℕ) (w : Word) → late_at xs e k ≡ Some w → ⊥) → length xs ≡ 0
none_left [] h = refl
none_left (x ∷ xs) h = absurd (h x.entry x.slot x.word (ap (λ b. if b then Some x.word else late_at xs x.entry x.slot) (at_self x)))

pub calm_none : (S : Tables) (rank : Prefix → ℕ) (p : Promise) (v : View) (s : Parts) → IsRanked S rank → Joined S rank p v s → IsPlane v → AreApart s.late → AreSlots s.late → ((e : Prefix) → queued_in s e ≡ false) → v.retired ≡ []
    → ((e : Prefix) (k : ℕ) (w : Word) → late_at s.late e k ≡ Some w → StaysLate v s e w) → length s.late ≡ 0
calm_none S rank p v s ranked j plane apart slots calm passed why = none_left s.late (λ e k w is.
    let r = late_found s.late e k w is in
    let x = r.1 in
    let lt : x.slot < 16 = subst (λ (y : Late). y.slot < 16) r.3 (at_index (λ (y : Late). y.slot < 16) s.late r.0 x r.2 slots) in
    let there : late_at s.late x.entry x.slot ≡ Some x.word = subst (λ (y : Late). late_at s.late y.entry y.slot ≡ Some y.word) r.3 (late_there s.late r.0 x r.2 apart) in
    ⊎_elim
    (λ (q : queued_in s x.entry ≡ true). true≢false (sym q ∙ calm x.entry))
    (λ (c : (o : ℕ) × (balance_in s x.entry ≡ Some o) × Closes v o x.word).
    closes_none S rank v (balance_in s) (was_by s) (late_at s.late) (holds_by s) (queued_in s) ranked j.kept plane (λ d o at. j.laid.balances d o at) calm passed x.entry c.0 x.slot c.1
    (subst (λ (z : Word). Closes v c.0 z) (late_fits S rank p v s x c.0 (record { joined = j; plane = plane; there = there; slot = lt; quiet = calm x.entry; at = c.1 })).0 c.2))
    (why x.entry x.slot x.word there))

-- in the queue or not
pub queued_is : (o : Option ℕ) → option.is_some o ≡ true → is_some o ≡ true
queued_is None h = absurd (cc)
queued_is (Some r) h = refl

pub not_queued : (b : Bool) (o : Option ℕ) → (option.is_some o ≡ true → b ≡ true) → b ≡ false → is_some o ≡ false
not_queued b None h no_b = refl
not_queued b (Some r) h no_b = absurd (true≢false (sym (h refl) ∙ no_b))

-- the bucket that was read is open
pub opened : (S : Tables) (rank : Prefix → ℕ) (p : Promise) (v : View) (s : Parts) (i : ℕ) (x : Late) (ob : ℕ) (b : Bool) → Joined S rank p v s → IsPlane v → i < length s.late → AreApart s.late → AreSlots s.late → x ≡ get_or s.late i x
    → (option.is_some (rank_in s.queue x.entry) ≡ true → b ≡ true) → b ≡ false → balance_in s x.entry ≡ Some ob → IsOpen S rank p v s x ob
opened S rank p v s i x ob b j plane lt apart slots is queued no_b at = record {
  joined = j;
  plane = plane;
  there = read_there s.late i x lt apart is;
  slot = read_slot s.late i x lt slots is;
  quiet = not_queued b (rank_in s.queue x.entry) queued no_b;
  at = at;
}

-- the same place, whatever stands in for what isn't there
pub stays_at : (v : View) (s : Parts) (xs : List Late) (i : ℕ) (x d : Late) → i < length xs → x ≡ get_or xs i x → get_or xs i d ≡ d → StaysLate v s x.entry x.word → StaysLate v s d.entry d.word
stays_at v s xs i x d lt is at h = subst (λ (y : Late). StaysLate v s y.entry y.word) (is ∙ get_or_default xs i x d lt ∙ at) h

pub there_or : (v : View) (o k : ℕ) (w now : Word) (a : Put) → Answered v o k w now a → (a ≡ puts.Same) ⊎ (a ≡ puts.Stored) → now ≡ w
there_or v o k w now a h (inl e) = (subst (λ (b : Put). Answered v o k w now b) e h).1
there_or v o k w now a h (inr e) = (subst (λ (b : Put). Answered v o k w now b) e h).1

-- what was tried up to a place stays deferred for a reason, as one more is tried
module _ (S : Tables) (rank : Prefix → ℕ) (p : Promise) (v w : View) (s : Parts) (ys : List Late) (place : ℕ) (j : Joined S rank p v s) (plane : IsPlane v) (grew : Grew v w) (apart : AreApart s.late) (slots : AreSlots s.late) (lt : place < length s.late)
    (why : (i : ℕ) (d : Late) → i < place → get_or s.late i d ≡ d → StaysLate v s d.entry d.word) where
  still_why : (i : ℕ) (d : Late) → i < place → get_or s.late i d ≡ d → StaysLate w (with_late s ys) d.entry d.word
  still_why i d below at =
      let lt' : i < length s.late = omega (arith, below, lt) in
      stays_still S rank p v w s d ys j plane grew (read_there s.late i d lt' apart (sym at)) (read_slot s.late i d lt' slots (sym at)) (why i d below at)

  pub why_left : ys ≡ s.late → ((d : Late) → get_or s.late place d ≡ d → StaysLate w (with_late s ys) d.entry d.word) → (i : ℕ) (d : Late) → i < place + 1 → get_or ys i d ≡ d → StaysLate w (with_late s ys) d.entry d.word
  why_left same here i d below at =
      let at' : get_or s.late i d ≡ d = ap (λ (l : List Late). get_or l i d) (sym same) ∙ at in
      dite (ℕ_discrete i place)
      (λ is. here d (ap (λ (k : ℕ). get_or s.late k d) (sym is) ∙ at'))
      (λ ne. still_why i d (omega (arith, below, ne)) at')

  pub why_taken : ys ≡ remove s.late place → (i : ℕ) (d : Late) → i < place → get_or ys i d ≡ d → StaysLate w (with_late s ys) d.entry d.word
  why_taken taken i d below at = still_why i d below (sym (get_or-remove_below s.late place d i below lt) ∙ ap (λ (l : List Late). get_or l i d) (sym taken) ∙ at)

pub why_all : (v : View) (s : Parts) (place : ℕ) → length s.late ≤ place → ((i : ℕ) (d : Late) → i < place → get_or s.late i d ≡ d → StaysLate v s d.entry d.word) → (e : Prefix) (k : ℕ) (w : Word) → late_at s.late e k ≡ Some w → StaysLate v s e w
why_all v s place over why e k w is =
    let r = late_found s.late e k w is in
    subst (λ (d : Prefix). StaysLate v s d w) r.4 (subst (λ (z : Word). StaysLate v s r.1.entry z) r.6 (why r.0 r.1 (omega (arith, r.2, over)) r.3))
