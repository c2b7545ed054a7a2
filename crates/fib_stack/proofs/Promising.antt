-- Stores into buckets keep what workers are promised.
use Rattle.std.proofs.Common.{◌≡◌, ◌≢◌, ℕ, ◌<◌, inl, inr, ⊎_elim, true, true≢false, List, Option, Some, None, refl, sym, ap, ◌∙◌, subst, arith}
use Rattle.std.specs.Prelude.{Contains, ◌⊎◌}
use native.Mathlib.Decide.{ℕ_discrete}
use mathlib.Core.Logic.{dite}
use Rattle.fib_addr.specs.Prefixes.{Prefix}
use Rattle.fib_resolve.specs.Aims.{aim}
use Rattle.fib_resolve.specs.declared.aims.Aim.{Aim}
use Rattle.fib_resolve.specs.declared.aims.Aim.TheVariants as aims
use Rattle.fib_resolve.specs.declared.types.End.{End}
use Rattle.fib_resolve.specs.declared.types.End.TheVariants as answers
use Rattle.fib_resolve.specs.declared.types.Tables.{Tables}
use Rattle.fib_core.specs.Union.{IsBucketWord}
use Rattle.fib_core.specs.Walk.{hop_of}
use Rattle.fib_core.specs.declared.word.Word.{Word}
use Rattle.fib_core.specs.declared.word.Word.TheVariants as words
use Rattle.fib_core_steady.specs.Aims.{IsLasting, WantsAlike}
use Rattle.fib_core_steady.specs.Names.{Names}
use Rattle.fib_core_steady.specs.Promise.{IsRight}
use Rattle.fib_core_promise.specs.Stack.{Objects, aim_word, Anchored, is_some}
use Rattle.fib_plane_view.specs.declared.put.Put.{Put}
use Rattle.fib_plane_view.specs.declared.put.Put.TheVariants as puts
use Rattle.fib_plane_view.specs.View.{View, Goes, IsLive, IsBalance, IsPlane, HasKind, IsPut, Answered, adjacency_end}
use Rattle.fib_plane_view.specs.Promise.{Promise, Allows, IsBegun, IsWalked, HasPaths, KeepsBuckets, KeepsPlies, IsPromised, Serves, EndsIn, MayPut}
use Rattle.fib_core_steady.specs.Promise.{IsEndWord, IsAimed}
use Rattle.fib_stack.specs.States.{State}
use Rattle.fib_stack.specs.Steadiness.{ledger_of, IsSteady}
use Rattle.fib_stack.specs.Buckets.{IsLooseBucket}
use Rattle.fib_stack.proofs.Keeping.{word_same}
use Rattle.fib_stack.proofs.Settling.{anchor_hop}

-- a put into a bucket that is loose, or holds the word
module _ (J : List Tables) (n : Names) (u v : View) (o k : ℕ) (w : Word) (a : Put)
    (before : IsPlane u) (mine : IsBalance u o) (lt : k < 16) (kind : HasKind u o w) (put : IsPut u v o k w a)
    (loose : (u.cell o k ≡ w) ⊎ IsLooseBucket J n.balance o k) where
  no_ply : (c : ℕ) → words.ToPly c ≡ w → ⊥
  no_ply c e = let h : HasKind u o (words.ToPly c) = subst (HasKind u o) (sym e) kind in true≢false (sym h.0 ∙ mine.1)

  ply_edges : (y t c : ℕ) → Goes v y t (words.ToPly c) → Goes u y t (words.ToPly c)
  ply_edges y t c g = ⊎_elim (λ (old : Goes u y t (words.ToPly c)). old) (λ (new : (y ≡ o) × (t ≡ k) × (words.ToPly c ≡ w)). absurd (no_ply c new.2)) (put.edges y t c (words.ToPly c) refl g)

  walked_back : (x : ℕ) → IsWalked v x → IsWalked u x
  walked_back x (inl e) = inl e
  walked_back x (inr g) = inr (g.0, g.1, ply_edges g.0 g.1 x g.2)

  walked_ply : (x : ℕ) → IsWalked u x → u.is_ply x ≡ true
  walked_ply x (inl e) = subst (λ (i : ℕ). u.is_ply i ≡ true) (sym e) before.root.0
  walked_ply x (inr g) = (before.kinds.ply g.0 g.1 x g.2).1

  walked_live : (x : ℕ) → IsWalked v x → IsLive v x
  walked_live x (inl e) = inl e
  walked_live x (inr g) = inr (inr (inr (g.0, g.1, words.ToPly x, refl, g.2)))

  held_still : (x : ℕ) → IsBalance u x → IsBalance v x
  held_still x b = let h = put.held x ∙ b.0 in (h, put.kinds x (inr (inl h)) ∙ b.1)

  balance_live : (x : ℕ) → IsBalance u x → IsLive v x
  balance_live x b = inr (inl (held_still x b).0)

  -- the bucket holds what it held, where it isn't loose
  cell_here : (z : Word) → u.cell o k ≡ w → Answered u o k w z a → z ≡ u.cell o k
  cell_here z is h = by_answer a h
    where
      by_answer : (b : Put) → Answered u o k w z b → z ≡ u.cell o k
      by_answer puts.Same h = h.1 ∙ sym is
      by_answer puts.Stored h = absurd (h.0 is)
      by_answer puts.Dropped h = absurd (h.0 is)

  -- an adjacency that a bucket leads to keeps its data
  data_same : (x s y t : ℕ) → v.cell x s ≡ words.ToAdjacency y → v.cell y t ≡ u.cell y t
  data_same x s y t e = put.others y t (λ is _. adjacency_apart is) (inr (inr (inr (x, s, words.ToAdjacency y, refl, inl e))))
    where
      adjacency_apart : y ≡ o → ⊥
      adjacency_apart is = ⊎_elim
          (λ (old : Goes u x s (words.ToAdjacency y)). true≢false (sym mine.0 ∙ ap u.is_held (sym is) ∙ (before.kinds.adjacency x s y old).1))
          (λ (new : (x ≡ o) × (s ≡ k) × (words.ToAdjacency y ≡ w)). let h : HasKind u o (words.ToAdjacency y) = subst (HasKind u o) (sym new.2) kind in
          true≢false (sym mine.0 ∙ ap u.is_held (sym is) ∙ (before.records h.1.0 y h.1.1).0))
          (put.edges x s y (words.ToAdjacency y) refl (inl e))

  end_still : (x s : ℕ) → v.cell x s ≡ u.cell x s → (end : End) → IsEndWord (adjacency_end u) end (u.cell x s) → IsEndWord (adjacency_end v) end (v.cell x s)
  end_still x s same answers.Drop h = same ∙ h
  end_still x s same answers.Receive h = same ∙ h
  end_still x s same (answers.Glean i) h = same ∙ h
  end_still x s same (answers.Hop i b m) h =
      let at = same ∙ h.1 in (
        h.0,
        at,
        ap (λ z. hop_of z (v.cell h.0 1) (v.cell h.0 2)) (data_same x s h.0 0 at)
            ∙ ap (λ z. hop_of (u.cell h.0 0) z (v.cell h.0 2)) (data_same x s h.0 1 at)
            ∙ ap (λ z. hop_of (u.cell h.0 0) (u.cell h.0 1) z) (data_same x s h.0 2 at) ∙ h.2,
      )

  aim_still : (x s : ℕ) → v.cell x s ≡ u.cell x s → (m : Aim) → IsAimed n.balance (adjacency_end u) m (u.cell x s) → IsAimed n.balance (adjacency_end v) m (v.cell x s)
  aim_still x s same (aims.Ends end) h = end_still x s same end h
  aim_still x s same (aims.On e) h = (h.0, same ∙ h.1, h.2)

  buckets_still : KeepsBuckets J n.balance u → KeepsBuckets J n.balance v
  buckets_still keeps = record {
    named = keeps.named;
    held = λ e x lasts is. held_still x (keeps.held e x lasts is);
    aimed = λ e x s m lasts is lts alike. aim_still x s (same e x s m lasts is alike (keeps.held e x lasts is)) m (keeps.aimed e x s m lasts is lts alike);
  }
    where
      same : (e : Prefix) (x s : ℕ) (m : Aim) → IsLasting J e → n.balance e ≡ Some x → WantsAlike J e s m → IsBalance u x → v.cell x s ≡ u.cell x s
      same e x s m lasts is alike b = dite (ℕ_discrete x o)
          (λ here. dite (ℕ_discrete s k)
          (λ at. ⊎_elim
          (λ (held : u.cell o k ≡ w). subst (λ (i : ℕ). v.cell i s ≡ u.cell i s) (sym here) (subst (λ (j : ℕ). v.cell o j ≡ u.cell o j) (sym at) (cell_here (v.cell o k) held put.answered)))
          (λ (free : IsLooseBucket J n.balance o k). absurd (free e m lasts (subst (λ (i : ℕ). n.balance e ≡ Some i) here is) (subst (λ (j : ℕ). WantsAlike J e j m) at alike)))
          loose)
          (λ ne. put.others x s (λ _ at. ne at) (balance_live x b)))
          (λ ne. put.others x s (λ here _. ne here) (balance_live x b))

  plies_still : KeepsPlies J n u → KeepsPlies J n v
  plies_still keeps x s walked lts =
      let w' = walked_back x walked in
      subst (λ (z : Word). IsRight J n x s z) (sym (put.others x s (λ e _. true≢false (sym (walked_ply x w') ∙ ap u.is_ply e ∙ mine.1)) (walked_live x walked))) (keeps x s w' lts)

  paths_still : HasPaths n u → HasPaths n v
  paths_still h = record { root = h.root; paths = λ y t c g. h.paths y t c (ply_edges y t c g) }

  pub promised_still : IsPromised J n u → IsPromised J n v
  promised_still h = record { buckets = buckets_still h.buckets; plies = plies_still h.plies }

pub put_serves : (p : Promise) (n : Names) (u v : View) (o k : ℕ) (w : Word) (a : Put) → IsBegun p → Serves p n u → IsPlane u → IsBalance u o → k < 16 → HasKind u o w
    → (u.cell o k ≡ w) ⊎ IsLooseBucket p.versions n.balance o k → IsPut u v o k w a → Serves p n v
put_serves p n u v o k w a begun serves plane mine lt kind loose put = record {
  paths = paths_still p.versions n u v o k w a plane mine lt kind put loose serves.paths;
  promised = λ b. promised_still p.versions n u v o k w a plane mine lt kind put loose (serves.promised b);
  still = λ z. absurd (let b : 0 < p.applied = begun in omega (arith, z, b));
}

-- so the plane's condition of a put is met
pub may_put : (p : Promise) (n : Names) (u : View) (o k : ℕ) (w : Word) → Allows p → IsBegun p → Serves p n u → IsPlane u → IsBalance u o → k < 16 → HasKind u o w → EndsIn p u w
    → (u.cell o k ≡ w) ⊎ IsLooseBucket p.versions n.balance o k → MayPut p u o k w
may_put p n u o k w allowed begun serves plane mine lt kind ends loose = record {
  allowed = allowed;
  names = n;
  before = serves;
  after = λ v a put. put_serves p n u v o k w a begun serves plane mine lt kind loose put;
  rooted = record {
    links = λ c e _. absurd (let h : HasKind u o (words.ToPly c) = subst (HasKind u o) e kind in true≢false (sym h.0 ∙ mine.1));
    unlinks = λ c e t d _. subst IsBucketWord e (plane.buckets o k mine lt);
  };
  ends = ends;
}

-- and puts of a turn and a retry are of that kind

same_some : (a b : ℕ) (x : Option ℕ) → x ≡ Some a → x ≡ Some b → a ≡ b
same_some a b x e h = let both : Some a ≡ Some b = sym e ∙ h in cc

-- names as they are during a turn: what steady words rest on has the same objects
pub moment_word : (s : State) (now : Objects) (e : Prefix) (m : Aim) → ((t : Prefix) → is_some (s.objects.balance t) ≡ true → now.balance t ≡ s.objects.balance t) → ((end : End) → s.holds e end ≡ true → now.record_of end ≡ s.objects.record_of end)
    → Anchored s.objects (ledger_of s) e m → aim_word now m ≡ aim_word s.objects m
moment_word s now e m balances records anchored = word_same s.objects now m
    (λ t is. balances t (subst (Anchored s.objects (ledger_of s) e) is anchored))
    (λ i a x is. records (answers.Hop i a x) (anchor_hop s e i a x m anchored is))

pub turn_is_loose : (J : List Tables) (S : Tables) → Contains J S → (s : State) (now : Objects) (e : Prefix) (o k : ℕ) → IsSteady J s
    → ((d : Prefix) (x : ℕ) → s.objects.balance d ≡ Some x → s.objects.balance e ≡ Some x → d ≡ e)
    → ((t : Prefix) → is_some (s.objects.balance t) ≡ true → now.balance t ≡ s.objects.balance t) → ((end : End) → s.holds e end ≡ true → now.record_of end ≡ s.objects.record_of end)
    → s.objects.balance e ≡ Some o → k < 16 → (s.cell o k ≢ aim_word now (aim S e k)) → IsLooseBucket J s.objects.balance o k
turn_is_loose J S c s now e o k steady apart balances records here lt differs d m lasting is alike =
    let same : d ≡ e = apart d o is here in
    let lasting' : IsLasting J e = subst (IsLasting J) same lasting in
    let alike' : WantsAlike J e k m = subst (λ (p : Prefix). WantsAlike J p k m) same alike in
    let h = steady.holding e k m lt lasting' alike' in
    let object : h.object ≡ o = same_some h.object o (s.objects.balance e) h.here here in
    differs (subst (λ (i : ℕ). s.cell i k ≡ aim_word s.objects m) object h.cell ∙ sym (moment_word s now e m balances records h.anchored) ∙ ap (aim_word now) (sym (alike' S c)))

pub late_is_loose : (J : List Tables) (s : State) (e : Prefix) (o k : ℕ) → IsSteady J s
    → ((d : Prefix) (x : ℕ) → s.objects.balance d ≡ Some x → s.objects.balance e ≡ Some x → d ≡ e)
    → s.objects.balance e ≡ Some o → k < 16 → (s.late e k ≡ None → ⊥) → IsLooseBucket J s.objects.balance o k
late_is_loose J s e o k steady apart here lt late d m lasting is alike =
    let same : d ≡ e = apart d o is here in
    let lasting' : IsLasting J e = subst (IsLasting J) same lasting in
    let alike' : WantsAlike J e k m = subst (λ (p : Prefix). WantsAlike J p k m) same alike in
    late (steady.holding e k m lt lasting' alike').on_time

pub fresh_is_loose : (J : List Tables) (balances : Prefix → Option ℕ) (o k : ℕ) → ((d : Prefix) → balances d ≡ Some o → ⊥) → IsLooseBucket J balances o k
fresh_is_loose J balances o k fresh d m lasting is alike = fresh d is
