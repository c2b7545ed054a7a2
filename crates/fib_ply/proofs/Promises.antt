-- What the table keeps is what the plane's calls ask.
use Rattle.std.proofs.Common.{arith, ◌≡◌, ℕ, ◌<◌, inl, inr, ⊎_elim, Bool, true, false, true≢false, List, Some, None, refl, sym, ap, ◌∙◌, subst}
use Rattle.std.specs.Prelude.{Contains, nat_lt, if◌then◌else◌}
use Rattle.std.proofs.lemmas.Bool.Decides.{nat_tests}
use Rattle.fib_addr.specs.Prefixes.{Prefix}
use Rattle.fib_resolve.specs.declared.types.Tables.{Tables}
use Rattle.fib_core.specs.declared.word.Word.{Word}
use Rattle.fib_core.specs.declared.word.Word.TheVariants.{Drop, ToPly, ToBalance, Plain, Receive, Glean, ToAdjacency}
use Rattle.fib_pool.specs.declared.object.Kind.TheVariants as kinds
use Rattle.fib_core_steady.specs.Aims.{BestAlike}
use Rattle.fib_core_steady.specs.Promise as steady
use Rattle.fib_core_promise.specs.Matches.{promised_by}
use Rattle.fib_core_promise.proofs.Matches.{best_lasts}
use Rattle.fib_core_promise.proofs.Answers.{promised_to}
use Rattle.fib_plane_view.specs.declared.put.Put.{Put}
use Rattle.fib_plane_view.specs.declared.put.Put.TheVariants as puts
use Rattle.fib_plane_view.specs.Frames.{Beside}
use Rattle.fib_plane_view.specs.Promise.{IsBegun, IsStill, Serves, MayPut, MayLetGo, KeepsRooted, EndsIn}
use Rattle.fib_plane_view.specs.View.{View, Retired, Goes, Edge, Kinds, IsPut, IsTaken, IsLetGo, Closes, Answered, leads}
use Rattle.fib_plane_view.proofs.Frames.{beside_put, buckets_beside}
use Rattle.fib_reach.specs.Walks.{Leads}
use Rattle.fib_ply.specs.Prefixes.{Look}
use Rattle.fib_ply.specs.Served.{Paths, IsRight, IsServed, Watch, Wanted, KeepsBeside, names_of}
use Rattle.fib_ply.specs.inner.View.{IsSent}
use Rattle.fib_ply.specs.inner.Change.{IsCalm}
use Rattle.fib_ply.specs.Plies.{IsSound}

pub calm_none : (u : View) (x : ℕ) (w : Word) → IsCalm u x w → Closes u x w → ⊥
calm_none u x (ToPly c) calm q = calm (subst (λ (i : ℕ). Leads (Edge u) i x) (sym q.1) q.2)
calm_none u x (ToBalance c) calm q = calm (subst (λ (i : ℕ). Leads (Edge u) i x) (sym q.1) q.2)
calm_none u x (ToAdjacency c) calm q = calm (subst (λ (i : ℕ). Leads (Edge u) i x) (sym q.1) q.2)
calm_none u x Drop calm q = q.1
calm_none u x Receive calm q = q.1
calm_none u x (Glean i) calm q = q.1
calm_none u x (Plain i) calm q = q.1

cell_of : (u : View) (x s : ℕ) (w after : Word) (a : Put) → (Closes u x w → ⊥) → Answered u x s w after a → after ≡ w
cell_of u x s w after puts.Same none h = h.1
cell_of u x s w after puts.Stored none h = h.1
cell_of u x s w after puts.Dropped none h = absurd (none h.2)

pub sent : (u v : View) (x s : ℕ) (w : Word) (a : Put) → IsCalm u x w → IsPut u v x s w a → IsSent u v x s w
sent u v x s w a calm put = record {
  cell = cell_of u x s w (v.cell x s) a (calm_none u x w calm) put.answered;
  others = put.others;
  edges = put.edges;
  kinds = put.kinds;
  held = put.held;
  records = put.records;
  free = put.free;
  stores = put.stores;
  spare = put.spare;
  spared = put.spared;
}

-- what is beside the plies stays sound
pub sound_beside : (wants : Watch) (look : Look) (u v : View) → Beside u v → IsSound wants look u → IsSound wants look v
sound_beside wants look u v beside sound = record {
  balance = λ l c o e. beside.balances o (sound.balance l c o e);
  whole = sound.whole;
  still = λ z l c o t e lt. beside.cells o t (sound.balance l c o e) ∙ sound.still z l c o t e lt;
}

-- where the word leads as a balance
pub record IsNew (wants : Watch) (u : View) (w : Word) : Type 0 where
  pub apart : (o : ℕ) → w ≡ ToBalance o → u.is_ply o ≡ false
  pub still : wants.promise.applied ≡ 0 → (o t : ℕ) → w ≡ ToBalance o → t < 16 → u.cell o t ≡ Drop

module _ (wants : Watch) (u v : View) (kept : KeepsBeside wants u) where
  pub kept_by : Beside u v → (wants.promise.applied ≡ 0 → IsStill v) → KeepsBeside wants v
  kept_by beside still = record {
    allowed = kept.allowed;
    newest = kept.newest;
    older = kept.older;
    versions = kept.versions;
    buckets = λ b. buckets_beside u v beside wants.promise.versions wants.balance (kept.buckets b);
    still = still;
  }

  pub kept_sent : (x s : ℕ) (w : Word) → Kinds u → u.is_ply x ≡ true → IsNew wants u w → Beside u v → IsSent u v x s w → KeepsBeside wants v
  kept_sent x s w kinds is new beside put = kept_by beside (λ z y r o t g lt. ⊎_elim
      (λ (old : Goes u y r (ToBalance o)). same o t (kinds.balance y r o old).0 (y, r, ToBalance o, refl, g) ∙ kept.still z y r o t old lt)
      (λ (q : (y ≡ x) × (r ≡ s) × (ToBalance o ≡ w)). same o t (new.apart o (sym q.2)) (y, r, ToBalance o, refl, g) ∙ new.still z o t (sym q.2) lt)
      (put.edges y r o (ToBalance o) refl g))
    where
      same : (o t : ℕ) → u.is_ply o ≡ false → (y : ℕ) × (r : ℕ) × (z : Word) × leads z o × Goes v y r z → v.cell o t ≡ u.cell o t
      same o t ne g = put.others o t (λ e _. true≢false (sym is ∙ sym (ap u.is_ply e) ∙ ne)) (inr (inr (inr g)))

  pub kept_taken : (c : ℕ) → Beside u v → IsTaken u v kinds.Ply c → KeepsBeside wants v
  kept_taken c beside take = kept_by beside (λ z y r o t g lt. take.cells o t ∙ kept.still z y r o t (back y r o g) lt)
    where
      back : (y r o : ℕ) → Goes v y r (ToBalance o) → Goes u y r (ToBalance o)
      back y r o (inl e) = inl (sym (take.cells y r) ∙ e)
      back y r o (inr h) = inr (subst (λ (rs : List Retired). Contains rs (record { from = y; slot = r; word = ToBalance o })) take.retired h)

  pub kept_let_go : (c : ℕ) → Beside u v → IsLetGo u v c → KeepsBeside wants v
  kept_let_go c beside go = kept_by beside (λ z y r o t g lt. go.swept.cells o t (inr (inr (inr (y, r, ToBalance o, refl, g)))) ∙ kept.still z y r o t (go.swept.edges y r o (ToBalance o) refl g) lt)

module _ (wants : Watch) (u : View) (kept : KeepsBeside wants u) (n : Paths) where
  begun_true : IsBegun wants.promise → nat_lt 0 wants.promise.applied ≡ true
  begun_true b = grind (arith, nat_tests)

  pub wanted_of : IsBegun wants.promise → (a o : ℕ) (e : Prefix) → BestAlike wants.promise.versions a e → wants.balance e ≡ Some o → Wanted wants a o
  wanted_of b a o e alike is =
      ap (λ (t : Bool). if t then promised_by wants.promise.versions wants.balance a else None) (begun_true b)
      ∙ ap (λ (J : List Tables). promised_by J wants.balance a) kept.versions
      ∙ promised_to kept.newest kept.older wants.balance a o (e, subst (λ (J : List Tables). BestAlike J a e) kept.versions alike, is)

  to_right : IsBegun wants.promise → (x s : ℕ) (w : Word) → IsRight (Wanted wants) n x s w → steady.IsRight wants.promise.versions (names_of wants n) x s w
  to_right b x s (ToPly c) h = tt
  to_right b x s (ToBalance o) h = λ a e inside alike.
      (let p = (kept.buckets b).named e (best_lasts wants.promise.versions a e alike) in p.1 ∙ ap Some (sym (h a p.0 inside (wanted_of b a p.0 e alike p.1))))
  to_right b x s Drop h = h
  to_right b x s Receive h = h
  to_right b x s (Glean i) h = h
  to_right b x s (ToAdjacency y) h = h
  to_right b x s (Plain m) h = h

  pub serves_of : IsServed (Wanted wants) n u → Serves wants.promise (names_of wants n) u
  serves_of ok = record {
    paths = record { root = ok.root; paths = λ x s c g. (ok.paths x s c g).1 };
    promised = λ b. record {
      buckets = kept.buckets b;
      plies = λ x s walked lt. to_right b x s (u.cell x s) (ok.right x s (⊎_elim (λ (z : x ≡ 0). inl z) (λ (g : (y : ℕ) × (t : ℕ) × Goes u y t (ToPly x)). inr (g.0, g.1, (ok.paths g.0 g.1 x g.2).0, g.2)) walked) lt);
    };
    still = kept.still;
  }

module _ (wants : Watch) (u : View) (kept : KeepsBeside wants u) (n : Paths) where
  pub may_put : (x s : ℕ) (w : Word) → IsServed (Wanted wants) n u → Kinds u → u.is_ply x ≡ true → IsCalm u x w → IsNew wants u w
      → ((v : View) → IsSent u v x s w → IsServed (Wanted wants) n v) → KeepsRooted u x s w → EndsIn wants.promise u w → MayPut wants.promise u x s w
  may_put x s w ok kinds is calm new send rooted ends = record {
    allowed = kept.allowed;
    names = names_of wants n;
    before = serves_of wants u kept n ok;
    after = λ v a put. serves_after v (kept_sent wants u v kept x s w kinds is new (beside_put u v x s w a kinds is put) (sent u v x s w a calm put)) (send v (sent u v x s w a calm put));
    rooted = rooted;
    ends = ends;
  }
    where
      serves_after : (v : View) → KeepsBeside wants v → IsServed (Wanted wants) n v → Serves wants.promise (names_of wants n) v
      serves_after v k served = serves_of wants v k n served

  pub may_let_go : (c : ℕ) → u.is_ply c ≡ true → IsServed (Wanted wants) n u → MayLetGo wants.promise u c
  may_let_go c is ok = (kept.allowed, (names_of wants n, serves_of wants u kept n ok, λ b e lasts named. true≢false (sym is ∙ ((kept.buckets b).held e c lasts named).1)))
