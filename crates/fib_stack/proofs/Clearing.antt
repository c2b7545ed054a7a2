-- Calls that add no edge keep what workers are promised.
use Rattle.std.proofs.Common.{◌≡◌, ℕ, inl, inr, true≢false, Some, refl, sym, ap, ◌∙◌, subst}
use Rattle.std.specs.Prelude.{Contains, List}
use Rattle.fib_addr.specs.Prefixes.{Prefix}
use Rattle.fib_resolve.specs.declared.aims.Aim.{Aim}
use Rattle.fib_resolve.specs.declared.aims.Aim.TheVariants as aims
use Rattle.fib_resolve.specs.declared.types.End.{End}
use Rattle.fib_resolve.specs.declared.types.End.TheVariants as answers
use Rattle.fib_core.specs.Walk.{hop_of}
use Rattle.fib_core.specs.declared.word.Word.{Word}
use Rattle.fib_core.specs.declared.word.Word.TheVariants as words
use Rattle.fib_pool.specs.declared.object.AdjacencyRecord.{AdjacencyRecord}
use Rattle.fib_pool.specs.declared.object.Kind.TheVariants as kinds
use Rattle.fib_core_steady.specs.Aims.{IsLasting}
use Rattle.fib_core_steady.specs.Names.{Names}
use Rattle.fib_core_steady.specs.Promise.{IsRight}
use Rattle.fib_plane_view.specs.View.{View, Retired, Goes, IsLive, IsBalance, IsTaken, IsLetGo, IsScanned, TookRecord, GaveRecord, leads, adjacency_end}
use Rattle.fib_plane_view.specs.Promise.{Promise, IsBegun, IsWalked, IsPromised, IsStill, Serves}
use Rattle.fib_core_steady.specs.Promise.{IsEndWord, IsAimed}

module _ (p : Promise) (n : Names) (u v : View)
    (edges : (y t d : ℕ) (z : Word) → leads z d → Goes v y t z → Goes u y t z)
    (cells : (y t : ℕ) → IsLive u y → IsLive v y → v.cell y t ≡ u.cell y t)
    (balances : IsBegun p → (e : Prefix) (o : ℕ) → IsLasting p.versions e → n.balance e ≡ Some o → IsBalance u o → IsBalance v o) where
  held_live : (w : View) (x : ℕ) → IsBalance w x → IsLive w x
  held_live w x b = inr (inl b.0)

  walked_back : (x : ℕ) → IsWalked v x → IsWalked u x
  walked_back x (inl e) = inl e
  walked_back x (inr g) = inr (g.0, g.1, edges g.0 g.1 x (words.ToPly x) refl g.2)

  walked_live : (w : View) (x : ℕ) → IsWalked w x → IsLive w x
  walked_live w x (inl e) = inl e
  walked_live w x (inr g) = inr (inr (inr (g.0, g.1, words.ToPly x, refl, g.2)))

  -- an adjacency to which a cell leads that is the same
  data_same : (x s y t : ℕ) → v.cell x s ≡ u.cell x s → u.cell x s ≡ words.ToAdjacency y → v.cell y t ≡ u.cell y t
  data_same x s y t same e = cells y t
      (inr (inr (inr (x, s, words.ToAdjacency y, refl, inl e))))
      (inr (inr (inr (x, s, words.ToAdjacency y, refl, inl (same ∙ e)))))

  end_kept : (x s : ℕ) → v.cell x s ≡ u.cell x s → (end : End) → IsEndWord (adjacency_end u) end (u.cell x s) → IsEndWord (adjacency_end v) end (v.cell x s)
  end_kept x s same answers.Drop h = same ∙ h
  end_kept x s same answers.Receive h = same ∙ h
  end_kept x s same (answers.Glean i) h = same ∙ h
  end_kept x s same (answers.Hop i a m) h = (
    h.0,
    same ∙ h.1,
    ap (λ z. hop_of z (v.cell h.0 1) (v.cell h.0 2)) (data_same x s h.0 0 same h.1)
        ∙ ap (λ z. hop_of (u.cell h.0 0) z (v.cell h.0 2)) (data_same x s h.0 1 same h.1)
        ∙ ap (λ z. hop_of (u.cell h.0 0) (u.cell h.0 1) z) (data_same x s h.0 2 same h.1) ∙ h.2,
  )

  aim_kept : (x s : ℕ) → v.cell x s ≡ u.cell x s → (m : Aim) → IsAimed n.balance (adjacency_end u) m (u.cell x s) → IsAimed n.balance (adjacency_end v) m (v.cell x s)
  aim_kept x s same (aims.Ends end) h = end_kept x s same end h
  aim_kept x s same (aims.On e) h = (h.0, same ∙ h.1, h.2)

  promised : IsBegun p → IsPromised p.versions n u → IsPromised p.versions n v
  promised begun h = record {
    buckets = record {
      named = h.buckets.named;
      held = λ e o lasts is. balances begun e o lasts is (h.buckets.held e o lasts is);
      aimed = λ e o k m lasts is lt alike.
          let b = h.buckets.held e o lasts is in
          aim_kept o k (cells o k (held_live u o b) (held_live v o (balances begun e o lasts is b))) m (h.buckets.aimed e o k m lasts is lt alike);
    };
    plies = λ x s walked lt.
        let w = walked_back x walked in
        subst (λ (z : Word). IsRight p.versions n x s z) (sym (cells x s (walked_live u x w) (walked_live v x walked))) (h.plies x s w lt);
  }

  still : IsStill u → IsStill v
  still h x s o t g lt =
      let g' = edges x s o (words.ToBalance o) refl g in
      cells o t (inr (inr (inr (x, s, words.ToBalance o, refl, g')))) (inr (inr (inr (x, s, words.ToBalance o, refl, g)))) ∙ h x s o t g' lt

  pub serves_still : Serves p n u → Serves p n v
  serves_still h = record {
    paths = record { root = h.paths.root; paths = λ x s c g. h.paths.paths x s c (edges x s c (words.ToPly c) refl g) };
    promised = λ begun. promised begun (h.promised begun);
    still = λ z. still (h.still z);
  }

pub took_serves : (p : Promise) (n : Names) (u v : View) (m : AdjacencyRecord) (x : ℕ) → TookRecord u v m x → Serves p n u → Serves p n v
took_serves p n u v m x took = serves_still p n u v took.edges (λ y t live _. took.cells y t live) (λ _ e o lasts is b. (took.held o ∙ b.0, took.kinds o (inr (inl b.0)) ∙ b.1))

pub gave_serves : (p : Promise) (n : Names) (u v : View) (m : AdjacencyRecord) → GaveRecord u v m → Serves p n u → Serves p n v
gave_serves p n u v m gave = serves_still p n u v gave.swept.edges (λ y t _ live. gave.swept.cells y t live) (λ _ e o lasts is b. let h = gave.held o ∙ b.0 in (h, gave.swept.kinds o (inr (inl h)) ∙ b.1))

pub scan_serves : (p : Promise) (n : Names) (u v : View) (left : ℕ) → IsScanned u v left → Serves p n u → Serves p n v
scan_serves p n u v left scan = serves_still p n u v scan.swept.edges (λ y t _ live. scan.swept.cells y t live) (λ _ e o lasts is b. let h = scan.held o ∙ b.0 in (h, scan.swept.kinds o (inr (inl h)) ∙ b.1))

pub let_go_serves : (p : Promise) (n : Names) (u v : View) (c : ℕ) → IsLetGo u v c → (IsBegun p → (e : Prefix) → IsLasting p.versions e → n.balance e ≡ Some c → ⊥) → Serves p n u → Serves p n v
let_go_serves p n u v c go other = serves_still p n u v go.swept.edges (λ y t _ live. go.swept.cells y t live)
    (λ begun e o lasts is b. let h = go.held o (λ at. other begun e lasts (is ∙ ap Some at)) ∙ b.0 in (h, go.swept.kinds o (inr (inl h)) ∙ b.1))

pub take_serves : (p : Promise) (n : Names) (u v : View) (c : ℕ) → IsTaken u v kinds.Balance c → Serves p n u → Serves p n v
take_serves p n u v c take = serves_still p n u v
    (λ y t d z l g. goes_back y t z g)
    (λ y t _ _. take.cells y t)
    (λ _ e o lasts is b. let q = take.others o (λ at. true≢false (sym b.0 ∙ ap u.is_held at ∙ take.fresh)) in (q.0 ∙ b.0, q.1 ∙ b.1))
  where
    goes_back : (x s : ℕ) (z : Word) → Goes v x s z → Goes u x s z
    goes_back x s z (inl e) = inl (sym (take.cells x s) ∙ e)
    goes_back x s z (inr h) = inr (subst (λ (rs : List Retired). Contains rs (record { from = x; slot = s; word = z })) take.retired h)
