-- What the stack's calls of the plane, and a scan, leave to the prefix table.
use Rattle.std.proofs.Common.{◌≡◌, ◌≢◌, ℕ, inl, inr, ⊎_elim, true, false, true≢false, Option, Some, None, refl, sym, ap, ◌∙◌, subst}
use Rattle.std.specs.Prelude.{Contains, List, Result, Ok, Err, ◌⊎◌}
use Rattle.std.specs.declared.alloc.AllocError.{AllocError}
use native.Mathlib.Decide.{ℕ_discrete}
use mathlib.Core.Logic.{dite}
use Rattle.fib_addr.specs.Prefixes.{Prefix}
use Rattle.fib_core.specs.declared.word.Word.{Word}
use Rattle.fib_core.specs.declared.word.Word.TheVariants as words
use Rattle.fib_pool.specs.declared.object.AdjacencyRecord.{AdjacencyRecord}
use Rattle.fib_pool.specs.declared.object.Kind.TheVariants as kinds
use Rattle.fib_plane_view.specs.declared.put.Put.{Put}
use Rattle.fib_plane_view.specs.View.{View, Retired, Goes, IsLive, IsBalance, IsPlane, HasKind, IsPut, IsTaken, IsLetGo, IsScanned, IsSwept, TookRecord, TookOne, GaveRecord, leads}
use Rattle.fib_plane_view.specs.Frames.{IsQuiet, IsAmong}

pub quiet_none : (look : Prefix → Option ℕ) (u : View) → IsQuiet look u u
quiet_none look u = record { plies = λ x is live. (is, live); cells = λ x t is live. refl; edges = λ x t c g. g; kinds = λ x m h. (h, refl); held = λ x is h. h; root = refl }

pub quiet_then : (look : Prefix → Option ℕ) (u v w : View) → IsQuiet look u v → IsQuiet look v w → IsQuiet look u w
quiet_then look u v w f g = record {
  plies = λ x is live. let q = g.plies x is live in f.plies x q.0 q.1;
  cells = λ x t is live. let q = g.plies x is live in g.cells x t is live ∙ f.cells x t q.0 q.1;
  edges = λ x t c e. f.edges x t c (g.edges x t c e);
  kinds = λ x m h. let q = f.kinds x m h in let r = g.kinds x (still x m q.1) q.0 in (r.0, r.1 ∙ q.1);
  held = λ x is h. let q = g.plies x is (inr (inl h)) in f.held x q.0 (g.held x is h);
  root = g.root ∙ f.root;
}
  where
    still : (x : ℕ) → (u.is_ply x ≡ true) ⊎ IsAmong look x → v.is_ply x ≡ u.is_ply x → (v.is_ply x ≡ true) ⊎ IsAmong look x
    still x (inl is) e = inl (e ∙ is)
    still x (inr m) e = inr m

-- a bucket's word leads to what is in use
pub led_live : (u : View) (x : ℕ) (w : Word) → u.is_ply x ≡ false → HasKind u x w → (y : ℕ) → leads w y → IsLive u y
led_live u x (words.ToBalance o) is h y l = subst (λ (i : ℕ). IsLive u i) l (inr (inl h.0))
led_live u x (words.ToAdjacency o) is h y l = subst (λ (i : ℕ). IsLive u i) l (inr (inr (inl h.1)))
led_live u x (words.ToPly c) is h y l = absurd (true≢false (sym h.0 ∙ is))
led_live u x words.Drop is h y l = absurd l
led_live u x words.Receive is h y l = absurd l
led_live u x (words.Glean i) is h y l = absurd l
led_live u x (words.Plain i) is h y l = absurd l

-- a put into a bucket
module _ (u v : View) (x s : ℕ) (w : Word) (a : Put) (mine : IsBalance u x) (kind : HasKind u x w) (put : IsPut u v x s w a) where
  no_ply : (c : ℕ) → words.ToPly c ≡ w → ⊥
  no_ply c e = let h : HasKind u x (words.ToPly c) = subst (HasKind u x) (sym e) kind in true≢false (sym h.0 ∙ mine.1)

  ply_edges : (y t c : ℕ) → Goes v y t (words.ToPly c) → Goes u y t (words.ToPly c)
  ply_edges y t c g = ⊎_elim (λ (old : Goes u y t (words.ToPly c)). old) (λ (new : (y ≡ x) × (t ≡ s) × (words.ToPly c ≡ w)). absurd (no_ply c new.2)) (put.edges y t c (words.ToPly c) refl g)

  live_back : IsPlane v → (y : ℕ) → v.is_ply y ≡ true → IsLive v y → IsLive u y
  live_back plane y is (inl e) = inl e
  live_back plane y is (inr (inl h)) = inr (inl (sym (put.held y) ∙ h))
  live_back plane y is (inr (inr (inl r))) = absurd (true≢false (sym is ∙ (plane.records r.0 y r.1).1))
  live_back plane y is (inr (inr (inr g))) = ⊎_elim
      (λ (old : Goes u g.0 g.1 g.2). inr (inr (inr (g.0, g.1, g.2, g.3, old))))
      (λ (new : (g.0 ≡ x) × (g.1 ≡ s) × (g.2 ≡ w)). led_live u x w mine.1 kind y (subst (λ (z : Word). leads z y) new.2 g.3))
      (put.edges g.0 g.1 y g.2 g.3 g.4)

  off_ply : (y : ℕ) → v.is_ply y ≡ true → IsLive v y → y ≡ x → ⊥
  off_ply y is live e = true≢false (sym is ∙ put.kinds y live ∙ ap u.is_ply e ∙ mine.1)

  pub put_quiet : IsPlane v → (look : Prefix → Option ℕ) → IsQuiet look u v
  put_quiet plane look = record {
    plies = λ y is live. (sym (put.kinds y live) ∙ is, live_back plane y is live);
    cells = λ y t is live. put.others y t (λ e _. off_ply y is live e) live;
    edges = ply_edges;
    kinds = λ y m h. let h' = put.held y ∙ h in (h', put.kinds y (inr (inl h')));
    held = λ y is h. sym (put.held y) ∙ h;
    root = put.kinds 0 (inl refl);
  }

-- a balance is taken
module _ (u v : View) (c : ℕ) (plane : IsPlane v) (take : IsTaken u v kinds.Balance c) where
  goes_back : (x s : ℕ) (z : Word) → Goes v x s z → Goes u x s z
  goes_back x s z (inl e) = inl (sym (take.cells x s) ∙ e)
  goes_back x s z (inr h) = inr (subst (λ (rs : List Retired). Contains rs (record { from = x; slot = s; word = z })) take.retired h)

  ply_not : (y : ℕ) → v.is_ply y ≡ true → y ≢ c
  ply_not y is e = true≢false (sym is ∙ ap v.is_ply e ∙ take.held.1)

  held_not : (y : ℕ) → u.is_held y ≡ true → y ≢ c
  held_not y h e = true≢false (sym h ∙ ap u.is_held e ∙ take.fresh)

  back : (y : ℕ) → v.is_ply y ≡ true → IsLive v y → IsLive u y
  back y is (inl e) = inl e
  back y is (inr (inl h)) = inr (inl (sym (take.others y (ply_not y is)).0 ∙ h))
  back y is (inr (inr (inl r))) = absurd (true≢false (sym is ∙ (plane.records r.0 y r.1).1))
  back y is (inr (inr (inr g))) = inr (inr (inr (g.0, g.1, g.2, g.3, goes_back g.0 g.1 g.2 g.4)))

  pub take_quiet : (look : Prefix → Option ℕ) → IsQuiet look u v
  take_quiet look = record {
    plies = λ y is live. (sym (take.others y (ply_not y is)).1 ∙ is, back y is live);
    cells = λ y t is live. take.cells y t;
    edges = λ y t z g. goes_back y t (words.ToPly z) g;
    kinds = λ y m h. let o = take.others y (held_not y h) in (o.0 ∙ h, o.1);
    held = λ y is h. sym (take.others y (ply_not y is)).0 ∙ h;
    root = (take.others 0 (λ e. take.other (sym e))).1;
  }

-- what is swept loses edges alone
module _ (u v : View) (plane : IsPlane v) (swept : IsSwept u v) (held : (y : ℕ) → v.is_held y ≡ true → u.is_held y ≡ true) where
  swept_back : (y : ℕ) → v.is_ply y ≡ true → IsLive v y → IsLive u y
  swept_back y is (inl e) = inl e
  swept_back y is (inr (inl h)) = inr (inl (held y h))
  swept_back y is (inr (inr (inl r))) = absurd (true≢false (sym is ∙ (plane.records r.0 y r.1).1))
  swept_back y is (inr (inr (inr g))) = inr (inr (inr (g.0, g.1, g.2, g.3, swept.edges g.0 g.1 y g.2 g.3 g.4)))

  swept_quiet : (look : Prefix → Option ℕ) → ((y : ℕ) → (u.is_ply y ≡ true) ⊎ IsAmong look y → u.is_held y ≡ true → v.is_held y ≡ true) → IsQuiet look u v
  swept_quiet look stays = record {
    plies = λ y is live. (sym (swept.kinds y live) ∙ is, swept_back y is live);
    cells = λ y t is live. swept.cells y t live;
    edges = λ y t z g. swept.edges y t z (words.ToPly z) refl g;
    kinds = λ y m h. let h' = stays y m h in (h', swept.kinds y (inr (inl h')));
    held = λ y is h. held y h;
    root = swept.kinds 0 (inl refl);
  }

-- a balance is let go that is no prefix's
pub let_go_quiet : (u v : View) (c : ℕ) → IsPlane v → IsBalance u c → IsLetGo u v c → (look : Prefix → Option ℕ) → (IsAmong look c → ⊥) → IsQuiet look u v
let_go_quiet u v c plane mine go look none = swept_quiet u v plane go.swept
    (λ y h. dite (ℕ_discrete y c) (λ e. absurd (true≢false (sym h ∙ ap v.is_held e ∙ go.gone))) (λ ne. sym (go.held y ne) ∙ h))
    look (λ y m h. go.held y (apart y m) ∙ h)
  where
    apart : (y : ℕ) → (u.is_ply y ≡ true) ⊎ IsAmong look y → y ≢ c
    apart y (inl is) e = true≢false (sym is ∙ ap u.is_ply e ∙ mine.1)
    apart y (inr m) e = none (subst (λ (i : ℕ). IsAmong look i) e m)

-- a record loses a user
pub gave_quiet : (u v : View) (m : AdjacencyRecord) → IsPlane v → GaveRecord u v m → (look : Prefix → Option ℕ) → IsQuiet look u v
gave_quiet u v m plane gave look = swept_quiet u v plane gave.swept (λ y h. sym (gave.held y) ∙ h) look (λ y k h. gave.held y ∙ h)

-- a scan
pub scan_quiet : (u v : View) (n : ℕ) → IsPlane v → IsScanned u v n → (look : Prefix → Option ℕ) → IsQuiet look u v
scan_quiet u v n plane scan look = swept_quiet u v plane scan.swept (λ y h. sym (scan.held y) ∙ h) look (λ y k h. scan.held y ∙ h)

-- a record gets a user
module _ (u v : View) (m : AdjacencyRecord) (x : ℕ) (before : IsPlane u) (plane : IsPlane v) (took : TookRecord u v m x) where
  plies_back : (y : ℕ) → v.is_ply y ≡ true → IsLive v y → (u.is_ply y ≡ true) × IsLive u y
  plies_back y is (inl e) = (subst (λ (i : ℕ). u.is_ply i ≡ true) (sym e) before.root.0, inl e)
  plies_back y is (inr (inl h)) = let h' : u.is_held y ≡ true = sym (took.held y) ∙ h in (sym (took.kinds y (inr (inl h'))) ∙ is, inr (inl h'))
  plies_back y is (inr (inr (inl r))) = absurd (true≢false (sym is ∙ (plane.records r.0 y r.1).1))
  plies_back y is (inr (inr (inr g))) = let live : IsLive u y = inr (inr (inr (g.0, g.1, g.2, g.3, took.edges g.0 g.1 y g.2 g.3 g.4))) in (sym (took.kinds y live) ∙ is, live)

  pub took_quiet : (look : Prefix → Option ℕ) → IsQuiet look u v
  took_quiet look = record {
    plies = plies_back;
    cells = λ y t is live. took.cells y t (plies_back y is live).1;
    edges = λ y t z g. took.edges y t z (words.ToPly z) refl g;
    kinds = λ y q h. (took.held y ∙ h, took.kinds y (inr (inl h)));
    held = λ y is h. sym (took.held y) ∙ h;
    root = took.kinds 0 (inl refl);
  }

pub took_one_quiet : (u v : View) (m : AdjacencyRecord) (r : Result (Option ℕ) AllocError) → IsPlane u → IsPlane v → TookOne u v m r → (look : Prefix → Option ℕ) → IsQuiet look u v
took_one_quiet u v m (Ok (Some x)) before plane t look = took_quiet u v m x before plane t look
took_one_quiet u v m (Ok None) before plane t look = subst (λ (w : View). IsQuiet look u w) (sym t.0) (quiet_none look u)
took_one_quiet u v m (Err e) before plane t look = subst (λ (w : View). IsQuiet look u w) (sym t) (quiet_none look u)
