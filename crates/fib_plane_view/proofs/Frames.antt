-- What each call leaves as it is.
use Rattle.std.proofs.Common.{◌≡◌, ◌≢◌, ℕ, inl, inr, true, true≢false, List, Option, refl, sym, ap, ◌∙◌}
use Rattle.fib_addr.specs.Prefixes.{Prefix}
use Rattle.fib_resolve.specs.declared.aims.Aim.{Aim}
use Rattle.fib_resolve.specs.declared.aims.Aim.TheVariants as aims
use Rattle.fib_resolve.specs.declared.types.End.{End}
use Rattle.fib_resolve.specs.declared.types.End.TheVariants as answers
use Rattle.fib_resolve.specs.declared.types.Tables.{Tables}
use Rattle.fib_core.specs.Walk.{hop_of}
use Rattle.fib_core.specs.declared.word.Word.{Word}
use Rattle.fib_core.specs.declared.word.Word.TheVariants as words
use Rattle.fib_pool.specs.declared.object.Kind.TheVariants as kinds
use Rattle.fib_plane_view.specs.declared.put.Put.{Put}
use Rattle.fib_plane_view.specs.View.{View, Kinds, IsLive, IsBalance, IsPut, IsTaken, IsLetGo, adjacency_end}
use Rattle.fib_plane_view.specs.Promise.{KeepsBuckets}
use Rattle.fib_core_steady.specs.Promise.{IsEndWord, IsAimed}
use Rattle.fib_plane_view.specs.Frames.{Beside}

-- an adjacency to which a cell leads is in use
pub led : (u : View) (x s o : ℕ) → u.cell x s ≡ words.ToAdjacency o → IsLive u o
led u x s o e = inr (inr (inr (x, s, words.ToAdjacency o, refl, inl e)))

pub beside_none : (u : View) → Beside u u
beside_none u = record { cells = λ x k b. refl; adjacencies = λ x k o t b e. refl; balances = λ x b. b; fresh = λ x b. b; records = record { record_of = refl; users = refl } }

pub beside_then : (u v w : View) → Beside u v → Beside v w → Beside u w
beside_then u v w f g = record {
  cells = λ x k b. g.cells x k (f.balances x b) ∙ f.cells x k b;
  adjacencies = λ x k o t b e. g.adjacencies x k o t (f.balances x b) (f.cells x k b ∙ e) ∙ f.adjacencies x k o t b e;
  balances = λ x b. g.balances x (f.balances x b);
  fresh = λ x b. f.fresh x (g.fresh x b);
  records = record { record_of = g.records.record_of ∙ f.records.record_of; users = g.records.users ∙ f.records.users };
}

-- a put into a ply
pub beside_put : (u v : View) (x s : ℕ) (w : Word) (a : Put) → Kinds u → u.is_ply x ≡ true → IsPut u v x s w a → Beside u v
beside_put u v x s w a kinds is put = record {
  cells = same;
  adjacencies = λ y k o t b e. put.others o t (λ f _. true≢false (sym is ∙ sym (ap u.is_ply f) ∙ (kinds.adjacency y k o (inl e)).0)) (led v y k o (same y k b ∙ e));
  balances = λ y b. (put.held y ∙ b.0, put.kinds y (inr (inl (put.held y ∙ b.0))) ∙ b.1);
  fresh = λ y b. (sym (put.held y) ∙ b.0, sym (put.kinds y (inr (inl b.0))) ∙ b.1);
  records = put.records;
}
  where
    same : (y k : ℕ) → IsBalance u y → v.cell y k ≡ u.cell y k
    same y k b = put.others y k (λ e _. true≢false (sym is ∙ sym (ap u.is_ply e) ∙ b.1)) (inr (inl (put.held y ∙ b.0)))

pub beside_taken : (u v : View) (c : ℕ) → IsTaken u v kinds.Ply c → Beside u v
beside_taken u v c take = record {
  cells = λ y k b. take.cells y k;
  adjacencies = λ y k o t b e. take.cells o t;
  balances = λ y b. let ne : y ≢ c = (λ e. true≢false (sym b.0 ∙ ap u.is_held e ∙ take.fresh)) in let o = take.others y ne in (o.0 ∙ b.0, o.1 ∙ b.1);
  fresh = λ y b. let ne : y ≢ c = (λ e. true≢false (sym take.held.1 ∙ sym (ap v.is_ply e) ∙ b.1)) in let o = take.others y ne in (sym o.0 ∙ b.0, sym o.1 ∙ b.1);
  records = take.records;
}

-- a ply is let go
pub beside_let_go : (u v : View) (c : ℕ) → u.is_ply c ≡ true → IsLetGo u v c → Beside u v
beside_let_go u v c is go = record {
  cells = same;
  adjacencies = λ y k o t b e. go.swept.cells o t (led v y k o (same y k b ∙ e));
  balances = λ y b. let h = held y b in (h, go.swept.kinds y (inr (inl h)) ∙ b.1);
  fresh = λ y b. let ne : y ≢ c = (λ e. true≢false (sym b.0 ∙ ap v.is_held e ∙ go.gone)) in (sym (go.held y ne) ∙ b.0, sym (go.swept.kinds y (inr (inl b.0))) ∙ b.1);
  records = go.records;
}
  where
    apart : (y : ℕ) → IsBalance u y → y ≢ c
    apart y b e = true≢false (sym is ∙ sym (ap u.is_ply e) ∙ b.1)

    held : (y : ℕ) → IsBalance u y → v.is_held y ≡ true
    held y b = go.held y (apart y b) ∙ b.0

    same : (y k : ℕ) → IsBalance u y → v.cell y k ≡ u.cell y k
    same y k b = go.swept.cells y k (inr (inl (held y b)))

module _ (u v : View) (beside : Beside u v) where
  end_kept : (o k : ℕ) → IsBalance u o → (end : End) → IsEndWord (adjacency_end u) end (u.cell o k) → IsEndWord (adjacency_end v) end (v.cell o k)
  end_kept o k b answers.Drop h = beside.cells o k b ∙ h
  end_kept o k b answers.Receive h = beside.cells o k b ∙ h
  end_kept o k b (answers.Glean i) h = beside.cells o k b ∙ h
  end_kept o k b (answers.Hop i a m) h = (
    h.0,
    beside.cells o k b ∙ h.1,
    ap (λ w. hop_of w (v.cell h.0 1) (v.cell h.0 2)) (beside.adjacencies o k h.0 0 b h.1)
        ∙ ap (λ w. hop_of (u.cell h.0 0) w (v.cell h.0 2)) (beside.adjacencies o k h.0 1 b h.1)
        ∙ ap (λ w. hop_of (u.cell h.0 0) (u.cell h.0 1) w) (beside.adjacencies o k h.0 2 b h.1) ∙ h.2,
  )

  aim_kept : (balances : Prefix → Option ℕ) (o k : ℕ) → IsBalance u o → (m : Aim) → IsAimed balances (adjacency_end u) m (u.cell o k) → IsAimed balances (adjacency_end v) m (v.cell o k)
  aim_kept balances o k b (aims.Ends end) h = end_kept o k b end h
  aim_kept balances o k b (aims.On e) h = (h.0, beside.cells o k b ∙ h.1, h.2)

  -- the buckets' promise stays
  pub buckets_beside : (J : List Tables) (balances : Prefix → Option ℕ) → KeepsBuckets J balances u → KeepsBuckets J balances v
  buckets_beside J balances keeps = record {
    named = keeps.named;
    held = λ e o lasts is. beside.balances o (keeps.held e o lasts is);
    aimed = λ e o k m lasts is lt alike. aim_kept balances o k (keeps.held e o lasts is) m (keeps.aimed e o k m lasts is lt alike);
  }
