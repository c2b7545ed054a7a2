-- What others do beside the table keeps it: stores into balances, records, scans, and other promises.
use Rattle.std.proofs.Common.{◌≡◌, ℕ, ◌-◌, ◌*◌, ◌<◌, ◌^◌, ◌⊎◌, inl, inr, ⊎_elim, Bool, true, Option, Some, sym, ◌∙◌, subst}
use Rattle.fib_addr.specs.Prefixes.{Prefix}
use Rattle.fib_core.specs.declared.word.Word.TheVariants.{Drop}
use Rattle.fib_core_promise.specs.Matches.{look_of}
use Rattle.fib_plane_view.specs.Frames.{IsQuiet}
use Rattle.fib_plane_view.specs.Promise.{Promise}
use Rattle.fib_plane_view.specs.View.{View, IsLive, Kinds}
use Rattle.fib_ply.specs.Rows.{held}
use Rattle.fib_ply.specs.Tables.{Table, Stands, watch_of}
use Rattle.fib_ply.specs.Plies.{IsMine, IsSound, IsTable}
use Rattle.fib_ply.specs.Served.{Paths, Watch, KeepsBeside, IsWalked, Wanted}
use Rattle.fib_ply.proofs.Rewatching.{right_fewer}
use Rattle.fib_ply.proofs.Stores.{walked_live}

module _ (w w' : Watch) (fewer : (a p : ℕ) → Wanted w' a p → Wanted w a p) (f : Prefix → Option ℕ) (there : ℕ → ℕ → Bool) (n : Paths) (u v : View) (table : IsTable w (look_of f) there n u) (quiet : IsQuiet f u v) (kinds : Kinds v) (kept : KeepsBeside w' v) (still : w'.promise.applied ≡ 0 → (l c o t : ℕ) → look_of f l c ≡ Some o → t < 16 → v.cell o t ≡ Drop) where
  holds : (x : ℕ) → n.is_in x ≡ true → (v.is_ply x ≡ true) × ((x ≡ 0) ⊎ (v.is_held x ≡ true))
  holds x is = let h = table.at.fits.held x is in ⊎_elim
      (λ (z : x ≡ 0). (subst (λ (i : ℕ). v.is_ply i ≡ u.is_ply i) (sym z) quiet.root ∙ h.0, inl z))
      (λ (k : u.is_held x ≡ true). let q = quiet.kinds x (inl h.0) k in (q.1 ∙ h.0, inr q.0)) h.1

  back : (x : ℕ) → IsWalked v x → IsWalked u x
  back x (inl e) = inl e
  back x (inr g) = inr (g.0, g.1, g.2, quiet.edges g.0 g.1 x g.3)

  ply_of : (x : ℕ) → IsWalked v x → v.is_ply x ≡ true
  ply_of x (inl e) = subst (λ (i : ℕ). v.is_ply i ≡ true) (sym e) (quiet.root ∙ (table.at.fits.held 0 table.at.fits.root.0).0)
  ply_of x (inr g) = (kinds.ply g.0 g.1 x g.3).1

  live : (x : ℕ) → (x ≡ 0) ⊎ (v.is_held x ≡ true) → IsLive v x
  live x (inl e) = inl e
  live x (inr h) = inr (inl h)

  sound : IsSound w' (look_of f) v
  sound = record {
    balance = λ l c o e. let h = table.at.sound.balance l c o e in let q = quiet.kinds o (inr (record { bits = c * 2 ^ (32 - l); len = l }, e)) h.0 in (q.0, q.1 ∙ h.1);
    whole = table.at.sound.whole;
    still = still;
  }

  pub quiet_table : IsTable w' (look_of f) there n v
  quiet_table = record {
    at = record {
      fits = record {
        root = table.at.fits.root;
        held = holds;
        apart = table.at.fits.apart;
        needed = table.at.fits.needed;
        upward = table.at.fits.upward;
        cells = λ x s is lt. rw (quiet.cells x s (holds x is).0 (live x (holds x is).1)) (table.at.fits.cells x s is lt);
      };
      wider = table.at.wider;
      served = record {
        root = table.at.served.root;
        paths = λ x s c g. table.at.served.paths x s c (quiet.edges x s c g);
        right = λ x s stands lt. rw (quiet.cells x s (ply_of x stands) (walked_live v x stands)) (right_fewer (Wanted w) (Wanted w') fewer n x s (u.cell x s) (table.at.served.right x s (back x stands) lt));
      };
      kinds = kinds;
      promised = λ a p lt h. table.at.promised a p lt (fewer a p h);
      was = sound;
      sound = sound;
      kept = kept;
      list = table.at.list;
    };
    exact = table.exact;
  }

-- no ply more is held
quiet_mine : (f : Prefix → Option ℕ) (n : Paths) (u v : View) → IsQuiet f u v → IsMine n u → IsMine n v
quiet_mine f n u v quiet mine x is h = mine x (quiet.plies x is (inr (inl h))).0 (quiet.held x is h)

-- within one change
pub quiet_stands : (p : Promise) (t : Table) (u v : View) → Stands p t u → IsQuiet (held t.rows.members) u v → Kinds v → KeepsBeside (watch_of p t) v
    → (p.applied ≡ 0 → (l c o k : ℕ) → look_of (held t.rows.members) l c ≡ Some o → k < 16 → v.cell o k ≡ Drop) → Stands p t v
quiet_stands p t u v s quiet kinds kept still = (s.0, s.1, quiet_table (watch_of p t) (watch_of p t) (λ a o h. h) (held t.rows.members) s.0 s.1 u v s.2 quiet kinds kept still, s.3, quiet_mine (held t.rows.members) s.1 u v quiet s.4)

-- from one promise to the next, by which no more addresses are undisturbed
pub next_stands : (p q : Promise) (t : Table) (u v : View) → ((a o : ℕ) → Wanted (watch_of q t) a o → Wanted (watch_of p t) a o) → Stands p t u → IsQuiet (held t.rows.members) u v → Kinds v → KeepsBeside (watch_of q t) v
    → (q.applied ≡ 0 → (l c o k : ℕ) → look_of (held t.rows.members) l c ≡ Some o → k < 16 → v.cell o k ≡ Drop) → Stands q t v
next_stands p q t u v fewer s quiet kinds kept still = (s.0, s.1, quiet_table (watch_of p t) (watch_of q t) fewer (held t.rows.members) s.0 s.1 u v s.2 quiet kinds kept still, s.3, quiet_mine (held t.rows.members) s.1 u v quiet s.4)
