-- Planes and prefix tables before the first change: what is taken, and what is added.
use Rattle.std.proofs.Common.{arith, ◌≡◌, ℕ, inl, inr, ⊎_elim, Bool, true, true≢false, List, [], length, None, refl, sym, ◌∙◌, ap, subst}
use Rattle.std.specs.Prelude.{Contains}
use native.Mathlib.Decide.{ℕ_discrete}
use mathlib.Core.Logic.{dite}
use Rattle.fib_core.specs.declared.word.Word.{Word}
use Rattle.fib_core.specs.declared.word.Word.TheVariants as words
use Rattle.fib_pool.specs.declared.object.AdjacencyRecord.{AdjacencyRecord}
use Rattle.fib_pool.specs.declared.object.Kind.{Kind}
use Rattle.fib_pool.specs.declared.object.Kind.TheVariants as kinds
use Rattle.fib_core_steady.specs.Names.{Names}
use Rattle.fib_core_promise.specs.Matches.{look_of}
use Rattle.fib_plane_view.specs.Promise.{Promise, Allows, IsBegun, MayClear, MayLetGo, Serves}
use Rattle.fib_plane_view.specs.View.{View, Retired, Goes, HasRoom, IsLive, IsPlane, IsTaken, TookRecord}
use Rattle.fib_ply.specs.Rows.{held}
use Rattle.fib_ply.specs.Tables.{Table, Stands, watch_of}
use Rattle.fib_ply.specs.declared.rows.Row.{Row}
use Rattle.fib_ply.specs.Blank.{IsBlank}
use Rattle.fib_ply.specs.Plies.{Has, IsMine, IsTable, Mixed}
use Rattle.fib_ply.specs.inner.Change.{IsCellOf}
use Rattle.fib_ply.specs.Served.{Paths, names_of}
use Rattle.fib_ply.specs.inner.Trie.{IsTrie}
use Rattle.fib_ply.proofs.Paths.{fits_trie}
use Rattle.fib_ply.proofs.Promises.{serves_of}
use Rattle.fib_ply.proofs.Quiet.{quiet_stands}
use Rattle.fib_stack.proofs.Leaving.{take_quiet}
use Rattle.fib_resolve.specs.Tables.{fresh}
use Rattle.fib_plane.specs.Views.{IsBare}
use Rattle.fib_control_quiet.specs.Early.{IsDropping, IsEarly, IsEmpty, IsTried}

pub not_begun : (p : Promise) → IsEarly p → IsBegun p → ⊥
not_begun p e b = (let z = e.first in omega arith)

pub still_early : (p q : Promise) → q ≡ p → IsEarly p → IsEarly q
still_early p q same e = subst IsEarly (sym same) e

allows : (p : Promise) → IsEarly p → Allows p
allows p e = inr (e.first, e.alone)

pub bare_empty : (p : Promise) (u : View) → IsBare p u → IsEmpty p u
bare_empty p u b = record {
  early = record { first = b.first.0; alone = b.alone; versions = (fresh, [], b.versions) };
  root = b.root;
  none = λ x ply held. true≢false (sym held ∙ b.held x);
  edges = b.edges;
}

-- where there is no edge nothing is promised
abbrev none_named : Names
none_named = record { depth = λ x. 0; value = λ x. 0; balance = λ e. None }

module _ (p : Promise) (u : View) (m : IsEmpty p u) where
  serves : Serves p none_named u
  serves = record {
    paths = record { root = (refl, refl); paths = λ x s c g. absurd (m.edges x s c (words.ToPly c) refl g) };
    promised = λ b. absurd (not_begun p m.early b);
    still = λ z x s o t g lt. absurd (m.edges x s o (words.ToBalance o) refl g);
  }

  pub may_clear : MayClear p u
  may_clear = (allows p m.early, (none_named, serves))

  pub may_let_go : (c : ℕ) → MayLetGo p u c
  may_let_go c = (allows p m.early, (none_named, serves, λ b e lasting is. not_begun p m.early b))

  pub blank_of : (o : ℕ) → IsDropping u o → IsBlank p u o 0
  blank_of o d = record {
    early = (m.early.first, m.early.alone);
    versions = m.early.versions;
    root = m.root;
    none = m.none;
    edges = λ x s y w l g. absurd (m.edges x s y w l g);
    filled = λ s lt. absurd (omega arith);
    empty = λ s le lt y l. m.edges 0 s y (u.cell 0 s) l (inl refl);
    balance = d.0;
    drops = d.1;
  }

-- an object is taken
goes_taken : (u v : View) (kind : Kind) (c : ℕ) → IsTaken u v kind c → (x s : ℕ) (w : Word) → Goes v x s w → Goes u x s w
goes_taken u v kind c t x s w (inl e) = inl (sym (t.cells x s) ∙ e)
goes_taken u v kind c t x s w (inr h) = inr (subst (λ (rs : List Retired). Contains rs (record { from = x; slot = s; word = w })) t.retired h)

pub empty_taken : (p q : Promise) (u v : View) (c : ℕ) → IsEmpty p u → q ≡ p → IsTaken u v kinds.Balance c → IsEmpty q v
empty_taken p q u v c m same t = record {
  early = still_early p q same m.early;
  root = (t.others 0 (λ e. t.other (sym e))).1 ∙ m.root;
  none = λ x ply held. dite (ℕ_discrete x c)
      (λ is. true≢false (sym ply ∙ ap v.is_ply is ∙ t.held.1))
      (λ ne. let o = t.others x ne in m.none x (sym o.1 ∙ ply) (sym o.0 ∙ held));
  edges = λ x s y w l g. m.edges x s y w l (goes_taken u v kinds.Balance c t x s w g);
}

pub dropping_taken : (u v : View) (c : ℕ) → IsTaken u v kinds.Balance c → IsDropping v c
dropping_taken u v c t = (t.held, t.dropped)

-- a record gets a user
pub empty_took : (p q : Promise) (u v : View) (r : AdjacencyRecord) (x : ℕ) → IsEmpty p u → q ≡ p → TookRecord u v r x → IsEmpty q v
empty_took p q u v r x m same t = record {
  early = still_early p q same m.early;
  root = t.kinds 0 (inl refl) ∙ m.root;
  none = λ y ply held. let was = sym (t.held y) ∙ held in m.none y (sym (t.kinds y (inr (inl was))) ∙ ply) was;
  edges = λ y s z w l g. m.edges y s z w l (t.edges y s z w l g);
}

-- a table
pub same_stands : (p : Promise) (s t : Table) (u : View) → t.rows.members ≡ s.rows.members → t.plies ≡ s.plies → Stands p s u → Stands p t u
same_stands p s t u rows plies h =
    subst (λ (x : List Row × ℕ). (there : ℕ → ℕ → Bool) × (n : Paths) × IsTable (record { promise = p; balance = held x.0 }) (look_of (held x.0)) there n u × (length n.all ≡ x.1) × IsMine n u)
    (λ i. (sym rows i, sym plies i)) h

pub room_dropping : (u v : View) (o : ℕ) → HasRoom u v → IsDropping u o → IsDropping v o
room_dropping u v o h d = subst (λ (w : View). IsDropping w o) (sym h.same) d

pub room_free : (u v : View) → HasRoom u v → v.free ≡ u.free
room_free u v h = ap (λ (w : View). w.free) h.same

module _ (p : Promise) (t : Table) (u : View) (h : IsTried p t u) where
  pub tried_clear : MayClear p u
  tried_clear = (let s = h.stands in (allows p h.early, (names_of (watch_of p t) s.1, serves_of (watch_of p t) u s.2.at.kept s.1 s.2.at.served)))

  pub tried_taken : (q : Promise) (v : View) (c : ℕ) → IsPlane v → q ≡ p → IsTaken u v kinds.Balance c → IsTried q t v
  tried_taken q v c plane same take =
      let s = h.stands in
      let kept = s.2.at.kept in
      subst (λ (r : Promise). IsTried r t v) (sym same) (record {
        early = h.early;
        stands = quiet_stands p t u v s (take_quiet u v c plane take (held t.rows.members)) plane.kinds
            (record {
              allowed = kept.allowed;
              newest = kept.newest;
              older = kept.older;
              versions = kept.versions;
              buckets = λ b. absurd (not_begun p h.early b);
              still = λ z x r o k g lt. take.cells o k ∙ kept.still z x r o k (goes_taken u v kinds.Balance c take x r (words.ToBalance o) g) lt;
            })
            (λ z l b o k e lt. take.cells o k ∙ s.2.at.sound.still z l b o k e lt);
      })
