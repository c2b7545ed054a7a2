-- What the calls of the stack do, as far as steady traffic reads it.
use Rattle.std.specs.Prelude.{◌≡◌, ◌⊎◌, ℕ, ◌<◌, true, Contains, Option, Some, None}
use Rattle.fib_addr.specs.Prefixes.{Prefix}
use Rattle.fib_resolve.specs.Pairs.{entries, chosen}
use Rattle.fib_resolve.specs.declared.types.Path.{Path}
use Rattle.fib_resolve.specs.declared.types.End.{End}
use Rattle.fib_resolve.specs.declared.types.Tables.{Tables}
use Rattle.fib_core.specs.Walk.{word_at}
use Rattle.fib_resolve.specs.declared.aims.Aim.TheVariants as aims
use Rattle.fib_resolve.specs.Aims.{kind_aim, aim}
use Rattle.fib_core_promise.specs.Stack.{is_some, Objects, Ledger, aim_word}

pub record Stack : Type 0 where
  pub objects : Objects
  pub ledger : Ledger
  pub cells : Rattle.std.specs.Prelude.List ℕ

-- a path of the entry's chosen list, usable or not, ends there
abbrev pub HasEnd : Tables → Prefix → End → Type 0
HasEnd S e end = (p : Path) × Contains (chosen S e) p × (kind_aim S e p.kind ≡ aims.Ends end)

-- a turn of an entry, whose balance is o
pub record IsRestacked (S : Tables) (e : Prefix) (o : ℕ) (s t : Stack) : Type 0 where
  pub effective : Contains (entries S) e
  pub here : t.objects.balance e ≡ Some o
  pub before : (s.objects.balance e ≡ Some o) ⊎ (s.objects.balance e ≡ None)
  pub others : (d : Prefix) → (d ≡ e → ⊥) → t.objects.balance d ≡ s.objects.balance d
  pub filled : (k : ℕ) → k < 16 → t.ledger.late e k ≡ None → word_at t.cells o k ≡ aim_word t.objects (aim S e k)
  pub same : (k : ℕ) → k < 16 → s.objects.balance e ≡ Some o → word_at s.cells o k ≡ aim_word t.objects (aim S e k)
      → t.ledger.late e k ≡ None
  pub others_cell : (d : Prefix) (x k : ℕ) → (d ≡ e → ⊥) → s.objects.balance d ≡ Some x → k < 16 → word_at t.cells x k ≡ word_at s.cells x k
  pub others_late : (d : Prefix) (k : ℕ) → (d ≡ e → ⊥) → t.ledger.late d k ≡ s.ledger.late d k
  pub holding : (end : End) → HasEnd S e end → t.ledger.holds e end ≡ true
  pub others_holding : (d : Prefix) (end : End) → (d ≡ e → ⊥) → t.ledger.holds d end ≡ s.ledger.holds d end
  pub same_record : (d : Prefix) (end : End) → t.ledger.holds d end ≡ true → s.ledger.holds d end ≡ true
      → t.objects.record_of end ≡ s.objects.record_of end

-- a turn of a prefix that left
pub record IsRemoved (S : Tables) (e : Prefix) (s t : Stack) : Type 0 where
  pub left : Contains (entries S) e → ⊥
  pub others : (d : Prefix) → (d ≡ e → ⊥) → t.objects.balance d ≡ s.objects.balance d
  pub others_cell : (d : Prefix) (x k : ℕ) → (d ≡ e → ⊥) → s.objects.balance d ≡ Some x → k < 16 → word_at t.cells x k ≡ word_at s.cells x k
  pub others_late : (d : Prefix) (k : ℕ) → (d ≡ e → ⊥) → t.ledger.late d k ≡ s.ledger.late d k
  pub others_holding : (d : Prefix) (end : End) → (d ≡ e → ⊥) → t.ledger.holds d end ≡ s.ledger.holds d end
  pub same_record : (d : Prefix) (end : End) → t.ledger.holds d end ≡ true → s.ledger.holds d end ≡ true
      → t.objects.record_of end ≡ s.objects.record_of end

-- the stack stands for the tables, with nothing left for later
pub record IsQuietStack (S : Tables) (s : Stack) : Type 0 where
  pub placed : (e : Prefix) → Contains (entries S) e → is_some (s.objects.balance e) ≡ true
  pub filled : (e : Prefix) (o k : ℕ) → Contains (entries S) e → s.objects.balance e ≡ Some o → k < 16
      → word_at s.cells o k ≡ aim_word s.objects (aim S e k)
  pub on_time : (e : Prefix) (k : ℕ) → s.ledger.late e k ≡ None
  pub holding : (e : Prefix) (end : End) → HasEnd S e end → s.ledger.holds e end ≡ true
