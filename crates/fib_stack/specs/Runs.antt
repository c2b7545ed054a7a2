-- The sixteen puts of a turn: what each of them answered, and what they ask.
use Rattle.std.specs.Prelude.{◌≡◌, ◌≢◌, ◌⊎◌, ℕ, suc, ◌+◌, ◌<◌, ◌≤◌, nat_lt, List, [], ◌∷◌, length, Option, Some, None, slice_index_or, if◌then◌else◌}
use Rattle.fib_addr.specs.Prefixes.{Prefix}
use Rattle.fib_core.specs.declared.word.Word.{Word}
use Rattle.fib_core.specs.declared.word.Word.TheVariants as words
use Rattle.fib_core_steady.specs.Names.{Names}
use Rattle.fib_plane_view.specs.declared.put.Put.{Put}
use Rattle.fib_plane_view.specs.declared.put.Put.TheVariants as puts
use Rattle.fib_plane_view.specs.Promise.{Promise, Serves, EndsIn}
use Rattle.fib_plane_view.specs.View.{View, HasKind, IsBalance, IsPut, SameRecords}
use Rattle.fib_stack.specs.Buckets.{IsLooseBucket}

abbrev pub word_in : List Word → ℕ → Word
word_in ws k = slice_index_or ws k words.Drop

-- these words were put into the object's cells from slot k on, one after another, with these answers: each over the plane that it met
abbrev pub Puts : View → ℕ → ℕ → List Word → List Put → View → Type 0
Puts u o k [] [] v = v ≡ u
Puts u o k [] (a ∷ gave) v = ⊥
Puts u o k (w ∷ ws) [] v = ⊥
Puts u o k (w ∷ ws) (a ∷ gave) v = (m : View) × IsPut u m o k w a × Puts m o (suc k) ws gave v

-- the word may be put into the bucket: it has the kind of buckets' words, ends packets at ends of the versions, and is there already, or the
-- bucket is loose
pub record IsReady (p : Promise) (balances : Prefix → Option ℕ) (u : View) (o k : ℕ) (w : Word) : Type 0 where
  pub kind : HasKind u o w
  pub ends : EndsIn p u w
  pub loose : (u.cell o k ≡ w) ⊎ IsLooseBucket p.versions balances o k

-- the promise holds, for these names, and each bucket from that one on is ready for its word
pub record AreReady (p : Promise) (n : Names) (u : View) (o start : ℕ) (ws : List Word) : Type 0 where
  pub serves : Serves p n u
  pub ready : (k : ℕ) → start ≤ k → k < 16 → IsReady p n.balance u o k (word_in ws k)

abbrev pub put_in : List Put → ℕ → Put
put_in gave k = slice_index_or gave k puts.Same

-- a cell after its put
abbrev pub Settled : Word → Word → Word → Put → Type 0
Settled before now w puts.Same = (before ≡ w) × (now ≡ w)
Settled before now w puts.Stored = (before ≢ w) × (now ≡ w)
Settled before now w puts.Dropped = (before ≢ w) × (now ≡ words.Drop)

-- what so many puts from slot k on leave
pub record IsFilled (u v : View) (o k : ℕ) (ws : List Word) (gave : List Put) : Type 0 where
  pub at : (j : ℕ) → j < length ws → Settled (u.cell o (k + j)) (v.cell o (k + j)) (word_in ws j) (put_in gave j)
  pub rest : (s : ℕ) → ((j : ℕ) → j < length ws → s ≢ k + j) → v.cell o s ≡ u.cell o s
  pub others : (x s : ℕ) → IsBalance u x → x ≢ o → v.cell x s ≡ u.cell x s
  pub stay : (x : ℕ) → IsBalance u x → IsBalance v x
  pub fresh : (x : ℕ) → IsBalance v x → IsBalance u x
  pub records : SameRecords u v
  pub free : u.free ≤ v.free
  pub stored : u.stored ≤ v.stored

-- the word that a put left for later
abbrev pub late_word : Word → Put → Option Word
late_word w puts.Same = None
late_word w puts.Stored = None
late_word w puts.Dropped = Some w

abbrev pub deferred_at : List Word → List Put → ℕ → Option Word
deferred_at ws gave k = if nat_lt k 16 then late_word (word_in ws k) (put_in gave k) else None
