-- The promise in terms of objects: which buckets keep their word while these are the versions.
use Rattle.std.specs.Prelude.{ℕ, Bool, true, false, ◌&&◌, ◌==◌, List, [], ◌∷◌, Option, Some, None, if◌then◌else◌}
use Rattle.std.specs.List.{list_all, list_any}
use Rattle.std.specs.Set.{is_member}
use Rattle.fib_addr.specs.Prefixes.{Prefix, same_prefix}
use Rattle.fib_resolve.specs.Pairs.{entries}
use Rattle.fib_resolve.specs.Touched.{same_mac}
use Rattle.fib_resolve.specs.declared.types.End.{End}
use Rattle.fib_resolve.specs.declared.types.End.TheVariants as answers
use Rattle.fib_resolve.specs.declared.types.Tables.{Tables}
use Rattle.fib_core.specs.declared.word.Word.{Word}
use Rattle.fib_core.specs.Walk.{word_at}
use Rattle.fib_resolve.specs.declared.aims.Aim.{Aim}
use Rattle.fib_resolve.specs.declared.aims.Aim.TheVariants as aims
use Rattle.fib_resolve.specs.Aims.{aim}

abbrev pub is_drop : End → Bool
is_drop answers.Drop = true
is_drop answers.Receive = false
is_drop (answers.Glean i) = false
is_drop (answers.Hop i a m) = false

abbrev pub is_receive : End → Bool
is_receive answers.Receive = true
is_receive answers.Drop = false
is_receive (answers.Glean i) = false
is_receive (answers.Hop i a m) = false

abbrev pub is_glean : ℕ → End → Bool
is_glean i (answers.Glean j) = i == j
is_glean i answers.Drop = false
is_glean i answers.Receive = false
is_glean i (answers.Hop j a m) = false

abbrev pub is_hop : ℕ → ℕ → Option ℕ → End → Bool
is_hop i a m (answers.Hop j b n) = (i == j) && ((a == b) && same_mac m n)
is_hop i a m answers.Drop = false
is_hop i a m answers.Receive = false
is_hop i a m (answers.Glean j) = false

abbrev pub same_end : End → End → Bool
same_end answers.Drop f = is_drop f
same_end answers.Receive f = is_receive f
same_end (answers.Glean i) f = is_glean i f
same_end (answers.Hop i a m) f = is_hop i a m f

abbrev pub ends_at : End → Aim → Bool
ends_at e (aims.Ends f) = same_end e f
ends_at e (aims.On t) = false

abbrev pub goes_on_at : Prefix → Aim → Bool
goes_on_at t (aims.On u) = same_prefix t u
goes_on_at t (aims.Ends f) = false

abbrev pub same_aim : Aim → Aim → Bool
same_aim (aims.Ends e) m = ends_at e m
same_aim (aims.On t) m = goes_on_at t m

-- the tables have the entry, and want that of its bucket
abbrev pub wants_that : Prefix → ℕ → Aim → Tables → Bool
wants_that e k m T = is_member same_prefix (entries T) e && same_aim m (aim T e k)

abbrev pub has_object : Option ℕ → ℕ → Bool
has_object None o = false
has_object (Some x) o = x == o

-- the bucket is one of which all versions want the same
abbrev pub is_kept : List Tables → (Prefix → Option ℕ) → ℕ → ℕ → Bool
is_kept [] look o k = true
is_kept (S ∷ J) look o k = list_any (λ e. has_object (look e) o && list_all (wants_that e k (aim S e k)) (S ∷ J)) (entries S)

-- the word that the bucket keeps
abbrev pub keeps_by : List Tables → (Prefix → Option ℕ) → List ℕ → ℕ → ℕ → Option Word
keeps_by J look cells o k = if is_kept J look o k then Some (word_at cells o k) else None
