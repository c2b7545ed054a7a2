-- From an entry's balance the walk goes as the packet's way does.
use Rattle.std.proofs.Common.{◌≡◌, ℕ, zero, suc, ◌/◌, ◌%◌, ◌<◌, ◌≤◌, Bool, true, false, List, [], refl, sym, ap, ◌∙◌, subst, arith}
use Rattle.std.specs.Prelude.{Contains, Option, Some, None, slice_get, IfSome, ◌==◌, if◌then◌else◌}
use Rattle.fib_addr.specs.Prefixes.{Prefix, host}
use Rattle.fib_resolve.specs.Pairs.{entries, cover}
use Rattle.fib_resolve.specs.Buckets.{wanted}
use Rattle.fib_resolve.specs.Resolution.{Trip, mac_of, hop_end, take_kind, take_path, follow}
use Rattle.fib_resolve.specs.Sizes.{adjacencies}
use Rattle.fib_resolve.specs.declared.pairs.Adjacency.{Adjacency}
use Rattle.fib_resolve.specs.declared.types.End.{End}
use Rattle.fib_resolve.specs.declared.types.End.TheVariants as answers
use Rattle.fib_resolve.specs.declared.types.Path.{Path}
use Rattle.fib_resolve.specs.declared.types.PathKind.{PathKind}
use Rattle.fib_resolve.specs.declared.types.PathKind.TheVariants as kinds
use Rattle.fib_resolve.specs.declared.types.Tables.{Tables}
use Rattle.fib_resolve.proofs.Taken.{IsWanted}
use Rattle.fib_core.specs.declared.word.Word.TheVariants as words
use Rattle.fib_core.specs.Words.{value_of}
use Rattle.fib_core.specs.Walk.{word_at, Place, balance, adjacency, ended, halved, mac_in, hop_of, from_balance, adjacency_end, after, end_at}
use Rattle.fib_core.specs.StandsFor.{Thing, balance_of, adjacency_of, kind_word, bucket_word, mac_word, StandsFor}
use Rattle.fib_core.specs.Trails.{IsGoing}
use Rattle.fib_core.proofs.Walks.{after_ended}
use Rattle.fib_core_stands.proofs.Listed.{recursive_entry, cover_entry, at_bucket, adjacency_listed, first_in}

pub follow_suc : (S : Tables) (n : ℕ) (e : Prefix) (h : ℕ) → follow S (suc n) e h ≡ take_path S (follow S n) e h (slice_get (wanted S e) (h % 16))
unfolding follow
follow_suc S n e h = refl

mac_word-in : (mac : Option ℕ) → mac_in (value_of (mac_word mac)) ≡ mac
mac_word-in None = refl
mac_word-in (Some m) = refl

pub low16 : (x : ℕ) → x % 16 < 16
low16 x = omega arith

module _ (cells : List ℕ) (names : Thing → ℕ) (S : Tables) (stands : StandsFor cells names S) where
  -- an adjacency says its Hop end
  pub adjacency_says : (i a : ℕ) → Contains (adjacencies S) (record { interface = i; next_hop = a }) → adjacency_end cells (names (adjacency_of (record { interface = i; next_hop = a }))) ≡ hop_end S i a
  adjacency_says i a c =
      let x : Adjacency = record { interface = i; next_hop = a } in
      let o : ℕ = names (adjacency_of x) in
      ap (λ w. hop_of w (word_at cells o 1) (word_at cells o 2)) (stands.holds (adjacency_of x) 0 c (omega arith))
      ∙ ap (λ w. hop_of (words.Plain i) w (word_at cells o 2)) (stands.holds (adjacency_of x) 1 c (omega arith))
      ∙ ap (hop_of (words.Plain i) (words.Plain a)) (stands.holds (adjacency_of x) 2 c (omega arith))
      ∙ ap (answers.Hop i a) (mac_word-in (mac_of S i a))

  module _ (a h : ℕ) where
    not_ended : (p : Place) (x : End) → IsGoing p → p ≡ ended x → ⊥
    not_ended p x going is = subst IsGoing is going

    ends_so : (n : ℕ) (e x : End) → after cells a h n (ended e) ≡ ended x → e ≡ x
    ends_so n e x at = ap end_at (sym (after_ended cells a h n e) ∙ at)

    adjacency_so : (n i b : ℕ) (x : End) → Contains (adjacencies S) (record { interface = i; next_hop = b }) → after cells a h n (adjacency (names (adjacency_of (record { interface = i; next_hop = b }))) []) ≡ ended x → hop_end S i b ≡ x
    adjacency_so zero i b x c at = absurd (not_ended (adjacency (names (adjacency_of (record { interface = i; next_hop = b }))) []) x tt at)
    adjacency_so (suc n) i b x c at = sym (adjacency_says i b c) ∙ ends_so n (adjacency_end cells (names (adjacency_of (record { interface = i; next_hop = b })))) x at

    attached_so : (n m : ℕ) (e : Prefix) (i : ℕ) (x : End) (b : Bool) → (e.len == 32) ≡ b → (b ≡ true → Contains (adjacencies S) (record { interface = i; next_hop = e.bits }))
        → after cells a h n (from_balance m (if b then words.ToAdjacency (names (adjacency_of (record { interface = i; next_hop = e.bits }))) else words.Glean i)) ≡ ended x
        → (if b then hop_end S i e.bits else answers.Glean i) ≡ x
    attached_so n m e i x true is c at = adjacency_so n i e.bits x (c refl) at
    attached_so n m e i x false is c at = ends_so n (answers.Glean i) x at

    -- one path is taken
    kind_so : (n m : ℕ) (e : Prefix) (x : End) (g : ℕ) (go : Prefix → ℕ → Trip) (p : Path) (kind : PathKind) → p.kind ≡ kind → IsWanted S e p
        → ((t : Prefix) → Contains (entries S) t → after cells a h n (balance (names (balance_of t)) (suc m)) ≡ ended x → (go t (g / 2)).end ≡ x)
        → after cells a h n (from_balance m (kind_word names S e kind)) ≡ ended x
        → (take_kind S go e g kind).end ≡ x
    kind_so n m e x g go p kinds.Drop k t rest at = ends_so n answers.Drop x at
    kind_so n m e x g go p kinds.Local k t rest at = ends_so n answers.Receive x at
    kind_so n m e x g go p (kinds.Attached i) k t rest at = attached_so n m e i x (e.len == 32) refl
        (λ is. adjacency_listed S e p (record { interface = i; next_hop = e.bits }) t.0 (rw k (rw is (first_in (record { interface = i; next_hop = e.bits }) [])))) at
    kind_so n m e x g go p (kinds.Hop b i) k t rest at = adjacency_so n i b x (adjacency_listed S e p (record { interface = i; next_hop = b }) t.0 (rw k (first_in (record { interface = i; next_hop = b }) []))) at
    kind_so n m e x g go p (kinds.Recursive b) k t rest at = rest (host b) (recursive_entry S e p b t k) at
    kind_so n m e x g go p kinds.Cover k t rest at = rest (cover S e.bits) (cover_entry S e p t k) at

    path_so : (n m : ℕ) (e : Prefix) (x : End) (g : ℕ) (go : Prefix → ℕ → Trip) (o : Option Path) → IfSome o (IsWanted S e)
        → ((t : Prefix) → Contains (entries S) t → after cells a h n (balance (names (balance_of t)) (suc m)) ≡ ended x → (go t (g / 2)).end ≡ x)
        → after cells a h n (from_balance m (bucket_word names S e o)) ≡ ended x
        → (take_path S go e g o).end ≡ x
    path_so n m e x g go None t rest at = ends_so n answers.Drop x at
    path_so n m e x g go (Some p) t rest at = kind_so n m e x g go p p.kind refl t rest at

    -- however far the way is followed beyond the walk's steps, its end is the walk's
    pub balance_follows : (n : ℕ) (e : Prefix) (m : ℕ) (x : End) (limit : ℕ) → Contains (entries S) e → n ≤ limit → after cells a h n (balance (names (balance_of e)) m) ≡ ended x → (follow S limit e (halved h m)).end ≡ x
    balance_follows zero e m x limit there le at = absurd (not_ended (balance (names (balance_of e)) m) x tt at)
    balance_follows (suc n) e m x zero there le at = absurd (none n le)
      where
        none : (n : ℕ) → suc n ≤ 0 → ⊥
        none n le = omega arith
    balance_follows (suc n) e m x (suc limit) there le at =
        let k : ℕ = halved h m % 16 in
        ap (λ (t : Trip). t.end) (follow_suc S limit e (halved h m))
        ∙ path_so n m e x (halved h m) (follow S limit) (slice_get (wanted S e) k) (at_bucket S e k)
        (λ t in_there at'. balance_follows n t (suc m) x limit in_there (less n limit le) at')
        (ap (λ w. after cells a h n (from_balance m w)) (sym (stands.holds (balance_of e) k there (low16 (halved h m)))) ∙ at)
      where
        less : (n l : ℕ) → suc n ≤ suc l → n ≤ l
        less n l le = omega arith
