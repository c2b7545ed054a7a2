-- A Drop where nothing leads: of the rule's conditions only steady traffic's is left.
use Rattle.std.proofs.Common.{◌≡◌, ◌≢◌, ◌<◌, ◌⊎◌, ◌*◌, ◌+◌, ◌%◌, ◌/◌, inl, inr, ⊎_elim, Bool, true, false, true≢false, ℕ, zero, suc, List, length, refl, sym, ap, ◌∙◌, subst, arith, length-set, if◌then◌else◌}
use Rattle.std.specs.Prelude.{slice_index, slice_index_or, slice_set, nat_lt}
use Rattle.fib_addr.specs.Prefixes.{nibble}
use Rattle.fib_resolve.specs.Tables.{fresh}
use Rattle.fib_resolve.specs.declared.types.End.TheVariants as answers
use Rattle.fib_core.specs.declared.word.Word.{Word}
use Rattle.fib_core.specs.declared.word.Word.TheVariants as words
use Rattle.fib_union.specs.Unions.{owner}
use Rattle.fib_core.specs.Words.{encoded, decoded, is_edge, value_of}
use Rattle.fib_core.specs.Walk.{word_at, Place, ply, balance, adjacency, ended, root, halved, from_ply, from_balance, stepped, after, end_at, walk, IsFlow, EndsIn}
use Rattle.fib_core.specs.Union.{Union}
use Rattle.fib_core.specs.Trails.{IsEndOf}
use Rattle.fib_core.proofs.Numbers.{decoded-zero, goes-zero, goes_of, target_of}
use Rattle.fib_core.proofs.Walks.{word_stored, adjacency_stored}
use Rattle.fib_core_lawful.specs.State.{Control}
use Rattle.fib_core_lawful.specs.Lawful.{OfControl}
use Rattle.fib_core_lawful.specs.May.{MayStoreLawfully}
use Rattle.fib_core_lawful.proofs.Fresh.{fresh_drops}
use Rattle.fib_core_steady.proofs.Blocks.{nibble_small}
use Rattle.fib_core_steady.proofs.Hanging.{IsAside}
use Rattle.fib_core_rule.proofs.Steps.{zero_version}

-- the place isn't in the object
abbrev pub IsOff : ℕ → Place → Type 0
IsOff x (ply o d) = x ≢ o
IsOff x (balance o n) = x ≢ o
IsOff x (adjacency o read) = x ≢ o
IsOff x (ended e) = Unit {0}

module _ (x : ℕ) where
  off_deeper : (d o : ℕ) (b : Bool) → x ≢ o → IsOff x (if b then ply o (suc d) else ended answers.Drop)
  off_deeper d o true ne = ne
  off_deeper d o false ne = tt

  off_ply : (d : ℕ) (w : Word) → (is_edge w ≡ true → x ≢ value_of w) → IsOff x (from_ply d w)
  off_ply d (words.ToPly o) f = off_deeper d o (nat_lt d 7) (f refl)
  off_ply d (words.ToBalance o) f = f refl
  off_ply d words.Drop f = tt
  off_ply d words.Receive f = tt
  off_ply d (words.Glean i) f = tt
  off_ply d (words.ToAdjacency o) f = tt
  off_ply d (words.Plain n) f = tt

  off_balance : (m : ℕ) (w : Word) → (is_edge w ≡ true → x ≢ value_of w) → IsOff x (from_balance m w)
  off_balance m (words.ToPly o) f = tt
  off_balance m (words.ToBalance o) f = f refl
  off_balance m words.Drop f = tt
  off_balance m words.Receive f = tt
  off_balance m (words.Glean i) f = tt
  off_balance m (words.ToAdjacency o) f = f refl
  off_balance m (words.Plain n) f = tt

sixteen : (n : ℕ) → n % 16 < 16
sixteen n = omega arith

-- no walk comes where nothing leads
module _ (u : Union) (k w a h : ℕ) (other : owner k ≢ 0) (none : IsAside u (owner k)) where
  off_edge : (n : ℕ) → is_edge (decoded (slice_index u.cells n)) ≡ true → owner k ≢ value_of (decoded (slice_index u.cells n))
  off_edge n e same = none n (slice_index u.cells n) (goes_of (slice_index u.cells n) (decoded (slice_index u.cells n)) refl ∙ e, inl refl) (target_of (slice_index u.cells n) (decoded (slice_index u.cells n)) refl ∙ sym same)

  off_step : (p : Place) → IsOff (owner k) p → IsOff (owner k) (stepped u.cells a h p)
  off_step (ply o d) off = off_ply (owner k) d (word_at u.cells o (nibble a d)) (off_edge (16 * o + nibble a d))
  off_step (balance o n) off = off_balance (owner k) n (word_at u.cells o (halved h n % 16)) (off_edge (16 * o + halved h n % 16))
  off_step (adjacency o read) off = tt
  off_step (ended e) off = tt

  same_step : (p : Place) → IsOff (owner k) p → stepped (slice_set u.cells k w) a h p ≡ stepped u.cells a h p
  same_step (ply o d) off = ap (from_ply d) (word_stored u.cells k w o (nibble a d) (nibble_small a d) off)
  same_step (balance o n) off = ap (from_balance n) (word_stored u.cells k w o (halved h n % 16) (sixteen (halved h n)) off)
  same_step (adjacency o read) off = ap ended (adjacency_stored u.cells k w o off)
  same_step (ended e) off = refl

  same_after : (n : ℕ) (p : Place) → IsOff (owner k) p → after (slice_set u.cells k w) a h n p ≡ after u.cells a h n p
  same_after zero p off = refl
  same_after (suc n) p off = ap (after (slice_set u.cells k w) a h n) (same_step p off) ∙ same_after n (stepped u.cells a h p) (off_step p off)

  pub walk_aside : walk (slice_set u.cells k w) a h ≡ walk u.cells a h
  unfolding walk
  walk_aside =
      ap (λ (n : ℕ). end_at (after (slice_set u.cells k w) a h (n / 16 + 1) root)) (length-set u.cells k w)
      ∙ ap end_at (same_after (length u.cells / 16 + 1) root other)

zero_encoded : 0 ≡ encoded words.Drop
unfolding encoded
zero_encoded = refl

module _ (objects : ℕ) (numbers : List ℕ) (c : Control) (here : OfControl objects numbers c) (k : ℕ) (other : owner k ≢ 0) (none : IsAside c.union (owner k)) where
  still_drops : c.log.version.applied ≡ 0 → (a h : ℕ) → IsFlow a h → walk (slice_set c.union.cells k 0) a h ≡ answers.Drop
  still_drops z a h flow =
      walk_aside c.union k 0 a h other none
      ∙ (here.settled 0 fresh (zero_version c.log.version here.log.order z) here.log.first).answers a h flow
      ∙ fresh_drops a h

  pub aside_lawful : k < 16 * c.objects → slice_index c.union.cells k ≢ 0 → (c.log.version.settled < c.log.version.applied) ⊎ ((c.log.version.applied ≡ 0) × ((n : ℕ) → slice_index_or c.desk.out n false ≡ false)) → MayStoreLawfully c.objects c.union c.log c.desk.out k 0
  aside_lawful inside filled allowed = record {
    inside = inside;
    word = (words.Drop, tt, zero_encoded);
    other = filled;
    root = λ z. absurd (other z);
    form = λ j v g e. absurd (none j v g e);
    whole = λ j v o g is same. none j v g (target_of v (words.ToAdjacency o) is ∙ sym same);
    edge = λ going. absurd (true≢false (sym going ∙ goes-zero));
    end = subst (EndsIn (IsEndOf c.log.history c.log.version.settled c.log.version.applied) c.union.cells) (sym decoded-zero) tt;
    during = ⊎_elim
        (λ (lt : c.log.version.settled < c.log.version.applied). inl lt)
        (λ (q : (c.log.version.applied ≡ 0) × ((n : ℕ) → slice_index_or c.desk.out n false ≡ false)). inr (record { fresh = zero_version c.log.version here.log.order q.0; home = q.1; drops = still_drops q.0 }))
        allowed;
  }
