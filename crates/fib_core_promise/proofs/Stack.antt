-- The stack's buckets are the promise's, and no store of a turn or a retry is into one of which all versions want the same.
use Rattle.std.proofs.Common.{◌≡◌, ◌≢◌, ◌<◌, ◌+◌, ◌*◌, ◌%◌, true, true≢false, ℕ, List, Option, Some, None, refl, sym, ap, ◌∙◌, subst, arith}
use Rattle.std.specs.Prelude.{Contains}
use Rattle.fib_addr.specs.Prefixes.{Prefix}
use Rattle.fib_resolve.specs.declared.types.End.{End}
use Rattle.fib_resolve.specs.declared.types.End.TheVariants as answers
use Rattle.fib_resolve.specs.declared.types.Tables.{Tables}
use Rattle.fib_core.specs.declared.word.Word.{Word}
use Rattle.fib_union.specs.Unions.{owner}
use Rattle.fib_core.specs.Walk.{word_at, adjacency_end}
use Rattle.fib_core.proofs.Numbers.{owner_of}
use Rattle.fib_resolve.specs.declared.aims.Aim.{Aim}
use Rattle.fib_resolve.specs.declared.aims.Aim.TheVariants as aims
use Rattle.fib_resolve.specs.Aims.{aim}
use Rattle.fib_core_steady.specs.Aims.{IsLasting, WantsAlike}
use Rattle.fib_core_steady.specs.Promise.{IsEndWord, IsAimed, KeepsCells}
use Rattle.fib_core_promise.specs.Stack.{is_some, Objects, Ledger, to_balance, to_adjacency, end_word, aim_word, EndAnchored, Anchored, IsSteadyStack, HasRecords, IsMoment}
use Rattle.fib_core_steady.proofs.Lists.{some_same}
use Rattle.fib_core_steady.specs.Loose.{IsLoose}

pub some_of : (o : Option ℕ) → is_some o ≡ true → (x : ℕ) × (o ≡ Some x)
some_of None e = absurd (true≢false (sym e))
some_of (Some x) e = (x, refl)

end_aimed : (at : Objects) (l : Ledger) (cells : List ℕ) → HasRecords at l cells → (e : Prefix) (end : End) → EndAnchored l e end → (w : Word) → w ≡ end_word at end → IsEndWord (adjacency_end cells) end w
end_aimed at l cells records e answers.Drop anchored w is = is
end_aimed at l cells records e answers.Receive anchored w is = is
end_aimed at l cells records e (answers.Glean i) anchored w is = is
end_aimed at l cells records e (answers.Hop i a m) anchored w is =
    let x = some_of (at.record_of (answers.Hop i a m)) (records.kept e (answers.Hop i a m) anchored) in
    (x.0, is ∙ ap to_adjacency x.1, records.written (answers.Hop i a m) x.0 x.1)

aimed : (at : Objects) (l : Ledger) (cells : List ℕ) → HasRecords at l cells → (e : Prefix) (m : Aim) → Anchored at l e m → (w : Word) → w ≡ aim_word at m → IsAimed at.balance (adjacency_end cells) m w
aimed at l cells records e (aims.Ends end) anchored w is = end_aimed at l cells records e end anchored w is
aimed at l cells records e (aims.On t) anchored w is =
    let x = some_of (at.balance t) anchored in
    (x.0, is ∙ ap to_balance x.1, x.1)

-- first point
pub keeps_buckets : (J : List Tables) (at : Objects) (l : Ledger) (cells : List ℕ) → HasRecords at l cells → IsSteadyStack J at l cells → KeepsCells J at.balance cells
keeps_buckets J at l cells records steady = record {
  named = λ e lasting. some_of (at.balance e) (steady.named e lasting);
  held = λ e o lasting is. tt;
  aimed = λ e o k m lasting is lt alike.
      let h = steady.holding e k m lt lasting alike in
      let same : h.object ≡ o = some_same h.object o (at.balance e) h.here is in
      aimed at l cells records e m h.anchored (word_at cells o k) (subst (λ (i : ℕ). word_at cells i k ≡ aim_word at m) same h.cell);
}

end_same : (at now : Objects) (l : Ledger) → IsMoment at l now → (e : Prefix) (end : End) → EndAnchored l e end → end_word now end ≡ end_word at end
end_same at now l moment e answers.Drop anchored = refl
end_same at now l moment e answers.Receive anchored = refl
end_same at now l moment e (answers.Glean i) anchored = refl
end_same at now l moment e (answers.Hop i a m) anchored = ap to_adjacency (moment.records e (answers.Hop i a m) anchored)

word_same : (at now : Objects) (l : Ledger) → IsMoment at l now → (e : Prefix) (m : Aim) → Anchored at l e m → aim_word now m ≡ aim_word at m
word_same at now l moment e (aims.Ends end) anchored = end_same at now l moment e end anchored
word_same at now l moment e (aims.On t) anchored = ap to_balance (moment.balances t anchored)

cell_parts : (o k : ℕ) → k < 16 → (owner (16 * o + k) ≡ o) × ((16 * o + k) % 16 ≡ k)
cell_parts o k lt = (owner_of o k lt, remainder o k lt)
  where
    remainder : (o k : ℕ) → k < 16 → (16 * o + k) % 16 ≡ k
    remainder o k lt = omega arith

-- a cell that doesn't hold what the applied version wants is none of which all versions want the same; S is the applied version, e the prefix that takes its turn
pub turn_is_loose : (J : List Tables) (S : Tables) → Contains J S → (at now : Objects) (l : Ledger) (cells : List ℕ) → IsSteadyStack J at l cells → IsMoment at l now
    → ((d : Prefix) (o : ℕ) (e : Prefix) → at.balance d ≡ Some o → at.balance e ≡ Some o → d ≡ e)
    → (e : Prefix) (o k : ℕ) → at.balance e ≡ Some o → k < 16 → (word_at cells o k ≢ aim_word now (aim S e k)) → IsLoose J at.balance (16 * o + k)
turn_is_loose J S c at now l cells steady moment apart e o k here lt differs d m lasting is alike =
    let parts = cell_parts o k lt in
    let same : d ≡ e = apart d o e (is ∙ ap Some parts.0) here in
    let lasting' : IsLasting J e = subst (IsLasting J) same lasting in
    let alike' : WantsAlike J e k m = subst (λ (i : ℕ). WantsAlike J e i m) parts.1 (subst (λ (p : Prefix). WantsAlike J p ((16 * o + k) % 16) m) same alike) in
    let h = steady.holding e k m lt lasting' alike' in
    let object : h.object ≡ o = some_same h.object o (at.balance e) h.here here in
    differs (subst (λ (i : ℕ). word_at cells i k ≡ aim_word at m) object h.cell ∙ sym (word_same at now l moment e m h.anchored) ∙ ap (aim_word now) (sym (alike' S c)))

-- a word that was left for later is of no such bucket
pub retry_is_loose : (J : List Tables) (at : Objects) (l : Ledger) (cells : List ℕ) → IsSteadyStack J at l cells
    → ((d : Prefix) (o : ℕ) (e : Prefix) → at.balance d ≡ Some o → at.balance e ≡ Some o → d ≡ e)
    → (e : Prefix) (o k : ℕ) → at.balance e ≡ Some o → k < 16 → (l.late e k ≡ None → ⊥) → IsLoose J at.balance (16 * o + k)
retry_is_loose J at l cells steady apart e o k here lt late d m lasting is alike =
    let parts = cell_parts o k lt in
    let same : d ≡ e = apart d o e (is ∙ ap Some parts.0) here in
    let lasting' : IsLasting J e = subst (IsLasting J) same lasting in
    let alike' : WantsAlike J e k m = subst (λ (i : ℕ). WantsAlike J e i m) parts.1 (subst (λ (p : Prefix). WantsAlike J p ((16 * o + k) % 16) m) same alike) in
    late (steady.holding e k m lt lasting' alike').on_time

-- nor is a cell of an object that is no prefix's balance
pub fresh_is_loose : (J : List Tables) (at : Objects) (o k : ℕ) → k < 16 → ((d : Prefix) → at.balance d ≡ Some o → ⊥) → IsLoose J at.balance (16 * o + k)
fresh_is_loose J at o k lt fresh d m lasting is alike = fresh d (is ∙ ap Some (cell_parts o k lt).0)
