-- The prefix table's answer for an address is the balance of the best entry.
use Rattle.std.proofs.Common.{◌≡◌, ℕ, ◌*◌, ◌-◌, ◌/◌, ◌<◌, ◌≤◌, ◌^◌, inl, inr, ⊎_elim, true, eq-eqb, eqb-true, refl, sym, ap, ◌∙◌, subst}
use Rattle.std.specs.Prelude.{Option, Some, Contains}
use Rattle.std.proofs.lemmas.Bool.{cases_lt}
use Rattle.std.proofs.lemmas.Map.Made.{is_member-Decides}
use Rattle.std.proofs.Math.Nat.{mul-div_cancel}
use Rattle.std.proofs.Math.Pow.{pow_pos}
use Rattle.fib_addr.specs.Prefixes.{Prefix, IsPrefix, contains, masked, size_of}
use Rattle.fib_addr.specs.Longest.{IsLongest}
use Rattle.fib_addr.proofs.LongestLaws.{longest_is_unique}
use Rattle.fib_addr.proofs.PrefixLaws.{same_fields, same_prefix-Decides}
use Rattle.fib_resolve.specs.Pairs.{best, entries}
use Rattle.fib_resolve.specs.declared.types.Tables.{Tables}
use Rattle.fib_resolve.proofs.Covering.{best_longest}
use Rattle.fib_resolve_changes.specs.Ranks.{has_entry}
use Rattle.fib_core_promise.specs.Matches.{best_block, look_of, IsLongestBlock}
use Rattle.fib_core_promise.specs.Stack.{is_some}
use Rattle.fib_core_stands.proofs.Nibbles.{everything_entry}
use Rattle.fib_base_interned.proofs.Finding.{none_some}
use Rattle.fib_stack.proofs.Keeping.{some_there}
use Rattle.fib_ply.proofs.Longest.{best_longest as block_longest}
use Rattle.fib_ply.proofs.Needing.{whole_is}

pub masked_contains : (a n : ℕ) → n ≤ 32 → contains (masked a n) a ≡ true
masked_contains a n le = eq-eqb (a / size_of n) (a / size_of n * size_of n / size_of n) (sym (mul-div_cancel (a / size_of n) (pow_pos (32 - n))))

pub contained_masked : (b : Prefix) (a : ℕ) → IsPrefix b → contains b a ≡ true → b ≡ masked a b.len
contained_masked b a is h =
    let e : a / size_of b.len ≡ b.bits / size_of b.len = eqb-true (a / size_of b.len) (b.bits / size_of b.len) h in
    let f : b.bits / size_of b.len * size_of b.len ≡ b.bits = whole_is b.bits (size_of b.len) is.cleared in
    same_fields b (masked a b.len) (sym f ∙ ap (λ i. i * size_of b.len) (sym e), refl)

-- the table has the tables' entries, with their balances
module _ (S : Tables) (balances : Prefix → Option ℕ) (fine : (q : Prefix) → Contains (entries S) q → IsPrefix q) (rows : (q : Prefix) (o : ℕ) → balances q ≡ Some o → IsPrefix q)
    (placed : (e : Prefix) → is_some (balances e) ≡ has_entry S e) where
  pub entry_of : (e : Prefix) (o : ℕ) → balances e ≡ Some o → Contains (entries S) e
  entry_of e o at = (is_member-Decides same_prefix-Decides (entries S) e).0 (sym (placed e) ∙ ap is_some at)

  pub balance_at : (e : Prefix) → Contains (entries S) e → (o : ℕ) × (balances e ≡ Some o)
  balance_at e c = some_there (balances e) (placed e ∙ (is_member-Decides same_prefix-Decides (entries S) e).1 c)

  pub best_entry : (a : ℕ) → a < 2 ^ 32 → Contains (entries S) (best S a)
  best_entry a lt = ⊎_elim (λ (c : Contains (entries S) (best S a)). c) (λ e. subst (Contains (entries S)) (sym e) (everything_entry S)) (best_longest S a lt).member

  -- an entry that contains the address isn't longer
  no_longer : (a : ℕ) {o : ℕ} (l : IsLongestBlock (look_of balances) 32 a o) (q : Prefix) → Contains (entries S) q → contains q a ≡ true → q.len ≤ l.len
  no_longer a l q there inside = elim (cases_lt l.len q.len) [
    | inl more ↦ absurd (
        let is : IsPrefix q = fine q there in
        let e : q ≡ masked a q.len = contained_masked q a is inside in
        let b = balance_at q there in
        none_some b.0 (sym (l.longest q.len more is.short) ∙ ap balances (sym e) ∙ b.1))
    | inr le ↦ le
  ]

  pub best_reached : (a o : ℕ) → a < 2 ^ 32 → best_block (look_of balances) 32 a ≡ Some o → balances (best S a) ≡ Some o
  best_reached a o lt answer =
      let l : IsLongestBlock (look_of balances) 32 a o = block_longest (look_of balances) 32 a o answer in
      let at : balances (masked a l.len) ≡ Some o = l.there in
      let mine : IsLongest a (entries S) (masked a l.len) = record {
        member = inl (entry_of (masked a l.len) o at);
        matches = masked_contains a l.len l.within;
        longest = λ q there inside. no_longer a l q there inside;
      } in
      let same : masked a l.len ≡ best S a = longest_is_unique a (entries S) (masked a l.len) (best S a) (rows (masked a l.len) o at) (fine (best S a) (best_entry a lt)) mine (best_longest S a lt) in
      subst (λ (e : Prefix). balances e ≡ Some o) same at
