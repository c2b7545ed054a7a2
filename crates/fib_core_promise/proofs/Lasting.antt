-- Of the balances that names give, those of lasting entries alone matter.
use Rattle.std.proofs.Common.{◌≡◌, ℕ, List, Option, sym, ◌∙◌}
use Rattle.std.specs.Prelude.{Contains}
use Rattle.fib_addr.specs.Prefixes.{Prefix}
use Rattle.fib_resolve.specs.declared.types.Tables.{Tables}
use Rattle.fib_core.specs.declared.word.Word.{Word}
use Rattle.fib_core.specs.declared.word.Word.TheVariants as words
use Rattle.fib_core.specs.Walk.{word_at, adjacency_end}
use Rattle.fib_core.specs.Union.{Union}
use Rattle.fib_resolve.specs.declared.aims.Aim.{Aim}
use Rattle.fib_resolve.specs.declared.aims.Aim.TheVariants as aims
use Rattle.fib_core_steady.specs.Aims.{IsLasting, WantsAlike}
use Rattle.fib_core_steady.specs.Names.{Names}
use Rattle.fib_core_steady.specs.Promise.{IsAimed, IsRight, IsPromised}
use Rattle.fib_core_promise.specs.Matches.{FitsVersions, added, removed}
use Rattle.fib_core_promise.proofs.Matches.{best_lasts, same_added, same_removed}
use Rattle.fib_core_promise.proofs.Turns.{bucket_on}

-- other balances for the same plies
abbrev pub with_balances : Names → (Prefix → Option ℕ) → Names
with_balances n balances = record { depth = n.depth; value = n.value; balance = balances }

module _ (J : List Tables) (n : Names) (balances : Prefix → Option ℕ) (same : (e : Prefix) → IsLasting J e → balances e ≡ n.balance e) (u : Union) where
  aimed_too : (e : Prefix) (k : ℕ) (m : Aim) (w : Word) → WantsAlike J e k m → IsAimed n.balance (adjacency_end u.cells) m w → IsAimed balances (adjacency_end u.cells) m w
  aimed_too e k (aims.Ends end) w alike is = is
  aimed_too e k (aims.On t) w alike is = (is.0, is.1, same t (λ S c. bucket_on S e t k (alike S c)) ∙ is.2)

  right_too : (x s : ℕ) (w : Word) → IsRight J n x s w → IsRight J (with_balances n balances) x s w
  right_too x s (words.ToPly c) ok = ok
  right_too x s (words.ToBalance o) ok = λ a e inside alike. same e (best_lasts J a e alike) ∙ ok a e inside alike
  right_too x s words.Drop ok = ok
  right_too x s words.Receive ok = ok
  right_too x s (words.Glean i) ok = ok
  right_too x s (words.ToAdjacency y) ok = ok
  right_too x s (words.Plain v) ok = ok

  pub other_balances : IsPromised J n u → IsPromised J (with_balances n balances) u
  other_balances ok = record {
    buckets = record {
      named = λ e lasting. (let at = ok.buckets.named e lasting in (at.0, same e lasting ∙ at.1));
      held = λ e o lasting is. tt;
      aimed = λ e o k m lasting is lt alike. aimed_too e k m (word_at u.cells o k) alike (ok.buckets.aimed e o k m lasting (sym (same e lasting) ∙ is) lt alike);
    };
    plies = record { ways = record { root = ok.plies.ways.root; paths = ok.plies.ways.paths }; right = λ x s walked lt. right_too x s (word_at u.cells x s) (ok.plies.right x s walked lt) };
  }

-- so the prefix table's own look-up serves as names before and after a change of it
pub promised_added : (J : List Tables) (n : Names) (u : Union) (e : Prefix) (o : ℕ) → n.balance e ≡ Rattle.std.specs.Prelude.None → FitsVersions J n.balance → IsPromised J n u → IsPromised J (with_balances n (added n.balance e o)) u
promised_added J n u e o absent fits ok = other_balances J n (added n.balance e o) (same_added J n.balance e o absent fits) u ok

pub promised_removed : (J : List Tables) (n : Names) (u : Union) (e : Prefix) → (IsLasting J e → ⊥) → IsPromised J n u → IsPromised J (with_balances n (removed n.balance e)) u
promised_removed J n u e leaves ok = other_balances J n (removed n.balance e) (same_removed J n.balance e leaves) u ok
