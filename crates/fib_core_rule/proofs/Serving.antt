-- Steady traffic through what is cleared: it rests on holds.
use Rattle.std.proofs.Common.{Bool, true, false, true≢false, sym, ◌≡◌, ◌≢◌, ◌<◌, ◌+◌, ◌*◌, ℕ, List, length, Option, Some, ap, ◌∙◌, get_or-set_same}
use Rattle.std.specs.Prelude.{slice_set}
use Rattle.fib_addr.specs.Prefixes.{Prefix}
use Rattle.fib_resolve.specs.declared.types.End.TheVariants as answers
use Rattle.fib_resolve.specs.declared.types.Tables.{Tables}
use Rattle.fib_union.specs.Unions.{owner}
use Rattle.fib_core.specs.declared.word.Word.{Word}
use Rattle.fib_core.specs.declared.word.Word.TheVariants as words
use Rattle.fib_core.specs.Words.{decoded}
use Rattle.fib_core.specs.Walk.{word_at}
use Rattle.fib_core.specs.Union.{must_retire}
use Rattle.fib_core.proofs.Numbers.{decoded-zero}
use Rattle.fib_core_lawful.specs.State.{Control, fresh_marks, put, looked}
use Rattle.fib_resolve.specs.declared.aims.Aim.TheVariants as aims
use Rattle.fib_core_steady.specs.Aims.{IsLasting, WantsAlike}
use Rattle.fib_core_steady.specs.Promise.{KeepsCells}
use Rattle.fib_core_steady.proofs.Hanging.{IsAside}
use Rattle.fib_core_steady.proofs.Storing.{aside_stored}
use Rattle.fib_core_steady.proofs.Events.{promised_scans}
use Rattle.fib_core_rule.specs.Steady.{versions, MayStoreSteadily}
use Rattle.fib_core_rule.specs.Serving.{MayClear, HoldsPromise, HoldsPromiseStored}

no_ply : (w : Word) (c : ℕ) → w ≡ words.Drop → w ≡ words.ToPly c → ⊥
no_ply w c e f = cc

-- the condition that a Drop where nothing leads has left
pub clear_steadily : (c : Control) (k : ℕ) → owner k ≢ 0 → IsAside c.union (owner k) → MayClear c (owner k) → MayStoreSteadily c k 0
clear_steadily c k other none may begun =
    let n = may begun in
    (n.0, n.1, aside_stored (versions c.log) n.0 c.union (must_retire c.union k) (fresh_marks c) k 0 other none n.2 (λ p is. no_ply (decoded 0) p decoded-zero is) n.1)

-- what isn't held may be cleared
pub serves_clear : (c : Control) (Held : ℕ → Type 0) (o : ℕ) → (Held o → ⊥) → HoldsPromise c Held → MayClear c o
serves_clear c Held o free ok begun = (let n = ok begun in (n.0, n.1, λ e lasting is. free (n.2 e o lasting is)))

-- a Drop where nothing leads and that isn't held, a look, a change of holds, a put
pub serves_cleared : (c : Control) (Held : ℕ → Type 0) (k : ℕ) → owner k ≢ 0 → IsAside c.union (owner k) → (Held (owner k) → ⊥) → HoldsPromise c Held → HoldsPromise (put c k 0) Held
serves_cleared c Held k other none free ok begun =
    let n = ok begun in
    (n.0, aside_stored (versions c.log) n.0 c.union (must_retire c.union k) (fresh_marks c) k 0 other none (λ e lasting is. free (n.2 e (owner k) lasting is)) (λ p is. no_ply (decoded 0) p decoded-zero is) n.1, n.2)

pub held_cleared : (c : Control) (held : ℕ → Bool) (k : ℕ) → owner k ≢ 0 → IsAside c.union (owner k) → held (owner k) ≡ false → HoldsPromise c (λ o. held o ≡ true) → HoldsPromise (put c k 0) (λ o. held o ≡ true)
held_cleared c held k other none free ok = serves_cleared c (λ o. held o ≡ true) k other none (λ is. true≢false (sym is ∙ free)) ok

pub serves_looked : (c : Control) (Held : ℕ → Type 0) (number found : ℕ) → HoldsPromise c Held → HoldsPromise (looked c number found) Held
serves_looked c Held number found ok begun = (let n = ok begun in (n.0, promised_scans (versions c.log) n.0 c.union number found n.1, n.2))

pub serves_held : (c : Control) (Held Held' : ℕ → Type 0) → ((o : ℕ) → Held o → Held' o) → HoldsPromise c Held → HoldsPromise c Held'
serves_held c Held Held' more ok begun = (let n = ok begun in (n.0, n.1, λ e o lasting is. more o (n.2 e o lasting is)))

pub serves_put : (c : Control) (Held : ℕ → Type 0) (k w : ℕ) → HoldsPromiseStored c Held k w → HoldsPromise (put c k w) Held
serves_put c Held k w ok begun = (let n = ok begun in (n.0, n.3, n.2))

pub put_steadily : (c : Control) (Held : ℕ → Type 0) (k w : ℕ) → HoldsPromiseStored c Held k w → MayStoreSteadily c k w
put_steadily c Held k w ok begun = (let n = ok begun in (n.0, n.1, n.3))

-- why the hold is needed: where all versions want Receive of a bucket, Drop in it breaks the promise for these names, whether or not an edge leads there
not_received : (w : Word) → w ≡ words.Drop → w ≡ words.Receive → ⊥
not_received w e f = cc

pub clearing_breaks : (J : List Tables) (balances : Prefix → Option ℕ) (cells : List ℕ) (e : Prefix) (o s : ℕ) → s < 16 → 16 * o + s < length cells → IsLasting J e → balances e ≡ Some o → WantsAlike J e s (aims.Ends answers.Receive) → KeepsCells J balances (slice_set cells (16 * o + s) 0) → ⊥
clearing_breaks J balances cells e o s lt room lasting is alike ok =
    not_received (word_at (slice_set cells (16 * o + s) 0) o s) (ap decoded (get_or-set_same cells (16 * o + s) 0 0 room) ∙ decoded-zero) (ok.aimed e o s (aims.Ends answers.Receive) lasting is lt alike)
