-- A prefix table while it gets its first prefixes, each at a balance of its own that drops.
use Rattle.std.specs.Prelude.{◌≡◌, ℕ, ◌+◌, ◌*◌, ◌<◌, ◌≤◌, List, Some, length}
use Rattle.fib_addr.specs.Prefixes.{Prefix}
use Rattle.fib_core.specs.declared.word.Word.TheVariants as words
use Rattle.fib_pool.specs.declared.object.AdjacencyRecord.{AdjacencyRecord}
use Rattle.fib_plane_view.specs.Promise.{Promise}
use Rattle.fib_plane_view.specs.View.{IsBalance, View}
use Rattle.fib_ply.specs.Tables.{Table, object_in}
use Rattle.fib_core_promise.specs.Stack.{is_some}
use Rattle.fib_control_quiet.specs.Early.{IsTried}
use Rattle.fib_stack_waking.specs.Waking.{is_among}

pub record IsStarted (p : Promise) (t : Table) (u : View) (named : List Prefix) : Type 0 where
  pub tried : IsTried p t u
  pub placed : (e : Prefix) → is_some (object_in t e) ≡ is_among named e
  pub apart : (d e : Prefix) (o : ℕ) → object_in t d ≡ Some o → object_in t e ≡ Some o → d ≡ e
  pub balances : (e : Prefix) (o : ℕ) → object_in t e ≡ Some o → IsBalance u o
  pub drops : (e : Prefix) (o k : ℕ) → object_in t e ≡ Some o → k < 16 → u.cell o k ≡ words.Drop
  pub owned : (o : ℕ) → IsBalance u o → (e : Prefix) × (object_in t e ≡ Some o)
  pub users : (m : AdjacencyRecord) → u.users m ≡ 0
  -- each prefix took a balance and at most seven plies of the 63 objects that there are beside the root
  pub few : t.plies ≤ 7 * length named
  pub roomy : 70 ≤ u.free + 8 * length named
