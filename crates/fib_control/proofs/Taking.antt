-- What calls between two changes take.
use Rattle.std.proofs.Common.{◌≡◌, ◌≤◌, ◌∙◌, ℕ, Bool, List, refl, sym, ap, subst, arith}
use Rattle.std.specs.Prelude.{Option}
use Rattle.fib_addr.specs.Prefixes.{Prefix}
use Rattle.fib_config.specs.Config.{Setup}
use Rattle.fib_plane.specs.Planes.{Plane}
use Rattle.fib_pool.specs.Objects.{free_in}
use Rattle.fib_resolve.specs.declared.types.End.{End}
use Rattle.fib_ply.specs.Rows.{held}
use Rattle.fib_stack_ledger.specs.declared.ledger.Known.{Known}
use Rattle.fib_stack_ledger.specs.Ledgers.{known_of, used_by}
use Rattle.fib_stack.specs.Records.{holds_in}
use Rattle.fib_stack.specs.Room.{Took}
use Rattle.fib_stack.proofs.Rooming.{made_alike, took_none, took_then}
use Rattle.fib_control.specs.Controls.{Control, IsSettled, Takes, state_now, tables_in, view_in}

pub takes_none : (c : Control) → Takes c c
takes_none c = took_none (tables_in c) (state_now c) (state_now c) (view_in c).free (view_in c).free (omega arith) (λ x made. made)

-- what neither the prefix table nor what is known of prefixes changed
pub takes_still : (c d : Control) → d.rows ≡ c.rows → d.known ≡ c.known → (view_in c).free ≤ (view_in d).free → Takes c d
takes_still c d rows known free =
    took_none (tables_in c) (state_now c) (state_now d) (view_in c).free (view_in d).free free
    (made_alike (tables_in c) (state_now c) (state_now d) (ap held rows) (ap (λ ks. λ e. λ end. holds_in (used_by (known_of ks e)) end) known))

pub takes_then : (a b c : Control) → b.setup ≡ a.setup → Takes a b → Takes b c → Takes a c
takes_then a b c same f g =
    took_then (tables_in a) (state_now a) (state_now b) (state_now c) (view_in a).free (view_in b).free (view_in c).free f
    (subst (λ (s : Setup). Took s.tables (state_now b) (state_now c) (view_in b).free (view_in c).free) same g)

pub takes_settled : (c d : Control) → IsSettled c d → Takes c d
takes_settled c d s =
    takes_still c d (ap (λ (x : Control). x.rows) s.others) (ap (λ (x : Control). x.known) s.others)
    (let same : free_in d.plane.objects ≡ free_in c.plane.objects = ap (λ (p : Plane). free_in p.objects) s.plane in omega (arith, same))

-- a scan and a retry more
pub tried : (a b c d : Control) → b.setup ≡ a.setup → c.setup ≡ b.setup → Takes a b → Takes b c → Takes c d → Takes a d
tried a b c d same then f g h = takes_then a c d (then ∙ same) (takes_then a b c same f g) h
