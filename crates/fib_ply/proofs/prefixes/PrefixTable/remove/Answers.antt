use Rattle.std.proofs.Common.{ℕ, ◌*◌, ◌-◌, ◌/◌, ◌^◌, ◌≤◌, sym, ap, subst, ◌∙◌}
use Rattle.fib_core_promise.specs.Matches.{FitsVersions, removed}
use Rattle.fib_plane_view.specs.Promise.{Promise, IsBegun}
use Rattle.fib_ply.specs.Rows.{held}
use Rattle.fib_ply.specs.Tables.{Table, Stands, object_in}
use Rattle.fib_ply.proofs.Laws.{its_plies, leads_all}
use Rattle.fib_ply.proofs.Tables.{small, can_remove, object_removed, fits_left, stands_removed, stored_grew, fewer, wraps}
use Rattle.fib_ply.proofs.prefixes.PrefixTable.remove.Goals as goal

pub remove-plies-requires-clause-table : goal.remove-plies-requires-clause-table
remove-plies-requires-clause-table g c = can_remove (g.P.Objects.promise c.args.on.now) c.self.inside.rows c.self.inside.plies c.are_prefixes.ensures (g.P.Objects.view c.args.on.now) c.args.prefix c.len.ensures.prefix c.requires.prefix (subst (λ (t : Table). IsBegun (g.P.Objects.promise c.args.on.now) → FitsVersions (g.P.Objects.promise c.args.on.now).versions (held t.rows.members)) (sym c.self.view_is) c.requires.fits) (subst (λ (t : Table). Stands (g.P.Objects.promise c.args.on.now) t (g.P.Objects.view c.args.on.now)) (sym c.self.view_is) c.requires.stands) c.from-len.result (c.top.inside.0 / 2 ^ (32 - c.from-len.result)) (c.from-len.ensures ∙ c.len.ensures.value) (ap (λ (i : ℕ). i / 2 ^ (32 - c.from-len.result)) (c.top.view_is ∙ c.bits.ensures)) c.requires.leaves (subst (λ (t : Table). 16 * t.plies ≤ (g.P.Objects.view c.args.on.now).spare) (sym c.self.view_is) c.requires.spare)

pub remove-plies-requires-clause-prefix : goal.remove-plies-requires-clause-prefix
remove-plies-requires-clause-prefix g c = small (g.P.Objects.promise c.args.on.now) c.self.inside.rows c.self.inside.plies c.are_prefixes.ensures (g.P.Objects.view c.args.on.now) c.args.prefix c.len.ensures.prefix c.requires.prefix (subst (λ (t : Table). IsBegun (g.P.Objects.promise c.args.on.now) → FitsVersions (g.P.Objects.promise c.args.on.now).versions (held t.rows.members)) (sym c.self.view_is) c.requires.fits) (subst (λ (t : Table). Stands (g.P.Objects.promise c.args.on.now) t (g.P.Objects.view c.args.on.now)) (sym c.self.view_is) c.requires.stands) c.from-len.result (c.top.inside.0 / 2 ^ (32 - c.from-len.result)) (c.from-len.ensures ∙ c.len.ensures.value) (ap (λ (i : ℕ). i / 2 ^ (32 - c.from-len.result)) (c.top.view_is ∙ c.bits.ensures))

pub overflow_sub-self : goal.overflow_sub-self
overflow_sub-self g c = fewer (g.P.Objects.promise c.args.on.now) c.self.inside.rows c.self.inside.plies c.are_prefixes.ensures (g.P.Objects.view c.args.on.now) c.args.prefix c.len.ensures.prefix c.requires.prefix (subst (λ (t : Table). IsBegun (g.P.Objects.promise c.args.on.now) → FitsVersions (g.P.Objects.promise c.args.on.now).versions (held t.rows.members)) (sym c.self.view_is) c.requires.fits) (subst (λ (t : Table). Stands (g.P.Objects.promise c.args.on.now) t (g.P.Objects.view c.args.on.now)) (sym c.self.view_is) c.requires.stands) c.from-len.result (c.top.inside.0 / 2 ^ (32 - c.from-len.result)) (c.from-len.ensures ∙ c.len.ensures.value) (ap (λ (i : ℕ). i / 2 ^ (32 - c.from-len.result)) (c.top.view_is ∙ c.bits.ensures)) c.requires.leaves c.remove-plies.new.set c.are_prefixes-2.ensures c.remove-plies.ensures.look (g.P.Objects.view c.remove-plies.new.on) c.remove-plies.result c.remove-plies.ensures.table

pub returns-clause-object : goal.returns-clause-object
returns-clause-object g c = object_removed (g.P.Objects.promise c.args.on.now) c.self.inside.rows c.self.inside.plies c.are_prefixes.ensures (g.P.Objects.view c.args.on.now) c.args.prefix c.len.ensures.prefix c.requires.prefix (subst (λ (t : Table). IsBegun (g.P.Objects.promise c.args.on.now) → FitsVersions (g.P.Objects.promise c.args.on.now).versions (held t.rows.members)) (sym c.self.view_is) c.requires.fits) (subst (λ (t : Table). Stands (g.P.Objects.promise c.args.on.now) t (g.P.Objects.view c.args.on.now)) (sym c.self.view_is) c.requires.stands) c.from-len.result (c.top.inside.0 / 2 ^ (32 - c.from-len.result)) (c.from-len.ensures ∙ c.len.ensures.value) (ap (λ (i : ℕ). i / 2 ^ (32 - c.from-len.result)) (c.top.view_is ∙ c.bits.ensures)) c.requires.leaves c.remove-plies.new.set c.are_prefixes-2.ensures c.remove-plies.ensures.look ∙ ap (λ (t : Table). removed (object_in t) c.args.prefix) c.self.view_is

pub returns-clause-stands : goal.returns-clause-stands
returns-clause-stands g c = subst (λ (p : Promise). Stands p (record { rows = c.remove-plies.new.set; plies = c.self.inside.plies - c.remove-plies.result }) (g.P.Objects.view c.remove-plies.new.on)) (sym c.remove-plies.ensures.promise) (stands_removed (g.P.Objects.promise c.args.on.now) c.self.inside.rows c.self.inside.plies c.are_prefixes.ensures (g.P.Objects.view c.args.on.now) c.args.prefix c.len.ensures.prefix c.requires.prefix (subst (λ (t : Table). IsBegun (g.P.Objects.promise c.args.on.now) → FitsVersions (g.P.Objects.promise c.args.on.now).versions (held t.rows.members)) (sym c.self.view_is) c.requires.fits) (subst (λ (t : Table). Stands (g.P.Objects.promise c.args.on.now) t (g.P.Objects.view c.args.on.now)) (sym c.self.view_is) c.requires.stands) c.from-len.result (c.top.inside.0 / 2 ^ (32 - c.from-len.result)) (c.from-len.ensures ∙ c.len.ensures.value) (ap (λ (i : ℕ). i / 2 ^ (32 - c.from-len.result)) (c.top.view_is ∙ c.bits.ensures)) c.requires.leaves c.remove-plies.new.set c.are_prefixes-2.ensures c.remove-plies.ensures.look (g.P.Objects.view c.remove-plies.new.on) c.remove-plies.result c.remove-plies.ensures.table)

pub returns-clause-leads : goal.returns-clause-leads
returns-clause-leads g c = leads_all (g.P.Objects.promise c.args.on.now) (record { rows = c.remove-plies.new.set; plies = c.self.inside.plies - c.remove-plies.result }) (g.P.Objects.view c.remove-plies.new.on) (stands_removed (g.P.Objects.promise c.args.on.now) c.self.inside.rows c.self.inside.plies c.are_prefixes.ensures (g.P.Objects.view c.args.on.now) c.args.prefix c.len.ensures.prefix c.requires.prefix (subst (λ (t : Table). IsBegun (g.P.Objects.promise c.args.on.now) → FitsVersions (g.P.Objects.promise c.args.on.now).versions (held t.rows.members)) (sym c.self.view_is) c.requires.fits) (subst (λ (t : Table). Stands (g.P.Objects.promise c.args.on.now) t (g.P.Objects.view c.args.on.now)) (sym c.self.view_is) c.requires.stands) c.from-len.result (c.top.inside.0 / 2 ^ (32 - c.from-len.result)) (c.from-len.ensures ∙ c.len.ensures.value) (ap (λ (i : ℕ). i / 2 ^ (32 - c.from-len.result)) (c.top.view_is ∙ c.bits.ensures)) c.requires.leaves c.remove-plies.new.set c.are_prefixes-2.ensures c.remove-plies.ensures.look (g.P.Objects.view c.remove-plies.new.on) c.remove-plies.result c.remove-plies.ensures.table)

pub returns-clause-exact : goal.returns-clause-exact
returns-clause-exact g c = its_plies (g.P.Objects.promise c.args.on.now) (record { rows = c.remove-plies.new.set; plies = c.self.inside.plies - c.remove-plies.result }) (g.P.Objects.view c.remove-plies.new.on) c.are_prefixes-2.ensures (stands_removed (g.P.Objects.promise c.args.on.now) c.self.inside.rows c.self.inside.plies c.are_prefixes.ensures (g.P.Objects.view c.args.on.now) c.args.prefix c.len.ensures.prefix c.requires.prefix (subst (λ (t : Table). IsBegun (g.P.Objects.promise c.args.on.now) → FitsVersions (g.P.Objects.promise c.args.on.now).versions (held t.rows.members)) (sym c.self.view_is) c.requires.fits) (subst (λ (t : Table). Stands (g.P.Objects.promise c.args.on.now) t (g.P.Objects.view c.args.on.now)) (sym c.self.view_is) c.requires.stands) c.from-len.result (c.top.inside.0 / 2 ^ (32 - c.from-len.result)) (c.from-len.ensures ∙ c.len.ensures.value) (ap (λ (i : ℕ). i / 2 ^ (32 - c.from-len.result)) (c.top.view_is ∙ c.bits.ensures)) c.requires.leaves c.remove-plies.new.set c.are_prefixes-2.ensures c.remove-plies.ensures.look (g.P.Objects.view c.remove-plies.new.on) c.remove-plies.result c.remove-plies.ensures.table)

pub returns-clause-fits : goal.returns-clause-fits
returns-clause-fits g c = subst (λ (p : Promise). IsBegun p → FitsVersions p.versions (held c.remove-plies.new.set.members)) (sym c.remove-plies.ensures.promise) (fits_left (g.P.Objects.promise c.args.on.now) c.self.inside.rows c.self.inside.plies c.are_prefixes.ensures (g.P.Objects.view c.args.on.now) c.args.prefix c.len.ensures.prefix c.requires.prefix (subst (λ (t : Table). IsBegun (g.P.Objects.promise c.args.on.now) → FitsVersions (g.P.Objects.promise c.args.on.now).versions (held t.rows.members)) (sym c.self.view_is) c.requires.fits) (subst (λ (t : Table). Stands (g.P.Objects.promise c.args.on.now) t (g.P.Objects.view c.args.on.now)) (sym c.self.view_is) c.requires.stands) c.from-len.result (c.top.inside.0 / 2 ^ (32 - c.from-len.result)) (c.from-len.ensures ∙ c.len.ensures.value) (ap (λ (i : ℕ). i / 2 ^ (32 - c.from-len.result)) (c.top.view_is ∙ c.bits.ensures)) c.requires.leaves c.remove-plies.new.set c.are_prefixes-2.ensures c.remove-plies.ensures.look)

pub returns-clause-stores : goal.returns-clause-stores
returns-clause-stores g c = let more = stored_grew (g.P.Objects.promise c.args.on.now) c.self.inside.rows c.self.inside.plies c.are_prefixes.ensures (g.P.Objects.view c.args.on.now) c.args.prefix c.len.ensures.prefix c.requires.prefix (subst (λ (t : Table). IsBegun (g.P.Objects.promise c.args.on.now) → FitsVersions (g.P.Objects.promise c.args.on.now).versions (held t.rows.members)) (sym c.self.view_is) c.requires.fits) (subst (λ (t : Table). Stands (g.P.Objects.promise c.args.on.now) t (g.P.Objects.view c.args.on.now)) (sym c.self.view_is) c.requires.stands) c.from-len.result (c.top.inside.0 / 2 ^ (32 - c.from-len.result)) (c.from-len.ensures ∙ c.len.ensures.value) (ap (λ (i : ℕ). i / 2 ^ (32 - c.from-len.result)) (c.top.view_is ∙ c.bits.ensures)) c.requires.leaves c.remove-plies.new.set c.are_prefixes-2.ensures c.remove-plies.ensures.look (g.P.Objects.view c.remove-plies.new.on) c.remove-plies.result c.remove-plies.ensures.table in (more, wraps (g.P.Objects.view c.args.on.now).stored (g.P.Objects.view c.remove-plies.new.on).stored c.stored-before.result c.stored.result more c.stored-before.ensures c.stored.ensures)
