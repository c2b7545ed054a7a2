use Rattle.std.proofs.Common.{◌≡◌, ℕ, ◌+◌, ◌*◌, ◌-◌, ◌/◌, ◌^◌, ◌≤◌, None, sym, ap, subst, ◌∙◌, arith}
use Rattle.fib_core_promise.specs.Matches.{FitsVersions, added}
use Rattle.fib_plane_view.specs.Promise.{Promise, IsBegun}
use Rattle.fib_ply.specs.Rows.{held}
use Rattle.fib_ply.specs.Tables.{Came, Table, Stands, object_in}
use Rattle.fib_ply.proofs.Laws.{its_plies, leads_all}
use Rattle.fib_ply.proofs.Tables.{came, small, can_add, object_added, fits_now, stands_added, stored_more, wraps}
use Rattle.fib_ply.proofs.prefixes.PrefixTable.add.Goals as goal

pub add-plies-requires-clause-table : goal.add-plies-requires-clause-table
add-plies-requires-clause-table g c = can_add (g.P.Objects.promise c.args.on.now) c.self.inside.rows c.self.inside.plies c.are_prefixes.ensures (g.P.Objects.view c.args.on.now) c.args.prefix c.len.ensures.prefix c.requires.prefix (subst (λ (t : Table). IsBegun (g.P.Objects.promise c.args.on.now) → FitsVersions (g.P.Objects.promise c.args.on.now).versions (held t.rows.members)) (sym c.self.view_is) c.requires.fits) (subst (λ (t : Table). Stands (g.P.Objects.promise c.args.on.now) t (g.P.Objects.view c.args.on.now)) (sym c.self.view_is) c.requires.stands) c.from-len.result (c.top.inside.0 / 2 ^ (32 - c.from-len.result)) (c.from-len.ensures ∙ c.len.ensures.value) (ap (λ (i : ℕ). i / 2 ^ (32 - c.from-len.result)) (c.top.view_is ∙ c.bits.ensures)) c.args.object (subst (λ (t : Table). held t.rows.members c.args.prefix ≡ None) (sym c.self.view_is) c.requires.absent) c.requires.sometime (subst (λ (t : Table). 16 * (t.plies + 7) ≤ (g.P.Objects.view c.args.on.now).spare) (sym c.self.view_is) c.requires.spare)

pub add-plies-requires-clause-prefix : goal.add-plies-requires-clause-prefix
add-plies-requires-clause-prefix g c = small (g.P.Objects.promise c.args.on.now) c.self.inside.rows c.self.inside.plies c.are_prefixes.ensures (g.P.Objects.view c.args.on.now) c.args.prefix c.len.ensures.prefix c.requires.prefix (subst (λ (t : Table). IsBegun (g.P.Objects.promise c.args.on.now) → FitsVersions (g.P.Objects.promise c.args.on.now).versions (held t.rows.members)) (sym c.self.view_is) c.requires.fits) (subst (λ (t : Table). Stands (g.P.Objects.promise c.args.on.now) t (g.P.Objects.view c.args.on.now)) (sym c.self.view_is) c.requires.stands) c.from-len.result (c.top.inside.0 / 2 ^ (32 - c.from-len.result)) (c.from-len.ensures ∙ c.len.ensures.value) (ap (λ (i : ℕ). i / 2 ^ (32 - c.from-len.result)) (c.top.view_is ∙ c.bits.ensures))

pub returns-clause-object : goal.returns-clause-object
returns-clause-object g c = object_added (g.P.Objects.promise c.args.on.now) c.self.inside.rows c.self.inside.plies c.are_prefixes.ensures (g.P.Objects.view c.args.on.now) c.args.prefix c.len.ensures.prefix c.requires.prefix (subst (λ (t : Table). IsBegun (g.P.Objects.promise c.args.on.now) → FitsVersions (g.P.Objects.promise c.args.on.now).versions (held t.rows.members)) (sym c.self.view_is) c.requires.fits) (subst (λ (t : Table). Stands (g.P.Objects.promise c.args.on.now) t (g.P.Objects.view c.args.on.now)) (sym c.self.view_is) c.requires.stands) c.from-len.result (c.top.inside.0 / 2 ^ (32 - c.from-len.result)) (c.from-len.ensures ∙ c.len.ensures.value) (ap (λ (i : ℕ). i / 2 ^ (32 - c.from-len.result)) (c.top.view_is ∙ c.bits.ensures)) c.args.object (subst (λ (t : Table). held t.rows.members c.args.prefix ≡ None) (sym c.self.view_is) c.requires.absent) c.requires.sometime c.add-plies.new.set c.are_prefixes-2.ensures c.add-plies.ensures.look ∙ ap (λ (t : Table). added (object_in t) c.args.prefix c.args.object) c.self.view_is

pub returns-clause-stands : goal.returns-clause-stands
returns-clause-stands g c = subst (λ (p : Promise). Stands p (record { rows = c.add-plies.new.set; plies = c.self.inside.plies + c.add-plies.result }) (g.P.Objects.view c.add-plies.new.on)) (sym c.add-plies.ensures.promise) (stands_added (g.P.Objects.promise c.args.on.now) c.self.inside.rows c.self.inside.plies c.are_prefixes.ensures (g.P.Objects.view c.args.on.now) c.args.prefix c.len.ensures.prefix c.requires.prefix (subst (λ (t : Table). IsBegun (g.P.Objects.promise c.args.on.now) → FitsVersions (g.P.Objects.promise c.args.on.now).versions (held t.rows.members)) (sym c.self.view_is) c.requires.fits) (subst (λ (t : Table). Stands (g.P.Objects.promise c.args.on.now) t (g.P.Objects.view c.args.on.now)) (sym c.self.view_is) c.requires.stands) c.from-len.result (c.top.inside.0 / 2 ^ (32 - c.from-len.result)) (c.from-len.ensures ∙ c.len.ensures.value) (ap (λ (i : ℕ). i / 2 ^ (32 - c.from-len.result)) (c.top.view_is ∙ c.bits.ensures)) c.args.object (subst (λ (t : Table). held t.rows.members c.args.prefix ≡ None) (sym c.self.view_is) c.requires.absent) c.requires.sometime c.add-plies.new.set c.are_prefixes-2.ensures c.add-plies.ensures.look (g.P.Objects.view c.add-plies.new.on) c.add-plies.result c.add-plies.ensures.table)

pub returns-clause-leads : goal.returns-clause-leads
returns-clause-leads g c = leads_all (g.P.Objects.promise c.args.on.now) (record { rows = c.add-plies.new.set; plies = c.self.inside.plies + c.add-plies.result }) (g.P.Objects.view c.add-plies.new.on) (stands_added (g.P.Objects.promise c.args.on.now) c.self.inside.rows c.self.inside.plies c.are_prefixes.ensures (g.P.Objects.view c.args.on.now) c.args.prefix c.len.ensures.prefix c.requires.prefix (subst (λ (t : Table). IsBegun (g.P.Objects.promise c.args.on.now) → FitsVersions (g.P.Objects.promise c.args.on.now).versions (held t.rows.members)) (sym c.self.view_is) c.requires.fits) (subst (λ (t : Table). Stands (g.P.Objects.promise c.args.on.now) t (g.P.Objects.view c.args.on.now)) (sym c.self.view_is) c.requires.stands) c.from-len.result (c.top.inside.0 / 2 ^ (32 - c.from-len.result)) (c.from-len.ensures ∙ c.len.ensures.value) (ap (λ (i : ℕ). i / 2 ^ (32 - c.from-len.result)) (c.top.view_is ∙ c.bits.ensures)) c.args.object (subst (λ (t : Table). held t.rows.members c.args.prefix ≡ None) (sym c.self.view_is) c.requires.absent) c.requires.sometime c.add-plies.new.set c.are_prefixes-2.ensures c.add-plies.ensures.look (g.P.Objects.view c.add-plies.new.on) c.add-plies.result c.add-plies.ensures.table)

pub returns-clause-exact : goal.returns-clause-exact
returns-clause-exact g c = its_plies (g.P.Objects.promise c.args.on.now) (record { rows = c.add-plies.new.set; plies = c.self.inside.plies + c.add-plies.result }) (g.P.Objects.view c.add-plies.new.on) c.are_prefixes-2.ensures (stands_added (g.P.Objects.promise c.args.on.now) c.self.inside.rows c.self.inside.plies c.are_prefixes.ensures (g.P.Objects.view c.args.on.now) c.args.prefix c.len.ensures.prefix c.requires.prefix (subst (λ (t : Table). IsBegun (g.P.Objects.promise c.args.on.now) → FitsVersions (g.P.Objects.promise c.args.on.now).versions (held t.rows.members)) (sym c.self.view_is) c.requires.fits) (subst (λ (t : Table). Stands (g.P.Objects.promise c.args.on.now) t (g.P.Objects.view c.args.on.now)) (sym c.self.view_is) c.requires.stands) c.from-len.result (c.top.inside.0 / 2 ^ (32 - c.from-len.result)) (c.from-len.ensures ∙ c.len.ensures.value) (ap (λ (i : ℕ). i / 2 ^ (32 - c.from-len.result)) (c.top.view_is ∙ c.bits.ensures)) c.args.object (subst (λ (t : Table). held t.rows.members c.args.prefix ≡ None) (sym c.self.view_is) c.requires.absent) c.requires.sometime c.add-plies.new.set c.are_prefixes-2.ensures c.add-plies.ensures.look (g.P.Objects.view c.add-plies.new.on) c.add-plies.result c.add-plies.ensures.table)

pub returns-clause-fits : goal.returns-clause-fits
returns-clause-fits g c = subst (λ (p : Promise). IsBegun p → FitsVersions p.versions (held c.add-plies.new.set.members)) (sym c.add-plies.ensures.promise) (fits_now (g.P.Objects.promise c.args.on.now) c.self.inside.rows c.self.inside.plies c.are_prefixes.ensures (g.P.Objects.view c.args.on.now) c.args.prefix c.len.ensures.prefix c.requires.prefix (subst (λ (t : Table). IsBegun (g.P.Objects.promise c.args.on.now) → FitsVersions (g.P.Objects.promise c.args.on.now).versions (held t.rows.members)) (sym c.self.view_is) c.requires.fits) (subst (λ (t : Table). Stands (g.P.Objects.promise c.args.on.now) t (g.P.Objects.view c.args.on.now)) (sym c.self.view_is) c.requires.stands) c.from-len.result (c.top.inside.0 / 2 ^ (32 - c.from-len.result)) (c.from-len.ensures ∙ c.len.ensures.value) (ap (λ (i : ℕ). i / 2 ^ (32 - c.from-len.result)) (c.top.view_is ∙ c.bits.ensures)) c.args.object (subst (λ (t : Table). held t.rows.members c.args.prefix ≡ None) (sym c.self.view_is) c.requires.absent) c.requires.sometime c.add-plies.new.set c.are_prefixes-2.ensures c.add-plies.ensures.look)

pub returns-clause-stores : goal.returns-clause-stores
returns-clause-stores g c = let more = stored_more (g.P.Objects.promise c.args.on.now) c.self.inside.rows c.self.inside.plies c.are_prefixes.ensures (g.P.Objects.view c.args.on.now) c.args.prefix c.len.ensures.prefix c.requires.prefix (subst (λ (t : Table). IsBegun (g.P.Objects.promise c.args.on.now) → FitsVersions (g.P.Objects.promise c.args.on.now).versions (held t.rows.members)) (sym c.self.view_is) c.requires.fits) (subst (λ (t : Table). Stands (g.P.Objects.promise c.args.on.now) t (g.P.Objects.view c.args.on.now)) (sym c.self.view_is) c.requires.stands) c.from-len.result (c.top.inside.0 / 2 ^ (32 - c.from-len.result)) (c.from-len.ensures ∙ c.len.ensures.value) (ap (λ (i : ℕ). i / 2 ^ (32 - c.from-len.result)) (c.top.view_is ∙ c.bits.ensures)) c.args.object (subst (λ (t : Table). held t.rows.members c.args.prefix ≡ None) (sym c.self.view_is) c.requires.absent) c.requires.sometime c.add-plies.new.set c.are_prefixes-2.ensures c.add-plies.ensures.look (g.P.Objects.view c.add-plies.new.on) c.add-plies.result c.add-plies.ensures.table in (more, wraps (g.P.Objects.view c.args.on.now).stored (g.P.Objects.view c.add-plies.new.on).stored c.stored-before.result c.stored.result more c.stored-before.ensures c.stored.ensures)

pub returns-clause-came : goal.returns-clause-came
returns-clause-came g c =
    let count : c.add-plies.result ≡ c.self.inside.plies + c.add-plies.result - c.self.inside.plies = omega arith in
    subst (λ (t : Table). Came (object_in t) c.args.prefix (c.self.inside.plies + c.add-plies.result - t.plies)) c.self.view_is
    (subst (λ (i : ℕ). Came (held c.self.inside.rows.members) c.args.prefix i) count
    (came (g.P.Objects.promise c.args.on.now) c.self.inside.rows c.self.inside.plies c.are_prefixes.ensures (g.P.Objects.view c.args.on.now) c.args.prefix c.len.ensures.prefix c.requires.prefix (subst (λ (t : Table). IsBegun (g.P.Objects.promise c.args.on.now) → FitsVersions (g.P.Objects.promise c.args.on.now).versions (held t.rows.members)) (sym c.self.view_is) c.requires.fits) (subst (λ (t : Table). Stands (g.P.Objects.promise c.args.on.now) t (g.P.Objects.view c.args.on.now)) (sym c.self.view_is) c.requires.stands) c.from-len.result (c.top.inside.0 / 2 ^ (32 - c.from-len.result)) (c.from-len.ensures ∙ c.len.ensures.value) (ap (λ (i : ℕ). i / 2 ^ (32 - c.from-len.result)) (c.top.view_is ∙ c.bits.ensures)) c.add-plies.result c.add-plies.ensures.within c.add-plies.ensures.bare))
