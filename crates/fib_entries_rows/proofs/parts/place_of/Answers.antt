use Rattle.std.proofs.Common.{◌∙◌, ◌+◌, ◌*◌, ap, sym, subst, None, ℕ, ◌<◌, ◌&&◌, slice_index_or}
use Rattle.std.specs.Prelude.{IfSome}
use Rattle.fib_addr.specs.Prefixes.{same_prefix}
use Rattle.fib_resolve.specs.Keys.{same_source}
use Rattle.fib_resolve.specs.Pairs.{pairs}
use Rattle.fib_entries_rows.proofs.Picking.{zip_length}
use Rattle.fib_entries_rows.proofs.Keying.{position_below}
use Rattle.fib_entries_rows.proofs.parts.place_of.Goals as goal

pub returns-clause-place : goal.returns-clause-place
returns-clause-place c =
    c.read_slot.ensures ∙ (ap (λ (r : ℕ). slice_index_or c.args.parts.places.now (7 * c.args.number + r) None) (c.from.ensures ∙ c.rank.ensures.value)
    ∙ c.requires.parts.places c.args.prefix c.args.source c.args.number c.requires.number)

pub returns-clause-inside : goal.returns-clause-inside
returns-clause-inside c =
    let is = c.read_slot.ensures ∙ (ap (λ (r : ℕ). slice_index_or c.args.parts.places.now (7 * c.args.number + r) None) (c.from.ensures ∙ c.rank.ensures.value)
    ∙ c.requires.parts.places c.args.prefix c.args.source c.args.number c.requires.number) in
    let ids = c.args.parts.ids.now in
    let many = zip_length c.args.parts.lists.now (pairs c.args.parts.meaning.now) ids c.requires.parts.taken.each in
    subst (λ (n : ℕ). IfSome c.read_slot.result (λ k. k < n)) (sym many)
    (position_below (λ x. same_prefix c.args.prefix x.prefix && same_source c.args.source x.source) (pairs c.args.parts.meaning.now) c.read_slot.result is)
