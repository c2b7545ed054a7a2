use Rattle.std.proofs.Common.{subst}
use Rattle.fib_resolve.specs.Sizes.{size}
use Rattle.fib_resolve.specs.declared.types.Tables.{Tables}
use Rattle.fib_config.proofs.Made.{made_fits}
use Rattle.fib_entries_rows.specs.Changes.{IsTooMany}
use Rattle.fib_entries.proofs.Follows.{differs}
use Rattle.fib_entries.proofs.changing.change_tables.Goals as goal

pub returns-in-Err-clause-why : goal.returns-in-Err-clause-why
returns-in-Err-clause-why c = c.own_fault.ensures c.args.config.now.tables c.args.most c.args.edit.now c.in-Err.ensures.refused

pub returns-in-Ok-follow_changes-clause-accepted : goal.returns-in-Ok-follow_changes-clause-accepted
returns-in-Ok-follow_changes-clause-accepted c =
    let S = c.args.config.now.tables in
    let e = c.in-Ok.ensures in
    let d = differs S c.change.new.self.tables c.args.edit.now c.in-Ok.edited.change c.requires.stands.sound e.place e.edited in
    let followed = c.in-Ok-follow_changes.ensures.followed S c.requires.stands d in
    made_fits S c.change.new.self.tables c.args.most c.args.edit.now e.edited followed.fits e.accepted

pub returns-in-Ok-follow_changes-clause-followed : goal.returns-in-Ok-follow_changes-clause-followed
returns-in-Ok-follow_changes-clause-followed c =
    let S = c.args.config.now.tables in
    let e = c.in-Ok.ensures in
    let d = differs S c.change.new.self.tables c.args.edit.now c.in-Ok.edited.change c.requires.stands.sound e.place e.edited in
    c.in-Ok-follow_changes.ensures.followed S c.requires.stands d

pub returns-in-Err-follow_changes-clause-why : goal.returns-in-Err-follow_changes-clause-why
returns-in-Err-follow_changes-clause-why c =
    let S = c.args.config.now.tables in
    let e = c.in-Ok.ensures in
    let d = differs S c.change.new.self.tables c.args.edit.now c.in-Ok.edited.change c.requires.stands.sound e.place e.edited in
    c.fault.ensures S c.args.most c.args.edit.now e.accepted
    (subst (λ (T : Tables). IsTooMany (size T) c.args.most c.in-Err-follow_changes.error) e.edited (c.in-Err-follow_changes.ensures.too_many S c.requires.stands d))
