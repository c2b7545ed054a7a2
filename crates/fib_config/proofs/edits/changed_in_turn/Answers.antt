use Rattle.std.proofs.Common.{◌∙◌, sym, subst}
use Rattle.fib_resolve.specs.Tables.{IsSound}
use Rattle.fib_resolve.specs.declared.types.Tables.{Tables}
use Rattle.fib_config.specs.inner.Bounds.{allowance, IsBoundFor}
use Rattle.fib_config.proofs.Batches.{undone_none}
use Rattle.fib_config.proofs.edits.changed_in_turn.Goals as goal

pub returns-in-Ok-clause-back : goal.returns-in-Ok-clause-back
returns-in-Ok-clause-back c = c.keep_in_turn.ensures.back ∙ undone_none c.new-2.result.items c.args.tables.now c.new-2.ensures.items

pub returns-in-Err-clause-err : goal.returns-in-Err-clause-err
returns-in-Err-clause-err c = c.take_all_back.ensures.tables ∙ c.keep_in_turn.ensures.back ∙ undone_none c.new-2.result.items c.args.tables.now c.new-2.ensures.items

pub returns-in-Err-clause-sound : goal.returns-in-Err-clause-sound
returns-in-Err-clause-sound c = subst IsSound (sym (returns-in-Err-clause-err c)) c.requires.sound

pub returns-in-Err-clause-digest : goal.returns-in-Err-clause-digest
returns-in-Err-clause-digest c = record {
  keys = record { routes = c.take_all_back.ensures.keys.routes; neighbors = c.take_all_back.ensures.keys.neighbors };
  bound = subst (λ (S : Tables). IsBoundFor c.args.digest.now.bound (allowance S)) (sym (returns-in-Err-clause-err c)) c.requires.digest.bound;
}
