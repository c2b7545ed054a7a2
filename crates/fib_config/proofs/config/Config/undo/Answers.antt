use Rattle.std.proofs.Common.{◌∙◌, ap, subst, sym}
use Rattle.fib_resolve.specs.Tables.{IsSound}
use Rattle.fib_config.specs.Config.{Setup}
use Rattle.fib_config.specs.Undone.{undone}
use Rattle.fib_config.proofs.config.Config.undo.Goals as goal

pub invariant_of-self : goal.invariant_of-self
invariant_of-self c = record {
  fine = record {
    sound = subst IsSound (ap (λ (s : Setup). undone c.args.undo s.tables) (sym c.self.view_is) ∙ sym c.take_back.ensures.tables) c.requires;
    room = c.self.invariant.fine.room;
  };
  digest = c.forget_bound.ensures _ c.take_back.ensures.keys;
}
