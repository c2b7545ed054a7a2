use Rattle.std.proofs.Common.{◌∙◌, sym}
use Rattle.fib_words.proofs.Commands.{taken, not_taken}
use Rattle.fib_words.proofs.parts.matches_in.Goals as goal

pub returns-in-Ok : goal.returns-in-Ok
returns-in-Ok c =
    let told = c.in-Ok.ensures in
    record {
      taken = sym (taken _ (told.kinds c.requires.free));
      matches = (told.matches c.requires.simple).0;
    }

pub returns : goal.returns
returns c =
    let told = c.in-Err.ensures in
    record {
      taken = sym (not_taken _ c.in-Err.error (told.kinds c.requires.free) (λ e. c.in_default.not-OutOfMemory (c.kind.ensures ∙ e)));
      matches = tt;
    }
