use Rattle.std.proofs.Common.{subst, sym}
use Rattle.std.specs.Prelude.{Contains}
use Rattle.fib_entries_rows.proofs.Seeing.{more_in}
use Rattle.fib_follow_part.proofs.seen.reached.Goals as goal

pub returns : goal.returns
returns c =
    let all = c.in_ok-see_all.ensures in
    record {
      once = all.seen.1;
      led = λ x k is. more_in c.see_all_led.new.seen c.see_all.new.seen all.seen.0 x.prefix
          (c.in_ok-see_all_led.ensures.led x (subst (λ xs. Contains xs x) (sym c.changed.ensures.changed) k) is);
      closed = all.closed;
    }
