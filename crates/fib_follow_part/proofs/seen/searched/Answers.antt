use Rattle.std.proofs.Common.{map, subst, sym, ap, ◌∙◌}
use Rattle.std.specs.Prelude.{Contains}
use Rattle.fib_entries_rows.proofs.Seeing.{more_in}
use Rattle.fib_follow_view.specs.Views.{anew_prefix}
use Rattle.fib_follow_part.specs.inner.Searched.{SeesOnly, are_none}
use Rattle.fib_follow_part.proofs.seen.searched.Goals as goal

pub returns : goal.returns
returns c =
    let reach = c.in_ok-members.members in
    let sees = c.in_ok-see_changed.ensures.seen in
    record {
      reach = reach;
      is = c.in_ok-members.ensures;
      once = sees.1;
      more = λ e k. more_in reach c.see_changed.new.seen sees.0 e k;
      changed = λ t k. sees.2 t (subst (λ xs. Contains (map anew_prefix xs) t) (sym c.changed.ensures.changed) k);
      only = subst (λ xs. SeesOnly (map anew_prefix xs) reach c.see_changed.new.seen) c.changed.ensures.changed c.in_ok-see_changed.ensures.only;
      apart = c.is_none-is_apart.ensures ∙ ap are_none c.as_slice.ensures;
    }
