use Rattle.std.proofs.Common.{◌≡◌, refl, sym, ap, ◌∙◌, subst, ◌∷◌, [], map, take}
use Rattle.std.specs.Prelude.{IsSome, option_map}
use Rattle.fib_base_interned.specs.Interned.{users_in}
use Rattle.fib_base_interned.proofs.Finding.{some_is}
use Rattle.fib_print_listing.specs.PathLists.{same_list}
use Rattle.fib_print_listing.specs.inner.Added.{Adds}
use Rattle.fib_print_listing.specs.inner.Lists.{counted, paths_in}
use Rattle.fib_print_listing.proofs.Adding.{adds_more}
use Rattle.fib_print_listing.proofs.Counting.{kept_with, count_one}
use Rattle.fib_print_listing.proofs.Taking.{map_at}
use Rattle.fib_print_listing.proofs.lists.counts_of.Goals as goal

pub content-requires : goal.content-requires
content-requires c =
    let k = kept_with c.args.lists.now c.loop-place.place c.at-id.result c.count-place-end.ensures.interned c.at-id.ensures in
    subst (λ o. IsSome o) (sym k.2) refl

pub loop-place-preserved : goal.loop-place-preserved
loop-place-preserved c =
    let lists = c.args.lists.now in
    let n = c.loop-place.place in
    let k = kept_with lists n c.at-id.result c.count-place-end.ensures.interned c.at-id.ensures in
    let paths = c.content.result.now in
    let users = c.users.result in
    let old = c.loop-place.counts.entries in
    let new = c.insert.new.self.entries in
    let content : k.0.content ≡ paths = some_is k.0.content paths (ap (option_map (λ j. j.content)) (sym k.2) ∙ c.content.ensures) in
    let used : users ≡ k.0.users = c.users.ensures.count ∙ ap users_in k.2 in
    let same : (paths, users) ≡ counted k.0 = ap (λ p. (p, users)) (sym content) ∙ ap (λ u. (k.0.content, u)) used in
    let one = count_one c.content.result users old new c.in_ok-insert.ensures.updates.0 in
    subst (λ l. Adds same_list paths_in l [] new) (sym (map_at counted lists n k.0 k.1))
    (adds_more same_list paths_in (map counted (take n lists)) (counted k.0 ∷ []) [] old new c.loop-place.invariant (subst (λ x. Adds same_list paths_in (x ∷ []) old new) same one))
