-- The derived order of paths is that of listings.
use Rattle.std.proofs.Common.{rules, ◌≡◌, ◌≢◌, true, List, [], ◌∷◌, refl, sym, ◌∙◌, ap}
use Rattle.std.proofs.lemmas.Bool.{false≢true}
use Rattle.std.specs.Ordering.{is_eq, is_lt, nat_cmp, ordering_then}
use Rattle.std.specs.Cmp.Lexicographic.{slice_cmp, lists_ties}
use Rattle.fib_addr.specs.Longest.{everything}
use Rattle.fib_resolve.specs.declared.pairs.Pair.{Pair}
use Rattle.fib_resolve.specs.declared.types.FibSource.TheVariants as sources
use Rattle.fib_resolve.proofs.Touching.{same_pair-Decides}
use Rattle.fib_print_listing.specs.Order.{list_before}
use Rattle.fib_print_listing.specs.PathLists.{same_list}
use Rattle.fib_print_listing.proofs.Orders.{first_before, tied_before, path_tied}
use Rattle.std.specs.declared.cmp.Ordering.{Ordering}
use Rattle.std.specs.declared.cmp.Ordering.TheVariants.{Less, Equal, Greater}
use Rattle.fib_resolve.specs.Keys.{kind_rank, next_hop_of, interface_of, need_rank, path_cmp}
use Rattle.fib_resolve.specs.declared.types.Path.{Path}
use Rattle.fib_resolve.specs.declared.types.PathKind.{PathKind}
use Rattle.fib_resolve.specs.declared.types.Need.{Need}
use Rattle.fib_resolve.specs.contracts.types.PathOrd.TheImpl as paths
use Rattle.fib_resolve.specs.contracts.types.PathKindOrd.TheImpl as path_kinds
use Rattle.fib_resolve.specs.contracts.types.NeedOrd.TheImpl as path_needs

abbrev kind_as : PathKind → PathKind → Ordering
kind_as k l = ordering_then (nat_cmp (kind_rank k) (kind_rank l)) (ordering_then (nat_cmp (next_hop_of k) (next_hop_of l)) (nat_cmp (interface_of k) (interface_of l)))

need_order : (n m : Need) → path_needs.cmp-value.it n m ≡ nat_cmp (need_rank n) (need_rank m)
need_order n m = search rules

kind_order : (k l : PathKind) → path_kinds.cmp-value.it k l ≡ kind_as k l
kind_order k l = search rules

Less≢Equal : Less ≢ Equal
Less≢Equal h = false≢true (sym (ap is_lt h))

Less≢Greater : Less ≢ Greater
Less≢Greater h = false≢true (sym (ap is_lt h))

regroup : (a b c d w r : Ordering) → ordering_then (ordering_then a (ordering_then b c)) (ordering_then d (ordering_then w r)) ≡ ordering_then (ordering_then a (ordering_then b (ordering_then c d))) (ordering_then w r)
regroup Less b c d w r = refl
regroup Greater b c d w r = refl
regroup Equal Less c d w r = refl
regroup Equal Greater c d w r = refl
regroup Equal Equal Less d w r = refl
regroup Equal Equal Greater d w r = refl
regroup Equal Equal Equal d w r = refl

pub path_ord : (p q : Path) → paths.cmp-value.it p q ≡ path_cmp p q
path_ord p q =
    ap (λ o. ordering_then o (ordering_then (path_needs.cmp-value.it p.need q.need) (ordering_then (nat_cmp p.weight q.weight) (nat_cmp p.preference q.preference)))) (kind_order p.kind q.kind)
    ∙ ap (λ o. ordering_then (kind_as p.kind q.kind) (ordering_then o (ordering_then (nat_cmp p.weight q.weight) (nat_cmp p.preference q.preference)))) (need_order p.need q.need)
    ∙ regroup (nat_cmp (kind_rank p.kind) (kind_rank q.kind)) (nat_cmp (next_hop_of p.kind) (next_hop_of q.kind)) (nat_cmp (interface_of p.kind) (interface_of q.kind))
    (nat_cmp (need_rank p.need) (need_rank q.need)) (nat_cmp p.weight q.weight) (nat_cmp p.preference q.preference)

pub list_same : (ps qs : List Path) → is_eq (slice_cmp paths.cmp-value.it ps qs) ≡ same_list ps qs
list_same ps qs = sym (lists_ties paths.cmp-value.it (λ p q. path_tied p q ∙ ap is_eq (sym (path_ord p q))) ps qs)

pub list_lower : (ps qs : List Path) → slice_cmp paths.cmp-value.it ps qs ≡ Less → list_before ps qs ≡ true
list_lower [] [] h = absurd (Less≢Equal (sym h))
list_lower [] (q ∷ qs) h = refl
list_lower (p ∷ ps) [] h = absurd (Less≢Greater (sym h))
list_lower (p ∷ ps) (q ∷ qs) h = by (path_cmp p q) refl (list_lower ps qs)
  where
    by : (o : Ordering) → path_cmp p q ≡ o → (slice_cmp paths.cmp-value.it ps qs ≡ Less → list_before ps qs ≡ true) → list_before (p ∷ ps) (q ∷ qs) ≡ true
    by Less e more = first_before p q ps qs e
    by Greater e more = absurd (Less≢Greater (sym h ∙ ap (λ o. ordering_then o (slice_cmp paths.cmp-value.it ps qs)) (path_ord p q ∙ e)))
    by Equal e more = tied_before p q ps qs e ∙ more (sym (ap (λ o. ordering_then o (slice_cmp paths.cmp-value.it ps qs)) (path_ord p q ∙ e)) ∙ h)

pair_with : List Path → Pair
pair_with ps = record { prefix = everything; source = sources.Special; paths = ps }

-- equal lists pass the test, and no others
pub list_is : (ps qs : List Path) → same_list ps qs ≡ true → ps ≡ qs
unfolding pair_with
list_is ps qs h = ap (λ x. x.paths) ((same_pair-Decides (pair_with ps) (pair_with qs)).0 h)
