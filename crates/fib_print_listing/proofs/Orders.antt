-- The orders of the listings tell different elements apart.
use Rattle.std.proofs.Common.{arith, ◌≡◌, ℕ, Bool, true, false, ◌==◌, ◌&&◌, List, [], ◌∷◌, refl, sym, ◌∙◌, ap}
use Rattle.std.specs.Cmp.{IsTotalOrder, IsEquivalence, both_tied, tied_itself}
use Rattle.std.specs.Cmp.Lexicographic.{pointwise}
use Rattle.std.specs.declared.cmp.Ordering.{Ordering}
use Rattle.std.specs.declared.cmp.Ordering.TheVariants.{Less, Equal, Greater}
use Rattle.std.specs.Ordering.{is_eq, is_lt, nat_cmp, ordering_reverse, ordering_then}
use Rattle.std.proofs.lemmas.Bool.{false≢true}
use Rattle.std.proofs.lemmas.Bool.Decides.{nat_tests}
use Rattle.std.proofs.lemmas.Cmp.{nat_cmp_total, on_total, then_total, nat_eq_equiv, on_equiv, and_equiv, lists_equiv}
use Rattle.fib_addr.specs.Prefixes.{Prefix, same_prefix}
use Rattle.fib_resolve.specs.Keys.{key_of, key_cmp, same_key, path_cmp, same_path}
use Rattle.fib_resolve.specs.Sizes.{same_adjacency}
use Rattle.fib_resolve.specs.declared.pairs.Adjacency.{Adjacency}
use Rattle.fib_resolve.specs.declared.keys.Key.{Key}
use Rattle.fib_resolve.specs.declared.types.Path.{Path}
use Rattle.fib_resolve.proofs.KeyOrder.{key_order}
use Rattle.fib_print_listing.specs.Order.{prefix_before, adjacency_before, list_before}
use Rattle.fib_print_listing.specs.PathLists.{same_list}

pub prefix_trans : (p q r : Prefix) → prefix_before p q ≡ true → prefix_before q r ≡ true → prefix_before p r ≡ true
prefix_trans p q r h k = grind (arith, nat_tests)

pub prefix_apart : (p q : Prefix) → same_prefix q p ≡ false → prefix_before p q ≡ false → prefix_before q p ≡ true
prefix_apart p q h k = grind (arith, nat_tests)

pub prefix_off : (p : Prefix) → prefix_before p p ≡ false
prefix_off p = grind (arith, nat_tests)

prefix_test : (p q : Prefix) → is_lt (ordering_then (nat_cmp p.bits q.bits) (nat_cmp p.len q.len)) ≡ prefix_before p q
prefix_test p q = grind (arith, nat_tests)

pub prefix_lower : (p q : Prefix) → ordering_then (nat_cmp p.bits q.bits) (nat_cmp p.len q.len) ≡ Less → prefix_before p q ≡ true
prefix_lower p q h = sym (prefix_test p q) ∙ ap is_lt h

pub adjacency_off : (x : Adjacency) → adjacency_before x x ≡ false
adjacency_off x = grind (arith, nat_tests)

adjacency_test : (x y : Adjacency) → is_lt (ordering_then (nat_cmp x.interface y.interface) (nat_cmp x.next_hop y.next_hop)) ≡ adjacency_before x y
adjacency_test x y = grind (arith, nat_tests)

pub adjacency_trans : (x y z : Adjacency) → adjacency_before x y ≡ true → adjacency_before y z ≡ true → adjacency_before x z ≡ true
adjacency_trans x y z h k = grind (arith, nat_tests)

pub adjacency_apart : (x y : Adjacency) → same_adjacency y x ≡ false → adjacency_before x y ≡ false → adjacency_before y x ≡ true
adjacency_apart x y h k = grind (arith, nat_tests)

pub adjacency_lower : (x y : Adjacency) → ordering_then (nat_cmp x.interface y.interface) (nat_cmp x.next_hop y.next_hop) ≡ Less → adjacency_before x y ≡ true
adjacency_lower x y h = sym (adjacency_test x y) ∙ ap is_lt h

pub adjacency_tied : (x y : Adjacency) → is_eq (ordering_then (nat_cmp x.interface y.interface) (nat_cmp x.next_hop y.next_hop)) ≡ same_adjacency x y
adjacency_tied x y = grind (arith, nat_tests)

path_order : IsTotalOrder path_cmp
path_order = then_total (on_total key_of key_order) (then_total (on_total (λ (p : Path). p.weight) nat_cmp_total) (on_total (λ (p : Path). p.preference) nat_cmp_total))

nat_tied : (x y : ℕ) → (x == y) ≡ is_eq (nat_cmp x y)
nat_tied x y = grind (arith, nat_tests)

key_tied : (a b : Key) → same_key a b ≡ is_eq (key_cmp a b)
key_tied a b =
    both_tied _ _ _ _ (nat_tied a.kind b.kind)
    (both_tied _ _ _ _ (nat_tied a.next_hop b.next_hop) (both_tied _ _ _ _ (nat_tied a.interface b.interface) (nat_tied a.need b.need)))

pub path_tied : (p q : Path) → same_path p q ≡ is_eq (path_cmp p q)
path_tied p q = both_tied _ _ _ _ (key_tied (key_of p) (key_of q)) (both_tied _ _ _ _ (nat_tied p.weight q.weight) (nat_tied p.preference q.preference))

-- the heads decide, or are tied
pub first_before : (p q : Path) (ps qs : List Path) → path_cmp p q ≡ Less → list_before (p ∷ ps) (q ∷ qs) ≡ true
first_before p q ps qs h = rw h refl

pub tied_before : (p q : Path) (ps qs : List Path) → path_cmp p q ≡ Equal → list_before (p ∷ ps) (q ∷ qs) ≡ list_before ps qs
tied_before p q ps qs h = rw h refl

turned : (p q : Path) → path_cmp p q ≡ Greater → path_cmp q p ≡ Less
turned p q h = path_order.antisymm q p ∙ ap ordering_reverse h

tied_turned : (p q : Path) → path_cmp p q ≡ Equal → path_cmp q p ≡ Equal
tied_turned p q h = path_order.antisymm q p ∙ ap ordering_reverse h

not_after : (p q : Path) (ps qs : List Path) → path_cmp p q ≡ Greater → list_before (p ∷ ps) (q ∷ qs) ≡ false
not_after p q ps qs h = rw h refl

pub list_trans : (xs ys zs : List Path) → list_before xs ys ≡ true → list_before ys zs ≡ true → list_before xs zs ≡ true
list_trans [] [] zs h k = absurd (false≢true h)
list_trans [] (y ∷ ys) [] h k = absurd (false≢true k)
list_trans [] (y ∷ ys) (z ∷ zs) h k = refl
list_trans (x ∷ xs) [] zs h k = absurd (false≢true h)
list_trans (x ∷ xs) (y ∷ ys) [] h k = absurd (false≢true k)
list_trans (x ∷ xs) (y ∷ ys) (z ∷ zs) h k = by (path_cmp x y) (path_cmp y z) refl refl (list_trans xs ys zs)
  where
    by : (o r : Ordering) → path_cmp x y ≡ o → path_cmp y z ≡ r → (list_before xs ys ≡ true → list_before ys zs ≡ true → list_before xs zs ≡ true) → list_before (x ∷ xs) (z ∷ zs) ≡ true
    by Greater r e f more = absurd (false≢true (sym (not_after x y xs ys e) ∙ h))
    by o Greater e f more = absurd (false≢true (sym (not_after y z ys zs f) ∙ k))
    by Less Less e f more = first_before x z xs zs (path_order.trans x y z e f)
    by Less Equal e f more = first_before x z xs zs (path_order.antisymm x z ∙ ap ordering_reverse (sym (path_order.congr y z x f) ∙ path_order.antisymm y x ∙ ap ordering_reverse e))
    by Equal Less e f more = first_before x z xs zs (path_order.congr x y z e ∙ f)
    by Equal Equal e f more =
        tied_before x z xs zs (path_order.congr x y z e ∙ f) ∙ more (sym (tied_before x y xs ys e) ∙ h) (sym (tied_before y z ys zs f) ∙ k)

pub list_apart : (xs ys : List Path) → same_list ys xs ≡ false → list_before xs ys ≡ false → list_before ys xs ≡ true
list_apart [] [] h k = absurd (false≢true (sym h))
list_apart [] (y ∷ ys) h k = absurd (false≢true (sym k))
list_apart (x ∷ xs) [] h k = refl
list_apart (x ∷ xs) (y ∷ ys) h k = by (path_cmp x y) refl (list_apart xs ys)
  where
    rest : (b c : Bool) → b ≡ true → (b && c) ≡ false → c ≡ false
    rest true c e f = f
    rest false c e f = absurd (false≢true e)

    by : (o : Ordering) → path_cmp x y ≡ o → (same_list ys xs ≡ false → list_before xs ys ≡ false → list_before ys xs ≡ true) → list_before (y ∷ ys) (x ∷ xs) ≡ true
    by Less e more = absurd (false≢true (sym k ∙ first_before x y xs ys e))
    by Greater e more = first_before y x ys xs (turned x y e)
    by Equal e more =
        let back = tied_turned x y e in
        let head : same_path y x ≡ true = path_tied y x ∙ ap is_eq back in
        tied_before y x ys xs back ∙ more (rest (same_path y x) (pointwise same_path ys xs) head h) (sym (tied_before x y xs ys e) ∙ k)

pub list_off : (ps : List Path) → list_before ps ps ≡ false
list_off [] = refl
list_off (p ∷ ps) = tied_before p p ps ps (tied_itself path_order p) ∙ list_off ps

same_key_equiv : IsEquivalence same_key
same_key_equiv =
    and_equiv (on_equiv (λ (k : Key). k.kind) nat_eq_equiv)
    (and_equiv (on_equiv (λ (k : Key). k.next_hop) nat_eq_equiv) (and_equiv (on_equiv (λ (k : Key). k.interface) nat_eq_equiv) (on_equiv (λ (k : Key). k.need) nat_eq_equiv)))

same_path_equiv : IsEquivalence same_path
same_path_equiv =
    and_equiv (on_equiv key_of same_key_equiv) (and_equiv (on_equiv (λ (p : Path). p.weight) nat_eq_equiv) (on_equiv (λ (p : Path). p.preference) nat_eq_equiv))

pub same_list_equiv : IsEquivalence same_list
same_list_equiv = lists_equiv same_path_equiv
