use Rattle.std.proofs.Common.{arith, rules, ◌≡◌, ℕ, List, None, length, ap, ◌∙◌, ◌*◌, vec_capacity}
use Rattle.std.specs.Prelude.{replicate}
use Rattle.std.proofs.lemmas.List.{length-replicate}
use Rattle.fib_union.proofs.Cycling.{fresh_kept}
use Rattle.fib_union.proofs.union.Union.new.Goals as goal

pub invariant_of-result : goal.invariant_of-result
invariant_of-result c =
    let es : c.in_ok-from_elem.field-0.items ≡ replicate (16 * c.args.objects) None = c.in_ok-from_elem.ensures.items_if_clones_equal (search rules) in
    let is : c.in_ok-from_elem-2.field-0.items ≡ replicate c.args.objects 0 = c.in_ok-from_elem-2.ensures.items_if_clones_equal (λ y e. e) in
    let ns : c.in_ok-new.field-0 ≡ replicate c.args.objects 0 = c.in_ok-new.ensures in
    let ps : c.in_ok-from_elem-3.field-0.items ≡ replicate c.args.workers (record { passed = 0; met = 0; word = 0 }) = c.in_ok-from_elem-3.ensures.items_if_clones_equal (search rules) in
    let n : length c.in_ok-from_elem-2.field-0.items ≡ c.args.objects = ap (λ (l : List ℕ). length l) is ∙ length-replicate c.args.objects 0 in
    rw (n, c.new.ensures.items, c.new-3.ensures.items) (fresh_kept c.args.objects c.args.workers c.in_ok-from_elem.field-0.items c.in_ok-from_elem-2.field-0.items c.in_ok-new.field-0 c.in_ok-from_elem-3.field-0.items (vec_capacity c.new-3.result) c.requires (omega arith) es is ns ps, c.in_ok-new-2.ensures.nodes)
