use Rattle.std.proofs.Common.{arith, ◌≡◌, ◌<◌, ◌+◌, ◌*◌, ◌∙◌, ℕ, true, false, Some, None, sym, ap, subst, length, map, inl, inr, vec_capacity}
use Rattle.std.proofs.lemmas.Bool.{false≢true}
use Rattle.fib_union.specs.Unions.{Kept, edge_at, must_retire}
use Rattle.fib_union.specs.inner.Fields.{plain, union_of}
use Rattle.fib_union.proofs.Keeping.{ins_small}
use Rattle.fib_union.proofs.Setting.{spare_pos, retire_is, set_none, set_left, set_retired, still_counted, room_for, stored_retired, stored_plain, left_none, left_some, left_no_edge, kept_short}
use Rattle.fib_union.proofs.union.Union.set.Goals as goal

pub put_edge-replaced-requires-clause-few : goal.put_edge-replaced-requires-clause-few
put_edge-replaced-requires-clause-few c =
    ins_small c.self.invariant.0

pub invariant_of-self : goal.invariant_of-self
invariant_of-self c =
    let v = ap (λ (k : Kept). length k.union.edges) c.self.view_is in
    let h = c.self.invariant.0 in
    let k : ℕ = 16 * c.args.from + c.args.slot in
    let from_in : 16 * c.args.from < length c.self.inside.edges.items = omega (arith, v, c.requires.from_in) in
    let to_in : (y : ℕ) → c.args.to ≡ Some y → 16 * y < length c.self.inside.edges.items = (λ y e. omega (arith, v, c.requires.to_in y e)) in
    let is : edge_at c.self.inside.edges.items k ≡ None = sym c.put_edge-replaced.ensures.replaced ∙ c.in-None.is in
    rw c.put_edge-replaced.ensures.edges (set_none h c.args.from c.args.slot c.requires.slot_in from_in c.args.to to_in c.put_edge-replaced.new.ins.items c.put_edge-replaced.ensures.len c.put_edge-replaced.ensures.ins is, c.self.invariant.1 ∙ sym c.put_edge-replaced.ensures.len)

pub returns-in-None-clause-union : goal.returns-in-None-clause-union
returns-in-None-clause-union c =
    let v = ap (λ (k : Kept). length k.union.edges) c.self.view_is in
    let h = c.self.invariant.0 in
    let k : ℕ = 16 * c.args.from + c.args.slot in
    let from_in : 16 * c.args.from < length c.self.inside.edges.items = omega (arith, v, c.requires.from_in) in
    let is : edge_at c.self.inside.edges.items k ≡ None = sym c.put_edge-replaced.ensures.replaced ∙ c.in-None.is in
    rw (← c.self.view_is) (stored_plain h k c.args.to c.put_edge-replaced.new.edges.items (inr is) c.put_edge-replaced.ensures.edges)

pub returns-in-None-clause-left_at_once : goal.returns-in-None-clause-left_at_once
returns-in-None-clause-left_at_once c =
    let v = ap (λ (k : Kept). length k.union.edges) c.self.view_is in
    let h = c.self.invariant.0 in
    let k : ℕ = 16 * c.args.from + c.args.slot in
    let from_in : 16 * c.args.from < length c.self.inside.edges.items = omega (arith, v, c.requires.from_in) in
    let is : edge_at c.self.inside.edges.items k ≡ None = sym c.put_edge-replaced.ensures.replaced ∙ c.in-None.is in
    rw (← c.self.view_is) (left_no_edge h k c.args.to is)

pub retire-requires-clause-room : goal.retire-requires-clause-room
retire-requires-clause-room c =
    let v = ap (λ (k : Kept). length k.union.edges) c.self.view_is in
    let h = c.self.invariant.0 in
    let k : ℕ = 16 * c.args.from + c.args.slot in
    let from_in : 16 * c.args.from < length c.self.inside.edges.items = omega (arith, v, c.requires.from_in) in
    let is : edge_at c.self.inside.edges.items k ≡ Some c.in-Some.target = sym c.put_edge-replaced.ensures.replaced ∙ c.in-Some.is in
    let must : must_retire (union_of c.self.inside.edges.items (map plain c.self.inside.retired.items) c.self.inside.progress.items) k ≡ true = retire_is h c.args.from c.args.slot c.requires.slot_in from_in ∙ (sym c.retires-retired.ensures ∙ c.if-retired.true) in
    let room = spare_pos (vec_capacity c.self.inside.retired) (length c.self.inside.retired.items) (vec_capacity c.self.inside.left) (length c.self.inside.left.items) (room_for _ c.args.self.now k c.in-Some.target c.self.view_is is must c.requires.room) in
    omega (arith, room.0, c.self.inside.retired.ok.0)

pub retire-requires-clause-few : goal.retire-requires-clause-few
retire-requires-clause-few c =
    let v = ap (λ (k : Kept). length k.union.edges) c.self.view_is in
    let h = c.self.invariant.0 in
    let k : ℕ = 16 * c.args.from + c.args.slot in
    let from_in : 16 * c.args.from < length c.self.inside.edges.items = omega (arith, v, c.requires.from_in) in
    let is : edge_at c.self.inside.edges.items k ≡ Some c.in-Some.target = sym c.put_edge-replaced.ensures.replaced ∙ c.in-Some.is in
    let must : must_retire (union_of c.self.inside.edges.items (map plain c.self.inside.retired.items) c.self.inside.progress.items) k ≡ true = retire_is h c.args.from c.args.slot c.requires.slot_in from_in ∙ (sym c.retires-retired.ensures ∙ c.if-retired.true) in
    let room = spare_pos (vec_capacity c.self.inside.retired) (length c.self.inside.retired.items) (vec_capacity c.self.inside.left) (length c.self.inside.left.items) (room_for _ c.args.self.now k c.in-Some.target c.self.view_is is must c.requires.room) in
    room.2

pub invariant_of-self-then-retired : goal.invariant_of-self-then-retired
invariant_of-self-then-retired c =
    let v = ap (λ (k : Kept). length k.union.edges) c.self.view_is in
    let h = c.self.invariant.0 in
    let k : ℕ = 16 * c.args.from + c.args.slot in
    let from_in : 16 * c.args.from < length c.self.inside.edges.items = omega (arith, v, c.requires.from_in) in
    let to_in : (y : ℕ) → c.args.to ≡ Some y → 16 * y < length c.self.inside.edges.items = (λ y e. omega (arith, v, c.requires.to_in y e)) in
    let is : edge_at c.self.inside.edges.items k ≡ Some c.in-Some.target = sym c.put_edge-replaced.ensures.replaced ∙ c.in-Some.is in
    let must : must_retire (union_of c.self.inside.edges.items (map plain c.self.inside.retired.items) c.self.inside.progress.items) k ≡ true = retire_is h c.args.from c.args.slot c.requires.slot_in from_in ∙ (sym c.retires-retired.ensures ∙ c.if-retired.true) in
    let room = spare_pos (vec_capacity c.self.inside.retired) (length c.self.inside.retired.items) (vec_capacity c.self.inside.left) (length c.self.inside.left.items) (room_for _ c.args.self.now k c.in-Some.target c.self.view_is is must c.requires.room) in
    rw c.put_edge-replaced.ensures.edges (set_retired h c.args.from c.args.slot c.requires.slot_in from_in c.args.to to_in c.put_edge-replaced.new.ins.items c.put_edge-replaced.ensures.len c.put_edge-replaced.ensures.ins c.retire.new.retired.items c.retire.new.newest c.in-Some.target is c.retire.ensures.retired c.retire.ensures.linked room.1 room.2, c.self.invariant.1 ∙ sym c.put_edge-replaced.ensures.len)

pub returns-then-retired-clause-union : goal.returns-then-retired-clause-union
returns-then-retired-clause-union c =
    let v = ap (λ (k : Kept). length k.union.edges) c.self.view_is in
    let h = c.self.invariant.0 in
    let k : ℕ = 16 * c.args.from + c.args.slot in
    let from_in : 16 * c.args.from < length c.self.inside.edges.items = omega (arith, v, c.requires.from_in) in
    let is : edge_at c.self.inside.edges.items k ≡ Some c.in-Some.target = sym c.put_edge-replaced.ensures.replaced ∙ c.in-Some.is in
    let must : must_retire (union_of c.self.inside.edges.items (map plain c.self.inside.retired.items) c.self.inside.progress.items) k ≡ true = retire_is h c.args.from c.args.slot c.requires.slot_in from_in ∙ (sym c.retires-retired.ensures ∙ c.if-retired.true) in
    rw (← c.self.view_is) (stored_retired h k c.args.to c.put_edge-replaced.new.edges.items c.retire.new.retired.items c.in-Some.target must is c.put_edge-replaced.ensures.edges c.retire.ensures.retired)

pub returns-then-retired-clause-left_at_once : goal.returns-then-retired-clause-left_at_once
returns-then-retired-clause-left_at_once c =
    let v = ap (λ (k : Kept). length k.union.edges) c.self.view_is in
    let h = c.self.invariant.0 in
    let k : ℕ = 16 * c.args.from + c.args.slot in
    let from_in : 16 * c.args.from < length c.self.inside.edges.items = omega (arith, v, c.requires.from_in) in
    let must : must_retire (union_of c.self.inside.edges.items (map plain c.self.inside.retired.items) c.self.inside.progress.items) k ≡ true = retire_is h c.args.from c.args.slot c.requires.slot_in from_in ∙ (sym c.retires-retired.ensures ∙ c.if-retired.true) in
    rw (← c.self.view_is) (left_none h k c.args.to must)

pub returns-then-retired-clause-spared : goal.returns-then-retired-clause-spared
returns-then-retired-clause-spared c =
    let v = ap (λ (k : Kept). length k.union.edges) c.self.view_is in
    let h = c.self.invariant.0 in
    let k : ℕ = 16 * c.args.from + c.args.slot in
    let from_in : 16 * c.args.from < length c.self.inside.edges.items = omega (arith, v, c.requires.from_in) in
    let must : must_retire (union_of c.self.inside.edges.items (map plain c.self.inside.retired.items) c.self.inside.progress.items) k ≡ true = retire_is h c.args.from c.args.slot c.requires.slot_in from_in ∙ (sym c.retires-retired.ensures ∙ c.if-retired.true) in
    λ f. absurd (false≢true (sym f ∙ subst (λ (q : Kept). must_retire q.union k ≡ true) c.self.view_is must))

pub uncount-requires-clause-some : goal.uncount-requires-clause-some
uncount-requires-clause-some c =
    let v = ap (λ (k : Kept). length k.union.edges) c.self.view_is in
    let h = c.self.invariant.0 in
    let k : ℕ = 16 * c.args.from + c.args.slot in
    let from_in : 16 * c.args.from < length c.self.inside.edges.items = omega (arith, v, c.requires.from_in) in
    let to_in : (y : ℕ) → c.args.to ≡ Some y → 16 * y < length c.self.inside.edges.items = (λ y e. omega (arith, v, c.requires.to_in y e)) in
    let is : edge_at c.self.inside.edges.items k ≡ Some c.in-Some.target = sym c.put_edge-replaced.ensures.replaced ∙ c.in-Some.is in
    still_counted h c.args.from c.args.slot c.requires.slot_in from_in c.args.to to_in c.put_edge-replaced.new.ins.items c.put_edge-replaced.ensures.len c.put_edge-replaced.ensures.ins c.in-Some.target is

pub invariant_of-self-2 : goal.invariant_of-self-2
invariant_of-self-2 c =
    let v = ap (λ (k : Kept). length k.union.edges) c.self.view_is in
    let h = c.self.invariant.0 in
    let k : ℕ = 16 * c.args.from + c.args.slot in
    let from_in : 16 * c.args.from < length c.self.inside.edges.items = omega (arith, v, c.requires.from_in) in
    let to_in : (y : ℕ) → c.args.to ≡ Some y → 16 * y < length c.self.inside.edges.items = (λ y e. omega (arith, v, c.requires.to_in y e)) in
    let is : edge_at c.self.inside.edges.items k ≡ Some c.in-Some.target = sym c.put_edge-replaced.ensures.replaced ∙ c.in-Some.is in
    rw c.put_edge-replaced.ensures.edges (set_left h c.args.from c.args.slot c.requires.slot_in from_in c.args.to to_in c.put_edge-replaced.new.ins.items c.put_edge-replaced.ensures.len c.put_edge-replaced.ensures.ins c.uncount.new.ins.items c.in-Some.target c.uncount.ensures.len c.uncount.ensures.ins is, c.self.invariant.1 ∙ sym (c.uncount.ensures.len ∙ c.put_edge-replaced.ensures.len))

pub returns-clause-union : goal.returns-clause-union
returns-clause-union c =
    let v = ap (λ (k : Kept). length k.union.edges) c.self.view_is in
    let h = c.self.invariant.0 in
    let k : ℕ = 16 * c.args.from + c.args.slot in
    let from_in : 16 * c.args.from < length c.self.inside.edges.items = omega (arith, v, c.requires.from_in) in
    let must : must_retire (union_of c.self.inside.edges.items (map plain c.self.inside.retired.items) c.self.inside.progress.items) k ≡ false = retire_is h c.args.from c.args.slot c.requires.slot_in from_in ∙ (sym c.retires-retired.ensures ∙ c.if-retired.false) in
    rw (← c.self.view_is) (stored_plain h k c.args.to c.put_edge-replaced.new.edges.items (inl must) c.put_edge-replaced.ensures.edges)

pub returns-clause-left_at_once : goal.returns-clause-left_at_once
returns-clause-left_at_once c =
    let v = ap (λ (k : Kept). length k.union.edges) c.self.view_is in
    let h = c.self.invariant.0 in
    let k : ℕ = 16 * c.args.from + c.args.slot in
    let from_in : 16 * c.args.from < length c.self.inside.edges.items = omega (arith, v, c.requires.from_in) in
    let is : edge_at c.self.inside.edges.items k ≡ Some c.in-Some.target = sym c.put_edge-replaced.ensures.replaced ∙ c.in-Some.is in
    let must : must_retire (union_of c.self.inside.edges.items (map plain c.self.inside.retired.items) c.self.inside.progress.items) k ≡ false = retire_is h c.args.from c.args.slot c.requires.slot_in from_in ∙ (sym c.retires-retired.ensures ∙ c.if-retired.false) in
    rw (← c.self.view_is) (left_some h k c.args.to c.in-Some.target must is)

pub returns-in-None-clause-short : goal.returns-in-None-clause-short
returns-in-None-clause-short c =
    kept_short c.self.invariant.0

pub returns-then-retired-clause-short : goal.returns-then-retired-clause-short
returns-then-retired-clause-short c =
    let v = ap (λ (k : Kept). length k.union.edges) c.self.view_is in
    let h = c.self.invariant.0 in
    let k : ℕ = 16 * c.args.from + c.args.slot in
    let from_in : 16 * c.args.from < length c.self.inside.edges.items = omega (arith, v, c.requires.from_in) in
    let to_in : (y : ℕ) → c.args.to ≡ Some y → 16 * y < length c.self.inside.edges.items = (λ y e. omega (arith, v, c.requires.to_in y e)) in
    let is : edge_at c.self.inside.edges.items k ≡ Some c.in-Some.target = sym c.put_edge-replaced.ensures.replaced ∙ c.in-Some.is in
    let must : must_retire (union_of c.self.inside.edges.items (map plain c.self.inside.retired.items) c.self.inside.progress.items) k ≡ true = retire_is h c.args.from c.args.slot c.requires.slot_in from_in ∙ (sym c.retires-retired.ensures ∙ c.if-retired.true) in
    let room = spare_pos (vec_capacity c.self.inside.retired) (length c.self.inside.retired.items) (vec_capacity c.self.inside.left) (length c.self.inside.left.items) (room_for _ c.args.self.now k c.in-Some.target c.self.view_is is must c.requires.room) in
    kept_short (set_retired h c.args.from c.args.slot c.requires.slot_in from_in c.args.to to_in c.put_edge-replaced.new.ins.items c.put_edge-replaced.ensures.len c.put_edge-replaced.ensures.ins c.retire.new.retired.items c.retire.new.newest c.in-Some.target is c.retire.ensures.retired c.retire.ensures.linked room.1 room.2)

pub returns-clause-short : goal.returns-clause-short
returns-clause-short c =
    kept_short c.self.invariant.0
