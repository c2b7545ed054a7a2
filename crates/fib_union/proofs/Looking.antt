-- A look at a worker's word, on the fields.
use Rattle.std.proofs.Common.{arith, ◌≡◌, ℕ, zero, suc, ◌+◌, ◌-◌, ◌<◌, ◌≤◌, inl, inr, eqb, eqb-true, List, [], ◌∷◌, ◌++◌, length, get_or, set, take, drop, map, Option, refl, sym, ◌∙◌, ap, subst, length-append, get_or-set_same, get_or-set_other, length-set}
use Rattle.std.specs.Prelude.{min, count_by, slice_index}
use Rattle.std.specs.List.{All}
use Rattle.std.proofs.lemmas.Bool.{cases_lt, cases_eq}
use Rattle.std.specs.Prelude.{reverse}
use Rattle.fib_union.specs.Unions.{unmarked}
use Rattle.fib_union.specs.inner.Fields.{retired_from}
use Rattle.fib_union.proofs.Marks.{map-reverse}
use Rattle.std.proofs.lemmas.List.{take-append-drop, reverse-append, length-reverse, take_at, length-map, length-drop, length-take-le, get_or-drop}
use Rattle.fib_union.specs.Marks.{next_mark}
use Rattle.fib_union.specs.Unions.{scanned, gone_to}
use Rattle.fib_union.proofs.Counts.{counted_at}
use Rattle.fib_union.specs.inner.Fields.{mark_of, plain, union_of, ins_of, IsLinked, IsProgress, AreProgress, IsKept, StartsBelow, least_of, receded, spare_of}
use Rattle.fib_union.specs.declared.retired.RetiredEdge.{RetiredEdge}
use Rattle.fib_union.specs.declared.retired.Progress.{Progress}
use Rattle.fib_union.proofs.Marks.{looked, get_or-map}
use Rattle.fib_union.proofs.Keeping.{ins-drop, copies_counted}

least_bound : (m : ℕ) (ps : List Progress) → least_of m ps ≤ m
least_bound m [] = omega arith
least_bound m (p ∷ ps) = (let r = least_bound (min m p.passed) ps in omega arith)

least_each : (m : ℕ) (ps : List Progress) (k : ℕ) (d : Progress) → k < length ps → least_of m ps ≤ (get_or ps k d).passed
least_each m [] k d lt = absurd (let bad : ⊥ = omega arith in bad)
least_each m (p ∷ ps) zero d lt = (let r = least_bound (min m p.passed) ps in omega arith)
least_each m (p ∷ ps) (suc k) d lt = least_each (min m p.passed) ps k d (omega arith)

all_set : {A : Type 0} (P : A → Type 0) (xs : List A) (n : ℕ) (q : A) → All P xs → P q → All P (set xs n q)
all_set P xs n q all here = λ k d lt. (let l : length (set xs n q) ≡ length xs = length-set xs n q in elim (cases_eq k n) [
  | inl e ↦ subst P (sym (ap (λ (j : ℕ). get_or (set xs n q) j d) e ∙ get_or-set_same xs n q d (omega arith))) here
  | inr ne ↦ subst P (sym (get_or-set_other xs n k q d ne)) (all k d (omega arith))
])

all_drop : {A : Type 0} (P : A → Type 0) (xs : List A) (n : ℕ) → All P xs → All P (drop n xs)
all_drop P xs n all = λ k d lt. (let l : length (drop n xs) ≡ length xs - n = length-drop n xs in subst P (sym (get_or-drop n xs k d)) (all (n + k) d (omega arith)))

none_there : (n o : ℕ) (cs : List (ℕ × ℕ)) → All (λ (c : ℕ × ℕ). c.1 < n) cs → n ≤ o → count_by (λ (c : ℕ × ℕ). eqb c.1 o) cs ≤ 0
none_there n o cs all ge = elim (cases_lt 0 (count_by (λ (c : ℕ × ℕ). eqb c.1 o) cs)) [
  | inl some ↦ (let k = counted_at (λ (c : ℕ × ℕ). eqb c.1 o) cs (0, 0) some in let a = all k.0 (0, 0) k.1 in let e : (get_or cs k.0 (0, 0)).1 ≡ o = eqb-true _ o k.2 in absurd (let bad : ⊥ = omega arith in bad))
  | inr le ↦ le
]

pub spare_more : (room count room_left count_left room' room_left' gone : ℕ) → gone ≤ count → room ≤ room' → room_left ≤ room_left' → spare_of room count room_left count_left ≤ spare_of room' (count - gone) room_left' (count_left + gone)
spare_more room count room_left count_left room' room_left' gone le more more_left = omega arith

module _ {edges : List (Option ℕ)} {ins : List ℕ} {os : List RetiredEdge} {newest : List ℕ} {ps : List Progress} {left : List ℕ} {room : ℕ} (h : IsKept (length ins) edges ins os newest ps left room) where
  pub all_counted : (o : ℕ) → count_by (λ (c : ℕ × ℕ). eqb c.1 o) (map plain os) ≤ slice_index ins o
  all_counted o = elim (cases_lt o (length ins)) [
    | inl lt ↦ (let c = copies_counted edges (map plain os) o in let e = h.counted.here o lt in omega arith)
    | inr ge ↦ (let n = none_there (length ins) o (map plain os) h.within.targets ge in omega arith)
  ]

  module _ (n word : ℕ) (p q : Progress) (here : n < length ps) (is : p ≡ get_or ps n p) (kept : IsProgress (length os) q) (told : (i : ℕ) → i < length os → mark_of i q ≡ next_mark word (mark_of i p)) where
    abbrev pub now : List Progress
    now = set ps n q

    abbrev pub gone : ℕ
    gone = least_of (length os) now

    pub gone_few : gone ≤ length os
    gone_few = least_bound (length os) now

    now_progress : AreProgress (length os) now
    now_progress = all_set (IsProgress (length os)) ps n q h.progress kept

    pub may_recede : All (λ (r : Progress). (gone ≤ r.passed) × (r.passed ≤ r.met)) now
    may_recede = λ k d lt. (least_each (length os) now k d lt, (now_progress k d lt).order)

    size : length (map plain os) ≡ length os
    size = length-map os plain

    both : (union_of edges (drop gone (map plain os)) (map (receded gone) now) ≡ scanned n word (union_of edges (map plain os) ps)) × (gone_to n word (union_of edges (map plain os) ps) ≡ map (λ (c : ℕ × ℕ). c.1) (take gone (map plain os)))
    both = looked edges (map plain os) n word (length os) ps q p size here (λ i lt. told i lt ∙ ap (λ (r : Progress). next_mark word (mark_of i r)) is) gone_few

    pub look_union : (os' : List RetiredEdge) (ps' : List Progress) → map plain os' ≡ drop gone (map plain os) → ps' ≡ map (receded gone) now → union_of edges (map plain os') ps' ≡ scanned n word (union_of edges (map plain os) ps)
    look_union os' ps' e f = ap (λ (cs : List (ℕ × ℕ)). union_of edges cs ps') e ∙ (ap (λ (l : List Progress). union_of edges (drop gone (map plain os)) l) f ∙ both.0)

    pub look_left : (left' : List ℕ) → left' ≡ left ++ map (λ (c : ℕ × ℕ). c.1) (take gone (map plain os)) → left' ≡ left ++ gone_to n word (union_of edges (map plain os) ps)
    look_left left' e = e ∙ ap (λ (l : List ℕ). left ++ l) (sym both.1)

    module _ (ins' : List ℕ) (os' : List RetiredEdge) (newest' : List ℕ) (ps' : List Progress) (left' : List ℕ) (room' : ℕ)
        (e_os : map plain os' ≡ drop gone (map plain os)) (e_ps : ps' ≡ map (receded gone) now) (len : length ins' ≡ length ins) (linked : IsLinked (length newest) newest' os')
        (less : (o : ℕ) → slice_index ins' o + count_by (λ (c : ℕ × ℕ). eqb c.1 o) (take gone (map plain os)) ≡ slice_index ins o) (e_left : left' ≡ left ++ map (λ (c : ℕ × ℕ). c.1) (take gone (map plain os))) (roomy : room ≤ room') where
      pub long : length os' ≡ length os - gone
      long = (let a = length-map os' plain in let b : length (map plain os') ≡ length (map plain os) - gone = ap (λ (cs : List (ℕ × ℕ)). length cs) e_os ∙ length-drop gone (map plain os) in let s = size in omega arith)

      pub long_left : length left' ≡ length left + gone
      long_left = ap (λ (l : List ℕ). length l) e_left ∙ (length-append left (map (λ (c : ℕ × ℕ). c.1) (take gone (map plain os))) ∙ ap (λ (m : ℕ). length left + m) (length-map (take gone (map plain os)) (λ (c : ℕ × ℕ). c.1) ∙ length-take-le gone (map plain os) (let s = size in let g = gone_few in omega arith)))

      pub look_kept : IsKept (length ins') edges ins' os' newest' ps' left' room'
      look_kept = subst (λ (m : ℕ). IsKept m edges ins' os' newest' ps' left' room') (sym len) (record {
        some = h.some;
        few = h.few;
        within = record {
          size = h.within.size;
          ends = h.within.ends;
          starts = subst (λ (cs : List (ℕ × ℕ)). All (StartsBelow (length ins)) cs) (sym e_os) (all_drop (StartsBelow (length ins)) (map plain os) gone h.within.starts);
          targets = subst (λ (cs : List (ℕ × ℕ)). All (λ (c : ℕ × ℕ). c.1 < length ins) cs) (sym e_os) (all_drop (λ (c : ℕ × ℕ). c.1 < length ins) (map plain os) gone h.within.targets);
        };
        counted = record {
          size = len;
          here = λ o lt. (let a = less o in let b = ins-drop edges (map plain os) o gone in let c = h.counted.here o lt in let d = ap (λ (cs : List (ℕ × ℕ)). ins_of edges cs o) e_os in omega (arith, a, b, c, d));
        };
        linked = subst (λ (m : ℕ). IsLinked m newest' os') h.linked.size linked;
        progress = subst (λ (l : List Progress). AreProgress (length os') l) (sym e_ps) (λ k d lt. (let l : length (map (receded gone) now) ≡ length now = length-map now (receded gone) in
            let p = now_progress k d (omega arith) in
            let g = least_each (length os) now k d (omega arith) in
            let s = long in
            subst (IsProgress (length os')) (sym (get_or-map (receded gone) now k d d (omega arith))) (receded_progress (get_or now k d) p g s)));
        short = (let s = long in let q = h.short in omega arith);
        room = (let s = long in let l = long_left in let r = h.room in let g = gone_few in omega arith);
      })
        where
          receded_progress : (r : Progress) → IsProgress (length os) r → gone ≤ r.passed → length os' ≡ length os - gone → IsProgress (length os') (receded gone r)
          receded_progress r p g s = record { order = (let a = p.order in omega arith); within = (let a = p.within in omega arith); odd = λ lt. p.odd (omega arith) }

-- the copies that leave are the oldest

unmarked_from : (ps : List Progress) (i : ℕ) (cs : List (ℕ × ℕ)) → map unmarked (retired_from ps i cs) ≡ cs
unmarked_from ps i [] = refl
unmarked_from ps i (c ∷ cs) = ap (λ (l : List (ℕ × ℕ)). c ∷ l) (unmarked_from ps (i + 1) cs)

unmarked_of : (edges : List (Option ℕ)) (cs : List (ℕ × ℕ)) (ps : List Progress) → map unmarked (union_of edges cs ps).retired ≡ reverse cs
unmarked_of edges cs ps = map-reverse unmarked (retired_from ps 0 cs) ∙ ap (λ (l : List (ℕ × ℕ)). reverse l) (unmarked_from ps 0 cs)

reverse_drop : (k : ℕ) (cs : List (ℕ × ℕ)) → k ≤ length cs → reverse (drop k cs) ≡ take (length cs - k) (reverse cs)
reverse_drop k cs le =
    let whole : reverse cs ≡ reverse (drop k cs) ++ reverse (take k cs) = ap (λ (l : List (ℕ × ℕ)). reverse l) (sym (take-append-drop k cs)) ∙ reverse-append (take k cs) (drop k cs) in
    let long : length (reverse (drop k cs)) ≡ length cs - k = length-reverse (drop k cs) ∙ length-drop k cs in
    sym (ap (λ (l : List (ℕ × ℕ)). take (length cs - k) l) whole ∙ take_at (reverse (drop k cs)) (reverse (take k cs)) (length cs - k) long)

pub oldest_leave : (edges edges' : List (Option ℕ)) (cs cs' : List (ℕ × ℕ)) (ps ps' : List Progress) (k : ℕ) → k ≤ length cs → cs' ≡ drop k cs → (n : ℕ) × (map unmarked (union_of edges' cs' ps').retired ≡ take n (map unmarked (union_of edges cs ps).retired))
oldest_leave edges edges' cs cs' ps ps' k le e = (length cs - k, unmarked_of edges' cs' ps' ∙ (ap (λ (l : List (ℕ × ℕ)). reverse l) e ∙ (reverse_drop k cs le ∙ ap (λ (l : List (ℕ × ℕ)). take (length cs - k) l) (sym (unmarked_of edges cs ps)))))
