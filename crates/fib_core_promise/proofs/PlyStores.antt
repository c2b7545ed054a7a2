-- The prefix table's stores, each with what it is to know.
use Rattle.std.proofs.Common.{◌≡◌, ◌≢◌, ◌≤◌, ◌<◌, ◌^◌, ◌+◌, ◌*◌, ◌-◌, ◌/◌, ◌%◌, ◌==◌, ◌⊎◌, inl, inr, Bool, false, ℕ, List, length, Option, Some, refl, sym, ap, ◌∙◌, subst, arith}
use Rattle.std.specs.Prelude.{slice_set, if◌then◌else◌}
use Rattle.std.proofs.lemmas.Nat.{shr-shr}
use Rattle.std.proofs.lemmas.Bool.{cases_order}
use Rattle.std.proofs.lemmas.Bool.Decides.{Decides-eqb}
use Rattle.fib_base_list.proofs.Lists.{either}
use Rattle.fib_addr.specs.Prefixes.{Prefix}
use Rattle.fib_resolve.specs.declared.types.Tables.{Tables}
use Rattle.fib_core.specs.declared.word.Word.{Word}
use Rattle.fib_core.specs.declared.word.Word.TheVariants as words
use Rattle.fib_union.specs.Unions.{owner}
use Rattle.fib_core.specs.Words.{decoded}
use Rattle.fib_core.specs.Walk.{word_at}
use Rattle.fib_union.specs.Marks.{Mark}
use Rattle.fib_core.specs.Union.{Union, Goes, stored}
use Rattle.fib_core.proofs.Numbers.{owner_of}
use Rattle.fib_core_steady.specs.Aims.{IsLasting}
use Rattle.fib_core_steady.specs.Names.{Names, IsBelow, IsChild, IsIn, IsWalked}
use Rattle.fib_core_steady.specs.Promise.{IsRight, IsPromised}
use Rattle.fib_core_promise.specs.Matches.{IsLongestBlock}
use Rattle.fib_core_steady.proofs.Edges.{child_of, ways_by}
use Rattle.fib_core_steady.proofs.Lists.{some_same, none_some}
use Rattle.fib_core_steady.proofs.Storing.{IsBeside, other_cell, ply_stored}

-- the longest match is one
pub block_once : (look : ℕ → ℕ → Option ℕ) (n b o p : ℕ) → IsLongestBlock look n b o → IsLongestBlock look n b p → o ≡ p
block_once look n b o p one two = by_order (cases_order one.len two.len)
  where
    by_order : (one.len ≡ two.len) ⊎ ((one.len < two.len) ⊎ (two.len < one.len)) → o ≡ p
    by_order (inl same) = some_same o p (look two.len (b / 2 ^ (n - two.len))) (ap (λ i. look i (b / 2 ^ (n - i))) (sym same) ∙ one.there) two.there
    by_order (inr (inl lt)) = absurd (none_some p (sym (one.longest two.len lt two.within) ∙ two.there))
    by_order (inr (inr lt)) = absurd (none_some o (sym (two.longest one.len lt one.within) ∙ one.there))

-- the block of a cell lies in that of the ply's own cell above
low_nibble : (w s : ℕ) → s < 16 → (16 * w + s) / 16 ≡ w
low_nibble w s lt = omega arith

pub below_up : (a d w s : ℕ) → d ≤ 7 → s < 16 → IsBelow a (d + 1) (16 * w + s) → IsBelow a d w
below_up a d w s le lt below =
    let x : 32 - 4 * d ≡ (32 - 4 * (d + 1)) + 4 = omega arith in
    ap (λ i. a / 2 ^ i) x ∙ sym (shr-shr a (32 - 4 * (d + 1)) 4) ∙ ap (λ v. v / 16) below ∙ low_nibble w s lt

pub inside_up : (n : Names) (x s c t a : ℕ) → IsChild n x s c → t < 16 → IsIn n c t a → IsIn n x s a
inside_up n x s c t a child lt inside =
    let le : n.depth c ≤ 7 = child.2 in
    let up : IsBelow a (n.depth c) (n.value c) = below_up a (n.depth c) (n.value c) t le lt inside.1 in
    (inside.0, ap (λ i. a / 2 ^ (32 - 4 * i)) (sym child.0) ∙ up ∙ child.1)

-- a word that is right in a ply's cell is right in each cell of a ply below it
pub right_below : (J : List Tables) (n : Names) (x s c t : ℕ) (w : Word) → IsChild n x s c → t < 16 → ((d : ℕ) → w ≡ words.ToPly d → ⊥) → IsRight J n x s w → IsRight J n c t w
right_below J n x s c t (words.ToPly d) child lt leaf ok = absurd (leaf d refl)
right_below J n x s c t (words.ToBalance o) child lt leaf ok = λ a e inside alike. ok a e (inside_up n x s c t a child lt inside) alike
right_below J n x s c t words.Drop child lt leaf ok = ok
right_below J n x s c t words.Receive child lt leaf ok = ok
right_below J n x s c t (words.Glean i) child lt leaf ok = ok
right_below J n x s c t (words.ToAdjacency y) child lt leaf ok = ok
right_below J n x s c t (words.Plain m) child lt leaf ok = ok

-- a fresh ply's path may be chosen where no edge to a ply leaves it or leads to it
abbrev pub placed : Names → ℕ → ℕ → ℕ → Names
placed n c d w = record {
  depth = λ y. if y == c then d else n.depth y;
  value = λ y. if y == c then w else n.value y;
  balance = n.balance;
}

module _ (J : List Tables) (n : Names) (c d w : ℕ) (u : Union) (other : c ≢ 0) (above : (k v : ℕ) → Goes u k v → decoded v ≡ words.ToPly c → ⊥) (below : (k v y : ℕ) → Goes u k v → decoded v ≡ words.ToPly y → owner k ≢ c) where
  differs : (x : ℕ) → x ≢ c → (x == c) ≡ false
  differs x ne = elim (either (x == c)) [
    | inl is ↦ absurd (ne ((Decides-eqb x c).0 is))
    | inr isnt ↦ isnt
  ]

  same_depth : (x : ℕ) → x ≢ c → (placed n c d w).depth x ≡ n.depth x
  same_depth x ne = ap (λ b. if b then d else n.depth x) (differs x ne)

  same_value : (x : ℕ) → x ≢ c → (placed n c d w).value x ≡ n.value x
  same_value x ne = ap (λ b. if b then w else n.value x) (differs x ne)

  same_child : (x s y : ℕ) → x ≢ c → y ≢ c → IsChild n x s y → IsChild (placed n c d w) x s y
  same_child x s y nx ny child = (
    same_depth y ny ∙ child.0 ∙ ap (λ i. i + 1) (sym (same_depth x nx)),
    same_value y ny ∙ child.1 ∙ ap (λ i. 16 * i + s) (sym (same_value x nx)),
    subst (λ (i : ℕ). i ≤ 7) (sym (same_depth y ny)) child.2,
  )

  same_right : (x s : ℕ) (z : Word) → x ≢ c → IsRight J n x s z → IsRight J (placed n c d w) x s z
  same_right x s (words.ToPly y) nx ok = ok
  same_right x s (words.ToBalance o) nx ok = λ a e inside alike. ok a e (inside.0, ap (λ i. a / 2 ^ (32 - 4 * (i + 1))) (sym (same_depth x nx)) ∙ inside.1 ∙ ap (λ i. 16 * i + s) (same_value x nx)) alike
  same_right x s words.Drop nx ok = ok
  same_right x s words.Receive nx ok = ok
  same_right x s (words.Glean i) nx ok = ok
  same_right x s (words.ToAdjacency y) nx ok = ok
  same_right x s (words.Plain m) nx ok = ok

  not_walked : (x : ℕ) → IsWalked u x → x ≢ c
  not_walked x (inl is) same = other (sym same ∙ is)
  not_walked x (inr (y, (k, v, from, is, g))) same = above k v g (is ∙ ap words.ToPly same)

  pub placed_promised : IsPromised J n u → IsPromised J (placed n c d w) u
  placed_promised ok = record {
    buckets = ok.buckets;
    plies = record {
      ways = ways_by (placed n c d w) u
          (same_depth 0 (λ e. other (sym e)) ∙ ok.plies.ways.root.0, same_value 0 (λ e. other (sym e)) ∙ ok.plies.ways.root.1)
          (λ k v y g is. same_child (owner k) (k % 16) y (below k v y g is) (λ e. above k v g (is ∙ ap words.ToPly e))
          (child_of n u ok.plies.ways k v y g is));
      right = λ x s walked lt. same_right x s (word_at u.cells x s) (not_walked x walked) (ok.plies.right x s walked lt);
    };
  }

-- the three stores

module _ (J : List Tables) (n : Names) (u : Union) (keep : Bool) (fresh : List Mark) (k w : ℕ) (beside : IsBeside u k) (room : k < length u.cells) (apart : (e : Prefix) → IsLasting J e → n.balance e ≡ Some (owner k) → ⊥) (ok : IsPromised J n u) where
  -- an address's balance into a cell, also over an edge to a ply: where the balance is the answer of each address of the cell that has one best entry in all versions
  pub sent_promised : (o : ℕ) → decoded w ≡ words.ToBalance o → IsRight J n (owner k) (k % 16) (words.ToBalance o) → IsPromised J n (stored keep fresh u k w)
  sent_promised o is right = ply_stored J n u keep fresh k w beside room apart (λ c e. absurd (no_ply c (sym is ∙ e))) (λ walked. subst (IsRight J n (owner k) (k % 16)) (sym is) right) ok
    where
      no_ply : (c : ℕ) → words.ToBalance o ≡ words.ToPly c → ⊥
      no_ply c e = cc

  -- an edge to a new ply, each of whose cells holds the word that the edge replaces
  pub linked_promised : (c : ℕ) (old : Word) → decoded w ≡ words.ToPly c → IsChild n (owner k) (k % 16) c → owner k ≢ c → ((d : ℕ) → old ≡ words.ToPly d → ⊥) → IsRight J n (owner k) (k % 16) old → ((s : ℕ) → s < 16 → word_at u.cells c s ≡ old) → IsPromised J n (stored keep fresh u k w)
  linked_promised c old is child other leaf right filled = ply_stored J n u keep fresh k w beside room apart
      (λ d e. let same : c ≡ d = ply_same c d (sym is ∙ e) in
      (subst (IsChild n (owner k) (k % 16)) same child, λ s lt. subst (λ (i : ℕ). IsRight J n i s (word_at (slice_set u.cells k w) i s)) same (subst (IsRight J n c s) (sym (other_cell u.cells k w c s (cell_apart c s lt other) ∙ filled s lt)) (right_below J n (owner k) (k % 16) c s old child lt leaf right))))
      (λ walked. subst (IsRight J n (owner k) (k % 16)) (sym is) tt) ok
    where
      ply_same : (c d : ℕ) → words.ToPly c ≡ words.ToPly d → c ≡ d
      ply_same c d e = cc

      cell_apart : (d s : ℕ) → s < 16 → owner k ≢ d → 16 * d + s ≢ k
      cell_apart d s lt ne e = ne (ap owner (sym e) ∙ owner_of d s lt)
