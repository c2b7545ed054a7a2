-- Cells that stand for tables hold those tables' ends alone.
use Rattle.std.proofs.Common.{◌≡◌, ℕ, zero, suc, ◌+◌, ◌*◌, ◌/◌, ◌%◌, ◌<◌, ◌≤◌, ◌⊎◌, inl, inr, Bool, true, false, List, [], length, refl, sym, ap, ◌∙◌, subst, arith}
use Rattle.std.specs.Prelude.{Contains, slice_index, slice_get, Option, Some, None, IfSome, ◌==◌, if◌then◌else◌}
use Rattle.std.specs.Set.{is_member}
use Rattle.std.proofs.lemmas.List.{get_or_past}
use native.Mathlib.Decide.{dec_lt}
use mathlib.Core.Logic.{dite}
use Rattle.fib_addr.specs.Prefixes.{Prefix, same_prefix}
use Rattle.fib_resolve.specs.Buckets.{wanted}
use Rattle.fib_resolve.specs.Resolution.{ends, hop_end, attached_end, kind_end, mac_of}
use Rattle.fib_resolve.specs.Sizes.{plies}
use Rattle.fib_resolve.specs.declared.pairs.Adjacency.{Adjacency}
use Rattle.fib_resolve.specs.declared.types.End.{End}
use Rattle.fib_resolve.specs.declared.types.End.TheVariants as answers
use Rattle.fib_resolve.specs.declared.types.Path.{Path}
use Rattle.fib_resolve.specs.declared.types.PathKind.{PathKind}
use Rattle.fib_resolve.specs.declared.types.PathKind.TheVariants as kinds
use Rattle.fib_resolve.specs.declared.types.Tables.{Tables}
use Rattle.fib_resolve.proofs.Taken.{IsWanted}
use Rattle.fib_core.specs.declared.word.Word.TheVariants as words
use Rattle.fib_core.specs.Words.{decoded}
use Rattle.fib_core.specs.Walk.{word_at, EndsIn}
use Rattle.fib_core.specs.StandsFor.{Thing, ply_of, balance_of, adjacency_of, IsCounted, below, covering, kind_word, bucket_word, mac_word, adjacency_word, thing_word, StandsFor}
use Rattle.fib_core.specs.Trails.{IsEndOf}
use Rattle.fib_core.proofs.Numbers.{decoded-zero}
use Rattle.fib_core_stands.proofs.Listed.{at_bucket, adjacency_listed, end_possible, first_in}
use Rattle.fib_core_stands.proofs.Balances.{adjacency_says, low16}

module _ (cells : List ℕ) (names : Thing → ℕ) (S : Tables) (stands : StandsFor cells names S) (P : End → Type 0) (possible : (e : End) → Contains (ends S) e → P e) where
  ply_ends : (b : Bool) (x y : ℕ) → EndsIn P cells (if b then words.ToPly x else words.ToBalance y)
  ply_ends true x y = tt
  ply_ends false x y = tt

  attached_ends : (e : Prefix) (p : Path) (i : ℕ) (b : Bool) → IsWanted S e p → p.kind ≡ kinds.Attached i → (e.len == 32) ≡ b → EndsIn P cells (if b then words.ToAdjacency (names (adjacency_of (record { interface = i; next_hop = e.bits }))) else words.Glean i)
  attached_ends e p i true t k is = subst P (sym (adjacency_says cells names S stands i e.bits (adjacency_listed S e p (record { interface = i; next_hop = e.bits }) t.0 (rw k (rw is (first_in (record { interface = i; next_hop = e.bits }) []))))))
      (possible (hop_end S i e.bits) (end_possible S e p (hop_end S i e.bits) t (subst (Contains (kind_end S e p.kind)) (ap (λ b. if b then hop_end S i e.bits else answers.Glean i) is) (rw k (first_in (attached_end S e i) [])))))
  attached_ends e p i false t k is = possible (answers.Glean i) (end_possible S e p (answers.Glean i) t (subst (Contains (kind_end S e p.kind)) (ap (λ b. if b then hop_end S i e.bits else answers.Glean i) is) (rw k (first_in (attached_end S e i) []))))

  kind_ends : (e : Prefix) (p : Path) (kind : PathKind) → p.kind ≡ kind → IsWanted S e p → EndsIn P cells (kind_word names S e kind)
  kind_ends e p kinds.Drop k t = tt
  kind_ends e p kinds.Local k t = possible answers.Receive (end_possible S e p answers.Receive t (rw k (first_in answers.Receive [])))
  kind_ends e p (kinds.Attached i) k t = attached_ends e p i (e.len == 32) t k refl
  kind_ends e p (kinds.Hop a i) k t = subst P (sym (adjacency_says cells names S stands i a (adjacency_listed S e p (record { interface = i; next_hop = a }) t.0 (rw k (first_in (record { interface = i; next_hop = a }) [])))))
      (possible (hop_end S i a) (end_possible S e p (hop_end S i a) t (rw k (first_in (hop_end S i a) []))))
  kind_ends e p (kinds.Recursive a) k t = tt
  kind_ends e p kinds.Cover k t = tt

  bucket_ends : (e : Prefix) (o : Option Path) → IfSome o (IsWanted S e) → EndsIn P cells (bucket_word names S e o)
  bucket_ends e None t = tt
  bucket_ends e (Some p) t = kind_ends e p p.kind refl t

  mac_ends : (m : Option ℕ) → EndsIn P cells (mac_word m)
  mac_ends None = tt
  mac_ends (Some m) = tt

  slot_ends : (x : Adjacency) (s : ℕ) → EndsIn P cells (adjacency_word S x s)
  slot_ends x zero = tt
  slot_ends x (suc zero) = tt
  slot_ends x (suc (suc zero)) = mac_ends (mac_of S x.interface x.next_hop)
  slot_ends x (suc (suc (suc s))) = tt

  thing_ends : (x : Thing) (s : ℕ) → EndsIn P cells (thing_word names S x s)
  thing_ends (ply_of p) s = ply_ends (is_member same_prefix (plies S) (below p s)) (names (ply_of (below p s))) (names (balance_of (covering S (below p s))))
  thing_ends (balance_of e) s = bucket_ends e (slice_get (wanted S e) s) (at_bucket S e s)
  thing_ends (adjacency_of x) s = slot_ends x s

  object_ends : (o s : ℕ) → s < 16 → ((x : Thing) × IsCounted S x × (names x ≡ o)) ⊎ ((s : ℕ) → s < 16 → word_at cells o s ≡ words.Drop) → EndsIn P cells (word_at cells o s)
  object_ends o s lt (inl n) = subst (EndsIn P cells) (sym (stands.holds n.0 s n.1 lt) ∙ ap (λ i. word_at cells i s) n.2) (thing_ends n.0 s)
  object_ends o s lt (inr free) = subst (EndsIn P cells) (sym (free s lt)) tt

  pub all_ends : (objects : ℕ) → length cells ≡ 16 * objects → (k : ℕ) → EndsIn P cells (decoded (slice_index cells k))
  all_ends objects long k =
      let back : 16 * (k / 16) + k % 16 ≡ k = omega arith in
      subst (λ i. EndsIn P cells (decoded (slice_index cells i))) back (dite (dec_lt (k / 16) (length cells / 16))
      (λ lt. object_ends (k / 16) (k % 16) (low16 k) (stands.others (k / 16) lt))
      (λ ge. subst (EndsIn P cells) (sym (ap decoded (get_or_past cells (16 * (k / 16) + k % 16) 0 (past (length cells) k objects long ge)) ∙ decoded-zero)) tt))
    where
      past : (l k n : ℕ) → l ≡ 16 * n → (k / 16 < l / 16 → ⊥) → l ≤ 16 * (k / 16) + k % 16
      past l k n e ge = omega arith

-- as a version's
pub settled_ends : (cells : List ℕ) (names : Thing → ℕ) (S : Tables) (H : List Tables) (j objects : ℕ) → StandsFor cells names S → slice_get H j ≡ Some S → length cells ≡ 16 * objects → (k : ℕ) → EndsIn (IsEndOf H j j) cells (decoded (slice_index cells k))
settled_ends cells names S H j objects stands held long = all_ends cells names S stands (IsEndOf H j j) (λ e c. record { version = j; tables = S; from = same j; to = same j; held = held; end = c }) objects long
  where
    same : (n : ℕ) → n ≤ n
    same n = omega arith
