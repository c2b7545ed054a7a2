-- Marked lists decide over which interfaces an entry leads.
use Rattle.std.proofs.Common.{inl, inr, ◌≡◌, ℕ, Bool, true, false, cond, not, ◌&&◌, ◌||◌, ◌==◌, List, [], ◌∷◌, refl, sym, ap, ◌∙◌}
use Rattle.std.specs.List.{list_any}
use Rattle.std.proofs.lemmas.Bool.{false≢true}
use Rattle.fib_base_list.proofs.Lists.{list_any-map}
use Rattle.fib_base_list.proofs.Booleans.{and_both, or_cases, or_right}
use Rattle.fib_addr.specs.Prefixes.{Prefix, host}
use Rattle.fib_resolve.specs.Pairs.{chosen, cover}
use Rattle.fib_resolve.specs.Loops.{looped}
use Rattle.fib_resolve.specs.Forwarding.{is_up, is_met, forwards, usable, usable_kind}
use Rattle.fib_resolve.specs.Aims.{kind_aim, kind_counts, marked, marked_list}
use Rattle.fib_resolve.specs.Resolution.{hop_end}
use Rattle.fib_resolve.specs.declared.types.End.TheVariants as answers
use Rattle.fib_resolve.specs.declared.aims.Aim.TheVariants as aims
use Rattle.fib_resolve.specs.declared.types.Need.{Need}
use Rattle.fib_resolve.specs.declared.types.Path.{Path}
use Rattle.fib_resolve.specs.declared.types.PathKind.{PathKind}
use Rattle.fib_resolve.specs.declared.types.PathKind.TheVariants as kinds
use Rattle.fib_resolve.specs.declared.types.Tables.{Tables}
use Rattle.fib_resolve.proofs.Answering.{forwards_is_usable}
use Rattle.fib_urpf.specs.ReversePath.{kind_leads, is_reverse}
use Rattle.fib_urpf.specs.Marks.{aim_leads, marks_lead}
use Rattle.fib_urpf.proofs.Rounds.{reverse_paths}

any_weaker : {X : Type 0} (p q : X → Bool) (xs : List X) → list_any (λ x. q x && p x) xs ≡ true → list_any q xs ≡ true
any_weaker p q [] k = k
any_weaker p q (x ∷ xs) k =
    elim (or_cases (q x && p x) (list_any (λ y. q y && p y) xs) k) [
      | inl l ↦ rw ((and_both (q x) (p x) l).0) refl
      | inr r ↦ or_right (q x) _ (any_weaker p q xs r)
    ]

-- what leads over an interface forwards
pub reverse_forwards : (S : Tables) (i : ℕ) (e : Prefix) → is_reverse S i e ≡ true → forwards S e ≡ true
reverse_forwards S i e h =
    forwards_is_usable S e ∙ any_weaker (λ p. kind_leads S i (is_reverse S i) e p.kind) (usable S e) (chosen S e) (sym (reverse_paths S i e) ∙ h)

any_same : {X : Type 0} (f g : X → Bool) (xs : List X) → ((x : X) → f x ≡ g x) → list_any f xs ≡ list_any g xs
any_same f g [] h = refl
any_same f g (x ∷ xs) h = ap (λ b. b || list_any f xs) (h x) ∙ ap (λ b. g x || b) (any_same f g xs h)

-- forwarding needn't be asked where the interface is
asked_less : (x y z w : Bool) → (w ≡ true → z ≡ true) → ((x && (y && z)) && w) ≡ ((x && y) && w)
asked_less true true true w h = refl
asked_less true true false true h = absurd (false≢true (h refl))
asked_less true true false false h = refl
asked_less true false z w h = refl
asked_less false y z w h = refl

asked_none : (z w : Bool) → (w ≡ true → z ≡ true) → (z && w) ≡ w
asked_none true w h = refl
asked_none false true h = absurd (false≢true (h refl))
asked_none false false h = refl

kind_marked : (S : Tables) (i : ℕ) (f : Prefix → Bool) → ((t : Prefix) → f t ≡ true → forwards S t ≡ true) → (e : Prefix) (need : Need) (kind : PathKind)
    → (usable_kind S (forwards S) e need kind && kind_leads S i f e kind) ≡ (kind_counts S e need kind && aim_leads i f (kind_aim S e kind))
kind_marked S i f h e need kinds.Drop = refl
kind_marked S i f h e need kinds.Local = refl
kind_marked S i f h e need (kinds.Attached j) = by (e.len == 32)
  where
    by : (b : Bool) → (is_up S j && (j == i)) ≡ (is_up S j && aim_leads i f (aims.Ends (cond b (hop_end S j e.bits) (answers.Glean j))))
    by true = refl
    by false = refl
kind_marked S i f h e need (kinds.Hop a j) = refl
kind_marked S i f h e need (kinds.Recursive a) = asked_less (not (looped S e a)) (is_met S need a) (forwards S (host a)) (f (host a)) (h (host a))
kind_marked S i f h e need kinds.Cover = asked_none (forwards S (cover S e.bits)) (f (cover S e.bits)) (h (cover S e.bits))

path_marked : (S : Tables) (i : ℕ) (f : Prefix → Bool) → ((t : Prefix) → f t ≡ true → forwards S t ≡ true) → (e : Prefix) (p : Path)
    → (usable S e p && kind_leads S i f e p.kind) ≡ ((marked S e p).counts && aim_leads i f (marked S e p).aim)
unfolding usable
path_marked S i f h e p = kind_marked S i f h e p.need p.kind

pub reverse_marked : (S : Tables) (i : ℕ) (e : Prefix) → is_reverse S i e ≡ marks_lead i (is_reverse S i) (marked_list S e)
unfolding marked_list
reverse_marked S i e =
    reverse_paths S i e
    ∙ any_same (λ p. usable S e p && kind_leads S i (is_reverse S i) e p.kind) (λ p. (marked S e p).counts && aim_leads i (is_reverse S i) (marked S e p).aim) (chosen S e)
    (path_marked S i (is_reverse S i) (λ t. reverse_forwards S i t) e)
    ∙ sym (list_any-map (marked S e) (λ m. m.counts && aim_leads i (is_reverse S i) m.aim) (chosen S e))
