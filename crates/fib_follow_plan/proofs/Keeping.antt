-- What is noted and forgotten, one entry after the other.
use Rattle.std.proofs.Common.{◌≡◌, ◌⊎◌, ◌+◌, ◌<◌, ℕ, List, [], ◌∷◌, ◌++◌, take, length, get_or, inl, inr, sym, ap, subst}
use Rattle.std.specs.Prelude.{Contains}
use Rattle.std.proofs.lemmas.List.Elements.{Contains-append_left, Contains-push, Contains-push_cases}
use Rattle.fib_base_list.proofs.Lists.{Contains-nil}
use Rattle.fib_addr.specs.Prefixes.{Prefix}
use Rattle.fib_entries_rows.specs.Known.{PathKept}
use Rattle.fib_entries_rows.specs.Rows.{Row}
use Rattle.fib_follow_features.specs.FoundBy.{AreNoted}
use Rattle.fib_follow_features.specs.Holders.{Forgets, Holders, IsFound, IsGone, Notes, NotesSome}
use Rattle.fib_follow_features.specs.declared.feature.Feature.{Feature}
use Rattle.fib_follow_features.proofs.Holding.{taken}
use Rattle.fib_follow_features.proofs.Noting.{noted_less, noted_written}
use Rattle.fib_follow_write.specs.Plans.{IsWritten}
use Rattle.fib_follow_write.specs.declared.writing.Plan.{Plan}
use Rattle.fib_follow_plan.specs.Noted.{AreFoundAll, AreFull, AreTold, FindsOnly, ForgetsAll}
use Rattle.fib_follow_plan.specs.declared.entry.Renoted.{Renoted}

-- nothing that is found goes
abbrev pub Stays : List Holders → List Holders → Type 0
Stays old new = (f : Feature) (e : Prefix) → IsFound old f e → IsFound new f e

pub stays_noted : (old new : List Holders) → Stays old new → (lists : List PathKept) (order : List Prefix) (rows : List Row)
    → AreNoted lists order rows old → AreNoted lists order rows new
stays_noted old new stays lists order rows noted r f there c = stays f r.prefix (noted r f there c)

pub stays_notes : (first old new : List Holders) (e : Prefix) (fs : List Feature) → Stays first old → Notes old new e fs → Stays first new
stays_notes first old new e fs stays notes f q c = (notes f q).1 (inl (stays f q c))

pub stays_some : (first old new : List Holders) (e : Prefix) (fs : List Feature) → Stays first old → NotesSome old new e fs → Stays first new
stays_some first old new e fs stays notes f q c = notes.stays f q (stays f q c)

pub found_none : (sets : List Holders) → AreFoundAll [] sets
found_none sets x f c k = absurd (Contains-nil x c)

pub found_more : (list : List Renoted) (i : ℕ) (x : Renoted) (old new : List Holders) → i < length list → x ≡ get_or list i x
    → AreFoundAll (take i list) old → Notes old new x.prefix x.new.items → AreFoundAll (take (i + 1) list) new
found_more list i x old new lt is first notes y f c k =
    elim (Contains-push_cases (take i list) x y (subst (λ l. Contains l y) (taken list i x lt is) c)) [
      | inl early ↦ (notes f y.prefix).1 (inl (first y f early k))
      | inr own ↦ (notes f y.prefix).1 (inr (ap (λ (z : Renoted). z.prefix) (sym own), subst (λ z. Contains z.new.items f) (sym own) k))
    ]

pub only_more : (list : List Renoted) (x : Renoted) (first old new : List Holders) → Contains list x → FindsOnly list first old
    → ((f : Feature) (q : Prefix) → IsFound new f q → IsFound old f q ⊎ ((q ≡ x.prefix) × Contains x.new.items f)) → FindsOnly list first new
only_more list x first old new there only real f q c = elim (real f q c) [ inl k ↦ only f q k | inr own ↦ inr (x, there, own.0, own.1) ]

pub gone_more : (list : List Renoted) (i : ℕ) (x : Renoted) (first old new : List Holders) → i < length list → x ≡ get_or list i x
    → ForgetsAll (take i list) first old → Forgets old new x.prefix x.old.items x.new.items → ForgetsAll (take (i + 1) list) first new
gone_more list i x first old new lt is gone forgets f q =
    let longer : take (i + 1) list ≡ take i list ++ x ∷ [] = taken list i x lt is in (
      λ c.
          let left = (forgets f q).0 c in
          let early = (gone f q).0 left.0 in (
            early.0,
            λ y k off. elim (Contains-push_cases (take i list) x y (subst (λ l. Contains l y) longer k)) [
              | inl there ↦ early.1 y there off
              | inr own ↦ left.1 (subst (λ (z : Renoted). IsGone z.prefix z.old.items z.new.items f q) (sym own) off)
            ],
          ),
      λ c. (forgets f q).1 (
        (gone f q).1
            (c.0, λ y k off. c.1 y (subst (λ l. Contains l y) (sym longer) (Contains-append_left (take i list) (x ∷ []) y k)) off),
        λ off. c.1 x (subst (λ l. Contains l x) (sym longer) (Contains-push (take i list) x)) off,
      ),
    )

-- nothing that is noted goes
abbrev pub Keeps : List Renoted → List Holders → List Holders → Type 0
Keeps list old new =
    (lists : List PathKept) (order : List Prefix) (rows : List Row) → AreFull lists order rows list → AreNoted lists order rows old
    → AreNoted lists order rows new

pub keeps_more : (list : List Renoted) (x : Renoted) (first old new : List Holders) → Contains list x → Keeps list first old
    → Forgets old new x.prefix x.old.items x.new.items → Keeps list first new
keeps_more list x first old new there keeps forgets lists order rows full noted =
    noted_less lists order rows old new x.prefix x.old.items x.new.items forgets (λ r f c own k. full r x f c there (sym own) k)
    (keeps lists order rows full noted)

pub written_noted : (rows new : List Row) (lists later : List PathKept) (order after : List Prefix) (plan : Plan) (list : List Renoted)
    (sets : List Holders) → AreNoted lists order rows sets → AreFoundAll list sets → AreTold rows lists order plan list
    → IsWritten plan rows new lists later after → AreNoted later after new sets
written_noted rows new lists later order after plan list sets noted all told w =
    noted_written lists later order after rows new sets
    (λ r c. elim (told.rest new later after w r c) [
      | inl l ↦ inl (λ f k. subst (IsFound sets f) l.2 (all l.0 f l.1 (told.full new later after w r l.0 f c l.1 l.2 k)))
      | inr stayed ↦ inr stayed
    ]) noted
