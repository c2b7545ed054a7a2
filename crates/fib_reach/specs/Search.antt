-- Tests for walks over next-lists, where a test `same` tells nodes apart.
use Rattle.std.specs.Prelude.{Bool, List, [], ◌∷◌, ◌++◌, ◌||◌, ◌&&◌, not, fold, if◌then◌else◌}
use Rattle.std.specs.List.{list_any}
use Rattle.std.specs.Set.{is_member}

-- the edge is there
abbrev pub leads : {A : Type 0} → (A → A → Bool) → (A → List A) → A → A → Bool
leads same next from to = list_any (same to) (next from)

-- there is a walk of one or more edges, with only these nodes between its ends
unfoldable pub leads_through : {A : Type 0} → (A → A → Bool) → (A → List A) → List A → A → A → Bool
leads_through same next [] from to = leads same next from to
leads_through same next (mid ∷ mids) from to =
    leads_through same next mids from to || (leads_through same next mids from mid && leads_through same next mids mid to)

-- x at the end, where it is a node and is not there yet
abbrev pub add_one : {A : Type 0} → (A → A → Bool) → List A → List A → A → List A
add_one same nodes seen x = if is_member same nodes x && not (is_member same seen x) then seen ++ x ∷ [] else seen

-- those of the next that are nodes and are not there yet, at the end
abbrev pub added : {A : Type 0} → (A → A → Bool) → List A → List A → List A → List A
added same nodes seen next = fold (add_one same nodes) seen next
