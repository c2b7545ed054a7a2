-- What of features is to be noted before a plan is written, and forgotten after.
use Rattle.std.specs.Prelude.{◌≡◌, ◌⊎◌, ◌↔◌, List, [], Contains, Option, Some, None}
use Rattle.fib_addr.specs.Prefixes.{Prefix}
use Rattle.fib_entries_rows.specs.Known.{PathKept, row_of}
use Rattle.fib_entries_rows.specs.Rows.{Row}
use Rattle.fib_follow_features.specs.FoundBy.{HasStayed, row_features}
use Rattle.fib_follow_features.specs.Holders.{Holders, IsFound, IsGone}
use Rattle.fib_follow_features.specs.declared.feature.Feature.{Feature}
use Rattle.fib_follow_write.specs.Plans.{IsWritten}
use Rattle.fib_follow_write.specs.declared.writing.Plan.{Plan}
use Rattle.fib_follow_plan.specs.declared.entry.Renoted.{Renoted}

-- each of the list is found by all its new features
abbrev pub AreFoundAll : List Renoted → List Holders → Type 0
AreFoundAll list sets = (x : Renoted) (f : Feature) → Contains list x → Contains x.new.items f → IsFound sets f x.prefix

-- each entry that is found by more than before is one of the list, and the feature one of its new ones
abbrev pub FindsOnly : List Renoted → List Holders → List Holders → Type 0
FindsOnly list old new =
    (f : Feature) (q : Prefix) → IsFound new f q → IsFound old f q ⊎ ((x : Renoted) × Contains list x × (q ≡ x.prefix) × Contains x.new.items f)

-- none of the list is found by an old feature that isn't among its new ones, and all else stays
abbrev pub ForgetsAll : List Renoted → List Holders → List Holders → Type 0
ForgetsAll list old new =
    (f : Feature) (q : Prefix)
    → IsFound new f q ↔ IsFound old f q × ((x : Renoted) → Contains list x → IsGone x.prefix x.old.items x.new.items f q → ⊥)

-- the features of the row, none where there is no row
abbrev pub features_before : List PathKept → List Prefix → Option Row → List Feature
features_before lists order None = []
features_before lists order (Some r) = row_features lists order r

-- the old features of each of the list are those of its row
abbrev pub AreOfRows : List PathKept → List Prefix → List Row → List Renoted → Type 0
AreOfRows lists order rows list = (x : Renoted) → Contains list x → x.old.items ≡ features_before lists order (row_of rows x.prefix)

-- where one of the list has a row, all features that the row has are among its new ones
abbrev pub AreFull : List PathKept → List Prefix → List Row → List Renoted → Type 0
AreFull lists order rows list =
    (r : Row) (x : Renoted) (f : Feature) → Contains rows r → Contains list x → x.prefix ≡ r.prefix → Contains (row_features lists order r) f
    → Contains x.new.items f

-- the list has the row's prefix
abbrev pub IsListed : List Renoted → Prefix → Type 0
IsListed list e = (x : Renoted) × Contains list x × (x.prefix ≡ e)

-- whatever rows the plan makes: of each that has other features than before the list tells all
pub record AreTold (rows : List Row) (lists : List PathKept) (order : List Prefix) (plan : Plan) (list : List Renoted) : Type 0 where
  pub full : (new : List Row) (later : List PathKept) (after : List Prefix) → IsWritten plan rows new lists later after
      → AreFull later after new list
  pub rest : (new : List Row) (later : List PathKept) (after : List Prefix) → IsWritten plan rows new lists later after
      → (r : Row) → Contains new r → IsListed list r.prefix ⊎ HasStayed lists later order after rows r
