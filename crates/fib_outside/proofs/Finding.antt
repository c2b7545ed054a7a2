-- Files in memory, by their place.
use Rattle.std.proofs.Common.{◌≡◌, ◌∷◌, [], ℕ, true, List, drop, slice_get, Some, Vec, String, string_bytes, refl, ap, ◌∙◌, zero, suc}
use Rattle.std.specs.Str.{bytes_eq}
use Rattle.std.specs.declared.alloc.Global.{Global}
use Rattle.std.proofs.lemmas.Option.{none-some, same_Some}
use Rattle.fib_outside.specs.Memory.{files_in, file_of, left_at}

-- where the file at a place has the name, it is the first of that name from there on
pub found_at : (files : List (String Global × Vec ℕ Global)) (place : ℕ) (name : List ℕ) (file : String Global × Vec ℕ Global) → slice_get files place ≡ Some file → bytes_eq (string_bytes file.0) name ≡ true → file_of (files_in (drop place files)) name ≡ Some (left_at (files_in files) place 0)
found_at [] place name file at same = absurd (none-some file at)
found_at (f ∷ fs) zero name file at same =
    let e = same_Some f file at in
    let named : bytes_eq (string_bytes f.0) name ≡ true = ap (λ (x : String Global × Vec ℕ Global). bytes_eq (string_bytes x.0) name) e ∙ same in
    rw named refl
found_at (f ∷ fs) (suc place) name file at same = found_at fs place name file at same
