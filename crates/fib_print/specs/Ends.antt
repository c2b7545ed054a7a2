-- The texts of ends, with the names of interfaces.
use Rattle.std.specs.Prelude.{ℕ, ◌++◌, List, [], Option, Some, None, slice_get, codes}
use Rattle.fib_addr.specs.Texts.{address_text, mac_text}
use Rattle.fib_resolve.specs.declared.types.Interface.{Interface}
use Rattle.fib_resolve.specs.declared.types.Tables.{Tables}
use Rattle.fib_resolve.specs.declared.types.End.{End}
use Rattle.fib_resolve.specs.declared.types.End.TheVariants as answers

abbrev pub name_in : Option Interface → List ℕ
name_in None = []
name_in (Some i) = i.name

-- the name of the interface with that number, empty where there is none
unfoldable pub name_of : Tables → ℕ → List ℕ
name_of S i = name_in (slice_get S.interfaces i)

-- a MAC that is known stands at the end
abbrev pub hop_text : List ℕ → ℕ → Option ℕ → List ℕ
hop_text name a None = codes "incomplete " ++ name ++ codes " " ++ address_text a
hop_text name a (Some mac) = codes "adj " ++ name ++ codes " " ++ address_text a ++ codes " " ++ mac_text mac

unfoldable pub end_text : Tables → End → List ℕ
end_text S answers.Drop = codes "drop"
end_text S answers.Receive = codes "receive"
end_text S (answers.Glean i) = codes "glean " ++ name_of S i
end_text S (answers.Hop i a mac) = hop_text (name_of S i) a mac
