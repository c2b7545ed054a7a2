-- Frames of packets.
use Rattle.std.specs.Prelude.{ℕ, ◌+◌, ◌*◌, ◌/◌, List, length, take, drop}

-- a list is cut in order into frames of 256, the last one shorter; past the last they are empty
abbrev pub frame : {A : Type 0} → List A → ℕ → List A
frame xs f = take 256 (drop (256 * f) xs)

-- how many frames there are
abbrev pub frames : {A : Type 0} → List A → ℕ
frames xs = (length xs + 255) / 256
