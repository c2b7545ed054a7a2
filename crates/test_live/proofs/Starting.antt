-- A board as it begins, on which a round is forwarded.
use Rattle.std.proofs.Common.{◌≡◌, ◌<◌, ◌≤◌, ◌+◌, ◌*◌, ◌-◌, ◌^◌, ◌/◌, ℕ, List, false, length, arith, refl, ap, ◌∙◌, sym, subst, zero, suc}
use Rattle.std.specs.Prelude.{replicate, slice_index, slice_index_or}
use Rattle.fib_capture.specs.declared.packet.Packet.{Packet}
use Rattle.fib_core_lawful.specs.State.{left_of}
use Rattle.fib_core_board.specs.Boards.{Board}
use Rattle.fib_worker_crew.specs.Frames.{frames}
use Rattle.fib_worker_crew.specs.Packets.{span}
use Rattle.fib_worker_crew.proofs.Spans.{frames_of_span}
use Rattle.fib_rounds_homing.specs.Homes.{NoneOut}
use Rattle.test_live.specs.Rested.{IsRested}

all_off : (m n : ℕ) → slice_index_or (replicate m false) n false ≡ false
all_off zero n = refl
all_off (suc m) zero = refl
all_off (suc m) (suc n) = all_off m n

all_nought : (m n : ℕ) → slice_index (replicate m 0) n ≡ 0
all_nought zero n = refl
all_nought (suc m) zero = refl
all_nought (suc m) (suc n) = all_nought m n

pub rested_home : (b : Board) → IsRested b → NoneOut b
rested_home b is n = ap (λ xs. slice_index_or xs n false) is.out ∙ all_off 8 n

pub three_frames : (ps : List Packet) → length ps ≡ 600 → frames (span ps 0 600) ≡ 3
three_frames ps all = sym (frames_of_span ps 0 600 (omega arith) (omega (arith, all)))

pub rested_left : (b : Board) (count n : ℕ) → IsRested b → count ≡ 3 → 256 * (count + 1) ≤ left_of (slice_index b.rests n)
rested_left b count n is three =
    let none : slice_index b.rests n ≡ 0 = ap (λ xs. slice_index xs n) is.rests ∙ all_nought 8 n in
    subst (λ m. 256 * (count + 1) ≤ left_of m) (sym none) (omega (arith, three))
