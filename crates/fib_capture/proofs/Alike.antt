-- Spans are refused where packets are.
use Rattle.std.proofs.Common.{◌≡◌, ℕ, List, Ok, Err, Result}
use Rattle.fib_capture.specs.Captures.{Capture, capture_after, capture_of, header_of}
use Rattle.fib_capture.specs.Spans.{spans_after, spans_of}
use Rattle.fib_capture.specs.declared.packet.CaptureError.{CaptureError}
use Rattle.fib_capture.specs.declared.packet.Order.{Order}
use Rattle.fib_capture.specs.declared.packet.Link.{Link}

-- what has packets has spans
pub spans_beside : (bytes : List ℕ) (c : Capture) (cause : CaptureError) → capture_of bytes ≡ Ok c → spans_of bytes ≡ Err cause → ⊥
unfolding capture_of spans_of
spans_beside bytes c cause some none = by_header (header_of bytes) some none
  where
    by_header : (h : Result (Order × Link) CaptureError) → capture_after bytes h ≡ Ok c → spans_after bytes h ≡ Err cause → ⊥
    by_header (Ok h) p q = cc
    by_header (Err e) p q = cc
