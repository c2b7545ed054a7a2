-- What is printed, one packet more.
use Rattle.std.proofs.Common.{◌≡◌, ◌<◌, ◌≤◌, ◌+◌, ◌-◌, ◌++◌, ◌∷◌, [], ℕ, List, length, take, drop, refl, ap, ◌∙◌, sym, subst, Some, append_assoc, arith}
use Rattle.std.specs.Prelude.{slice_get, slice_index_or}
use Rattle.std.proofs.Math.Seq.{take-length}
use Rattle.std.proofs.lemmas.List.{drop_all}
use Rattle.fib_resolve.specs.declared.types.Tables.{Tables}
use Rattle.fib_capture.specs.declared.packet.Packet.{Packet}
use Rattle.fib_capture.specs.declared.packet.Packet.TheVariants.{Flow, NotIpv4, BadHeader}
use Rattle.fib_print.specs.Packets.{bad_header_text, not_ipv4_text, packet_text}
use Rattle.fib_worker_crew.specs.Packets.{Matched}
use Rattle.fib_worker_crew.proofs.Spans.{drop_at}
use Rattle.fib_trace.specs.Texts.{loads_text}
use Rattle.fib_tracer.specs.declared.log.Traced.{Traced}
use Rattle.fib_tracer.specs.Passes.{passes_text}

-- a piece is printed, and then the rest
pub printed_on : (old new piece rest whole : List ℕ) → new ≡ old ++ piece → whole ≡ piece ++ rest → new ++ rest ≡ old ++ whole
printed_on old new piece rest whole is all = ap (λ t. t ++ rest) is ∙ (append_assoc old piece rest ∙ ap (λ t. old ++ t) (sym all))

-- ---- the packet in a place

pub text_not_ipv4 : (S : Tables) (ps : List Packet) (a : ℕ) (qs : List Traced) → slice_get ps a ≡ Some NotIpv4
    → passes_text S a (drop a ps) qs ≡ not_ipv4_text a ++ passes_text S (a + 1) (drop (a + 1) ps) qs
unfolding passes_text
text_not_ipv4 S ps a qs e = ap (λ xs. passes_text S a xs qs) (drop_at ps a NotIpv4 e)

pub text_bad_header : (S : Tables) (ps : List Packet) (a : ℕ) (qs : List Traced) → slice_get ps a ≡ Some BadHeader
    → passes_text S a (drop a ps) qs ≡ bad_header_text a ++ passes_text S (a + 1) (drop (a + 1) ps) qs
unfolding passes_text
text_bad_header S ps a qs e = ap (λ xs. passes_text S a xs qs) (drop_at ps a BadHeader e)

pub text_flow : (S : Tables) (ps : List Packet) (a x h : ℕ) (all : List Traced) (q : Traced) (qs : List Traced) → slice_get ps a ≡ Some (Flow x h) → all ≡ q ∷ qs
    → passes_text S a (drop a ps) all ≡ (packet_text S a q.result ++ loads_text S 0 q.loads) ++ passes_text S (a + 1) (drop (a + 1) ps) qs
unfolding passes_text
text_flow S ps a x h all q qs e is = ap (λ xs. passes_text S a xs all) (drop_at ps a (Flow x h) e) ∙ ap (λ ys. passes_text S a (Flow x h ∷ drop (a + 1) ps) ys) is

-- ---- its pass is the first of those that are left

module _ (P : ℕ → ℕ → Traced → Type 0) (ps : List Packet) (a : ℕ) (qs : List Traced) (m : Matched P (drop a ps) qs) where
  pub left_not_ipv4 : slice_get ps a ≡ Some NotIpv4 → Matched P (drop (a + 1) ps) qs
  left_not_ipv4 e = subst (λ xs. Matched P xs qs) (drop_at ps a NotIpv4 e) m

  pub left_bad_header : slice_get ps a ≡ Some BadHeader → Matched P (drop (a + 1) ps) qs
  left_bad_header e = subst (λ xs. Matched P xs qs) (drop_at ps a BadHeader e) m

  -- a flow has one
  pub left_flow : (x h : ℕ) (q : Traced) (more : List Traced) → slice_get ps a ≡ Some (Flow x h) → qs ≡ q ∷ more → P x h q × Matched P (drop (a + 1) ps) more
  left_flow x h q more e is =
      let here : Matched P (Flow x h ∷ drop (a + 1) ps) qs = subst (λ xs. Matched P xs qs) (drop_at ps a (Flow x h) e) m in
      let one : Matched P (Flow x h ∷ drop (a + 1) ps) (q ∷ more) = subst (Matched P (Flow x h ∷ drop (a + 1) ps)) is here in
      (one.0, one.1)

  pub some_left : (x h : ℕ) → slice_get ps a ≡ Some (Flow x h) → qs ≡ [] → ⊥
  some_left x h e none =
      let here : Matched P (Flow x h ∷ drop (a + 1) ps) qs = subst (λ xs. Matched P xs qs) (drop_at ps a (Flow x h) e) m in
      subst (Matched P (Flow x h ∷ drop (a + 1) ps)) none here

pub first_of : {A : Type 0} (xs : List A) (x : A) → 1 ≤ length xs → x ≡ slice_index_or xs 0 x → xs ≡ x ∷ take (length xs - 1) (drop 1 xs)
first_of [] x some is = absurd (omega (arith, some))
first_of (y ∷ xs) x some is =
    let n : length (y ∷ xs) - 1 ≡ length xs = omega arith in
    ap (λ z. z ∷ xs) (sym is) ∙ ap (λ t. x ∷ t) (sym (ap (λ k. take k xs) n ∙ take-length xs))

pub no_first : {A : Type 0} (xs : List A) → length xs < 1 → xs ≡ []
no_first [] none = refl
no_first (x ∷ xs) none = absurd (omega (arith, none))

pub text_end : (S : Tables) (a : ℕ) (ps : List Packet) (qs : List Traced) → length ps ≤ a → passes_text S a (drop a ps) qs ≡ []
unfolding passes_text
text_end S a ps qs le = ap (λ xs. passes_text S a xs qs) (drop_all a ps le)
