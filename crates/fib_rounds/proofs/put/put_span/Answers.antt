use Rattle.std.proofs.Common.{◌≡◌, ◌++◌, [], rules, arith, ap, sym, ◌∙◌, drop}
use Rattle.std.specs.Prelude.{Some}
use Rattle.std.proofs.lemmas.List.{append-nil, take_rest}
use Rattle.fib_print.specs.Packets.{packet_text, not_ipv4_text, bad_header_text}
use Rattle.fib_worker_crew.specs.Results.{results_of}
use Rattle.fib_worker_crew.specs.Packets.{span}
use Rattle.fib_rounds.specs.Packets.{packets_text}
use Rattle.fib_rounds.proofs.Spans.{text_none, text_at_not_ipv4, text_at_bad_header, text_at_flow, text_at_missing, short_none, append_step, first_rest}
use Rattle.fib_rounds.proofs.put.put_span.Goals as goal
use Rattle.fib_rounds.proofs.put.put_span.Goals.{in-NotIpv4+in_ok-put_not_ipv4-in-NotIpv4, in-BadHeader+in_ok-put_bad_header-in-BadHeader, in-Flow+in-len1-up+in_ok-put_packet-in-Flow}

pub returns-in_default : goal.returns-in_default
returns-in_default c =
    let T = c.args.tables.now in
    let at = c.loop-at.at in
    let here = span c.args.packets.now.packets at c.args.to in
    let none : c.loop-at.rest.now ≡ [] = short_none c.loop-at.rest.now c.in_default.len_below in
    let text = text_at_missing T at c.args.packets.now.packets at c.args.to _ _ c.loop-at-test.true (c.at.ensures ∙ ap (λ p. Some p) c.in-Flow.is) in
    sym (append-nil c.loop-at.text.items) ∙ (ap (λ t. c.loop-at.text.items ++ t) (sym text) ∙ (ap (λ rs. c.loop-at.text.items ++ packets_text T at here (results_of rs)) (sym none) ∙ c.loop-at.invariant))

pub loop-at-preserved : goal.loop-at-preserved
loop-at-preserved c = elim c.match-at.branch [
  | in-NotIpv4+in_ok-put_not_ipv4-in-NotIpv4 w ↦
      let text = text_at_not_ipv4 c.args.tables.now c.loop-at.at c.args.packets.now.packets c.loop-at.at c.args.to (results_of c.loop-at.rest.now) c.loop-at-test.true (c.at.ensures ∙ ap (λ p. Some p) w.in-NotIpv4.is) in
      let out : c.match-at.text.items ≡ c.loop-at.text.items ++ not_ipv4_text c.loop-at.at = search rules in
      rw w.rest-is (append_step c.loop-at.text.items _ _ _ _ out (ap (λ t. c.loop-at.text.items ++ t) (sym text) ∙ c.loop-at.invariant))
  | in-BadHeader+in_ok-put_bad_header-in-BadHeader w ↦
      let text = text_at_bad_header c.args.tables.now c.loop-at.at c.args.packets.now.packets c.loop-at.at c.args.to (results_of c.loop-at.rest.now) c.loop-at-test.true (c.at.ensures ∙ ap (λ p. Some p) w.in-BadHeader.is) in
      let out : c.match-at.text.items ≡ c.loop-at.text.items ++ bad_header_text c.loop-at.at = search rules in
      rw w.rest-is (append_step c.loop-at.text.items _ _ _ _ out (ap (λ t. c.loop-at.text.items ++ t) (sym text) ∙ c.loop-at.invariant))
  | in-Flow+in-len1-up+in_ok-put_packet-in-Flow w ↦
      let T = c.args.tables.now in
      let at = c.loop-at.at in
      let xs = c.loop-at.rest.now in
      let x = w.kept-item.result in
      let whole = first_rest xs x w.in-len1-up.len_at_least w.kept-item.is in
      let out : c.match-at.text.items ≡ c.loop-at.text.items ++ packet_text T at x.1 = ap (λ t. t.items) w.text-is ∙ w.in_ok-put_packet-in-Flow.ensures.ok in
      let tail : c.match-at.rest.now ≡ drop 1 xs = ap (λ r. r.now) w.rest-is ∙ take_rest xs 1 in
      let text = text_at_flow T at c.args.packets.now.packets at c.args.to _ _ x.1 (results_of (drop 1 xs)) c.loop-at-test.true (c.at.ensures ∙ ap (λ p. Some p) w.in-Flow.is) in
      let both = ap (λ rs. packets_text T at (span c.args.packets.now.packets at c.args.to) (results_of rs)) whole ∙ text in
      rw tail (append_step c.loop-at.text.items _ _ _ _ out (ap (λ t. c.loop-at.text.items ++ t) (sym both) ∙ c.loop-at.invariant))
]

pub returns : goal.returns
returns c =
    let none = text_none c.args.tables.now c.loop-at.at c.args.packets.now.packets c.loop-at.at c.args.to (results_of c.loop-at.rest.now) (omega arith) in
    sym (append-nil c.loop-at.text.items) ∙ (ap (λ t. c.loop-at.text.items ++ t) (sym none) ∙ c.loop-at.invariant)
