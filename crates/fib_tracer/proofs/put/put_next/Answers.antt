use Rattle.std.proofs.Common.{◌≡◌, ◌∷◌, [], ap, ◌∙◌, List, Some}
use Rattle.std.specs.Prelude.{slice_get}
use Rattle.fib_capture.specs.declared.packet.Packet.TheVariants.{Flow, NotIpv4, BadHeader}
use Rattle.fib_tracer.specs.declared.log.Traced.{Traced}
use Rattle.fib_tracer.specs.inner.Printing.{IsShort}
use Rattle.fib_tracer.proofs.Printing.{first_of, left_bad_header, left_flow, left_not_ipv4, no_first, printed_on, some_left, text_bad_header, text_flow, text_not_ipv4}
use Rattle.fib_tracer.proofs.put.put_next.Goals as goal

pub returns-in_default-clause-text : goal.returns-in_default-clause-text
returns-in_default-clause-text c =
    absurd (some_left IsShort c.args.packets.now.packets c.args.at c.args.passes.now c.requires.each c.in-Flow.addr c.in-Flow.hash (c.at.ensures ∙ ap (λ p. Some p) c.in-Flow.is)
    (no_first c.args.passes.now c.in_default.len_below))

pub returns-in_default-clause-each : goal.returns-in_default-clause-each
returns-in_default-clause-each c =
    absurd (some_left IsShort c.args.packets.now.packets c.args.at c.args.passes.now c.requires.each c.in-Flow.addr c.in-Flow.hash (c.at.ensures ∙ ap (λ p. Some p) c.in-Flow.is)
    (no_first c.args.passes.now c.in_default.len_below))

pub put_pass-requires : goal.put_pass-requires
put_pass-requires c =
    (left_flow IsShort c.args.packets.now.packets c.args.at c.args.passes.now c.requires.each c.in-Flow.addr c.in-Flow.hash c.pass-item.result _ (c.at.ensures ∙ ap (λ p. Some p) c.in-Flow.is)
    (first_of c.args.passes.now c.pass-item.result c.in-len1-up.len_at_least c.pass-item.is)).0

pub returns-in_ok-put_not_ipv4-in-NotIpv4-clause-text : goal.returns-in_ok-put_not_ipv4-in-NotIpv4-clause-text
returns-in_ok-put_not_ipv4-in-NotIpv4-clause-text c =
    printed_on c.args.text.now.items c.put_not_ipv4.new.out.items _ _ _ c.in_ok-put_not_ipv4-in-NotIpv4.ensures.ok
    (text_not_ipv4 c.args.tables.now c.args.packets.now.packets c.args.at c.args.passes.now (c.at.ensures ∙ ap (λ p. Some p) c.in-NotIpv4.is))

pub returns-in_ok-put_not_ipv4-in-NotIpv4-clause-each : goal.returns-in_ok-put_not_ipv4-in-NotIpv4-clause-each
returns-in_ok-put_not_ipv4-in-NotIpv4-clause-each c =
    left_not_ipv4 IsShort c.args.packets.now.packets c.args.at c.args.passes.now c.requires.each (c.at.ensures ∙ ap (λ p. Some p) c.in-NotIpv4.is)

pub returns-in_ok-put_bad_header-in-BadHeader-clause-text : goal.returns-in_ok-put_bad_header-in-BadHeader-clause-text
returns-in_ok-put_bad_header-in-BadHeader-clause-text c =
    printed_on c.args.text.now.items c.put_bad_header.new.out.items _ _ _ c.in_ok-put_bad_header-in-BadHeader.ensures.ok
    (text_bad_header c.args.tables.now c.args.packets.now.packets c.args.at c.args.passes.now (c.at.ensures ∙ ap (λ p. Some p) c.in-BadHeader.is))

pub returns-in_ok-put_bad_header-in-BadHeader-clause-each : goal.returns-in_ok-put_bad_header-in-BadHeader-clause-each
returns-in_ok-put_bad_header-in-BadHeader-clause-each c =
    left_bad_header IsShort c.args.packets.now.packets c.args.at c.args.passes.now c.requires.each (c.at.ensures ∙ ap (λ p. Some p) c.in-BadHeader.is)

pub returns-in_ok-put_pass-in-Flow-clause-text : goal.returns-in_ok-put_pass-in-Flow-clause-text
returns-in_ok-put_pass-in-Flow-clause-text c =
    printed_on c.args.text.now.items c.put_pass.new.out.items _ _ _ c.in_ok-put_pass-in-Flow.ensures
    (text_flow c.args.tables.now c.args.packets.now.packets c.args.at c.in-Flow.addr c.in-Flow.hash c.args.passes.now c.pass-item.result _ (c.at.ensures ∙ ap (λ p. Some p) c.in-Flow.is)
    (first_of c.args.passes.now c.pass-item.result c.in-len1-up.len_at_least c.pass-item.is))

pub returns-in_ok-put_pass-in-Flow-clause-each : goal.returns-in_ok-put_pass-in-Flow-clause-each
returns-in_ok-put_pass-in-Flow-clause-each c =
    (left_flow IsShort c.args.packets.now.packets c.args.at c.args.passes.now c.requires.each c.in-Flow.addr c.in-Flow.hash c.pass-item.result _ (c.at.ensures ∙ ap (λ p. Some p) c.in-Flow.is)
    (first_of c.args.passes.now c.pass-item.result c.in-len1-up.len_at_least c.pass-item.is)).1
