use Rattle.std.proofs.Common.{◌∙◌}
use Rattle.fib_soak.proofs.Texts.{three_lines}
use Rattle.fib_soak.proofs.script.put_interface.Goals as goal

pub returns : goal.returns
returns c = three_lines _ _ _ _ _ _ _ _ _ _ (c.as_bytes.ensures.value ∙ c.in_ok-create_line.ensures) (c.as_bytes-2.ensures.value ∙ c.in_ok-up_line.ensures) (c.as_bytes-3.ensures.value ∙ c.in_ok-address_line.ensures) c.in_ok-put_line.ensures c.in_ok-put_line-2.ensures c.in_ok-put_line-3.ensures
