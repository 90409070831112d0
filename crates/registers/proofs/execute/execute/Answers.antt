-- `registers::execute::execute` meets its promise.
use Rattle.std.proofs.Common.{sym, ◌∙◌, ap₂}
use Rattle.instructions.specs.Record.{with_reg}
use Rattle.registers.proofs.Executing.{executed-value, next_key-value}
use Rattle.registers.proofs.execute.execute.Goals as goal

pub returns-then-has_value : goal.returns-then-has_value
returns-then-has_value c =
    let has = sym c.has_value.ensures ∙ c.if-has_value.true in
    let kept = c.args.r.now in
    let written = ap₂ (λ n v. with_reg n v kept) c.field_a-a.ensures.0 c.value-v.ensures in
    let read = c.set_register.ensures ∙ written in
    record {
      record' = executed-value _ _ _ _ _ _ _ _ has read c.behind.ensures;
      key' = next_key-value _ _ _ has;
    }
