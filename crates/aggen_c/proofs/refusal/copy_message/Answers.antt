use Rattle.aggen_c.proofs.refusal.copy_message.Goals as goal

pub returns-in-Some : goal.returns-in-Some
returns-in-Some c =
    record { message = c.as_bytes.result.now; copied = c.copy_prefix.ensures.copied; counted = c.copy_prefix.ensures.count }
