use Rattle.std.proofs.Common.{Some, ap, sym, ◌∙◌}
use Rattle.std.proofs.lemmas.Slice.Eq.{bytes_eq-Decides}
use Rattle.message_parts.proofs.names.has_name.Goals as goal

pub returns-in-Some : goal.returns-in-Some
returns-in-Some c =
    λ t. c.in-Some.ensures.some ∙ ap Some ((bytes_eq-Decides c.in-Some.own.now c.args.name.now).0 (sym c.eq.ensures ∙ t))
