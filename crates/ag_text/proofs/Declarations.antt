-- A declaration of either kind takes at least one token.
use Rattle.std.proofs.Common.{◌≡◌, ◌<◌, true, false, if◌then◌else◌, length, Ok, codes, subst}
use Rattle.ag_tokens.specs.PlacedToken.{Input}
use Rattle.ag_tokens.specs.Parsing.{◌>>=◌, pure, sees}
use Rattle.ag_expr.proofs.reading.Exact.{opened, answered}
use Rattle.ag_expr.proofs.reading.Steady.{Shortens}
use Rattle.ag_text.specs.Meanings.{is_word}
use Rattle.ag_text.specs.Reading.{symbol_from, production_from}
use Rattle.ag_text.specs.Resuming.{declaration_from}
use Rattle.ag_text.specs.declared.declaration.Declaration.TheVariants as declaration
use Rattle.ag_text.specs.declared.stop.Stop.{Stop}
use Rattle.ag_text.proofs.Grammars.{symbol_shortens, production_shortens}

pub declaration_shortens : Shortens declaration_from
unfolding declaration_from
declaration_shortens i j d =
    elim (sees (is_word (codes "symbol")) i) as (λ b.
    (if b then (symbol_from >>= λ s. pure (declaration.Symbol s)) i else (production_from >>= λ p. pure (declaration.Production p)) i)
    ≡ Ok (d, j) → length j.left < length i.left) [
      | true ↦ λ h.
          let one = opened (symbol_from i) (λ s. pure (declaration.Symbol s)) (d, j) h in
          let same = answered {Fault = Stop} (declaration.Symbol one.0.0) d one.0.1 j one.2 in
          subst (λ (k : Input). length k.left < length i.left) same.1 (symbol_shortens i one.0.1 one.0.0 one.1)
      | false ↦ λ h.
          let one = opened (production_from i) (λ p. pure (declaration.Production p)) (d, j) h in
          let same = answered {Fault = Stop} (declaration.Production one.0.0) d one.0.1 j one.2 in
          subst (λ (k : Input). length k.left < length i.left) same.1 (production_shortens i one.0.1 one.0.0 one.1)
    ]
