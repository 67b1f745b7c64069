-- The remaining goals of `new`.
use Rattle.std.proofs.Common.{◌∙◌, ◌≡◌, length}
use Rattle.std.proofs.lemmas.List.{length-map}
use Rattle.closure.specs.Waiting.{rows}
use Rattle.closure.proofs.clauses.Clauses.new.Goals as goal

pub invariant_of-result : goal.invariant_of-result
invariant_of-result c =
    let count : length (rows c.in_ok-uses.uses.items) ≡ c.args.count =
    length-map c.in_ok-uses.uses.items _ ∙ c.in_ok-uses.ensures.len in record {
      below = rw count c.requires;
      listed = rw (← c.as_slice.ensures.value) c.in_ok-uses.ensures.listed;
      fits = rw (← c.as_slice.ensures.value) c.in_ok-uses.ensures.fits;
      facts_listed = rw (← c.as_slice-2.ensures.value) c.in_ok-facts.ensures.listed;
      facts_fit = rw (← c.as_slice-2.ensures.value) c.in_ok-facts.ensures.fits;
    }
