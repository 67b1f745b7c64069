use Rattle.ag_scan.proofs.literals.Literals.new.Goals as goal

pub starts_of-requires-clause-texts : goal.starts_of-requires-clause-texts
starts_of-requires-clause-texts c =
    λ k w at. c.requires.not_empty w.number w.text.now
    (c.in_ok-entries.ensures.literals.numbered k w (rw c.as_slice-2.ensures.value at at))
