-- A sentence has at most one answer.
use Rattle.ag_scan.specs.Laws.{AtMostOneAnswer}
use Rattle.ag_scan.proofs.Answered.{accepted_clean, is_answer}

pub at_most_one : AtMostOneAnswer
at_most_one g accepted s q r a b =
    let clean = accepted_clean g accepted in
    cc (is_answer clean s q a, is_answer clean s r b)
