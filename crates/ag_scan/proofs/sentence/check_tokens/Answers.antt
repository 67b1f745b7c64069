use Rattle.std.proofs.Common.{◌<◌, length, arith}
use Rattle.std.proofs.lemmas.Bool.Decides.{nat_tests}
use Rattle.ag_scan.proofs.Cut.{all_cut}
use Rattle.ag_scan.proofs.Listing.{starts, shorter, goes_on, stops}
use Rattle.ag_scan.proofs.sentence.check_tokens.Goals as goal

pub loop-rest-init : goal.loop-rest-init
loop-rest-init c =
    let next = c.skip_separators-rest in (
      next.utf8,
      starts c.utf8.text next.utf8 next.ensures,
    )

pub returns-in-Err-clause-refused : goal.returns-in-Err-clause-refused
returns-in-Err-clause-refused c =
    let (utf8, scanned) = c.loop-rest.invariant in
    let test = c.loop-rest-test.ensures in
    let some : 0 < length c.loop-rest.rest.now = grind (arith, nat_tests) in
    stops (record { short = c.requires.short; utf8 = c.utf8.text }) scanned c.in-Err.fault utf8 some c.in-Err.ensures.stopped

pub loop-rest-smaller : goal.loop-rest-smaller
loop-rest-smaller c =
    let next = c.skip_separators-rest-in-loop-rest in
    shorter c.args.text.now c.loop-rest.rest.now next.result.now c.loop-rest.invariant.0 next.utf8 c.in-Ok.ensures.took.1
    next.ensures c.requires.clean.some

pub loop-rest-preserved : goal.loop-rest-preserved
loop-rest-preserved c =
    let (utf8, scanned) = c.loop-rest.invariant in
    let next = c.skip_separators-rest-in-loop-rest in (
      next.utf8,
      goes_on c.args.text.now c.loop-rest.rest.now next.result.now utf8 next.utf8 c.in-Ok.ensures.took.1 next.ensures scanned,
    )

pub returns : goal.returns
returns c =
    let (utf8, scanned) = c.loop-rest.invariant in
    let (tokens, fit) =
    all_cut c.requires.clean (record { short = c.requires.short; utf8 = c.utf8.text }) scanned c.loop-rest-test.ensures in
    record { tokens = tokens; fit = fit; refused = tt }
