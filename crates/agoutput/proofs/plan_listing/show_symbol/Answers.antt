use Rattle.std.proofs.Common.{string_bytes}
use Rattle.std.proofs.lemmas.Iterator.{YieldsList-from_slice, YieldsList-from_zip}
use Rattle.std.proofs.lemmas.Iterator.Consumers.{YieldsList-at, YieldsList-end, YieldsList-from_chain}
use Rattle.agoutput.proofs.Loops.{shown_all}
use Rattle.agoutput.specs.Listings.{attribute_text}
use Rattle.agoutput.proofs.plan_listing.show_symbol.Goals as goal

-- at the end the loop has visited all attributes with their passes
pub returns : goal.returns
returns c =
    let symbol = c.args.symbol.now in
    let names =
    YieldsList-from_chain (YieldsList-at c.chain-names.ensures.first (YieldsList-from_slice symbol.syn cc))
    (YieldsList-at c.chain-names.ensures.second (YieldsList-from_slice symbol.inh cc)) c.chain-names.ensures.first_done
    c.chain-names.ensures.second_done in
    let road =
    YieldsList-at c.into_iter-name-iterator.ensures.into_iter_gives
    (YieldsList-from_zip (YieldsList-at c.zip-name-items.ensures.first names)
    (YieldsList-at c.zip-name-items.ensures.second (YieldsList-from_slice c.args.passes.now cc))) in
    let all =
    YieldsList-end road c.loop-name.yielded c.loop-name.name-iterator c.loop-name.yielded_by c.next.result c.next.new.self
    c.in-None.is c.next.ensures.steps in
    shown_all (attribute_text c.args.pass symbol.name) (λ p. (p.0.now, p.1.now)) (string_bytes c.args.out.now)
    (string_bytes c.loop-name.out) c.loop-name.yielded _ c.loop-name.invariant all.0
