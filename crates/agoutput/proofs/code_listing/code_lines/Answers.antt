use Rattle.std.proofs.Common.{ℕ, ◌∙◌, [], ap, string_bytes}
use Rattle.std.proofs.lemmas.Iterator.{YieldsList-from_slice, YieldsList-from_zip}
use Rattle.std.proofs.lemmas.Iterator.Consumers.{YieldsList-at, YieldsList-end, YieldsList-from_enumerate}
use Rattle.std.specs.Global.{Vec}
use Rattle.std.specs.List.{enumerate_from}
use Rattle.ag_grammar.specs.declared.grammar.Production.{Production}
use Rattle.passcode.specs.Rows.{Lists, row_of}
use Rattle.passcode.specs.declared.instr.Instr.{Instr}
use Rattle.agoutput.proofs.Loops.{shown_all, through}
use Rattle.agoutput.specs.Listings.{code_text, production_text}
use Rattle.agoutput.proofs.code_listing.code_lines.Goals as goal

-- at the end the loop has visited all productions with their lists
pub returns : goal.returns
returns c =
    let g = c.args.grammar.now in
    let productions =
    YieldsList-from_enumerate (YieldsList-at c.enumerate-productions.ensures.source (YieldsList-from_slice g.productions cc))
    c.enumerate-productions.ensures.count in
    let road =
    YieldsList-at c.into_iter-number-iterator.ensures.into_iter_gives
    (YieldsList-from_zip (YieldsList-at c.zip-number-items.ensures.first productions)
    (YieldsList-at c.zip-number-items.ensures.second (YieldsList-from_slice c.rows.result.now cc))) in
    let all =
    YieldsList-end road c.loop-number.yielded c.loop-number.number-iterator c.loop-number.yielded_by c.next.result
    c.next.new.self c.in-None.is c.next.ensures.steps in
    shown_all (λ (p : (ℕ × Production) × Vec (Vec Instr)). production_text g (p.0, row_of p.1.items))
    (λ p. ((p.0.0, p.0.1.now), p.1.now)) []
    (string_bytes c.loop-number.out) c.loop-number.yielded _ c.loop-number.invariant all.0
    ∙ through (production_text g) (λ (v : Vec (Vec Instr)). row_of v.items) (enumerate_from 0 g.productions) c.rows.result.now
    ∙ ap (λ (code : Lists). code_text g code) c.rows.ensures
