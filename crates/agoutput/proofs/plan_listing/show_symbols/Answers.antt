use Rattle.std.proofs.Common.{List, ℕ, ◌∙◌, ◌++◌, ap, string_bytes}
use Rattle.std.proofs.lemmas.Iterator.{YieldsList-from_slice, YieldsList-from_zip}
use Rattle.std.proofs.lemmas.Iterator.Consumers.{YieldsList-at, YieldsList-end}
use Rattle.std.specs.Global.{Vec}
use Rattle.ag_grammar.specs.declared.grammar.Symbol.{Symbol}
use Rattle.agoutput.proofs.Loops.{shown_all, through}
use Rattle.agoutput.specs.Listings.{symbol_text}
use Rattle.agoutput.proofs.plan_listing.show_symbols.Goals as goal

-- at the end the loop has visited all symbols with their rows
pub returns : goal.returns
returns c =
    let k = c.args.pass in
    let start = string_bytes c.args.out.now in
    let road =
    YieldsList-at c.into_iter-symbol-iterator.ensures.into_iter_gives
    (YieldsList-from_zip (YieldsList-at c.zip-symbol-items.ensures.first (YieldsList-from_slice c.args.symbols.now cc))
    (YieldsList-at c.zip-symbol-items.ensures.second (YieldsList-from_slice c.args.rows.now cc))) in
    let all =
    YieldsList-end road c.loop-symbol.yielded c.loop-symbol.symbol-iterator c.loop-symbol.yielded_by c.next.result
    c.next.new.self c.in-None.is c.next.ensures.steps in
    shown_all (λ (p : Symbol × Vec ℕ). symbol_text k (p.0, p.1.items)) (λ p. (p.0.now, p.1.now)) start
    (string_bytes c.loop-symbol.out) c.loop-symbol.yielded _ c.loop-symbol.invariant all.0
    ∙ ap (λ (text : List ℕ). start ++ text)
    (through (symbol_text k) (λ (row : Vec ℕ). row.items) c.args.symbols.now c.args.rows.now)
