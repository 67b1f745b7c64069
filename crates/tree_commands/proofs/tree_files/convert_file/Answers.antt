use Rattle.std.proofs.Common.{inr, ◌∷◌, subst}
use Rattle.std.proofs.lemmas.Result.{IfErr-weaker}
use Rattle.ag_grammar.specs.grammars.AttributeGrammar.{Grammar}
use Rattle.program_io.specs.Sessions.{State, read_event}
use Rattle.tree_commands.specs.TreeFiles.{IsUnconverted}
use Rattle.tree_commands.proofs.tree_files.convert_file.Goals as goal

pub returns-clause-refused : goal.returns-clause-refused
returns-clause-refused g c =
    let built = c.in_ok-translator.ensures.built in
    let paths = c.args.paths.now in
    let new = c.convert_with.new.session in
    IfErr-weaker c.convert_with.result _ _ (λ report is. inr (inr (record {
      text = built.text;
      grammar = built.grammar;
      is = built.is;
      holds =
          subst (λ (x : Grammar). IsUnconverted x paths (read_event paths.grammar built.text ∷ c.args.session.now.events) new report.fault)
          built.holds.0
          (subst (λ (s : State). IsUnconverted c.in_ok-translator.translator paths s.events new report.fault) built.holds.1 is);
    }))) c.convert_with.ensures.refused
