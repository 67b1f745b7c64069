use Rattle.std.proofs.Common.{ℕ, List, inr, subst}
use Rattle.std.proofs.lemmas.Result.{IfErr-weaker}
use Rattle.aggen.specs.Checking.{IsGrammarOf}
use Rattle.program_io.specs.Sessions.{State, path_of}
use Rattle.translation_commands.specs.Runs.{IsUndelivered}
use Rattle.translation_commands.proofs.translations.run_sentence.Goals as goal

pub returns-clause-refused : goal.returns-clause-refused
returns-clause-refused g c =
    let translator = c.in_ok-translator.translator in
    let paths = c.args.paths.now in
    let new = c.deliver.new.session in
    IfErr-weaker c.deliver.result _ _ (λ report is. inr (inr (record {
      text = c.in_ok-text.text.items;
      grammar = translator;
      is =
          subst (λ (w : List ℕ). IsGrammarOf w translator) c.as_slice.ensures.value
          (subst (λ (w : List ℕ). IsGrammarOf w translator) c.new-grammar.ensures.bytes c.in_ok-translator.ensures.built);
      holds =
          subst (λ (s : State). IsUndelivered translator (path_of paths.work) paths.sentence (path_of paths.output) s.events new report.fault)
          c.in_ok-text.ensures.read is;
    }))) c.deliver.ensures.refused
