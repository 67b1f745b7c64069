use Rattle.std.proofs.Common.{ℕ, List, None, ◌∙◌, subst}
use Rattle.aggen.specs.Checking.{IsGrammarOf}
use Rattle.program_io.specs.Sessions.{State, path_of}
use Rattle.translation_commands.proofs.Batches.{status_computed}
use Rattle.translation_commands.specs.Batches.{AreDone}
use Rattle.translation_commands.specs.declared.batch.Task.{Task}
use Rattle.translation_commands.proofs.batch.run_sentences.Goals as goal

pub returns-clause-ran : goal.returns-clause-ran
returns-clause-ran g c =
    let translator = c.in_ok-translator.translator in
    let work = path_of c.args.paths.now.work in
    let new = c.translate_each-first.new.session in
    let first = c.translate_each-first.result in
    record {
      tasks = c.in-Ok.tasks.items;
      sentences = c.in-Ok.ensures;
      first = first;
      grammar = record {
        text = c.in_ok-text.text.items;
        grammar = translator;
        is =
            subst (λ (w : List ℕ). IsGrammarOf w translator) c.as_slice-2.ensures.value
            (subst (λ (w : List ℕ). IsGrammarOf w translator) c.new-grammar.ensures.bytes c.in_ok-translator.ensures.built);
        holds =
            subst (λ (s : State). AreDone translator work c.in-Ok.tasks.items s new None first) c.in_ok-text.ensures.read
            (subst (λ (ts : List Task). AreDone translator work ts c.read.new.self new None first) c.as_slice-3.ensures.value
            c.translate_each-first.ensures);
      };
      is = c.from.ensures ∙ (c.unwrap_or.ensures ∙ status_computed first);
    }
