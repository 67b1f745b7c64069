use Rattle.std.proofs.Common.{inr, ℕ, List, ap, refl, subst, ◌∙◌}
use Rattle.std.proofs.lemmas.Result.{IfErr-weaker, IfOk-weaker}
use Rattle.aggen.specs.Checking.{IsGrammarOf}
use Rattle.aggen.specs.Jobs.{IsNoTranslator}
use Rattle.program_io.specs.Sessions.{State}
use Rattle.program_io.proofs.session.Session.read_translator.Goals as goal

pub returns-clause-built : goal.returns-clause-built
returns-clause-built g c =
    IfOk-weaker c.build_translator.result _ _ (λ grammar is. record {
      text = c.in_ok-bytes.bytes.items;
      grammar = grammar;
      is = subst (λ (w : List ℕ). IsGrammarOf w grammar) (c.new.ensures.bytes ∙ c.as_slice.ensures.value) is;
      holds = (refl, c.in_ok-bytes.ensures.read);
    }) c.build_translator.ensures.built

pub returns-clause-refused : goal.returns-clause-refused
returns-clause-refused g c =
    IfErr-weaker c.build_translator.result _ _ (λ report is. inr (record {
      text = c.in_ok-bytes.bytes.items;
      done = ap (λ (s : State). s.events) c.in_ok-bytes.ensures.read;
      reason =
          subst (λ (w : List ℕ). IsNoTranslator w report.fault) (c.new.ensures.bytes ∙ c.as_slice.ensures.value) is;
    })) c.build_translator.ensures.refused
