-- The results for the grammar or the sentence of a job are results for the job.
use Rattle.aggen.proofs.Common.{inl, inr, refl}
use Rattle.std.proofs.lemmas.Result.{IfErr-weaker}
use Rattle.aggen.proofs.Exits.{at_exit}
use Rattle.aggen.proofs.Left.{no_parse_of_build, no_parse_of_job, none_after_build, none_after_job}
use Rattle.aggen.proofs.translations.job.run_job.Goals as goal

-- no translator can be built from the text
pub returns-in_err-translator-clause-refused : goal.returns-in_err-translator-clause-refused
returns-in_err-translator-clause-refused g c =
    at_exit _ _ _ c.from_residual-in_err-translator.ensures (inr (record {
      text = c.in_ok-job.job.grammar;
      sentence = c.in_ok-job.job.sentence;
      job = c.in_ok-job.ensures.job;
      exact = inl (record {
        reason = c.in_err-translator.field-0.0;
        named = refl;
        exact = rw c.grammar.ensures at c.in_err-translator.ensures.refused;
      });
    }))

-- the translation of the sentence by the grammar fails
pub returns-clause-refused : goal.returns-clause-refused
returns-clause-refused g c =
    let is = rw c.grammar.ensures at c.in_ok-translator.ensures.grammar in
    IfErr-weaker c.translate.result _ _ (λ e exact. inr (record {
      text = c.in_ok-job.job.grammar;
      sentence = c.in_ok-job.job.sentence;
      job = c.in_ok-job.ensures.job;
      exact = inr (c.in_ok-translator.translator, is, exact);
    })) (rw c.sentence.ensures at c.translate.ensures.refused)

-- ---- the contents of the devices

pub returns-in_err-job-clause-parsed : goal.returns-in_err-job-clause-parsed
returns-in_err-job-clause-parsed g c =
    at_exit _ _ _ c.from_residual.ensures (λ is. absurd (no_parse_of_job c.in_err-job.field-0.0 is))

pub returns-in_err-job-clause-files : goal.returns-in_err-job-clause-files
returns-in_err-job-clause-files g c =
    at_exit _ _ _ c.from_residual.ensures (λ is. absurd (none_after_job c.in_err-job.field-0.0 is))

pub returns-in_err-translator-clause-parsed : goal.returns-in_err-translator-clause-parsed
returns-in_err-translator-clause-parsed g c =
    at_exit _ _ _ c.from_residual-in_err-translator.ensures (λ is. absurd (no_parse_of_build c.in_err-translator.field-0.0 is))

pub returns-in_err-translator-clause-files : goal.returns-in_err-translator-clause-files
returns-in_err-translator-clause-files g c =
    at_exit _ _ _ c.from_residual-in_err-translator.ensures (λ is. absurd (none_after_build c.in_err-translator.field-0.0 is))

pub returns-clause-files : goal.returns-clause-files
returns-clause-files g c =
    let is = rw c.grammar.ensures at c.in_ok-translator.ensures.grammar in
    IfErr-weaker c.translate.result _ _ (λ e files. λ after. record {
      text = c.in_ok-job.job.grammar;
      sentence = c.in_ok-job.job.sentence;
      job = c.in_ok-job.ensures.job;
      grammar = c.in_ok-translator.translator;
      is = is;
      files = files after;
    }) (rw c.sentence.ensures at c.translate.ensures.files)
