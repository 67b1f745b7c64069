-- The results of `read` hold for all bytes of the reader, not only for the bytes that were read.
use Rattle.std.proofs.Common.{◌≤◌, arith, length, take, drop, subst}
use Rattle.ag_job.specs.Jobs.{AreParts, HasNoSeparator, IsJob, max_job_bytes}
use Rattle.ag_job.proofs.Known.{longer, exact, whole}
use Rattle.ag_job.proofs.job.Job.read.Goals as goal

pub returns-then-len-gt-MAX_JOB_BYTES-clause-refused : goal.returns-then-len-gt-MAX_JOB_BYTES-clause-refused
returns-then-len-gt-MAX_JOB_BYTES-clause-refused g c =
    longer (g.R.Read.remaining c.args.reader) c.in_ok-bytes.bytes.items max_job_bytes c.in_ok-bytes.ensures
    (omega (arith, c.len.ensures, c.if-len-gt-MAX_JOB_BYTES.true))

pub returns-in-Some-clause-job : goal.returns-in-Some-clause-job
returns-in-Some-clause-job g c =
    let few : length c.in_ok-bytes.bytes.items ≤ max_job_bytes = omega (arith, c.len.ensures, c.if-len-gt-MAX_JOB_BYTES.false) in
    let parts = c.in-Some.ensures.parts in
    let same = c.as_slice.ensures.value in
    exact
    (λ bytes. IsJob bytes (take c.in-Some.cut.text c.in_ok-bytes.bytes.items)
    (drop c.in-Some.cut.sentence c.in_ok-bytes.bytes.items)) (g.R.Read.remaining c.args.reader) c.in_ok-bytes.bytes.items
    (whole (g.R.Read.remaining c.args.reader) c.in_ok-bytes.bytes.items max_job_bytes c.in_ok-bytes.ensures few)
    (record {
      within = few;
      parts =
          subst
          (λ bytes. AreParts bytes (take c.in-Some.cut.text bytes) (drop c.in-Some.cut.sentence bytes))
          same parts;
    })

pub returns-in-None-clause-refused : goal.returns-in-None-clause-refused
returns-in-None-clause-refused g c =
    let few : length c.in_ok-bytes.bytes.items ≤ max_job_bytes = omega (arith, c.len.ensures, c.if-len-gt-MAX_JOB_BYTES.false) in
    let none = c.in-None.ensures.none in
    let same = c.as_slice.ensures.value in
    exact (λ bytes. (length bytes ≤ max_job_bytes) × HasNoSeparator bytes)
    (g.R.Read.remaining c.args.reader) c.in_ok-bytes.bytes.items
    (whole (g.R.Read.remaining c.args.reader) c.in_ok-bytes.bytes.items max_job_bytes c.in_ok-bytes.ensures few)
    (few, subst HasNoSeparator same none)
