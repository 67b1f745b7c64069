-- The result of a command, as the program returns it: the status 0, or the same report.
use Rattle.std.proofs.Common.{◌≡◌, Result, Ok, Err, sym, subst}
use Rattle.std.specs.Process.{exit_status}
use Rattle.std.specs.Result.{IfErr, IsOkAnd, OnOk}
use Rattle.command_line.specs.declared.request.Request.{Request}
use Rattle.messages.specs.declared.report.FaultReport.{FaultReport}
use Rattle.program_io.specs.Sessions.{State}
use Rattle.std.specs.declared.process.ExitCode.{ExitCode}
use Rattle.aggen_program.specs.Requests.{IsRefusedRequest}

pub refused : (asked is : Request) (old new : State) (performed : Result (Unit {0}) FaultReport) (r : Result ExitCode FaultReport)
    → asked ≡ is → OnOk performed (IsOkAnd r (λ code. exit_status code ≡ 0)) → IfErr performed (λ report. r ≡ Err report)
    → IfErr performed (λ report. IsRefusedRequest is old new report.fault)
    → IfErr r (λ report. IsRefusedRequest asked old new report.fault)
refused asked is old new (Ok u) (Ok code) same ok err was = tt
refused asked is old new (Ok u) (Err report) same ok err was = absurd ok
refused asked is old new (Err report) r same ok err was =
    subst (λ (x : Result ExitCode FaultReport). IfErr x (λ told. IsRefusedRequest asked old new told.fault)) (sym err)
    (subst (λ (x : Request). IsRefusedRequest x old new report.fault) (sym same) was)
