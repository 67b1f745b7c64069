use Rattle.command_line.specs.declared.request.Request.TheVariants as request
use Rattle.aggen_program.proofs.Performed.{refused}
use Rattle.aggen_program.proofs.perform.Goals as goal

pub returns-in-Job-clause-refused : goal.returns-in-Job-clause-refused
returns-in-Job-clause-refused g c =
    refused c.args.request.now request.Job c.args.session.now c.run_input.new.session c.run_input.result c.done-in-Job.result c.in-Job.is
    c.done-in-Job.ensures.ok c.done-in-Job.ensures.err c.run_input.ensures.refused

pub returns-in-Run-clause-refused : goal.returns-in-Run-clause-refused
returns-in-Run-clause-refused g c =
    refused c.args.request.now (request.Run c.in-Run.paths) c.args.session.now c.run_sentence.new.session c.run_sentence.result c.done-in-Run.result c.in-Run.is
    c.done-in-Run.ensures.ok c.done-in-Run.ensures.err c.run_sentence.ensures.refused

pub returns-in-Eval-clause-refused : goal.returns-in-Eval-clause-refused
returns-in-Eval-clause-refused g c =
    refused c.args.request.now (request.Eval c.in-Eval.paths) c.args.session.now c.evaluate.new.session c.evaluate.result c.done-in-Eval.result c.in-Eval.is
    c.done-in-Eval.ensures.ok c.done-in-Eval.ensures.err c.evaluate.ensures.refused

pub returns-in-Check-clause-refused : goal.returns-in-Check-clause-refused
returns-in-Check-clause-refused g c =
    refused c.args.request.now (request.Check c.in-Check.grammar) c.args.session.now c.print_part.new.session c.print_part.result c.done-in-Check.result c.in-Check.is
    c.done-in-Check.ensures.ok c.done-in-Check.ensures.err c.print_part.ensures.refused

pub returns-in-Plan-clause-refused : goal.returns-in-Plan-clause-refused
returns-in-Plan-clause-refused g c =
    refused c.args.request.now (request.Plan c.in-Plan.grammar) c.args.session.now c.print_part-in-Plan.new.session c.print_part-in-Plan.result c.done-in-Plan.result c.in-Plan.is
    c.done-in-Plan.ensures.ok c.done-in-Plan.ensures.err c.print_part-in-Plan.ensures.refused

pub returns-in-Code-clause-refused : goal.returns-in-Code-clause-refused
returns-in-Code-clause-refused g c =
    refused c.args.request.now (request.Code c.in-Code.grammar) c.args.session.now c.print_part-in-Code.new.session c.print_part-in-Code.result c.done-in-Code.result c.in-Code.is
    c.done-in-Code.ensures.ok c.done-in-Code.ensures.err c.print_part-in-Code.ensures.refused

pub returns-in-Parse-clause-refused : goal.returns-in-Parse-clause-refused
returns-in-Parse-clause-refused g c =
    refused c.args.request.now (request.Parse c.in-Parse.paths) c.args.session.now c.parse_file.new.session c.parse_file.result c.done-in-Parse.result c.in-Parse.is
    c.done-in-Parse.ensures.ok c.done-in-Parse.ensures.err c.parse_file.ensures.refused

pub returns-in-Upgrade-clause-refused : goal.returns-in-Upgrade-clause-refused
returns-in-Upgrade-clause-refused g c =
    refused c.args.request.now (request.Upgrade c.in-Upgrade.paths) c.args.session.now c.convert_file.new.session c.convert_file.result c.done-in-Upgrade.result c.in-Upgrade.is
    c.done-in-Upgrade.ensures.ok c.done-in-Upgrade.ensures.err c.convert_file.ensures.refused
