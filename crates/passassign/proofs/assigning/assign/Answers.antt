use Rattle.passassign.proofs.assigning.assign.Goals as goal

pub assign_all-requires-clause-accepted : goal.assign_all-requires-clause-accepted
assign_all-requires-clause-accepted c = (
  c.args.grammar.now,
  record {
    accepted = c.symbols.ensures.accepted;
    symbols_are = cc;
    productions_are = cc;
  },
)

pub returns-clause-few : goal.returns-clause-few
returns-clause-few c =
    c.in_ok-assignment.ensures.few c.args.grammar.now
    (record {
      accepted = c.symbols.ensures.accepted;
      symbols_are = cc;
      productions_are = cc;
    })
