use Rattle.pass_rows.proofs.Common.{◌≡◌, ◌∷◌, ◌++◌, [], rules, arith, Num, cast_signed, cast_unsigned, w64}
use Rattle.pass_rows.proofs.Recorded.{taken_later, taken_place, taken_value}
use Rattle.pass_rows.proofs.reading.record.take_number.Goals as goal

pub returns-then-pass-k-clause-taken : goal.returns-then-pass-k-clause-taken
returns-then-pass-k-clause-taken c =
    let number = c.in-Some.number in
    let same : cast_signed w64 (cast_unsigned w64 number) ≡ number = search rules in
    let pushed : c.push_reserved.new.self.items ≡ c.args.values.now.items ++ Num (cast_signed w64 (cast_unsigned w64 number))
    ∷ [] = search rules in
    taken_value c.if-pass-k.true c.in-Some.ensures.well c.in-Some.ensures.spelled (rw same at pushed)

pub returns-then-pass-k-2-clause-taken : goal.returns-then-pass-k-2-clause-taken
returns-then-pass-k-2-clause-taken c =
    taken_place c.requires.writes (omega (arith, c.if-pass-k-2.true)) (search rules)

pub returns-clause-taken : goal.returns-clause-taken
returns-clause-taken c = taken_later c.requires.writes (omega (arith, c.if-pass-k.false, c.if-pass-k-2.false))
