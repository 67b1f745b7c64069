use Rattle.std.proofs.Common.{take}
use Rattle.std.specs.Prelude.{flat_map}
use Rattle.std.specs.Fmt.{HasWritten, IsPlainFormatter}
use Rattle.ag_fault.specs.Printed.{attribute_text}
use Rattle.ag_fault.proofs.display.write_attributes.Given as goal

-- if the formatter has no options, it has written exactly the attributes before the index
abbrev pub invariant-loop-attribute : goal.invariant-loop-attribute
invariant-loop-attribute g l =
    IsPlainFormatter l.fn.f → HasWritten g.W.Write.write_str_gives l.fn.f
    (flat_map (attribute_text l.grammar) (take l.attribute-index l.attributes)) l.f
