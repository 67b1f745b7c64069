use Rattle.std.proofs.Common.{◌≡◌, true}
use Rattle.std.proofs.lemmas.Str.{is_utf8-from_IsUtf8}
use Rattle.ag_value.specs.Well.{is_before}
use Rattle.ag_value.proofs.Keys.{last_key, next_key, not_ge}
use Rattle.ag_value.proofs.walks.wellness.has_ascending_keys.Goals as goal

pub loop-pair-preserved : goal.loop-pair-preserved
loop-pair-preserved c =
    let key = c.as_str-key.ensures in
    let before : is_before c.loop-pair.before.now c.as_str-key.result.now ≡ true = not_ge _ c.if-ge.ensures in (
      rw key
          (next_key c.loop-pair.before.now _ c.loop-pair.pair-index c.pair-item.result _ c.loop-pair-test.true c.pair-item.is
          (rw key at before) (is_utf8-from_IsUtf8 _ c.loop-pair.invariant.1) c.loop-pair.invariant.0),
      c.as_str-key.utf8,
    )

pub returns : goal.returns
returns c =
    last_key c.loop-pair.before.now _ c.loop-pair.pair-index _ c.loop-pair-test.false
    (is_utf8-from_IsUtf8 _ c.loop-pair.invariant.1) c.loop-pair.invariant.0
