use Rattle.backreader.proofs.Common.{◌≡◌, ◌-◌, slice_range, rules, unread}
use Rattle.backreader.proofs.window.Window.next.Goals as goal

-- after NoMemory the bytes that `length_before` read are dropped: the unread bytes are those before the call
pub returns-then-is_err-clause-occur : goal.returns-then-is_err-clause-occur
returns-then-is_err-clause-occur g c honest =
    let old = c.args.self.now in
    let new = c.grow.new.self in
    let forgotten : slice_range new.buffer.items (new.to - (old.to - old.from)) new.to ≡ unread old = search rules in
    rw (c.grow.ensures.at, c.in_ok-length.ensures.at, forgotten)
    (c.requires (c.in_ok-length.ensures.persists.honest honest))

-- a body was taken
pub returns-clause-occur : goal.returns-clause-occur
returns-clause-occur g c honest =
    c.take-2.ensures.occur (g.D.Device.content c.args.device.now)
    (rw (c.in_ok-length.ensures.content (c.in_ok-ensure_loaded.ensures.persists.honest honest)) at
    (c.in_ok-ensure_loaded.ensures.occur honest))
