use Rattle.backreader.proofs.Common
use Common.{◌≡◌, ◌-◌, length, drop, take, take_at, ◌++◌, arith, EndsAt, unread}
use Rattle.backreader.proofs.EndingAt.{read_occurs}
use Rattle.backreader.proofs.window.Window.fill.Goals as goal

pub returns-clause-occur : goal.returns-clause-occur
returns-clause-occur g c honest =
    let content = g.D.Device.content c.args.device.now in
    let w = c.move_to_end.new.self in
    let ys = c.read_part.new.buffer in
    let slid : EndsAt content w.at (unread w) =
    rw (c.move_to_end.ensures.at, c.move_to_end.ensures.unread)
    (c.requires (c.in_ok-read_part.ensures.persists.honest honest)) in
    let size : length ys ≡ length w.buffer.items = cc (c.in_ok-read_part.ensures.length, c.as_mut_slice.ensures.value) in
    let following : drop w.from ys ≡ drop w.from w.buffer.items =
    cc (c.in_ok-read_part.ensures.following, c.as_mut_slice.ensures.value) in
    let whole : take w.buffer.len (ys ++ drop (length ys) w.buffer.items) ≡ ys =
    take_at ys (drop (length ys) w.buffer.items) w.buffer.len
    (cc (c.in_ok-read_part.ensures.length, c.as_mut_slice.ensures.len)) in
    rw whole
    (read_occurs content w slid ys c.min-free.result size c.in_ok-read_part.ensures.bytes (omega arith) (omega arith) following
    (c.in_ok-read_part.ensures.read honest))
