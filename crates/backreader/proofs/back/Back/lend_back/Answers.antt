use Rattle.backreader.proofs.Common
use Common.{rules, ◌≡◌, ◌<◌, length, arith, unread, before_frame, header_bytes, version_of}
use Common.{version_two}
use Rattle.backreader.proofs.Lent.{next_is_body, none_occur}
use Rattle.backreader.proofs.back.Back.lend_back.Goals as goal

pub returns-clause-after : goal.returns-clause-after
returns-clause-after g c =
    let content = g.D.Device.content c.args.device.now in
    let body = c.in_ok-body.body in
    let new = c.pass_over.new.self in
    let place : c.at-at.result ≡ c.self.inside.window.at = search rules in
    let long : c.len-length.result ≡ length body = search rules in
    let here : new.at ≡ before_frame c.self.inside.window.at body = omega (arith, c.pass_over.ensures.at, long) in
    record {
      over = λ h. record {
        window = none_occur content new.at (unread new)
            (let over = rw (← c.self.view_is) at (c.requires h) in omega (arith, over.window.within, c.pass_over.ensures.at))
            c.pass_over.ensures.unread (rw (here, ← place) (c.in_ok-body.ensures.bytes h));
        header = (c.requires h).header;
      };
      progress = rw (← c.self.view_is, c.pass_over.ensures.version, here);
      resource = search rules;
    }

pub returns-clause-exact : goal.returns-clause-exact
returns-clause-exact g c = λ h.
    let place : c.at-at.result ≡ c.self.inside.window.at = search rules in
    let version : version_of c.self.inside.window.version ≡ version_two = search rules in
    let far : header_bytes < c.at-at.result = omega (arith, c.if-not-fits_before.ensures.room) in
    rw (← c.self.view_is, version, ← place)
    (next_is_body version_two (g.D.Device.content c.args.device.now) c.in_ok-body.body c.at-at.result far
    (c.in_ok-body.ensures.body h))
