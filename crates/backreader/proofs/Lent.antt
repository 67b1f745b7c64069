-- A body that a device lends: it is what reading finds before the offset, and no bytes are buffered after it is lent.
use Rattle.backreader.proofs.Common
use Common.{◌≡◌, ◌<◌, ◌≤◌, ◌-◌, ℕ, List, [], Some, Ok, length, drop, arith, EndsAt, IsBytes, body_before, header_bytes, Version}
use Rattle.std.proofs.lemmas.Bool.Decides.{nat_tests}
use Rattle.treefile.specs.framing.Backward.{next_before}

pub next_is_body : (version : Version) (content body : List ℕ) (at : ℕ) → header_bytes < at
    → body_before version content at ≡ Ok body → next_before version content at ≡ Ok (Some body)
unfolding next_before
next_is_body version content body at far e = rw e (grind (arith, nat_tests))

-- a reader may have no bytes buffered before an offset, if the content has only bytes from there on
pub none_occur : (content : List ℕ) (at : ℕ) (bytes : List ℕ) → at ≤ length content → bytes ≡ [] → IsBytes (drop at content)
    → EndsAt content at bytes
none_occur content at bytes within e known =
    let z : at - 0 ≡ at = omega arith in
    let y : at - at ≡ 0 = omega arith in
    rw e record { within = within; occur = rw (z, y); known = rw z known }
