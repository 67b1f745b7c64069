use Rattle.passassign.proofs.Common
use Common.{◌≡◌, ◌<◌, ◌++◌, [], ◌∷◌, Some, slice_get, length, refl, append_assoc, arith, append-nil, slice_get-get_or, strike_at}
use Rattle.passassign.proofs.slots.Lists.{get_push_front}
use Rattle.passassign.proofs.strikes.Walked.{among_more, none}
use Rattle.passassign.proofs.chain.chain_from.Goals as goal

pub loop-before-preserved : goal.loop-before-preserved
loop-before-preserved c =
    let g = c.args.grammar.now in
    let d = c.args.direction in
    let xs = c.args.strikes.now in
    let j = c.in-Some.before in
    let links = c.loop-before.links.items in
    let y = strike_at xs j in
    let items : c.push-in-Some.new.self.items ≡ links ++ y ∷ [] = c.in_ok-push-2.ensures.items in
    let first : slice_get xs c.args.at ≡ Some (strike_at xs c.args.at) = slice_get-get_or xs c.args.at none c.requires in
    let within : j < length xs = omega (arith, c.in-Some.ensures.found.0, c.loop-before.invariant.within) in
    record {
      within = within;
      first = rw items (cc (get_push_front links y (strike_at xs c.args.at) 0 (cc)));
      among =
          among_more xs links c.push-in-Some.new.self.items y items
          (j, slice_get-get_or xs j none within) c.loop-before.invariant.among;
      linked =
          λ ys h. rw (items, append_assoc) (c.loop-before.invariant.linked (y ∷ ys) (c.in-Some.ensures.found.1, h));
    }

pub returns-clause-linked : goal.returns-clause-linked
returns-clause-linked c =
    λ order. rw append-nil at (c.loop-before.invariant.linked [] (c.in_default.ensures.none refl order, tt))
