-- Values that are the same up to a pass have the same file of this pass.
use Rattle.treefile.proofs.Common
use Common.{◌≡◌, ℕ, suc, ◌≤◌, List, [], ◌∷◌, slice_get, refl, arith, nat_tests, Value, Grammar, Passes, AtEachNodeOf, Same}
use Common.{SameAt, Valuation, children, left_passes, rest, Tree, Forest, leaf, node, none, more, each_well, same_texts}
use Common.{bodies_of, bodies_of_all, copies_of, copy_of, left_synthesized, values_up_to, Version}
use Rattle.treefile.specs.Laws.{SameFile as SameFileLaw}
use Rattle.treefile.proofs.records.Copies.{synthesized_is}

-- the values of a record are the same if they are the same up to its pass
same_values : (k : ℕ) (ps : List ℕ) (e f : ℕ → Value) → SameAt (λ p. p ≤ k) ps e f → values_up_to k ps e ≡ values_up_to k ps f
same_values k [] e f s = refl
same_values k (p ∷ ps) e f s =
    grind (arith, nat_tests, s 0 p refl, same_values k ps (λ a. e (suc a)) (λ a. f (suc a)) (λ a. s (suc a)))

-- the records of a tree are the same for such values
module _ (version : Version) (g : Grammar) (m : Passes) (k : ℕ) where
  -- the copy of one tree's values, and the copies of several trees
  same_copy : (t : Tree) (u w : Valuation) → Same (λ p. p ≤ k) g m t u w → copy_of g m k t u ≡ copy_of g m k t w
  same_copy (leaf c x) u w s = refl
  same_copy (node p ts) u w s =
      let o = slice_get g.productions p in
      same_values k (left_synthesized g m o) (u []) (w []) (λ a n is le. s.0 a n (synthesized_is g m o a n is) le)

  same_copies : (ts : Forest) (us ws : ℕ → Valuation) → AtEachNodeOf (SameAt (λ p. p ≤ k)) g m ts us ws
      → copies_of g m k ts us ≡ copies_of g m k ts ws
  same_copies none us ws s = refl
  same_copies (more t ts) us ws s = cc (same_copy t (us 0) (ws 0) s.0, same_copies ts (rest us) (rest ws) s.1)

  mutual
    same_bodies : (t : Tree) (u w : Valuation) → Same (λ p. p ≤ k) g m t u w
        → bodies_of version g m k t u ≡ bodies_of version g m k t w
    same_bodies (leaf c x) u w s = refl
    same_bodies (node p ts) u w s =
        cc (
          same_values k (left_passes m (slice_get g.productions p)) (u []) (w []) s.0,
          same_copies ts (children u) (children w) s.1,
          same_bodies_all ts (children u) (children w) s.1,
        )

    same_bodies_all : (ts : Forest) (us ws : ℕ → Valuation) → AtEachNodeOf (SameAt (λ p. p ≤ k)) g m ts us ws
        → bodies_of_all version g m k ts us ≡ bodies_of_all version g m k ts ws
    same_bodies_all none us ws s = refl
    same_bodies_all (more t ts) us ws s = cc (same_bodies t (us 0) (ws 0) s.0, same_bodies_all ts (rest us) (rest ws) s.1)

pub same_file : SameFileLaw
same_file version g m k t u w content s is = record {
  occurs = cc (same_bodies version g m k t u w s);
  texts = same_texts g m k t u w s is.texts;
  well = each_well g m k t u w s is.well;
}
