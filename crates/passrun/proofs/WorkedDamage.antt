-- Files of binary fractions that are damaged, as worked examples.
use Rattle.passrun.proofs.Common
use Common.{◌≡◌, ℕ, inl, inr, true, pos, List, [], ◌∷◌, Some, None, Ok, refl, arith, All-nil, same_Some, Value, Num, IsWell}
use Common.{IsNoRecord, IsNodeRecord, pending_root, file, header, version_two, same_node, ExceedsDepth, ExceedsNodes}
use Common.item
use Rattle.treefile.specs.framing.Backward.{next_before}
use Rattle.treefile.specs.framing.Ending.{body_before, fits_before, is_tree_file}
use Rattle.treefile.specs.Worked.{binary, binary_passes, pass_1_of_one_in_two, production_of}
use Rattle.treefile.proofs.WorkedRecords.{binary_numbered, well_number}
use Rattle.passrun.specs.Damage.{ShowsAt, fractions, fractions_within}

pub empty : ShowsAt (fractions 0) [] 0
unfolding is_tree_file
empty = inl (refl, refl)

one_begins : is_tree_file version_two pass_1_of_one_in_two ≡ true
unfolding is_tree_file
one_begins = refl

pub other_pass : ShowsAt (fractions 0) pass_1_of_one_in_two 4
other_pass = inr (inl (one_begins, (λ is. let bad : ◌≡◌ {A = ℕ} 1 0 = is in omega (arith, bad)), refl))

header_begins : is_tree_file version_two (header version_two 0) ≡ true
unfolding is_tree_file
header_begins = refl

before_header : next_before version_two (header version_two 0) 6 ≡ Ok None
unfolding next_before
before_header = refl

pub header_alone : ShowsAt (fractions 0) (header version_two 0) 6
header_alone =
    inr
    (inr (
      record { begins = header_begins; number = refl },
      (
        pending_root binary,
        record { bodies = []; read = refl; records = refl; few = omega arith },
        (omega arith, omega arith),
        rw before_header tt,
      ),
    ))

-- After the header the root exceeds a limit of 0 levels, and a limit of 0 nodes.
pub root_deep : ExceedsDepth (fractions_within 0 1) (header version_two 0)
root_deep =
    record {
      readable = record { begins = header_begins; number = refl };
      at = 6;
      level = 1;
      next = (item.Symbol binary.start, None);
      others = [];
      arrival = record { bodies = []; read = refl; records = refl; few = omega arith };
      deep = omega arith;
    }

pub root_many : ExceedsNodes (fractions_within 1 0) (header version_two 0)
root_many =
    record {
      readable = record { begins = header_begins; number = refl };
      at = 6;
      level = 1;
      next = (item.Symbol binary.start, None);
      others = [];
      arrival = record { bodies = []; read = refl; records = refl; few = omega arith };
      within = omega arith;
      full = refl;
    }

-- The record of Q is not a record of N.
abbrev numbers : ℕ → Value
numbers a = Num (pos 65536)

q_record : IsNodeRecord version_two binary binary_passes 0 1 (0 ∷ 0 ∷ 1 ∷ []) 1 (production_of 1 []) numbers
q_record =
    record {
      production = refl;
      left = refl;
      well = λ a n has le. well_number 65536 (omega arith);
      copies = [];
      are_copies = (refl, All-nil IsWell);
      occurs = refl;
    }

q_is_none : IsNoRecord version_two binary binary_passes 0 (item.Symbol 0, None) (0 ∷ 0 ∷ 1 ∷ [])
q_is_none ys is =
    let one =
    same_node version_two binary binary_passes 0 0 1 is.0 1 (0 ∷ 0 ∷ 1 ∷ []) is.1
    (production_of 1 []) is.2 numbers binary_numbered is.3 q_record in
    let same : is.1 ≡ production_of 1 [] =
    same_Some is.1 (production_of 1 []) (cc) in
    let left : ◌≡◌ {A = ℕ} 0 1 = cc in
    omega (arith, left)

-- The file of the record of Q alone.
abbrev q_file : List ℕ
q_file = file version_two 0 ((0 ∷ 0 ∷ 1 ∷ []) ∷ [])

q_begins : is_tree_file version_two q_file ≡ true
unfolding is_tree_file
q_begins = refl

q_at_end : next_before version_two q_file 13 ≡ Ok (Some (0 ∷ 0 ∷ 1 ∷ []))
unfolding next_before body_before fits_before
q_at_end = refl

pub q_alone : ShowsAt (fractions 0) (file version_two 0 ((0 ∷ 0 ∷ 1 ∷ []) ∷ [])) 13
q_alone =
    inr
    (inr (
      record { begins = q_begins; number = refl },
      (
        pending_root binary,
        record { bodies = []; read = refl; records = refl; few = omega arith },
        (omega arith, omega arith),
        rw q_at_end q_is_none,
      ),
    ))
