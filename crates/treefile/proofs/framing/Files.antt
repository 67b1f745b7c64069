-- The last body of a file.
use Rattle.treefile.proofs.Common
use Common.{◌≡◌, ℕ, ◌≤◌, ◌↔◌, true, List, [], ◌∷◌, ◌++◌, length, take, Ok, Err, refl, append_assoc, arith, nat_eq, w16}
use Common.{to_be_bytes, flat_map, starts_with, Decides-eqb, nat_tests, take_at, flat_map-append, Damaged, Version, file, frame}
use Common.{header, IsUsable, greatest_body, header_bytes, least_body}
use Rattle.std.specs.Bool.{Decides}
use Rattle.std.proofs.lemmas.List.{append-nil, length-append}
use Rattle.std.proofs.lemmas.Slice.Eq.{slice_eq-Decides}
use Rattle.treefile.specs.framing.Ending.{is_tree_file, last_body_of}
use Rattle.treefile.proofs.records.Frames.{answers, frame_is_read, none_before}

-- the test of the first bytes decides whether they are the magic of the version
begins_with : (version : Version) (content : List ℕ)
    → Decides (starts_with nat_eq content version.magic) (version.magic ≡ take (length version.magic) content)
begins_with version content =
    slice_eq-Decides Decides-eqb version.magic (take (length version.magic) content)
    (starts_with nat_eq content version.magic) refl

pub file_decided : (version : Version) (content : List ℕ)
    → (is_tree_file version content ≡ true)
    ↔ ((header_bytes ≤ length content) × (take (length version.magic) content ≡ version.magic))
unfolding is_tree_file
file_decided version content = grind (arith, nat_tests, begins_with version content)

pub length-header : (version : Version) (pass : ℕ) → IsUsable version → length (header version pass) ≡ 6
length-header version pass usable = omega (arith, usable.four, length-append version.magic (to_be_bytes w16 pass))

-- a content that begins with a header begins as a tree file
pub begins : (version : Version) (pass : ℕ) (rest : List ℕ) → IsUsable version
    → is_tree_file version (header version pass ++ rest) ≡ true
begins version pass rest usable =
    (file_decided version (header version pass ++ rest)).1 (
      omega (arith, length-header version pass usable, length-append (header version pass) rest),
      rw append_assoc (take_at version.magic (to_be_bytes w16 pass ++ rest) (length version.magic) refl),
    )

-- if a content begins with a header and ends with a frame, the last body is that of this frame
last_after : (version : Version) (pass : ℕ) (middle body : List ℕ) → IsUsable version → least_body ≤ length body
    → length body ≤ greatest_body version → last_body_of version (header version pass ++ (middle ++ frame body)) ≡ Ok body
unfolding last_body_of
last_after version pass middle body usable least greatest =
    let content = header version pass ++ (middle ++ frame body) in
    let head : length (header version pass) ≡ 6 = length-header version pass usable in
    rw (begins version pass (middle ++ frame body) usable) (frame_is_read version content body (length content) usable (record {
      prefix = header version pass ++ middle;
      rest = [];
      occurs = simp (append-nil, append_assoc);
      ends = omega (arith, head, length-append {A = ℕ});
      following = omega (arith, head, length-append (header version pass) middle);
      least = least;
      greatest = greatest;
    }))

-- one more body is one more frame
pub file_grows : (version : Version) (pass : ℕ) (bodies : List (List ℕ)) (body : List ℕ)
    → file version pass (bodies ++ body ∷ []) ≡ file version pass bodies ++ frame body
file_grows version pass bodies body =
    cc (
      flat_map-append frame bodies (body ∷ []),
      append-nil (frame body),
      append_assoc (header version pass) (flat_map frame bodies) (frame body),
    )

pub last_of_file : (version : Version) (pass : ℕ) (bodies : List (List ℕ)) (body : List ℕ) → IsUsable version
    → least_body ≤ length body → length body ≤ greatest_body version
    → last_body_of version (file version pass (bodies ++ body ∷ [])) ≡ Ok body
last_of_file version pass bodies body usable least greatest =
    cc (
      file_grows version pass bodies body,
      append_assoc (header version pass) (flat_map frame bodies) (frame body),
      last_after version pass (flat_map frame bodies) body usable least greatest,
    )

pub none_of_header : (version : Version) (pass : ℕ) → IsUsable version
    → last_body_of version (file version pass []) ≡ Err (Damaged 6)
unfolding last_body_of
none_of_header version pass usable =
    let content = file version pass [] in
    let six : length content ≡ 6 = cc (append-nil (header version pass), length-header version pass usable) in
    rw (begins version pass [] usable) (cc (none_before version content (length content) (omega arith)))

-- if no frame ends at the end of the content, B2 has that offset
pub damaged_at_end : (version : Version) (content : List ℕ) (at : ℕ) → last_body_of version content ≡ Err (Damaged at)
    → at ≡ length content
unfolding last_body_of
damaged_at_end version content at e = grind (arith, nat_tests, answers version content (length content))
