-- A file is read back as its bodies, the last one first, and a content that is read back so is a file.
use Rattle.treefile.proofs.Common
use Common.{◌≡◌, ℕ, ◌+◌, ◌^◌, ◌≤◌, ◌<◌, true, List, [], ◌∷◌, ◌++◌, length, take, subst, slice_range, reverse, Some, None, Ok, Err}
use Common.{All, refl, sym, append_assoc, append-nil, arith, w16, w32, to_be_bytes, flat_map, eq-eqb, nat_tests, drop-take}
use Common.{drop_at, reverse-append, reverse-reverse, take-take, take_all, take_at, All-cons, All-head, All-nil, All-push}
use Common.{All-tail, flat_map-append, FrameFault, Damaged, NotATreeFile, IsBody, IsBytes, IsUsable, body_before, header_bytes}
use Common.{is_tree_file, Version, file, frame, header}
use Rattle.std.proofs.lemmas.List.{length-append, take-append-drop}
use Rattle.std.proofs.lemmas.Nat.{be_bytes_2, from_be_bytes-to_be_bytes_2}
use Rattle.treefile.specs.framing.Backward.{ReadsBack, ReadsTo, before_frame, next_before, pass_of}
use Rattle.treefile.proofs.framing.Files.{file_grows, length-header, file_decided}
use Rattle.treefile.proofs.records.Frames.{answers, bytes_part, frame_is_read, length_part, read_is_frame}

-- the reverse of a list with one more element
reverse-cons : {A : Type 0} (x : A) (xs : List A) → reverse (x ∷ xs) ≡ reverse xs ++ x ∷ []
reverse-cons x xs = reverse-append (x ∷ []) xs

pub All-reverse : {A : Type 0} (P : A → Type 0) (xs : List A) → All P xs → All P (reverse xs)
All-reverse P [] all = all
All-reverse P (x ∷ xs) all =
    rw reverse-cons (All-push P (reverse xs) x (All-reverse P xs (All-tail P x xs all)) (All-head P x xs all))

-- ---- the result of reading before an offset

at_frame : (version : Version) (content body : List ℕ) (at : ℕ) → header_bytes < at → body_before version content at ≡ Ok body
    → next_before version content at ≡ Ok (Some body)
unfolding next_before
at_frame version content body at following e = rw e (grind (arith, nat_tests))

at_header : (version : Version) (content : List ℕ) (at : ℕ) → at ≡ header_bytes → next_before version content at ≡ Ok None
unfolding next_before
at_header version content at e = rw (eq-eqb at header_bytes e) refl

pub none_at_header : (version : Version) (content : List ℕ) (at : ℕ) → next_before version content at ≡ Ok None
    → at ≡ header_bytes
unfolding next_before
none_at_header version content at e = grind (arith, nat_tests, answers version content at)

pub some_is_body : (version : Version) (content body : List ℕ) (at : ℕ) → next_before version content at ≡ Ok (Some body)
    → body_before version content at ≡ Ok body
unfolding next_before
some_is_body version content body at e = grind (arith, nat_tests, answers version content at)

-- ---- a file is read back

pub pass_of_file : (version : Version) (pass : ℕ) (rest : List ℕ) → IsUsable version → pass < 2 ^ 16
    → pass_of (header version pass ++ rest) ≡ pass
pass_of_file version pass rest usable small =
    let number = to_be_bytes w16 pass in
    cc (
      append_assoc version.magic number rest,
      drop_at version.magic (number ++ rest) 4 usable.four,
      take_at number rest 2 refl,
      from_be_bytes-to_be_bytes_2 pass small,
    )

module _ (version : Version) (pass : ℕ) (usable : IsUsable version) where
  back_from : (bodies : List (List ℕ)) (rest : List ℕ) → All (IsBody version) bodies
      → ReadsBack version (file version pass (reverse bodies) ++ rest) (length (file version pass (reverse bodies))) bodies
  back_from [] rest all =
      at_header version (file version pass [] ++ rest) (length (file version pass []))
      (cc (append-nil (header version pass), length-header version pass usable))
  back_from (body ∷ bodies) rest all =
      let prefix = file version pass (reverse bodies) in
      let is = All-head (IsBody version) body bodies all in
      let grown : file version pass (reverse (body ∷ bodies)) ≡ prefix ++ frame body =
      cc (reverse-cons body bodies, file_grows version pass (reverse bodies) body) in
      let long : header_bytes ≤ length prefix =
      omega (
        arith,
        length-header version pass usable,
        length-append (header version pass) (flat_map frame (reverse bodies)),
      ) in
      let ends : length prefix + length body + 4 ≡ length (prefix ++ frame body) =
      omega (arith, length-append prefix (frame body), length-append body (to_be_bytes w32 (length body))) in
      let read =
      frame_is_read version ((prefix ++ frame body) ++ rest) body (length (prefix ++ frame body)) usable
      (record {
        prefix = prefix;
        rest = rest;
        occurs = append_assoc prefix (frame body) rest;
        ends = ends;
        following = long;
        least = is.least;
        greatest = is.greatest;
      }) in
      let start : before_frame (length (prefix ++ frame body)) body ≡ length prefix = omega arith in
      subst (λ (whole : List ℕ). ReadsBack version (whole ++ rest) (length whole) (body ∷ bodies)) (sym grown) (
        at_frame version ((prefix ++ frame body) ++ rest) body (length (prefix ++ frame body)) (omega (arith, is.least)) read,
        rw start
            (subst (λ (c : List ℕ). ReadsBack version c (length prefix) bodies) (sym (append_assoc prefix (frame body) rest))
            (back_from bodies (frame body ++ rest) (All-tail (IsBody version) body bodies all))),
      )

  pub read_back : (bodies : List (List ℕ)) → All (IsBody version) bodies
      → ReadsBack version (file version pass bodies) (length (file version pass bodies)) (reverse bodies)
  read_back bodies all =
      let back = back_from (reverse bodies) [] (All-reverse (IsBody version) bodies all) in
      rw (reverse-reverse bodies, append-nil) at back

-- ---- a content that is read back is a file

-- the frames of bodies in their order, and one more
frames_grow : (bodies : List (List ℕ)) (body : List ℕ)
    → flat_map frame (reverse (body ∷ bodies)) ≡ flat_map frame (reverse bodies) ++ frame body
frames_grow bodies body =
    cc (reverse-cons body bodies, flat_map-append frame (reverse bodies) (body ∷ []), append-nil (frame body))

module _ (version : Version) (content : List ℕ) (bytes : IsBytes content) where
  occurs_back : (bodies : List (List ℕ)) (at : ℕ) → at ≤ length content → ReadsBack version content at bodies
      → take at content ≡ take header_bytes content ++ flat_map frame (reverse bodies)
  occurs_back [] at within back = cc (none_at_header version content at back, append-nil (take header_bytes content))
  occurs_back (body ∷ bodies) at within back =
      let is = read_is_frame version content body at bytes within (some_is_body version content body at back.0) in
      let start : before_frame at body ≡ length is.prefix = omega (arith, is.ends) in
      let size : length (is.prefix ++ frame body) ≡ at =
      omega (arith, is.ends, length-append is.prefix (frame body), length-append body (to_be_bytes w32 (length body))) in
      cc (
        append_assoc is.prefix (frame body) is.rest,
        take_at (is.prefix ++ frame body) is.rest at size,
        take_at is.prefix (frame body ++ is.rest) (before_frame at body) (sym start),
        occurs_back bodies (before_frame at body) (omega (arith, is.ends)) back.1,
        append_assoc (take header_bytes content) (flat_map frame (reverse bodies)) (frame body),
        frames_grow bodies body,
      )

  -- the first bytes are a header
  begins_so : IsUsable version → is_tree_file version content ≡ true
      → take header_bytes content ≡ header version (pass_of content)
  begins_so usable exact =
      let is = (file_decided version content).0 exact in
      let number =
      be_bytes_2 (slice_range content 4 header_bytes) (pass_of content)
      (length_part content 4 header_bytes (omega arith) is.0) (bytes_part content 4 header_bytes bytes) refl in
      let magic : take 4 content ≡ version.magic = cc in
      cc (take-append-drop 4 (take header_bytes content), take-take 4 header_bytes content (omega arith), drop-take 4 2 content)

  pub back_is_file : (bodies : List (List ℕ)) → IsUsable version → is_tree_file version content ≡ true
      → ReadsBack version content (length content) bodies → content ≡ file version (pass_of content) (reverse bodies)
  back_is_file bodies usable exact back =
      cc (
        take_all (length content) content (omega arith),
        occurs_back bodies (length content) (omega arith) back,
        begins_so usable exact,
      )

-- ---- reading in parts

module _ (version : Version) (content : List ℕ) where
  pub reads_on : (bodies others : List (List ℕ)) (at between start : ℕ) → ReadsTo version content at bodies between
      → ReadsTo version content between others start → ReadsTo version content at (bodies ++ others) start
  reads_on [] others at between start first second = rw first second
  reads_on (body ∷ bodies) others at between start first second =
      (first.0, reads_on bodies others (before_frame at body) between start first.1 second)

  pub reads_whole : (bodies : List (List ℕ)) (at start : ℕ) → ReadsTo version content at bodies start
      → next_before version content start ≡ Ok None → ReadsBack version content at bodies
  reads_whole [] at start read ends = rw read ends
  reads_whole (body ∷ bodies) at start read ends = (read.0, reads_whole bodies (before_frame at body) start read.1 ends)

  -- the bodies read up to an offset are a prefix of those read to the header
  pub reads_apart : (bodies all : List (List ℕ)) (at start : ℕ) → ReadsTo version content at bodies start
      → ReadsBack version content at all → (rest : List (List ℕ)) × (all ≡ bodies ++ rest) × ReadsBack version content start rest
  reads_apart [] all at start read back = (all, refl, rw (← read) back)
  reads_apart (body ∷ bodies) [] at start read back = absurd cc
  reads_apart (body ∷ bodies) (first ∷ all) at start read back =
      let same : first ≡ body = cc in
      let rest = reads_apart bodies all (before_frame at body) start read.1 (rw same at back.1) in
      (rest.0, cc, rest.2)

  -- there is one list of bodies that is read to the header
  pub reads_same : (bodies others : List (List ℕ)) (at : ℕ) → ReadsBack version content at bodies
      → ReadsBack version content at others → bodies ≡ others
  reads_same [] [] at first second = refl
  reads_same (body ∷ bodies) (another ∷ others) at first second =
      let same : another ≡ body = cc in
      cc (reads_same bodies others (before_frame at body) first.1 (rw same at second.1))
  reads_same bodies others at first second = cc

  -- the length of each body that is read is within the limits
  pub read_bodies : IsBytes content → (bodies : List (List ℕ)) (at start : ℕ) → at ≤ length content
      → ReadsTo version content at bodies start → All (IsBody version) bodies
  read_bodies bytes [] at start within read = All-nil (IsBody version)
  read_bodies bytes (body ∷ bodies) at start within read =
      let is = read_is_frame version content body at bytes within (some_is_body version content body at read.0) in
      All-cons (IsBody version) body bodies (record { least = is.least; greatest = is.greatest })
      (read_bodies bytes bodies (before_frame at body) start (omega arith) read.1)

  -- a fault that `next_before` gives is B2 with its offset; B1 never occurs
  fault_is_damage : (at : ℕ) (fault : FrameFault) → next_before version content at ≡ Err fault → fault ≡ Damaged at
  unfolding next_before
  fault_is_damage at fault e = grind (arith, nat_tests, answers version content at)

  pub damage_is_there : (at other : ℕ) → next_before version content at ≡ Err (Damaged other) → other ≡ at
  damage_is_there at other e = cc (fault_is_damage at (Damaged other) e)

  pub never_no_file : (at : ℕ) → next_before version content at ≡ Err NotATreeFile → ⊥
  never_no_file at e = cc (fault_is_damage at NotATreeFile e)
