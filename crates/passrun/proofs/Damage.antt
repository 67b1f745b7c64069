-- The offset at which a content shows a fault: that it is the file of no tree, or of no tree within the limits. Such a fault is
-- true of the content, and a content shows at most one fault.
use Rattle.passrun.proofs.Common
use Common.{flat_map, ℕ, suc, ◌≡◌, ◌≢◌, ◌+◌, ◌^◌, ◌<◌, ◌≤◌, ◌⊎◌, inl, inr, Bool, true, false, if◌then◌else◌, List, [], ◌∷◌, ◌++◌}
use Common.{nat_le, le-leb, Some, Ok, Err, length, refl, ◌∙◌, sym, subst, arith, Direction, direction_of, other, FrameFault}
use Common.{Breaks, Child, ReadSoFar, IsRecordOf, Pending, before_others, pending_root, ReadsTo, before_frame, next_before}
use Common.{pass_in, pass_of, IsUsable, is_tree_file, version_two_usable, postfix, FitsVersion, bodies_of, frame}
use Common.{fits_version_two, numbered, Setting, IsSound, RunFault, ArrivesAt, ExceedsDepth, ExceedsNodes, IsDamaged, IsReadable}
use Common.{source}
use Rattle.std.proofs.lemmas.Bool.{lt-leb}
use Common.frame_fault
use Common.fault
use Rattle.treefile.specs.records.OneTree.{IsNumbered}
use Rattle.treefile.proofs.framing.Files.{begins}
use Rattle.treefile.proofs.framing.Way.{no_file_has_no_tree, one_record, reading_begins, way_breaks, reading_continues}
use Rattle.treefile.proofs.framing.Way.{reading_is_too_long}
use Rattle.passrun.specs.Damage.{BreaksAt, HasTooManyNodes}
use Rattle.passrun.specs.Damage.{IsTooDeep, IsWithin, Leaves, Shows, Source}
use Rattle.passrun.specs.Laws.{ShowsOnce}

-- One more record was read.
pub leaves_on : (s : Source) (d : Direction) (bodies : List (List ℕ)) (body : List ℕ) (level : ℕ) (x : Child) (ys : List Child)
    (todo left : Pending) → Leaves s d todo bodies ((level, x) ∷ left) → level ≤ s.depth
    → IsRecordOf s.version s.grammar s.passes s.pass x body ys
    → Leaves s d todo (bodies ++ body ∷ []) (before_others d (suc level) ys left)
leaves_on s d [] body level x ys todo left h le is =
    rw h (ys, le, is, refl)
leaves_on s d (first ∷ bodies) body level x ys [] left h le is = elim h [ ]
leaves_on s d (first ∷ bodies) body level x ys (y ∷ todo) left h le is =
    (h.0, h.1, h.2, leaves_on s d bodies body level x ys (before_others d (suc y.0) h.0 todo) left h.3 le is)

-- The content was read from its end to the offset `at`, for `count` bodies, with the children `todo` still to be read.
abbrev HasReadFar : Source → List ℕ → (at count : ℕ) → Pending → Type 0
HasReadFar s content at count todo = ReadSoFar s.version s.grammar s.passes s.pass content at count todo

module _ (s : Source) (content : List ℕ) (few : IsNumbered s.grammar) {start : ℕ} (left : Pending) where
  -- The children still to be read after some bodies are those of reading up to that offset.
  continues_on : (bodies : List (List ℕ)) (at count : ℕ) (todo : Pending) → HasReadFar s content at count todo
      → ReadsTo s.version content at bodies start → Leaves s (other (direction_of s.pass)) todo bodies left
      → HasReadFar s content start (count + length bodies) left
  continues_on [] at count todo arrival read h =
      let same : count + 0 ≡ count = omega arith in
      rw same (rw (read, h) at arrival)
  continues_on (body ∷ bodies) at count [] arrival read h = elim h [ ]
  continues_on (body ∷ bodies) at count ((level, x) ∷ todo) arrival read h =
      let on =
      reading_continues s.version s.grammar s.passes s.pass content body at count level x h.0 todo few arrival read.0 h.2 in
      let sum : count + suc (length bodies) ≡ suc count + length bodies = omega arith in
      rw sum
      (continues_on bodies (before_frame at body) (suc count)
      (before_others (other (direction_of s.pass)) (suc level) h.0 todo) on read.1 h.3)

-- The fault for which reading can stop at the offset `at`, after `count` bodies, with the children `todo` still to be read: a
-- limit that is exceeded, or damage there.
abbrev fault_at : Source → (at count : ℕ) → Pending → RunFault
fault_at s at count [] = fault.Damaged at
fault_at s at count (x ∷ xs) =
    if nat_le x.0 s.depth then (if nat_le s.nodes count then fault.TooManyNodes else fault.Damaged at) else fault.TooDeep

within : (s : Source) (at count : ℕ) (todo : Pending) → IsWithin s todo count → fault.Damaged at ≡ fault_at s at count todo
within s at count [] h = refl
within s at count (x ∷ xs) h = cc (le-leb x.0 s.depth h.0, lt-leb s.nodes count h.1)

-- Reading stops for a fault (the last argument) at the offset `at`, after `count` bodies, with the children `todo` still to be
-- read: it finds damage there, or a limit is exceeded.
abbrev Stops : Source → List ℕ → (at count : ℕ) → Pending → RunFault → Type 0
Stops s content at count todo f =
    (f ≡ fault_at s at count todo)
    × (f ≡ fault.Damaged at → Breaks s.version s.grammar s.passes s.pass todo (next_before s.version content at))

-- If reading continues within the limits, it does not stop.
never_stops : (s : Source) (content body : List ℕ) (at count level : ℕ) (x : Child) (ys : List Child) (todo : Pending)
    (f : RunFault) → level ≤ s.depth → count < s.nodes → next_before s.version content at ≡ Ok (Some body)
    → IsRecordOf s.version s.grammar s.passes s.pass x body ys → Stops s content at count ((level, x) ∷ todo) f → ⊥
never_stops s content body at count level x ys todo f le less found is stops =
    subst (Breaks s.version s.grammar s.passes s.pass ((level, x) ∷ todo)) found
    (stops.1 (cc (stops.0, within s at count ((level, x) ∷ todo) (le, less)))) ys is

-- Reading from one offset stops for at most one fault, wherever it stops.
module _ (s : Source) (content : List ℕ) (few : IsNumbered s.grammar) (at there n m : ℕ) (left rest : Pending) {e f : RunFault}
    (stops : Stops s content at n left e) (stops' : Stops s content there m rest f) (most : n ≤ s.nodes) (most' : m ≤ s.nodes)
  where
    one_stop : (bodies others : List (List ℕ)) (from count : ℕ) (todo : Pending) → ReadsTo s.version content from bodies at
        → ReadsTo s.version content from others there
        → Leaves s (other (direction_of s.pass)) todo bodies left → Leaves s (other (direction_of s.pass)) todo others rest
        → n ≡ count + length bodies → m ≡ count + length others → e ≡ f
    one_stop [] [] from count todo read read' h h' long long' = cc (stops.0, stops'.0)
    one_stop (body ∷ bodies) others from count [] read read' h h' long long' = elim h [ ]
    one_stop [] (another ∷ others) from count [] read read' h h' long long' = elim h' [ ]
    one_stop [] (another ∷ others) from count ((level, x) ∷ todo) read read' h h' long long' =
        absurd
        (never_stops s content another from n level x h'.0 todo e h'.1 (omega arith) read'.0 h'.2 (rw (← read, ← h) at stops))
    one_stop (body ∷ bodies) [] from count ((level, x) ∷ todo) read read' h h' long long' =
        absurd
        (never_stops s content body from m level x h.0 todo f h.1 (omega arith) read.0 h.2 (rw (← read', ← h') at stops'))
    one_stop (body ∷ bodies) (another ∷ others) from count ((level, x) ∷ todo) read read' h h' long long' =
        let found : Ok (Some another) ≡ Ok (Some body) = sym read'.0 ∙ read.0 in
        let same : another ≡ body = cc in
        let items : h'.0 ≡ h.0 =
        one_record s.version s.grammar s.passes s.pass x body h'.0 h.0 few (rw same at h'.2) h.2 in
        one_stop bodies others (before_frame from body) (suc count)
        (before_others (other (direction_of s.pass)) (suc level) h.0 todo)
        read.1 (rw same at read'.1) h.3 (rw items at h'.3) (omega arith) (omega arith)

-- If reading the header fails, the content does not begin as a tree file.
no_file : (is : Bool) (pass : ℕ) (f : FrameFault) → (if is then Ok pass else Err frame_fault.NotATreeFile) ≡ Err f
    → (is ≡ false) × (f ≡ frame_fault.NotATreeFile)
no_file true pass f e = absurd cc
no_file false pass f e = (refl, cc)

is_file : (is : Bool) {pass n : ℕ} → (if is then Ok pass else Err frame_fault.NotATreeFile) ≡ Ok n → (is ≡ true) × (pass ≡ n)
is_file true e = (refl, cc)
is_file false e = absurd cc

-- A source is usable: a record has room for the number of each production, files of the version can be read, and no
-- record has more values than the version allows.
pub record IsDecidable (s : Source) : Type 0 where
  pub few : IsNumbered s.grammar
  pub usable : IsUsable s.version
  pub fits : FitsVersion s.version s.grammar s.passes

-- The source of a pass is usable.
pub decidable : {c : Setting} → IsSound c → IsDecidable (source c)
decidable {c} sound =
    let fits = fits_version_two c.grammar c.passes sound.accepted sound.legal in
    record { few = fits.0; usable = version_two_usable; fits = fits.1 }

module _ (s : Source) (sound : IsDecidable s) where
  -- If reading arrives at an offset (`ArrivesAt`), it has read so far in the words of treefile (`ReadSoFar`).
  pub way_to : {content : List ℕ} {at : ℕ} {todo : Pending} (h : ArrivesAt s content at todo)
      → HasReadFar s content at (length h.bodies) todo
  way_to {content} {at} {todo} h =
      let begins = reading_begins s.version s.grammar s.passes s.pass content sound.usable sound.fits in
      let sum : length h.bodies ≡ 0 + length h.bodies = omega arith in
      rw sum (continues_on s content sound.few todo h.bodies (length content) 0 (pending_root s.grammar) begins h.read h.records)

  -- The content is the file of no tree if reading meets damage.
  pub broken : (content : List ℕ) (at : ℕ) → IsReadable s content → BreaksAt s content at → IsDamaged s content at
  broken content at readable h = record {
    none = way_breaks s.version s.grammar s.passes s.pass content at (length h.1.bodies) h.0 (way_to h.1) h.3;
    shown = inr (inr (readable, h));
  }

  -- If reading exceeds the limit of levels, the content is the file of no tree within this limit.
  pub too_deep : (content : List ℕ) → ExceedsDepth s content → IsTooDeep s content
  too_deep content h = record {
    none =
        λ nodes. reading_is_too_long s.version s.grammar s.passes s.pass content h.at
        (length h.arrival.bodies) h.level s.depth nodes h.next h.others (way_to h.arrival) (inl h.deep);
    shown = h;
  }

  pub too_many : (content : List ℕ) → ExceedsNodes s content → HasTooManyNodes s content
  too_many content h =
      let full = h.full in
      record {
        none =
            λ depth. reading_is_too_long s.version s.grammar s.passes s.pass content h.at
            (length h.arrival.bodies) h.level depth s.nodes h.next h.others (way_to h.arrival) (inr (omega arith));
        shown = h;
      }

  -- The content is the file of no tree if reading its header fails, since it does not begin as a tree file.
  pub unstarted : (content : List ℕ) (f : FrameFault) → pass_in s.version content ≡ Err f
      → (f ≡ frame_fault.NotATreeFile) × IsDamaged s content 0
  unstarted content f exact =
      let is = no_file (is_tree_file s.version content) (pass_of content) f exact in (
        is.1,
        record {
          none = λ t v tree file.
              let begun : is_tree_file s.version content ≡ true =
              cc (begins s.version s.pass (flat_map frame (postfix (direction_of s.pass)
              (bodies_of s.version s.grammar s.passes s.pass t v))) sound.usable) in
              let not_true : false ≡ true = cc in
              cc;
          shown = inl (is.0, refl);
        },
      )

  -- If the header has the number of another pass, the content is not the file of the source's pass of any tree.
  pub other_pass : (content : List ℕ) (pass : ℕ) → s.pass < 2 ^ 16 → pass_in s.version content ≡ Ok pass → pass ≢ s.pass
      → IsDamaged s content 4
  other_pass content pass small exact not =
      let is = is_file (is_tree_file s.version content) exact in
      let otherwise : pass_of content ≢ s.pass = λ same. not (cc) in
      record {
        none = no_file_has_no_tree s.version s.grammar s.passes s.pass content sound.usable small (λ both. otherwise both.1);
        shown = inr (inl (is.0, otherwise, refl));
      }

  -- The content can be read if it is a tree file of the source's pass.
  pub readable : (content : List ℕ) (pass : ℕ) → pass_in s.version content ≡ Ok pass → pass ≡ s.pass → IsReadable s content
  readable content pass exact same =
      let is = is_file (is_tree_file s.version content) exact in
      record { begins = is.0; number = cc }

-- ---- at most one fault shows

-- The header of a content shows no fault, and reading stops for one.
abbrev ShowsOnWay : Source → List ℕ → RunFault → Type 0
ShowsOnWay s content f =
    IsReadable s content
    × ((todo : Pending) × (at : ℕ) × (arrival : ArrivesAt s content at todo)
    × Stops s content at (length arrival.bodies) todo f)

-- The header of a content shows a fault, or reading stops for one.
abbrev ShowsSomewhere : Source → List ℕ → RunFault → Type 0
ShowsSomewhere s content f =
    ((is_tree_file s.version content ≡ false) × (f ≡ fault.Damaged 0))
    ⊎ (((is_tree_file s.version content ≡ true) × (pass_of content ≢ s.pass) × (f ≡ fault.Damaged 4))
    ⊎ ShowsOnWay s content f)

somewhere : (s : Source) (content : List ℕ) (f : RunFault) → Shows s content f → ShowsSomewhere s content f
somewhere s content (fault.Damaged at) (inl a) = inl (a.0, cc)
somewhere s content (fault.Damaged at) (inr (inl a)) = inr (inl (a.0, a.1, cc))
somewhere s content (fault.Damaged at) (inr (inr (readable, (todo, arrival, few, breaks)))) =
    inr (inr (readable, (todo, at, arrival, (within s at (length arrival.bodies) todo few, λ is. breaks))))
somewhere s content fault.TooDeep h =
    inr (inr (h.readable, ((h.level, h.next) ∷ h.others, h.at, h.arrival, (cc (lt-leb h.level s.depth h.deep), λ is. absurd cc))))
somewhere s content fault.TooManyNodes h =
    let many = le-leb s.nodes (length h.arrival.bodies) (omega (arith, h.full)) in
    let here : fault.TooManyNodes ≡ fault_at s h.at (length h.arrival.bodies) ((h.level, h.next) ∷ h.others) =
    cc (le-leb h.level s.depth h.within, many) in
    inr (inr (h.readable, ((h.level, h.next) ∷ h.others, h.at, h.arrival, (here, λ is. absurd cc))))
somewhere s content fault.Device h = absurd h
somewhere s content fault.NoMemory h = absurd h

pub shows_once : ShowsOnce
shows_once s content e f accepted one another = go (somewhere s content e one) (somewhere s content f another)
  where
    go : ShowsSomewhere s content e → ShowsSomewhere s content f → e ≡ f
    go (inl a) (inl b) = cc
    go (inr (inl a)) (inr (inl b)) = cc
    go (inr (inl a)) (inr (inr b)) = absurd (a.1 b.0.number)
    go (inr (inr a)) (inr (inl b)) = absurd (b.1 a.0.number)
    go (inr (inr (begun, (left, at, first, stops)))) (inr (inr (begun', (rest, there, second, stops')))) =
        one_stop s content (numbered s.grammar accepted) at there (length first.bodies) (length second.bodies) left rest
        stops stops' first.few second.few first.bodies second.bodies (length content) 0 (pending_root s.grammar)
        first.read second.read first.records second.records (omega arith) (omega arith)
    go (inl a) (inr (inl b)) = absurd (let z : false ≡ true = cc in cc)
    go (inl a) (inr (inr b)) = absurd (let z : false ≡ true = cc in cc)
    go (inr (inl a)) (inl b) = absurd (let z : false ≡ true = cc in cc)
    go (inr (inr a)) (inl b) = absurd (let z : false ≡ true = cc in cc)
