-- Bytes appended to a content, one part after another.
use Rattle.treefile.proofs.Common
use Common.{◌≡◌, ℕ, ◌+◌, ◌⊎◌, inl, inr, List, [], ◌∷◌, ◌++◌, length, take, Result, Ok, Err, refl, sym, ◌∙◌, append_assoc}
use Common.{append-nil, flat_map, flat_map-append, All-append, All-cons, All-nil, IsBody, file, frame, header, version_two}
use Rattle.std.specs.List.{All}
use Rattle.std.proofs.Math.Seq.{take-append-add, take-length}
use Rattle.treefile.specs.framing.Beginning.{AddsFrames, BeginsFile, LeavesBeginning}
use Rattle.treefile.specs.devices.Device.{AppendsPrefix}
use Rattle.treefile.specs.declared.device.DeviceFault.{DeviceFault}
use Rattle.treefile.specs.declared.device.DeviceFault.TheVariants as device_fault

-- no body, and one whose length is within the limits
no_body : All (IsBody version_two) []
no_body = All-nil (IsBody version_two)

one_body : (body : List ℕ) → IsBody version_two body → All (IsBody version_two) (body ∷ [])
one_body body sound = All-cons (IsBody version_two) body [] sound no_body

-- a prefix of the header is a prefix of a file without bodies; so a begin that fails leaves the old content or a prefix of a file
header_begins : (pass : ℕ) (content : List ℕ) → AppendsPrefix (header version_two pass) [] content → BeginsFile pass content
header_begins pass content put =
    record {
      bodies = [];
      sound = no_body;
      prefix = (put.0, cc (append-nil (header version_two pass)));
    }

pub not_begun : (pass : ℕ) (old now : List ℕ) (f : DeviceFault)
    → (f ≡ device_fault.Failed → (now ≡ old) ⊎ AppendsPrefix (header version_two pass) [] now)
    → (f ≡ device_fault.NoMemory → now ≡ []) → LeavesBeginning pass old now
not_begun pass old now device_fault.Failed failed resource =
    elim (failed refl) [ inl same ↦ inl same | inr prefix ↦ inr (header_begins pass now prefix) ]
not_begun pass old now device_fault.NoMemory failed resource = inr (header_begins pass now (0, resource refl))

module _ (E : Type 0) where
  -- nothing was appended
  pub none_added : (old : List ℕ) (r : Result (Unit {0}) E) → AddsFrames old old r
  none_added old (Ok u) = ([], no_body, sym (append-nil old))
  none_added old (Err fault) = ([], no_body, (0, sym (append-nil old)))

  -- some frames were appended, and then those of a step
  pub added : (old between now : List ℕ) (r : Result (Unit {0}) E) → AddsFrames {E = E} old between (Ok tt)
      → AddsFrames between now r → AddsFrames old now r
  added old between now (Ok u) first next = (
    first.0 ++ next.0,
    All-append (IsBody version_two) first.0 next.0 first.1 next.1,
    cc (append_assoc old (flat_map frame first.0) (flat_map frame next.0), flat_map-append frame first.0 next.0),
  )
  added old between now (Err fault) first next =
      let before = flat_map frame first.0 in
      let following = flat_map frame next.0 in
      let n = next.2.0 in (
        first.0 ++ next.0,
        All-append (IsBody version_two) first.0 next.0 first.1 next.1,
        (
          length before + n,
          cc (
            append_assoc old before (take n following),
            take-append-add before following n,
            flat_map-append frame first.0 next.0,
          ),
        ),
      )

  -- a frame was appended; or, after a fault, a prefix of it or nothing
  pub one_added : (old now body : List ℕ) → IsBody version_two body → now ≡ old ++ frame body → AddsFrames {E = E} old now (Ok tt)
  one_added old now body sound is = (body ∷ [], one_body body sound, cc (append-nil (frame body)))

  pub one_refused : (old now body : List ℕ) (f : DeviceFault) (fault : E) → IsBody version_two body
      → (f ≡ device_fault.Failed → AppendsPrefix (frame body) old now) → (f ≡ device_fault.NoMemory → now ≡ old)
      → AddsFrames old now (Err fault)
  one_refused old now body device_fault.Failed fault sound prefix same =
      let put = prefix refl in (
        body ∷ [],
        one_body body sound,
        (put.0, cc (append-nil (frame body))),
      )
  one_refused old now body device_fault.NoMemory fault sound prefix same = ([], no_body, (0, same refl ∙ sym (append-nil old)))

  -- frames were appended after a header
  pub frames_begin : (pass : ℕ) (old content : List ℕ) (r : Result (Unit {0}) E) → old ≡ header version_two pass
      → AddsFrames old content r → BeginsFile pass content
  frames_begin pass old content (Ok u) is put = record {
    bodies = put.0;
    sound = put.1;
    prefix =
        let whole : content ≡ file version_two pass put.0 = cc in
        (length (file version_two pass put.0), cc (take-length (file version_two pass put.0)));
  }
  frames_begin pass old content (Err fault) is put =
      let head = header version_two pass in
      record {
        bodies = put.0;
        sound = put.1;
        prefix = (
          length head + put.2.0,
          cc (take-append-add head (flat_map frame put.0) put.2.0),
        );
      }
