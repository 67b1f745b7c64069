use Rattle.backreader.proofs.Common
use Common.{rules, ◌≡◌, ◌+◌, ◌≤◌, None, Some, Ok, Err, length, ℕ, List, Bor, refl, sym, ap, subst, ◌∙◌, arith, option_map}
use Common.{IsLarge, BackState, Progress, progress_after, taken, unread, length_part, before_frame, next_before, ReadsAs}
use Common.{greatest_body, version_of, FrameFault, NoMemory}
use Rattle.backreader.proofs.EndingAt.{exact_as_well}
use Rattle.backreader.proofs.back.Back.back.Goals as goal

-- the header ends there
pub returns-in-Ok-None : goal.returns-in-Ok-None
returns-in-Ok-None g c =
    let content = g.D.Device.content c.args.device.now in
    let at_is : c.self.inside.window.at ≡ c.args.self.now.progress.at =
    ap (λ (state : BackState). state.progress.at) c.self.view_is in
    let unbroken : c.args.self.now.progress.fault ≡ None =
    sym (ap (λ (state : BackState). state.progress.fault) c.self.view_is) ∙ c.in_default.is in
    let stays : c.next.new.self.at ≡ c.self.inside.window.at = rw c.in-Ok-None.field-0-is at c.in-Ok-None.ensures.none in
    let now : ℕ → Progress =
    λ (k : ℕ). record {
      version = version_of c.self.inside.window.version;
      pass = c.self.inside.pass;
      at = k;
      records = c.self.inside.records;
      fault = c.self.inside.fault;
    } in (
      (
        refl,
        (λ _. tt),
        record {
          over =
              λ h. record {
                window = c.in-Ok-None.ensures.occur h;
                header = (c.requires (c.in-Ok-None.ensures.persists.honest h)).header;
              };
          progress =
              ap (λ v. record (now c.next.new.self.at) { version = version_of v }) c.in-Ok-None.ensures.version ∙ ap now stays
              ∙ ap (λ (state : BackState). state.progress) c.self.view_is;
          resource = search rules;
        },
      ),
      record {
        after = tt;
        exact =
            λ e honest. subst (λ (state : BackState). next_before state.progress.version content state.progress.at ≡ Ok None)
            c.self.view_is (rw c.in-Ok-None.field-0-is at (c.in-Ok-None.ensures.exact honest));
        memory = search rules;
        body = search rules;
        room = search rules;
        file = search rules;
        broken = rw unbroken tt;
        content = search rules;
        persists = search rules;
      },
    )

-- a body is lent
pub returns-in-Ok-Some : goal.returns-in-Ok-Some
returns-in-Ok-Some g c =
    let content = g.D.Device.content c.args.device.now in
    let body = c.taken.result.now in
    let count = c.in-Ok-Some.length in
    let new = c.next.new.self in
    let at_is : c.self.inside.window.at ≡ c.args.self.now.progress.at =
    ap (λ (state : BackState). state.progress.at) c.self.view_is in
    let unbroken : c.args.self.now.progress.fault ≡ None =
    sym (ap (λ (state : BackState). state.progress.fault) c.self.view_is) ∙ c.in_default.is in
    let within = rw c.in-Ok-Some.field-0-is at c.in-Ok-Some.ensures.within in
    let moved = rw c.in-Ok-Some.field-0-is at c.in-Ok-Some.ensures.moved in
    let least = rw c.in-Ok-Some.field-0-is at c.in-Ok-Some.ensures.least in
    let greatest = rw c.in-Ok-Some.field-0-is at c.in-Ok-Some.ensures.greatest in
    let long : length body ≡ count =
    ap length c.taken.ensures ∙ length_part new.buffer.items new.to (new.to + count) (omega arith) (omega (arith, within))
    ∙ omega arith in
    let here : new.at ≡ before_frame c.self.inside.window.at body = omega (arith, moved, long) in
    let now : ℕ → Progress =
    λ (k : ℕ). record {
      version = version_of c.self.inside.window.version;
      pass = c.self.inside.pass;
      at = k;
      records = c.self.inside.records + 1;
      fault = c.self.inside.fault;
    } in (
      (
        refl,
        (λ _. tt),
        record {
          over =
              λ h. record {
                window = c.in-Ok-Some.ensures.occur h;
                header = (c.requires (c.in-Ok-Some.ensures.persists.honest h)).header;
              };
          progress =
              ap (λ v. record (now new.at) { version = version_of v }) c.in-Ok-Some.ensures.version ∙ ap now here
              ∙ ap (λ (state : BackState). progress_after state.progress (Ok (Some body))) c.self.view_is;
          resource = search rules;
        },
      ),
      record {
        after = tt;
        exact =
            λ e honest.
            subst (λ (state : BackState). next_before state.progress.version content state.progress.at ≡ Ok (Some body))
            c.self.view_is ((rw c.in-Ok-Some.field-0-is at (c.in-Ok-Some.ensures.exact honest))
            ∙ ap (λ (b : List ℕ). Ok (Some b)) (sym c.taken.ensures));
        memory = search rules;
        body =
            record {
              least = omega (arith, least, long);
              greatest =
                  subst (λ (state : BackState). length body ≤ greatest_body state.progress.version) c.self.view_is
                  (omega (arith, greatest, long));
            };
        room = omega (arith, moved, long, at_is);
        file = search rules;
        broken = rw unbroken tt;
        content = search rules;
        persists = search rules;
      },
    )

-- a fault
pub returns-in-Err : goal.returns-in-Err
returns-in-Err g c =
    let content = g.D.Device.content c.args.device.now in
    let fault = c.in-Err.fault in
    let at_is : c.self.inside.window.at ≡ c.args.self.now.progress.at =
    ap (λ (state : BackState). state.progress.at) c.self.view_is in
    let unbroken : c.args.self.now.progress.fault ≡ None =
    sym (ap (λ (state : BackState). state.progress.fault) c.self.view_is) ∙ c.in_default.is in
    let then : Progress =
    record {
      version = version_of c.self.inside.window.version;
      pass = c.self.inside.pass;
      at = c.self.inside.window.at;
      records = c.self.inside.records;
      fault = c.self.inside.fault;
    } in
    let now : ℕ → Progress =
    λ (k : ℕ). record {
      version = version_of c.self.inside.window.version;
      pass = c.self.inside.pass;
      at = k;
      records = c.self.inside.records;
      fault = c.permanent_fault-self-inside.result;
    } in
    let version : record (now c.next.new.self.at) { version = version_of c.next.new.self.version } ≡ now c.next.new.self.at =
    ap (λ v. record (now c.next.new.self.at) { version = version_of v }) c.in-Err.ensures.version in
    let after : now c.next.new.self.at ≡ progress_after then (Err fault) =
    ap now c.in-Err.ensures.kept ∙ c.permanent_fault-self-inside.ensures then c.in_default.is in (
      (
        refl,
        (λ _. tt),
        record {
          over =
              λ h. record {
                window = c.in-Err.ensures.occur h;
                header = (c.requires (c.in-Err.ensures.persists.honest h)).header;
              };
          progress = version ∙ after ∙ ap (λ (state : BackState). progress_after state.progress (Err fault)) c.self.view_is;
          resource = λ is.
              let same : fault ≡ NoMemory = cc in
              let window : unread c.next.new.self ≡ unread c.self.inside.window = c.in-Err.ensures.resource (ap Err same) in
              let progress : record (now c.next.new.self.at) { version = version_of c.next.new.self.version } ≡ then =
              version ∙ after ∙ ap (λ (f : FrameFault). progress_after then (Err f)) same in
              (λ t. record { window = window t; progress = progress t }) ∙ c.self.view_is;
        },
      ),
      record {
        after = tt;
        exact =
            λ e honest.
            subst
            (λ (state : BackState). ReadsAs (option_map (λ (body : Bor (List ℕ)). body.now)) (Err fault)
            (next_before state.progress.version content state.progress.at)) c.self.view_is
            (exact_as_well (option_map (taken c.next.new.self))
            (option_map (λ (body : Bor (List ℕ)). body.now)) fault
            (next_before (version_of c.self.inside.window.version) content c.self.inside.window.at)
            (c.in-Err.ensures.exact honest));
        memory = λ e honest is.
            let same : fault ≡ NoMemory = cc in
            subst (λ (state : BackState). IsLarge (next_before state.progress.version content state.progress.at)) c.self.view_is
            (c.in-Err.ensures.memory honest (ap Err same));
        body = search rules;
        room = search rules;
        file = search rules;
        broken = rw unbroken tt;
        content = search rules;
        persists = search rules;
      },
    )
