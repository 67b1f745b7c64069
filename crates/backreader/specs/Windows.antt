-- The buffer of a reader. All of this is this project's.
use Rattle.std.specs.Prelude.{◌≡◌, ℕ, ◌+◌, ◌-◌, ◌≤◌, List, slice_range}
use Rattle.backreader.specs.declared.window.Window.{Window}

-- the bytes that were read and are not taken yet
abbrev pub unread : Window → List ℕ
unread window = slice_range window.buffer.items window.from window.to

-- the first `count` of the bytes that were taken last
abbrev pub taken : Window → ℕ → List ℕ
taken window count = slice_range window.buffer.items window.to (window.to + count)

-- The bytes that were unread in the old window are the last unread ones of the new window: reading on adds bytes before them.
-- This is about windows only: the `Keeps` of std (`Io.KnownBytes`), which treefile uses for files, states that a writer's bytes
-- are as before.
pub record Keeps (old new : Window) : Type 0 where
  pub more : old.to - old.from ≤ new.to - new.from
  pub last : slice_range new.buffer.items (new.to - (old.to - old.from)) new.to ≡ unread old
