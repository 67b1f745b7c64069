-- The ending of a text's tokens (this project's language).
use Rattle.std.specs.Prelude.{ℕ}

-- the offset in bytes where the tokens end, and the reason: the end of the text, a character that begins no token, or a token
-- whose number or place is above its limit
pub data Ending : Type 0 where
  EndsAt : ℕ → Ending
  NoTokenAt : ℕ → Ending
  TooLargeAt : ℕ → Ending

-- the offset where the tokens end
abbrev pub offset_of : Ending → ℕ
offset_of (EndsAt at) = at
offset_of (NoTokenAt at) = at
offset_of (TooLargeAt at) = at
