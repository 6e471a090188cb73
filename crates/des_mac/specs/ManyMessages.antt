-- Many messages, each a list of bytes that a reference leads to.
use Rattle.std.specs.Prelude.{ℕ, List, [], map, slice_index_or}
use Rattle.std.specs.Borrow.{Bor}

-- the bytes of each
abbrev pub texts : List (Bor (List ℕ)) → List (List ℕ)
texts messages = map (λ message. message.now) messages

-- those of message k, from 0
abbrev pub text_at : List (Bor (List ℕ)) → ℕ → List ℕ
text_at messages k = slice_index_or (texts messages) k []
