-- The folders that links stand in.
use Rattle.std.specs.Prelude.{ℕ, ◌==◌, Bool, bit_and}

-- everyone may write in a folder of this mode, and remove only their own files: its bits have both
-- `S_ISVTX` and `S_IWOTH`
abbrev pub is_shared : ℕ → Bool
is_shared mode = bit_and mode 0o1002 == 0o1002
