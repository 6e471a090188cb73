-- Padding methods by their numbers (ISO/IEC 9797-1:2011, 6.3), and the statuses of the calls that take them.
use Rattle.std.specs.Prelude.{ℕ, ℤ, ◌||◌, ◌&&◌, nat_eq, List, if◌then◌else◌}
use Rattle.des_context.specs.declared.status.TheConstants.{OK, ERR_KEY_LENGTH, ERR_PADDING_METHOD, ERR_COUNTS}
use Rattle.des_mac.specs.Padding.{zeros_after, one_bit_after}

-- what goes after n bytes, by method 1 or 2
abbrev pub padding_by : ℕ → ℕ → List ℕ
padding_by method n = if nat_eq method 2 then one_bit_after n else zeros_after n

-- the status of a key of n bytes, if a key has `size`, and of a number of a method
abbrev pub status_of : ℕ → ℕ → ℕ → ℤ
status_of size bytes method =
    if nat_eq bytes size then (if nat_eq method 1 || nat_eq method 2 then OK else ERR_PADDING_METHOD)
    else ERR_KEY_LENGTH

-- the status of a number of a method, and of as many messages and tags
abbrev pub status_of_lists : ℕ → ℕ → ℕ → ℤ
status_of_lists method messages tags =
    if nat_eq method 1 || nat_eq method 2 then (if nat_eq messages tags then OK else ERR_COUNTS)
    else ERR_PADDING_METHOD

-- the status of a number of a method, and of as many keys, messages and tags
abbrev pub status_of_each : ℕ → ℕ → ℕ → ℕ → ℤ
status_of_each method keys messages tags =
    if nat_eq method 1 || nat_eq method 2 then (if nat_eq keys tags && nat_eq messages tags then OK else ERR_COUNTS)
    else ERR_PADDING_METHOD
