-- The terminal's side of DUKPT with triple DES (ANSI X9.24-1:2009, A.2 and A.4): the future keys. The
-- register of a place has the key of the next transaction whose counter has its lowest one bit
-- there; places are counted from 0, the lowest bit of the counter, to 20. Serial numbers stand by
-- their last eight bytes, as numbers.
use Rattle.std.specs.Prelude.{◌≡◌, ℕ, ◌+◌, ◌-◌, ◌*◌, ◌/◌, ◌%◌, ◌^◌, ◌<◌, ◌==◌, ◌&&◌, nat_lt, if◌then◌else◌, List, replicate, bit_or, count_ones}
use Rattle.std.specs.Int.{w64, bit_at, trailing_zeros}
use Rattle.des_fast.specs.Transposition.{block_at}
use Rattle.des_payment.specs.Dukpt.{ones_below, next_key, derived, IsUsable}

-- the key of a transaction, from the initial key
abbrev pub key_of : List ℕ → ℕ → List ℕ
key_of initial last = derived (ones_below 21 (last % 2 ^ 21)) (last - last % 2 ^ 21) initial

-- the serial number that a zero bit at a place becomes a one of, with zeros below
abbrev pub next_at : ℕ → ℕ → ℕ
next_at last place = (last / 2 ^ place + 1) * 2 ^ place

-- after the transaction of a serial number: the register of each place where its counter has a zero
-- holds the key of the next that has its lowest one there, if that is a transaction's
abbrev pub HasFutureKeys : List ℕ → ℕ → List (List ℕ) → Type 0
HasFutureKeys initial last keys = (place : ℕ) → place < 21 → bit_at last place ≡ 0
    → IsUsable (next_at last place % 2 ^ 21)
    → block_at keys place ≡ key_of initial (next_at last place)

-- the place of the lowest one bit of the counter: its register has the key of the transaction
abbrev pub place_of : ℕ → ℕ
place_of last = trailing_zeros w64 (last % 2 ^ 21)

-- a register after the transaction of a serial number, from the registers before it (A.2): that of the transaction's
-- key is cleared; those of the places below get the keys that this key makes, if the counter has fewer than ten one
-- bits; all others stay
abbrev pub register_after : ℕ → List (List ℕ) → ℕ → List ℕ
register_after last keys place =
    if place == place_of last then replicate 16 0
    else if nat_lt place (place_of last) && nat_lt (count_ones (last % 2 ^ 21)) 10
    then next_key (bit_or last (2 ^ place)) (block_at keys (place_of last))
    else block_at keys place
