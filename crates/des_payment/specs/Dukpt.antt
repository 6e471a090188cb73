-- The keys of a transaction: DUKPT, derived unique key per transaction, with triple DES (ANSI
-- X9.24-1:2009, Annex A). A key has two halves of eight bytes. A key serial number has ten bytes,
-- of which the last 21 bits are the transaction counter.
use Rattle.std.specs.Prelude.{◌≢◌, ℕ, zero, suc, ◌+◌, ◌-◌, ◌*◌, ◌/◌, ◌%◌, ◌^◌, ◌<◌, ◌≤◌, ◌==◌, if◌then◌else◌, List, [], ◌∷◌, ◌++◌, take, drop, bit_or, count_ones}
use Rattle.std.specs.Int.{w64, bit_at, to_be_bytes, from_be_bytes}
use Rattle.des.specs.Blocks.{part}
use Rattle.des.specs.Cbc.{xor_blocks}
use Rattle.des.specs.Des.{encryption}
use Rattle.des.specs.TripleCiphers.{ede2_encryption}
use Rattle.des_payment.specs.declared.dukpt.MessageDirection.{MessageDirection}
use Rattle.des_payment.specs.declared.dukpt.MessageDirection.TheVariants.{Request, Response}

-- a key with a mask xored into each of its halves
abbrev pub masked : ℕ → List ℕ → List ℕ
masked mask key = xor_blocks key (to_be_bytes w64 mask ++ to_be_bytes w64 mask)

-- the mask of derivation
abbrev pub derivation_mask : ℕ
derivation_mask = 0xc0c0c0c000000000

-- ---- the key serial number

-- its last eight bytes, as a number; the counter; and those bytes with the counter's bits cleared
abbrev pub last_bytes : List ℕ → ℕ
last_bytes serial = from_be_bytes w64 (drop 2 serial)

abbrev pub counter_of : List ℕ → ℕ
counter_of serial = last_bytes serial % 2 ^ 21

abbrev pub register_of : List ℕ → ℕ
register_of serial = last_bytes serial - counter_of serial

-- its first eight bytes, of which the last five bits are the counter's, with these cleared
abbrev pub first_bytes : List ℕ → List ℕ
first_bytes serial = to_be_bytes w64 (from_be_bytes w64 (take 8 serial) / 2 ^ 5 * 2 ^ 5)

-- ---- derivation

-- the initial key: the first bytes of the serial number, encrypted under the base key, and under
-- the base key masked
abbrev pub initial_key : List ℕ → List ℕ → List ℕ
initial_key base serial =
    ede2_encryption base (first_bytes serial)
    ++ ede2_encryption (masked derivation_mask base) (first_bytes serial)

-- a half of the next key: the register xor the right half, encrypted under the left half, xor the
-- right half
abbrev pub next_half : ℕ → List ℕ → List ℕ
next_half register key =
    xor_blocks
    (encryption (part 1 key) (xor_blocks (to_be_bytes w64 register) (part 2 key))) (part 2 key)

-- the next key: its left half is made by the key masked, its right half by the key as it is
unfoldable pub next_key : ℕ → List ℕ → List ℕ
next_key register key = next_half register (masked derivation_mask key) ++ next_half register key

-- the places below n at which a number has a one bit, the highest first
unfoldable pub ones_below : ℕ → ℕ → List ℕ
ones_below zero number = []
ones_below (suc n) number = (if bit_at number n == 1 then n ∷ [] else []) ++ ones_below n number

-- for each of these bits of the counter: it is set in the register, and the next key is made
unfoldable pub derived : List ℕ → ℕ → List ℕ → List ℕ
derived [] register key = key
derived (place ∷ places) register key =
    let set : ℕ = bit_or register (2 ^ place) in derived places set (next_key set key)

-- the key of a transaction, from the initial key
abbrev pub transaction_key : List ℕ → List ℕ → List ℕ
transaction_key initial serial =
    derived (ones_below 21 (counter_of serial)) (register_of serial) initial

-- ---- what a transaction's key is used for

abbrev pub pin_key : List ℕ → List ℕ
pin_key key = masked 0xff key

abbrev pub mac_mask : MessageDirection → ℕ
mac_mask Request = 0xff00
mac_mask Response = 0xff000000

abbrev pub mac_key : MessageDirection → List ℕ → List ℕ
mac_key message key = masked (mac_mask message) key

abbrev pub data_mask : MessageDirection → ℕ
data_mask Request = 0xff0000
data_mask Response = 0xff00000000

-- the masked key as it is, which some terminals take for data
abbrev pub data_variant : MessageDirection → List ℕ → List ℕ
data_variant message key = masked (data_mask message) key

-- each half of the masked key, encrypted under the masked key
abbrev pub encrypted_under_itself : List ℕ → List ℕ
encrypted_under_itself key = ede2_encryption key (part 1 key) ++ ede2_encryption key (part 2 key)

abbrev pub data_key : MessageDirection → List ℕ → List ℕ
data_key message key = encrypted_under_itself (data_variant message key)

-- ---- serial numbers in order

-- a transaction's counter: 21 bits, at most ten of them ones
abbrev pub IsUsable : ℕ → Type 0
IsUsable counter = (counter < 2 ^ 21) × (count_ones counter ≤ 10)

-- the serial number is that of a transaction: counter 0 is that of the initial key
abbrev pub IsOfTransaction : List ℕ → Type 0
IsOfTransaction serial = (counter_of serial ≢ 0) × IsUsable (counter_of serial)

-- the next counter: the least one after this that is usable
pub record IsNextCounter (counter next : ℕ) : Type 0 where
  pub after : counter < next
  pub usable : IsUsable next
  pub least : (other : ℕ) → counter < other → other < next → ¬ (IsUsable other)

-- the serial number with another counter
abbrev pub with_counter : List ℕ → ℕ → List ℕ
with_counter serial counter = take 2 serial ++ to_be_bytes w64 (register_of serial + counter)
