-- The two keys that a protection key of key blocks makes (ANSI X9.143, ASC X9 TR-31): one encrypts, one
-- authenticates.
use Rattle.std.specs.Prelude.{ℕ, ◌*◌, nat_eq, if◌then◌else◌, List, [], ◌∷◌, ◌++◌, length, take, replicate}
use Rattle.des.specs.Cbc.{xor_blocks}
use Rattle.des.specs.TripleCiphers.{ede3_encryption}
use Rattle.des_mac.specs.Cmac.{cmac}
use Rattle.des_key_blocks.specs.declared.key_block_header.Version.{Version}
use Rattle.des_key_blocks.specs.declared.key_block_header.Version.TheVariants.{A, B, C}

-- a key of two parts is one of three, of which the third is the first
abbrev pub three_parts : List ℕ → List ℕ
three_parts key = take 24 (key ++ key)

-- a key with a byte xored into each of its bytes
abbrev pub variant : ℕ → List ℕ → List ℕ
variant byte key = xor_blocks key (replicate 24 byte)

-- the input of a derivation: counter, usage, zero, algorithm, length of the key in bits
abbrev pub derivation_block : ℕ → ℕ → ℕ → List ℕ
derivation_block size usage counter =
    counter ∷ 0 ∷ usage ∷ 0 ∷ 0 ∷ (if nat_eq size 24 then 1 else 0) ∷ 0 ∷ 8 * size ∷ []

-- the key that is derived for a usage, 0 for encryption and 1 for MACs: CMACs of these blocks
abbrev pub derived_part : ℕ → List ℕ → ℕ → List ℕ
derived_part usage key counter =
    cmac (ede3_encryption (three_parts key)) (derivation_block (length key) usage counter)

abbrev pub derived_key : ℕ → List ℕ → List ℕ
derived_key usage key =
    take (length key) (derived_part usage key 1 ++ derived_part usage key 2 ++ derived_part usage key 3)

-- both keys, each of three parts: in version B derived, in A and C the protection key with another byte xored in
abbrev pub encryption_key : Version → List ℕ → List ℕ
encryption_key B key = three_parts (derived_key 0 key)
encryption_key A key = variant 0x45 (three_parts key)
encryption_key C key = variant 0x45 (three_parts key)

abbrev pub mac_key : Version → List ℕ → List ℕ
mac_key B key = three_parts (derived_key 1 key)
mac_key A key = variant 0x4d (three_parts key)
mac_key C key = variant 0x4d (three_parts key)
