-- MACs by the numbers that ISO/IEC 9797-1:2011 gives their algorithms: 1 is CBC-MAC, 3 the retail MAC, here over
-- DES, and 5 CMAC.
use Rattle.std.specs.Prelude.{◌≡◌, ◌⊎◌, ℕ, nat_eq, List, if◌then◌else◌}
use Rattle.des.specs.Des.{encryption, decryption}
use Rattle.des_mac.specs.CbcMac.{cbc_mac}
use Rattle.des_mac.specs.Cmac.{cmac}
use Rattle.des_mac.specs.Padding.{padded}
use Rattle.des_mac.specs.RetailMac.{retail_mac_of}
use Rattle.des_context.specs.CipherTypes.{encryption_of}
use Rattle.des_context.specs.Keys.{IsKeyLength}
use Rattle.des_context.specs.PaddingMethods.{padding_by}

-- one of the algorithms has the number
abbrev pub IsAlgorithm : ℕ → Type 0
IsAlgorithm algorithm = (algorithm ≡ 1) ⊎ (algorithm ≡ 3) ⊎ (algorithm ≡ 5)

-- the bytes of a key of the algorithm: of the retail MAC it is two keys of DES, and CMAC is not over DES
abbrev pub IsMacKeyLength : ℕ → ℕ → Type 0
IsMacKeyLength algorithm bytes =
    ((algorithm ≡ 1) × IsKeyLength bytes) ⊎ ((algorithm ≡ 3) × (bytes ≡ 16))
    ⊎ ((algorithm ≡ 5) × ((bytes ≡ 16) ⊎ (bytes ≡ 24)))

-- the tag of the bytes m under a key, with the padding method of a number; CMAC has a padding of its own
abbrev pub mac_by : ℕ → ℕ → List ℕ → List ℕ → List ℕ
mac_by algorithm padding key m =
    if nat_eq algorithm 1 then cbc_mac (encryption_of key) (padded (padding_by padding) m)
    else (if nat_eq algorithm 3 then retail_mac_of 8 encryption decryption key (padded (padding_by padding) m)
    else cmac (encryption_of key) m)
