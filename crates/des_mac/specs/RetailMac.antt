-- MAC algorithm 3 of ISO/IEC 9797-1:2011, the retail MAC, over a cipher with blocks of 8 bytes.
use Rattle.std.specs.Prelude.{ℕ, List, take, drop}
use Rattle.des_mac.specs.CbcMac.{cbc_mac}

-- the tag of padded bytes (7.4), by what keys answer in each direction: the last block of the chain
-- under the first key, decrypted under the second, encrypted under the first
abbrev pub retail_mac : (List ℕ → List ℕ → List ℕ) → (List ℕ → List ℕ → List ℕ)
    → List ℕ → List ℕ → List ℕ → List ℕ
retail_mac encryption decryption first second m =
    encryption first (decryption second (cbc_mac (encryption first) m))

-- the same of a key that is two keys of `size` bytes, one after the other
abbrev pub retail_mac_of : ℕ → (List ℕ → List ℕ → List ℕ) → (List ℕ → List ℕ → List ℕ)
    → List ℕ → List ℕ → List ℕ
retail_mac_of size encryption decryption key m =
    retail_mac encryption decryption (take size key) (drop size key) m
