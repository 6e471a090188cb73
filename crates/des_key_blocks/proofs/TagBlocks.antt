-- What a key of three parts makes of bytes is a block, and so is a tag.
use Rattle.std.proofs.Common.{◌≡◌, ℕ, zero, suc, ◌/◌, ◌<◌, List, ◌++◌, length, take, refl, arith}
use Rattle.std.proofs.lemmas.List.{length-take}
use Rattle.std.proofs.lemmas.List.Elements.{All-replicate, All-take}
use Rattle.des.specs.Blocks.{AreBytes, IsBlock, part}
use Rattle.des.specs.Cbc.{xor_blocks}
use Rattle.des.specs.TripleCiphers.{ede3_encryption, ede3_decryption}
use Rattle.des.specs.Laws.BlockBits.{IsBlock-block_of_bits}
use Rattle.des.specs.Laws.DesLaws.{IsPass-key}
use Rattle.des.specs.Laws.Passes.{IsPass, IsPass-turned, IsPass-through}
use Rattle.des_mac.specs.CbcMac.{zero_block, block_after, chain_after, cbc_mac}
use Rattle.des_mac.specs.Cmac.{masked_message}
use Rattle.des_key_blocks.specs.KeyBlocks.{tag_of, mac_size}
use Rattle.des_key_blocks.specs.declared.key_block_header.Version.{Version}
use Rattle.des_key_blocks.specs.declared.key_block_header.Version.TheVariants.{A, B, C}

pub IsBlock-encryption : (key input : List ℕ) → IsBlock (ede3_encryption key input)
IsBlock-encryption key input = IsBlock-block_of_bits _

pub IsPass-encryption : (key : List ℕ) → IsPass (ede3_encryption key) (ede3_decryption key)
IsPass-encryption key =
    IsPass-through (IsPass-key (part 1 key)) (IsPass-turned (IsPass-key (part 2 key))) (IsPass-key (part 3 key))

IsBlock-chain_after : (key m : List ℕ) (n : ℕ) → IsBlock (chain_after (ede3_encryption key) m n)
unfolding chain_after
IsBlock-chain_after key m zero = (refl, All-replicate (λ number. number < 256) 8 0 (omega arith))
IsBlock-chain_after key m (suc n) =
    IsBlock-encryption key (xor_blocks (block_after m n) (chain_after (ede3_encryption key) m n))

IsBlock-cbc_mac : (key m : List ℕ) → IsBlock (cbc_mac (ede3_encryption key) m)
unfolding cbc_mac
IsBlock-cbc_mac key m = IsBlock-chain_after key m (length m / 8)

pub IsBlock-tag_of : (version : Version) (key header clear encrypted : List ℕ)
    → IsBlock (tag_of version key header clear encrypted)
IsBlock-tag_of A key header clear encrypted = IsBlock-cbc_mac key (header ++ encrypted)
IsBlock-tag_of B key header clear encrypted =
    IsBlock-cbc_mac key (masked_message (ede3_encryption key zero_block) (header ++ clear))
IsBlock-tag_of C key header clear encrypted = IsBlock-cbc_mac key (header ++ encrypted)

-- a MAC is of bytes, as many as the version has
pub length-mac : (version : Version) (tag : List ℕ) → length tag ≡ 8
    → length (take (mac_size version) tag) ≡ mac_size version
length-mac A tag eight = omega (arith, length-take 4 tag)
length-mac B tag eight = omega (arith, length-take 8 tag)
length-mac C tag eight = omega (arith, length-take 4 tag)

pub AreBytes-mac : (version : Version) (tag : List ℕ) → AreBytes tag → AreBytes (take (mac_size version) tag)
AreBytes-mac version tag bytes = All-take (λ number. number < 256) (mac_size version) tag bytes
