use Rattle.std.proofs.Common.{rules, ◌≡◌, ℕ, ◌+◌, ◌/◌, List, ◌++◌, length, take, refl, ap, ap₂, ◌∙◌}
use Rattle.des_key_blocks.specs.Hex.{hex_of}
use Rattle.des_key_blocks.specs.KeyBlocks.{key_data}
use Rattle.des_key_blocks.proofs.KeyDataLengths.{key-data-lengths}
use Rattle.des_key_blocks.proofs.WrittenSeals.{sealed-written}
use Rattle.des_key_blocks.proofs.key_blocks.write_sealed.Goals as goal

-- what was encrypted and authenticated, in digits
pub returns : goal.returns
returns c =
    let key : List ℕ = c.args.key.now in
    let padding : List ℕ = c.args.padding.now in
    let size : ℕ = 2 + length key + length padding in
    let tag : List ℕ = c.seal-tag.result in
    let digits : c.write_hex.new.text ≡ hex_of c.as_flattened.result.now = c.write_hex.ensures in
    let ends : c.write_hex-2.new.text ≡ hex_of (take c.mac_size.result tag) = c.write_hex-2.ensures in
    sealed-written c.args.version c.args.protection.now c.args.front.now (key_data key padding)
    (c.write_hex.new.text ++ c.write_hex-2.new.text) c.blocks_of-blocks.result c.seal-tag.new.blocks
    c.data_of-clear.result tag c.protection_keys-keys.result.encryption c.protection_keys-keys.result.mac (size / 8)
    size c.are_blocks.ensures c.blocks_of-blocks.ensures (key-data-lengths key padding c.requires.clear).whole refl
    c.data_of-clear.ensures (search rules) c.protection_keys-keys.ensures.encryption
    c.protection_keys-keys.ensures.mac c.seal-tag.ensures.tag c.seal-tag.ensures.chained
    (ap₂ ◌++◌ (digits ∙ ap hex_of c.as_flattened.ensures.value)
    (ends ∙ ap (λ n. hex_of (take n tag)) c.mac_size.ensures))
