use Rattle.std.proofs.Common.{ℕ, List, ◌<◌, map, refl, ◌∙◌, rules}
use Rattle.std.proofs.lemmas.List.Elements.{All-from_get_or}
use Rattle.des.specs.Blocks.{AreBytes}
use Rattle.des_uses.proofs.BlockLists.{map-alike}
use Rattle.des_uses.proofs.long_records.encrypt_list.Goals as goal

-- the cipher is made from the key, so it encrypts each block as the key does
pub returns-clause-encrypted : goal.returns-clause-encrypted
returns-clause-encrypted g c =
    let key : List ℕ = c.args.key.now in
    let cipher = c.in_ok-cipher.cipher in
    let bytes : AreBytes key = All-from_get_or (λ byte. byte < 256) key 0 (λ i within. search rules) in
    ◌∙◌ {b = map (g.C.BlockCipherEncrypt.encrypted cipher) c.args.blocks.now} c.encrypt_many.ensures.encrypted
    (map-alike (g.C.BlockCipherEncrypt.encrypted cipher) (g.C.KeyedCipher.encryption key) c.args.blocks.now
    (λ block is_block. g.met.C.KeyedCipher.encrypts_by_key cipher key block
    (c.in_ok-cipher.ensures.accepted.0 refl, bytes) c.in_ok-cipher.ensures.made is_block) c.encrypt_many.ensures.blocks)
