use Rattle.std.proofs.Common.{rules}
use Rattle.des_rows.proofs.MappedLists.{AnswersEach-map, map-undone}
use Rattle.des_rows.proofs.lists.there_and_back.Goals as goal

-- the list call makes the ciphertext by a map
pub returns-clause-encrypted : goal.returns-clause-encrypted
returns-clause-encrypted g c = search (rules, AnswersEach-map (g.C.BlockCipherEncrypt.encrypted c.args.cipher.now))

-- so does the other
pub returns-clause-decrypted : goal.returns-clause-decrypted
returns-clause-decrypted g c = search (rules, AnswersEach-map (g.C.BlockCipherDecrypt.decrypted c.args.cipher.now))

-- decryption undoes encryption on each block
pub returns-clause-same : goal.returns-clause-same
returns-clause-same g c =
    search (
      rules,
      map-undone (g.C.BlockCipherEncrypt.encrypted c.args.cipher.now)
          (g.C.BlockCipherDecrypt.decrypted c.args.cipher.now) c.args.blocks.now
          (g.met.C.BlockCipher.decrypts_encrypted c.args.cipher.now) c.encrypt_blocks_b2b.ensures.blocks,
    )
