-- A part more.
use Rattle.std.proofs.Common.{◌∙◌, arith}
use Rattle.des_fast.proofs.CbcDecryptedRecords.{CbcDecryptsEach-all, GoOn-cbc_decrypted}
use Rattle.des_fast.proofs.many.records.cbc_decrypt.Goals as goal

pub parts-preserved : goal.parts-preserved
parts-preserved g c = record {
  within = omega (arith, c.min-count.ensures, c.parts.invariant.in_blocks);
  starts = c.cbc_decrypt_part-current.ensures.starts;
  before = c.cbc_decrypt_part-current.ensures.before;
  in_vectors = c.cbc_decrypt_part-current.ensures.vectors ∙ c.parts.invariant.in_vectors;
  in_blocks = c.cbc_decrypt_part-current.ensures.count ∙ c.parts.invariant.in_blocks;
  cbc_decrypted = λ decryption are.
      c.cbc_decrypt_part-current.ensures.cbc_decrypted decryption c.args.vectors.now c.args.blocks.now are
      (c.parts.invariant.cbc_decrypted decryption are);
}

pub returns-clause-cbc_decrypted : goal.returns-clause-cbc_decrypted
returns-clause-cbc_decrypted g c decryption are =
    CbcDecryptsEach-all decryption c.args.sizes.now c.args.vectors.now c.args.blocks.now
    c.parts.vectors c.parts.blocks c.parts.from c.requires.vectors c.requires.whole c.parts.invariant.in_blocks
    (omega arith) (c.parts.invariant.cbc_decrypted decryption are)

pub returns-clause-goes_on : goal.returns-clause-goes_on
returns-clause-goes_on g c decryption are =
    GoOn-cbc_decrypted decryption c.args.sizes.now c.args.vectors.now c.args.blocks.now
    c.parts.vectors c.parts.blocks c.parts.from c.requires.vectors c.requires.whole
    (omega arith) (c.parts.invariant.cbc_decrypted decryption are)
