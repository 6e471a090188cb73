use Rattle.std.proofs.Common.{ℕ, List, [], ◌∷◌, ap, ap₂, ◌∙◌}
use Rattle.des.specs.Cbc.{xor_blocks}
use Rattle.des.proofs.ChainedPieces.{CbcDecrypts-append}
use Rattle.des.proofs.CbcDecryptedLists.{CbcDecrypts-cbc_decrypted}
use Rattle.des_key_wraps.proofs.cms_key_wrap.decrypt.Goals as goal

pub returns-clause-cbc_decrypted : goal.returns-clause-cbc_decrypted
returns-clause-cbc_decrypted g c =
    CbcDecrypts-append _ _ _ _ (_ ∷ []) (_ ∷ []) c.decrypt.ensures.cbc_decrypted (CbcDecrypts-cbc_decrypted _ _ _ _
    (ap (λ (x : List ℕ). x ∷ []) (c.xor.ensures ∙ ap₂ xor_blocks c.decrypt_block.ensures c.next_vector-before.ensures)))
