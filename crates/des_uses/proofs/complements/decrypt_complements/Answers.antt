use Rattle.std.proofs.Common.{◌≡◌, ◌<◌, ℕ, List, length, refl, ap, sym, ◌∙◌, subst, rules}
use Rattle.std.proofs.lemmas.List.{length-map}
use Rattle.std.proofs.lemmas.List.Elements.{All-from_get_or}
use Rattle.des.specs.Blocks.{IsKey, IsBlock}
use Rattle.des.specs.Complement.{complement, complement_of_byte}
use Rattle.des.specs.Laws.ComplementBits.{IsKey-complement}
use Rattle.des_uses.proofs.complements.decrypt_complements.Goals as goal

-- the cipher is made from the complemented key, so it makes of a block what that key does, which is the complement of what the
-- key makes
pub returns-clause-processed : goal.returns-clause-processed
returns-clause-processed g c =
    let size : ℕ = g.C.KeySizeUser.KEY_SIZE in
    let key : List ℕ = c.args.key.now in
    let block : List ℕ = c.args.block.now in
    let cipher = c.in_ok-new_from_slice.field-0 in
    let count : length key ≡ size =
    sym (length-map key complement_of_byte) ∙ ap length (sym c.complement_bytes.ensures)
    ∙ c.in_ok-new_from_slice.ensures.accepted.0 refl in
    let is_key : IsKey size key = (count, All-from_get_or (λ byte. byte < 256) key 0 (λ i within. search rules)) in
    let is_block : IsBlock block =
    (c.told-block, All-from_get_or (λ byte. byte < 256) block 0 (λ i within. c.fits-block i)) in
    let made : g.C.KeyInit.is_made_from cipher (complement key) =
    subst (g.C.KeyInit.is_made_from cipher) c.complement_bytes.ensures c.in_ok-new_from_slice.ensures.made in
    let function = g.C.BlockCipherDecrypt.decrypted cipher in
    let complemented : function c.complement_bytes-2.new.bytes
    ≡ g.C.KeyedCipher.decryption (complement key) (complement block) =
    ◌∙◌ {b = function (complement block)} (ap function c.complement_bytes-2.ensures)
    (g.met.C.KeyedCipher.decrypts_by_key cipher (complement key) (complement block)
    (IsKey-complement size key is_key) made (IsKey-complement 8 block is_block)) in
    ◌∙◌ {b = g.C.KeyedCipher.decryption (complement key) (complement block)}
    (◌∙◌ {b = function c.complement_bytes-2.new.bytes} c.decrypt_block.ensures complemented)
    (g.met.C.Complementing.decryption_complements key block is_key is_block)
