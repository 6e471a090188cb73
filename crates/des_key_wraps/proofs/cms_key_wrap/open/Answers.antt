use Rattle.std.proofs.Common.{◌≡◌, ℕ, ◌+◌, ◌-◌, List, [], length, arith}
use Rattle.std.proofs.lemmas.List.{drop_all}
use Rattle.des_key_wraps.proofs.Enclosed.{Encloses-opened, framed}
use Rattle.des_key_wraps.proofs.TkwSteps.{Undoes}
use Rattle.des_key_wraps.proofs.cms_key_wrap.open.Goals as goal

pub returns-clause-opened : goal.returns-clause-opened
returns-clause-opened g c =
    let enclosed : List (List ℕ) = c.args.enclosed.now in
    let count : ℕ = length c.args.key.now in
    let none : c.decrypt.new.blocks ≡ [] = drop_all 0 c.decrypt.new.blocks (omega (arith, c.decrypt.auto.blocks)) in
    let laws : Undoes (g.C.BlockCipherDecrypt.decrypted c.args.cipher.now) (g.C.BlockCipherEncrypt.encrypted c.args.cipher.now) =
    record {
      undone = g.met.C.BlockCipher.encrypts_decrypted c.args.cipher.now;
      is_block = g.met.C.BlockCipher.decrypted_is_block c.args.cipher.now;
    } in
    Encloses-opened _ _ _ _ _ _ laws c.are_blocks.ensures (framed enclosed count (count + 1 - 1) c.requires (omega arith))
    (rw none at c.decrypt.ensures.cbc_decrypted) (rw c.copy_from_slice.ensures.after at c.decrypt-2.ensures.cbc_decrypted)
    c.reverse-2.ensures.after c.reverse_bytes.ensures c.reverse.ensures.after (omega arith, c.are_bytes.ensures)
    c.decrypt-3.ensures.ciphertext c.decrypt-3.ensures.plaintext c.decrypt-3.ensures.cbc_decrypted
