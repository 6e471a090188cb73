use Rattle.std.proofs.Common.{◌≡◌, ℕ, List, ◌++◌, sym, subst, arith, take_at, drop_at}
use Rattle.std.specs.Int.{w32, to_be_bytes}
use Rattle.std.proofs.lemmas.List.{take-append-drop}
use Rattle.des.specs.Blocks.{IsBlock}
use Rattle.des.proofs.XoredBlocks.{xor_blocks-undone}
use Rattle.des_key_wraps.proofs.tkw.step_back.Goals as goal

pub returns : goal.returns
returns g c =
    let E : List ℕ → List ℕ = g.C.BlockCipherEncrypt.encrypted c.args.cipher.now in
    let number : List ℕ = to_be_bytes w32 c.args.number in
    let is_block : IsBlock c.joined-block.result = (omega arith, c.are_bytes.ensures) in
    let parts : c.split.new.first ++ c.split.new.second ≡ g.C.BlockCipherDecrypt.decrypted c.args.cipher.now c.joined-block.result =
    rw (c.split.ensures.first, c.split.ensures.second, take-append-drop 4 c.decrypt_block.new.block) c.decrypt_block.ensures in
    let again : E (c.split.new.first ++ c.split.new.second) ≡ c.xor_number.new.word ++ c.args.word.now =
    rw (parts, g.met.C.BlockCipher.encrypts_decrypted c.args.cipher.now c.joined-block.result is_block) c.joined-block.ensures in
    record {
      first =
          rw (again, take_at c.xor_number.new.word c.args.word.now 4 (omega arith), c.xor_number.ensures)
          (xor_blocks-undone c.args.first.now number (omega arith));
      word = rw again (drop_at c.xor_number.new.word c.args.word.now 4 (omega arith));
      block = subst IsBlock (sym parts) (g.met.C.BlockCipher.decrypted_is_block c.args.cipher.now c.joined-block.result is_block);
    }
