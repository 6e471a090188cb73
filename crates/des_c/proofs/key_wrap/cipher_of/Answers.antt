use Rattle.std.proofs.Common.{ℕ, List, true, false, subst, sym, arith}
use Rattle.des.specs.Blocks.{part}
use Rattle.des.specs.Relations.{IsGraphOf}
use Rattle.des.specs.TripleCiphers.{triple_encrypted}
use Rattle.des.proofs.Graphs.{IsGraphOf-encryption, IsGraphOf-decryption}
use Rattle.des_fast.specs.Des.{IsDesMadeFrom, IsDesOf, encrypted, decrypted}
use Rattle.des_fast.specs.declared.single.Des.{Des}
use Rattle.des_fast.specs.declared.box_lookup.NoTables.{NoTables}
use Rattle.des_context.specs.CipherTypes.{relation_of}
use Rattle.des_c.proofs.ProtectionKeys.{encrypts-protection}
use Rattle.des_c.proofs.key_wrap.cipher_of.Goals.{then-protection-eq16, else-protection-eq16}
use Rattle.des_c.proofs.key_wrap.cipher_of.Goals as goal

pub returns : goal.returns
returns c =
    let key : List ℕ = c.args.protection.now in
    let ciphers : Des NoTables × Des NoTables × Des NoTables = (c.new.result, c.new-2.result, c.new-3.result) in
    let made : (d : Des NoTables) (part : List ℕ) → IsDesOf d part → IsDesMadeFrom d part =
    λ d part is. (is, (IsGraphOf-encryption part is.0, IsGraphOf-decryption part is.0)) in
    let first = made c.new.result (part 1 key) (rw c.key_part.ensures at c.new.ensures.made) in
    let second = made c.new-2.result (part 2 key) (rw c.key_part-2.ensures at c.new-2.ensures.made) in
    let third = made c.new-3.result (part c.if-protection-eq16.third key) (rw c.key_part-3.ensures at c.new-3.ensures.made) in
    subst (λ they. IsGraphOf (triple_encrypted encrypted decrypted true they) (relation_of key)) (sym c.of_three.ensures.parts)
    (elim c.if-protection-eq16.branch [
      | then-protection-eq16 w ↦ encrypts-protection ciphers false key
          ((omega (arith, w), c.are_bytes.ensures), first, second, rw w.third-is at third)
      | else-protection-eq16 w ↦ encrypts-protection ciphers true key
          ((omega (arith, w, c.requires), c.are_bytes.ensures), first, second, rw w.third-is at third)
    ])
