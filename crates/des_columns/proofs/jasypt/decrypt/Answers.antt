use Rattle.std.proofs.Common.{◌≡◌, ℕ, ℤ, ◌-◌, Option, Some, None, List, ◌++◌, length, take, drop, replicate, refl, ap, ap₂, ◌∙◌, arith}
use Rattle.std.proofs.lemmas.List.{length-take-le, take_all, take_at}
use Rattle.des_columns.specs.Columns.{deciphered, plain_of}
use Rattle.des_columns.specs.Forms.{fault_before, part_after, size_in, status_after, text_after}
use Rattle.des_columns.specs.declared.form.BlockMode.{BlockMode}
use Rattle.des_columns.specs.declared.form.ValueForm.TheVariants.{Pkcs7}
use Rattle.des_columns.proofs.ReadValues.{plain-encrypted}
use Rattle.des_columns.proofs.jasypt.decrypt.Goals as goal

-- what is encrypted stands at the front
part-front : (fault : Option ℤ) (value : List ℕ) (count : ℕ) → count ≡ length (part_after fault Pkcs7 value)
    → take count value ≡ part_after fault Pkcs7 value
part-front (Some fault) value count is = ap (λ n. take n value) is
part-front None value count is = take_all count value (omega (arith, is))

pub returns-clause-read : goal.returns-clause-read
returns-clause-read g c =
    let value : List ℕ = c.args.encrypted.now in
    let cipher = c.cipher_of-cipher.result.0 in
    let f : List ℕ → List ℕ = g.C.BlockCipherDecrypt.decrypted cipher in
    let mode : BlockMode = c.cipher_of-cipher.result.1 in
    let count : ℕ = length c.part_of-count.result.now in
    let decrypted : List ℕ = c.decipher.new.bytes in
    let fault : Option ℤ = c.fault_before-fault.result in
    let plain : take count (decrypted ++ drop count value) ≡ plain_of Pkcs7 mode (λ value. f) value =
    take_at decrypted (drop count value) count (c.decipher.auto.bytes ∙ length-take-le count value c.part_of-count.ensures.within)
    ∙ c.decipher.ensures
    ∙ ap (deciphered mode f) (part-front (fault_before Pkcs7 value) value count (ap length c.part_of-count.ensures.part)) in
    let text : List ℕ = text_after fault (size_in Pkcs7 (take count (decrypted ++ drop count value)))
    (take count (decrypted ++ drop count value)) in
    rw (← c.cipher_of-cipher.ensures.mode) (record {
      plain = plain_of Pkcs7 mode (λ value. f) value;
      encrypted =
          plain-encrypted _ (g.C.BlockCipherEncrypt.encrypted cipher) f
          (g.met.C.Relating.encrypts_by_relation cipher _ c.cipher_of-cipher.ensures.cipher) (g.met.C.BlockCipher.decrypted_is_block cipher)
          (g.met.C.BlockCipher.encrypts_decrypted cipher) Pkcs7 mode value c.has_vector.ensures c.are_bytes.ensures;
      status_is =
          c.finish.ensures.status
          ∙ ap₂ (λ (e : Option ℤ) (p : List ℕ). status_after e (size_in Pkcs7 p)) c.fault_before-fault.ensures plain;
      text_is =
          ap₂ take c.finish.ensures.length c.finish.ensures.text
          ∙ take_at text (replicate (length (decrypted ++ drop count value) - length text) 0) (length text) refl
          ∙ ap₂ (λ (e : Option ℤ) (p : List ℕ). text_after e (size_in Pkcs7 p) p) c.fault_before-fault.ensures plain;
    })
