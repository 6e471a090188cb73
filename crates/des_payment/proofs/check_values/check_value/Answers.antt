use Rattle.std.proofs.Common.{ℕ, ◌<◌, List, replicate, take, refl, ap, ◌∙◌, rules}
use Rattle.std.proofs.lemmas.List.Elements.{All-from_get_or}
use Rattle.des.specs.Blocks.{AreBytes, IsBlock}
use Rattle.des_payment.proofs.check_values.check_value.Goals as goal

-- the cipher is made from the key, so it encrypts the zero block as the key does
pub returns-clause-value : goal.returns-clause-value
returns-clause-value g c =
    let zeros : List ℕ = replicate 8 0 in
    let bytes : AreBytes c.args.key.now =
    All-from_get_or (λ byte. byte < 256) c.args.key.now 0 (λ i within. search rules) in
    let is_block : IsBlock zeros = (refl, All-from_get_or (λ byte. byte < 256) zeros 0 (λ i within. search rules)) in
    c.first_bytes.ensures
    ∙ ap (take 3) c.encrypt_block.ensures
    ∙ ap (take 3)
    (g.met.C.KeyedCipher.encrypts_by_key c.in_ok-cipher.cipher c.args.key.now zeros
    (c.in_ok-cipher.ensures.accepted.0 refl, bytes)
    c.in_ok-cipher.ensures.made is_block)
