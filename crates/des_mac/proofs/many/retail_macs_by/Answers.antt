use Rattle.std.proofs.Common.{ℕ, List, map, ap, sym, ◌∙◌}
use Rattle.des_mac.specs.Padding.{padded}
use Rattle.des_mac.specs.ManyMessages.{texts}
use Rattle.des_mac.proofs.MappedBlocks.{retail_macs-mapped}
use Rattle.des_mac.proofs.many.retail_macs_by.Goals as goal

-- the tags under the first key go back under the second, and forth under the first again
pub returns-clause-ok : goal.returns-clause-ok
returns-clause-ok g c =
    let bytes = g.C.Key.KeyBytes.bytes_of in
    let first : List ℕ = bytes c.args.first.now in
    let second : List ℕ = bytes c.args.second.now in
    let encryption : List ℕ → List ℕ → List ℕ = g.C.KeyedCipher.encryption in
    let decryption : List ℕ → List ℕ → List ℕ = g.C.KeyedCipher.decryption in
    c.encrypt_many_by.ensures
    ∙ ap (map (encryption first))
    (c.decrypt_many_by.ensures ∙ ap (map (decryption second)) c.in_ok-cbc_macs_by.ensures.ok)
    ∙ retail_macs-mapped g.C.KeySizeUser.KEY_SIZE encryption decryption (padded g.P.Padding.padding_after)
    first second (texts c.args.messages.now)
    (c.are_key_bytes.ensures.0 ∙ sym g.met.C.KeySizeUser.key_size_is_len)
