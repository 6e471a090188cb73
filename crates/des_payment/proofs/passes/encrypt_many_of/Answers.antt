use Rattle.std.proofs.Common.{◌≡◌, ℕ, List, [], length, get_or, sym, subst, ap, ◌∙◌}
use Rattle.std.proofs.lemmas.List.{get_or-map, length-map}
use Rattle.std.proofs.lemmas.List.Elements.{All-get_or}
use Rattle.des.specs.Blocks.{AreBytes, IsBlock}
use Rattle.des_fast.proofs.AnsweredBatches.{answered-at}
use Rattle.des_payment.proofs.passes.encrypt_many_of.Goals as goal

-- a cipher made from the key encrypts as the key does
pub returns : goal.returns
returns g c =
    let key : List ℕ = g.C.Key.KeyBytes.bytes_of c.args.key.now in
    let old : List (List ℕ) = c.args.blocks.now in
    let encrypted : List ℕ → List ℕ = g.C.BlockCipherEncrypt.encrypted c.new.result in
    let count : length key ≡ g.C.KeySizeUser.KEY_SIZE =
    sym (ap length c.as_bytes.ensures.bytes) ∙ c.as_bytes.ensures.count ∙ sym g.met.C.KeySizeUser.key_size_is_len in
    let bytes : AreBytes key = subst AreBytes c.as_bytes.ensures.bytes c.as_bytes.ensures.are_bytes in
    answered-at (g.C.KeyedCipher.encryption key) old c.encrypt_many_by.new.blocks
    (ap length c.encrypt_many_by.ensures.encrypted ∙ length-map old encrypted)
    (λ k below.
    ap (λ (xs : List (List ℕ)). get_or xs k []) c.encrypt_many_by.ensures.encrypted
    ∙ get_or-map encrypted old k [] [] below
    ∙ g.met.C.KeyedCipher.encrypts_by_key c.new.result key (get_or old k []) (count, bytes) c.new.ensures
    (All-get_or IsBlock old k [] below c.encrypt_many_by.ensures.blocks))
