use Rattle.std.proofs.Common.{map, refl, ◌∙◌}
use Rattle.std.proofs.lemmas.List.{length-map}
use Rattle.des_uses.proofs.ZippedLists.{get_or-zipped}
use Rattle.des_uses.proofs.each_key.encrypt_under_keys.Goals as goal

pub returns-clause-encrypted : goal.returns-clause-encrypted
returns-clause-encrypted g c k below =
    let bytes = g.C.Key.KeyBytes.bytes_of in
    get_or-zipped g.C.KeyedCipher.encryption (map bytes c.args.keys.now) c.args.blocks.now _ k
    (length-map c.args.keys.now bytes ∙ c.in_ok-encrypt_each_by.ensures.accepted.0 refl)
    c.in_ok-encrypt_each_by.ensures.ok below
