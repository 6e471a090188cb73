use Rattle.std.proofs.Common.{◌∙◌, ap, map}
use Rattle.des_columns.specs.Forms.{blocks_of}
use Rattle.des_columns.specs.Columns.{pieces}
use Rattle.des_columns.proofs.DecryptedBlocks.{map-flat_map}
use Rattle.des_columns.proofs.value_keys.OneKeyValueKeys.decrypt_values.Goals as goal

pub returns : goal.returns
returns g c =
    let f = g.C.BlockCipherDecrypt.decrypted c.args.self.now.cipher in
    c.decrypt_list_by.ensures.decrypted ∙ ap (map f) c.requires.blocks
    ∙ map-flat_map f (blocks_of c.args.form) (pieces c.args.lengths.now c.args.values.now)
