use Rattle.std.proofs.Common.{ℕ, List, map, replicate, ap, ◌∙◌}
use Rattle.std.specs.Option.{unwrap_or}
use Rattle.des.specs.TripleCiphers.{ede3_decryption}
use Rattle.des_columns.proofs.key_file.KeyFileValueKeys.decrypt_part.Goals as goal

pub returns : goal.returns
returns g c =
    c.decrypt_by.ensures
    ∙ ap (λ (key : List ℕ). map (ede3_decryption key) c.args.blocks.now)
    (c.unwrap_or.ensures ∙ ap (λ key. unwrap_or key (replicate 24 0)) c.key_for.ensures)
