use Rattle.std.proofs.Common.{refl}
use Rattle.std.proofs.lemmas.List.Sums.{AllPass-from_list_all}
use Rattle.hex.specs.Hex.{is_hex_digit}
use Rattle.des_tool.proofs.Decoding.{decoded_digits}
use Rattle.des_tool.proofs.command.digits.decode.Goals as goal

pub unwrap-requires : goal.unwrap-requires
unwrap-requires c =
    let digits = AllPass-from_list_all is_hex_digit c.args.digits.now c.requires.digits in
    rw ((decoded_digits _ _ _ _ c.requires.count digits c.decode_to_slice.ensures.value).0) refl

pub returns : goal.returns
returns c =
    let digits = AllPass-from_list_all is_hex_digit c.args.digits.now c.requires.digits in
    (decoded_digits _ _ _ _ c.requires.count digits c.decode_to_slice.ensures.value).1
