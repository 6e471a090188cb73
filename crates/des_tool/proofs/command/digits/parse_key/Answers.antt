use Rattle.std.proofs.Common.{length, arith, sym, ◌∙◌}
use Rattle.std.proofs.lemmas.List.Sums.{AllPass-from_list_all}
use Rattle.hex.specs.Hex.{is_hex_digit}
use Rattle.des_tool.proofs.Decoding.{IsKey-digits}
use Rattle.des_tool.proofs.command.digits.parse_key.Goals as goal

pub returns-clause-is_key : goal.returns-clause-is_key
returns-clause-is_key c =
    let text = c.args.digits.now in
    IsKey-digits (length c.args.key.now) text (omega arith)
    (AllPass-from_list_all is_hex_digit text (sym c.are_digits.ensures ∙ c.if-not-are_digits.false))
