use Rattle.std.proofs.Common.{arith, sym, ◌∙◌}
use Rattle.std.proofs.lemmas.List.Sums.{AllPass-from_list_all}
use Rattle.hex.specs.Hex.{is_hex_digit}
use Rattle.des_tool.proofs.Decoding.{IsKey-digits}
use Rattle.des_tool.proofs.command.digits.parse_vector.Goals as goal

-- sixteen digits write eight bytes
pub returns-clause-is_block : goal.returns-clause-is_block
returns-clause-is_block c =
    let text = c.args.digits.now in
    IsKey-digits 8 text (omega arith)
    (AllPass-from_list_all is_hex_digit text (sym c.are_digits.ensures ∙ c.if-not-are_digits.false))
