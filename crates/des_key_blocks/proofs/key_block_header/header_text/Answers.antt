use Rattle.std.proofs.Common.{◌≡◌, ℕ, List, length, get_or, ◌∙◌, rules}
use Rattle.des_key_blocks.specs.declared.key_block_header.Header.{Header}
use Rattle.des_key_blocks.specs.declared.key_block_header.KeyContext.TheVariants.{StorageOrExchange}
use Rattle.des_key_blocks.proofs.HeaderTexts.{two-are, header-made}
use Rattle.des_key_blocks.proofs.key_block_header.header_text.Goals as goal

pub returns-clause-text : goal.returns-clause-text
returns-clause-text c =
    let header : Header = c.args.header.now in
    let usage : List ℕ = c.text-usage.result in
    let two : length usage ≡ 2 = search rules in
    let version_two : length header.key_version ≡ 2 = search rules in
    header-made header StorageOrExchange c.args.length c.args.count c.character.result c.decimal.result c.decimal-2.result
    c.decimal-3.result c.decimal-4.result (get_or usage 0 0) (get_or usage 1 0) c.character-2.result
    c.character-3.result (get_or header.key_version 0 0) (get_or header.key_version 1 0) c.character-4.result
    c.decimal-5.result c.decimal-6.result c.character-5.result c.character.ensures c.decimal.ensures c.decimal-2.ensures
    c.decimal-3.ensures c.decimal-4.ensures (two-are usage two ∙ c.text-usage.ensures) c.character-2.ensures
    c.character-3.ensures (two-are header.key_version version_two) c.character-4.ensures c.decimal-5.ensures
    c.decimal-6.ensures c.character-5.ensures
