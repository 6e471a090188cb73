use Rattle.std.proofs.Common.{◌≡◌, ℕ, ◌+◌, List, length, ◌∙◌, arith, rules}
use Rattle.des_key_blocks.proofs.OptionalBlockSizes.{size_of-long}
use Rattle.des_key_blocks.proofs.OptionalBlockTexts.{long-pieces}
use Rattle.des_key_blocks.proofs.WrittenTexts.{long-pieces-text}
use Rattle.des_key_blocks.proofs.optional_blocks.write_block.Goals as goal

pub returns-else-size-lt256-clause-is : goal.returns-else-size-lt256-clause-is
returns-else-size-lt256-clause-is c =
    let content : List ℕ = c.args.block.now.content.now in
    let size : length c.args.text.now ≡ length content + 10 =
    c.requires.size ∙ size_of-long content (omega (arith, c.requires.size, c.if-size-lt256.false)) in
    long-pieces (length c.args.text.now) c.args.block.now.name content _ _ _ _ _ _ (search rules) c.requires.few size
    c.copy_from_slice.ensures.after c.copy_from_slice-else-size-lt256.ensures.after
    c.copy_from_slice-else-size-lt256-2.ensures.after
    (c.copy_from_slice-else-size-lt256-3.ensures.after ∙ c.two_digits-else-size-lt256.ensures)
    (c.copy_from_slice-else-size-lt256-4.ensures.after ∙ c.two_digits-else-size-lt256-2.ensures)
    c.copy_from_slice-else-size-lt256-5.ensures.after

pub returns-else-size-lt256-clause-text : goal.returns-else-size-lt256-clause-text
returns-else-size-lt256-clause-text c =
    long-pieces-text (length c.args.text.now) c.args.block.now.name c.args.block.now.content.now _ _ _ _ _ _
    c.requires.size c.if-size-lt256.false c.copy_from_slice.ensures.after
    c.copy_from_slice-else-size-lt256.ensures.after c.copy_from_slice-else-size-lt256-2.ensures.after
    (c.copy_from_slice-else-size-lt256-3.ensures.after ∙ c.two_digits-else-size-lt256.ensures)
    (c.copy_from_slice-else-size-lt256-4.ensures.after ∙ c.two_digits-else-size-lt256-2.ensures)
    c.copy_from_slice-else-size-lt256-5.ensures.after
