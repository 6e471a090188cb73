-- The words of one block, of two and of three.
use Rattle.std.specs.Prelude.{ℕ, zero, suc}
use Rattle.des_fast.specs.declared.one_block.OneBlock.{OneBlock}
use Rattle.des_fast.specs.declared.table_blocks.TwoBlocks.{TwoBlocks}
use Rattle.des_fast.specs.declared.table_blocks.ThreeBlocks.{ThreeBlocks}

abbrev pub word_of_one : ℕ → OneBlock → ℕ
word_of_one b groups = groups.word

-- the word of block b of two, from 0
abbrev pub word_of_two : ℕ → TwoBlocks → ℕ
word_of_two zero groups = groups.first
word_of_two (suc b) groups = groups.second

-- and of three
abbrev pub word_of_three : ℕ → ThreeBlocks → ℕ
word_of_three zero groups = groups.first
word_of_three (suc zero) groups = groups.second
word_of_three (suc (suc b)) groups = groups.third
