-- A block of format 1 under another pair of keys, and back under its own.
use Rattle.std.proofs.Common.{rules, ◌≡◌, ℕ, List, Result, Ok, Err, None, length, refl, ap, ◌∙◌, sym}
use Rattle.std.proofs.lemmas.Option.{none-some}
use Rattle.std.specs.Result.{result_err, IsOk}
use Rattle.des.specs.Blocks.{IsBlock, part}
use Rattle.des.specs.TripleCiphers.{ede2_encryption, ede2_decryption}
use Rattle.des.specs.Laws.Passes.{IsPass, IsPass-turned, IsPass-through}
use Rattle.des.specs.Laws.DesLaws.{IsPass-key}
use Rattle.des.proofs.ByteArrays.{IsBlock-array}
use Rattle.des_payment.specs.KeyLengths.{encryption_by, decryption_by}
use Rattle.des_payment.specs.Translation.{rekeyed, rekeying_fault}
use Rattle.des_payment.specs.declared.translation_error.TranslationError.{TranslationError}
use Rattle.des_uses.proofs.payment.translation.there_and_back.Goals as goal

-- what a pair of keys makes of blocks is undone by it
pair : (key : List ℕ) → IsPass (ede2_encryption key) (ede2_decryption key)
pair key =
    IsPass-through (IsPass-key (part 1 key)) (IsPass-turned (IsPass-key (part 2 key))) (IsPass-key (part 1 key))

module _ (incoming outgoing block : List ℕ) (from : length incoming ≡ 16) (to : length outgoing ≡ 16)
    (is_block : IsBlock block) where
  -- the block in clear is the same
  clear : decryption_by outgoing (rekeyed incoming outgoing block) ≡ decryption_by incoming block
  clear =
      rw (from, to) ((pair outgoing).back_forth (ede2_decryption incoming block) ((pair incoming).back_is_block block is_block))

  back : rekeyed outgoing incoming (rekeyed incoming outgoing block) ≡ block
  back = ap (encryption_by incoming) clear ∙ rw from ((pair incoming).forth_back block is_block)

  none_again : rekeying_fault incoming outgoing block ≡ None
      → rekeying_fault outgoing incoming (rekeyed incoming outgoing block) ≡ None
  none_again none = rw (clear, from, to) (rw (from, to) at none)

-- what has no fault is right
right : (made : Result (List ℕ) TranslationError) → result_err made ≡ None → IsOk made
right (Ok translated) none = refl
right (Err fault) none = absurd (none-some fault (sym none))

pub unwrap-requires : goal.unwrap-requires
unwrap-requires c =
    let incoming : List ℕ = c.args.incoming.now in
    let outgoing : List ℕ = c.args.outgoing.now in
    let from : length incoming ≡ 16 = search rules in
    let to : length outgoing ≡ 16 = search rules in
    let is_block = IsBlock-array c.args.block.now c.told-block c.fits-block in
    let none = sym c.translate_format_1.ensures.fault ∙ ap result_err c.in_ok-sent.was in
    right c.translate_format_1-2.result
    (c.translate_format_1-2.ensures.fault ∙ ap (rekeying_fault outgoing incoming) c.in_ok-sent.ensures.translated
    ∙ none_again incoming outgoing c.args.block.now from to is_block none)

pub returns : goal.returns
returns c =
    let incoming : List ℕ = c.args.incoming.now in
    let outgoing : List ℕ = c.args.outgoing.now in
    let from : length incoming ≡ 16 = search rules in
    let to : length outgoing ≡ 16 = search rules in
    let is_block = IsBlock-array c.args.block.now c.told-block c.fits-block in
    (rw c.unwrap.ensures at c.translate_format_1-2.ensures.translated)
    ∙ ap (rekeyed outgoing incoming) c.in_ok-sent.ensures.translated
    ∙ back incoming outgoing c.args.block.now from to is_block
