use Rattle.std.proofs.Common.{rules, ◌≡◌, ℕ, ◌+◌, ◌*◌, ◌%◌, ◌<◌, List, ◌++◌, length, map, take, ap, ◌∙◌, subst, arith}
use Rattle.std.proofs.lemmas.List.{length-append, take_at}
use Rattle.des_key_blocks.specs.KeyBlocks.{key_data, front_text, IsSealed}
use Rattle.des_key_blocks.specs.KeyBlockHeaders.{header_text}
use Rattle.des_key_blocks.specs.declared.key_block_header.KeyContext.TheVariants.{StorageOrExchange}
use Rattle.des_key_blocks.specs.OptionalBlocks.{blocks_text, filled}
use Rattle.des_key_blocks.proofs.FilledBlocks.{filled-whole}
use Rattle.des_key_blocks.proofs.HeaderTexts.{header-sixteen}
use Rattle.des_key_blocks.proofs.WrittenBlocks.{block-written}
use Rattle.des_key_blocks.proofs.key_blocks.wrap.Goals as goal

pub write_sealed-requires-clause-whole : goal.write_sealed-requires-clause-whole
write_sealed-requires-clause-whole c =
    omega (
      arith,
      filled-whole (map (λ block. (block.name, block.content.now)) c.args.optional.now),
      c.in_ok-size.ensures.size,
    )

pub returns-clause-text : goal.returns-clause-text
returns-clause-text c =
    let pairs : List (List ℕ × List ℕ) = map (λ block. (block.name, block.content.now)) c.args.optional.now in
    let bytes : ℕ = 2 + length c.args.key.now + length c.args.padding.now + c.mac_size.result in
    let whole : ℕ = 16 + c.in_ok-size.size + 2 * bytes in
    let front : List ℕ = c.write_front.new.front in
    let rest : List ℕ = c.write_sealed.new.text in
    let last : List ℕ = c.split_at_mut-block.result.1.now in
    let front_size : length front ≡ 16 + c.in_ok-size.size = search rules in
    let rest_size : length rest ≡ 2 * bytes = search rules in
    let size : length (front ++ rest) ≡ whole = omega (arith, length-append front rest) in
    let cut : take whole (front ++ rest ++ last) ≡ front ++ rest = take_at (front ++ rest) last whole size in
    let is : front ≡ front_text c.args.header.now (filled pairs) whole =
    c.write_front.ensures.text
    ∙ ap (λ n. header_text c.args.header.now StorageOrExchange whole n ++ blocks_text (filled pairs)) c.in_ok-size.ensures.count in (
      rest,
      (
        cut ∙ ap (λ (text : List ℕ). text ++ rest) is,
        subst (λ (text : List ℕ). IsSealed c.args.header.now.version c.args.protection.now text
            (key_data c.args.key.now c.args.padding.now) rest) is c.write_sealed.ensures,
      ),
    )

pub returns-clause-wrapped : goal.returns-clause-wrapped
returns-clause-wrapped c =
    let pairs : List (List ℕ × List ℕ) = map (λ block. (block.name, block.content.now)) c.args.optional.now in
    let bytes : ℕ = 2 + length c.args.key.now + length c.args.padding.now + c.mac_size.result in
    let whole : ℕ = 16 + c.in_ok-size.size + 2 * bytes in
    let front : List ℕ = c.write_front.new.front in
    let rest : List ℕ = c.write_sealed.new.text in
    let last : List ℕ = c.split_at_mut-block.result.1.now in
    let text : List ℕ = blocks_text (filled pairs) in
    let head : List ℕ = header_text c.args.header.now StorageOrExchange whole c.in_ok-size.count in
    let is_header = c.write_front.ensures.is_header in
    let is_front : front ≡ head ++ text = c.write_front.ensures.text in
    let front_size : length front ≡ 16 + c.in_ok-size.size = search rules in
    let rest_size : length rest ≡ 2 * bytes = search rules in
    let short : whole < 10000 = omega arith in
    let sixteen : length head ≡ 16 = header-sixteen c.args.header.now StorageOrExchange whole c.in_ok-size.count
    is_header in
    let text_size : length text ≡ c.in_ok-size.size =
    omega (arith, front_size, sixteen, ap length is_front, length-append head text) in
    let even : length text % 8 ≡ 0 = omega (arith, text_size, filled-whole pairs, c.in_ok-size.ensures.size) in
    let size : length (front ++ rest) ≡ whole = omega (arith, length-append front rest) in
    let cut : take whole (front ++ rest ++ last) ≡ front ++ rest = take_at (front ++ rest) last whole size in
    block-written c.args.protection.now c.args.header.now StorageOrExchange (filled pairs) c.args.key.now c.args.padding.now front rest
    (take whole (front ++ rest ++ last)) text whole c.in_ok-size.count cut (ap length cut ∙ size) short
    c.in_ok-size.ensures.count c.in_ok-size.ensures.few c.write_front.ensures.are is_front is_header even
    c.in_ok-check_parts.ensures.protection c.in_ok-check_parts.ensures.clear c.write_sealed.ensures
