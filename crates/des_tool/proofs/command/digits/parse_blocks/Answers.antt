use Rattle.std.proofs.Common.{◌≡◌, ◌/◌, ◌*◌, ◌<◌, length, true, arith, sym, ap, ◌∙◌}
use Rattle.std.specs.List.{concat}
use Rattle.std.specs.Simd.{first_chunks}
use Rattle.std.proofs.lemmas.List.Sums.{AllPass-from_list_all, list_all-from_AllPass}
use Rattle.hex.specs.Hex.{is_hex_digit}
use Rattle.des_tool.proofs.Chunks.{All-chunk, All-IsBlock-chunks, concat-chunks, items-chunks}
use Rattle.des_tool.proofs.command.digits.parse_blocks.Goals as goal

pub decode-requires-clause-digits : goal.decode-requires-clause-digits
decode-requires-clause-digits c =
    let text = c.args.digits.now in
    let chunks = c.as_chunks.result.0.now in
    let index = c.loop-chunk.chunk-index in
    let cut : chunks ≡ first_chunks 16 (length text / 16) text =
    rw c.as_bytes.ensures.value at c.as_chunks.ensures.front in
    let count = c.as_bytes.ensures.len in
    let within : index < length text / 16 = omega (arith, c.as_chunks.ensures.front_len) in
    let digits = AllPass-from_list_all is_hex_digit text (sym c.are_digits.ensures ∙ c.if-not-are_digits.false) in
    rw cut (list_all-from_AllPass is_hex_digit _
    (All-chunk (λ digit. is_hex_digit digit ≡ true) 16 (length text / 16) index text within digits))

pub returns-clause-joined : goal.returns-clause-joined
returns-clause-joined c =
    let text = c.args.digits.now in
    let chunks = c.as_chunks.result.0.now in
    let index = c.loop-chunk.chunk-index in
    let cut : chunks ≡ first_chunks 16 (length text / 16) text =
    rw c.as_bytes.ensures.value at c.as_chunks.ensures.front in
    let whole : length text ≡ 16 * (length text / 16) = omega arith in
    ap concat (items-chunks text chunks _ index cut c.loop-chunk-test.false c.loop-chunk.invariant)
    ∙ concat-chunks (length text / 16) text whole

pub returns-clause-blocks : goal.returns-clause-blocks
returns-clause-blocks c =
    let text = c.args.digits.now in
    let chunks = c.as_chunks.result.0.now in
    let index = c.loop-chunk.chunk-index in
    let cut : chunks ≡ first_chunks 16 (length text / 16) text =
    rw c.as_bytes.ensures.value at c.as_chunks.ensures.front in
    let digits = AllPass-from_list_all is_hex_digit text (sym c.are_digits.ensures ∙ c.if-not-are_digits.false) in
    rw (items-chunks text chunks _ index cut c.loop-chunk-test.false c.loop-chunk.invariant)
    (All-IsBlock-chunks (length text / 16) text (omega arith) digits)
