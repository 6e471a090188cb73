use Rattle.std.proofs.Common.{◌≡◌, List, ◌++◌, ℕ, inr, ap, ap₂, ◌∙◌}
use Rattle.std.proofs.lemmas.Result.{err_from_is_err_and}
use Rattle.des_key_blocks.specs.KeyBlockReading.{HasLayout}
use Rattle.des_key_blocks.specs.declared.key_block_header.Header.{Header}
use Rattle.des_key_blocks.specs.declared.key_block_header.KeyContext.{KeyContext}
use Rattle.des_lines.specs.KeyBlockLines.{IsReadable, header_lines, context_lines, optional_lines}
use Rattle.des_lines.proofs.key_block_lines.header_lines.Goals as goal

-- the layout of a block that can be read
abbrev layout-of : (header : Header) (blocks : List (List ℕ × List ℕ)) (block : List ℕ)
    → IsReadable header blocks block → HasLayout block
layout-of header blocks block readable = record {
  header = header;
  blocks = blocks;
  front = readable.0;
  rest = readable.1.0;
  parts = readable.1.1.0;
  fact = readable.1.1.1;
}

-- a block that can be read has no fault
pub returns-in_err-header-clause-only : goal.returns-in_err-header-clause-only
returns-in_err-header-clause-only c = λ header blocks readable.
    absurd (c.in_err-header.ensures.only header blocks readable.0 readable.1.0 readable.1.1.0 readable.1.1.1)

pub returns-in_err-context-clause-only : goal.returns-in_err-context-clause-only
returns-in_err-context-clause-only c = λ header blocks readable.
    absurd (c.in_err-context.ensures.found (layout-of header blocks c.args.block.now readable))

-- memory is refused
pub returns-in_err-add_header-clause-fault : goal.returns-in_err-add_header-clause-fault
returns-in_err-add_header-clause-fault c =
    let p = err_from_is_err_and c.from_residual-in_err-add_header.result
    c.from_residual-in_err-add_header.ensures.1 in
    let found = c.in_ok-header.ensures.found in
    inr (c.in_ok-header.header, (found.0, (found.1, rw p.1 (p.2 ∙ c.in_err-add_header.ensures.fault))))

pub returns-in_err-add_optional_blocks-clause-fault : goal.returns-in_err-add_optional_blocks-clause-fault
returns-in_err-add_optional_blocks-clause-fault c =
    let p = err_from_is_err_and c.from_residual-in_err-add_optional_blocks.result
    c.from_residual-in_err-add_optional_blocks.ensures.1 in
    let found = c.in_ok-header.ensures.found in
    let readable : IsReadable c.in_ok-header.header found.0 c.args.block.now = found.1 in
    let memory = (c.in_err-add_optional_blocks.ensures c.in_ok-header.header found.0 readable).0 in
    inr (c.in_ok-header.header, (found.0, (readable, rw p.1 (p.2 ∙ memory))))

pub returns-in_err-add_optional_blocks-clause-only : goal.returns-in_err-add_optional_blocks-clause-only
returns-in_err-add_optional_blocks-clause-only c = λ header blocks readable.
    let p = err_from_is_err_and c.from_residual-in_err-add_optional_blocks.result
    c.from_residual-in_err-add_optional_blocks.ensures.1 in
    let memory = (c.in_err-add_optional_blocks.ensures header blocks readable).0 in
    rw p.1 (p.2 ∙ memory)

-- the lines of the fields, of the context, and then those of the optional blocks
pub returns-clause-lines : goal.returns-clause-lines
returns-clause-lines c =
    let header = c.in_ok-header.header in
    let found = c.in_ok-header.ensures.found in
    let readable : IsReadable header found.0 c.args.block.now = found.1 in
    let fields = c.in_ok-add_header.ensures.lines
    ∙ ap (λ (lines : List ℕ). lines ++ header_lines header) c.new-lines.ensures.items in
    let is_context : c.in_ok-context.context ≡ readable.1.1.0.context =
    c.in_ok-context.ensures.found (layout-of header found.0 c.args.block.now readable) in
    let context = c.in_ok-add_context.ensures.line
    ∙ ap₂ (λ (lines : List ℕ) (k : KeyContext). lines ++ context_lines k) fields is_context in (
      header,
      (
        found.0,
        (
          readable,
          (c.in_ok-add_optional_blocks.ensures header found.0 readable).1
              ∙ ap (λ (lines : List ℕ). lines ++ optional_lines found.0) context,
        ),
      ),
    )
