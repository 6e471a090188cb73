-- The key block that is written, of parts that are right.
use Rattle.std.proofs.Common.{◌≡◌, ℕ, ◌%◌, ◌<◌, List, ◌++◌, length, sym, ap, ◌∙◌, arith}
use Rattle.std.specs.Prelude.{IsTrue}
use Rattle.des_key_blocks.specs.KeyBlockHeaders.{IsHeader, header_text}
use Rattle.des_key_blocks.specs.KeyBlocks.{key_data, is_protection_key, is_key_data, IsSealed, IsKeyBlock}
use Rattle.des_key_blocks.specs.OptionalBlocks.{AreOptionalBlocks}
use Rattle.des_key_blocks.specs.declared.key_block_header.Header.{Header}
use Rattle.des_key_blocks.specs.declared.key_block_header.KeyContext.{KeyContext}

-- a header, optional blocks that end at a multiple of eight characters, and what is sealed after them
pub block-written : (protection : List ℕ) (header : Header) (context : KeyContext) (blocks : List (List ℕ × List ℕ))
    (key padding front rest block optional : List ℕ) (size count : ℕ) → block ≡ front ++ rest → length block ≡ size
    → size < 10000 → count ≡ length blocks → count < 100 → AreOptionalBlocks blocks optional
    → front ≡ header_text header context size count ++ optional → IsHeader header → length optional % 8 ≡ 0
    → IsTrue (is_protection_key protection) → IsTrue (is_key_data key padding)
    → IsSealed header.version protection front (key_data key padding) rest
    → IsKeyBlock protection header blocks key padding block
block-written protection header context blocks key padding front rest block optional size count pieces long short counted few
    are is_front is_header whole is_protection is_clear sealed =
    let head : header_text header context size count ≡ header_text header context (length block) (length blocks) =
    ap (λ n. header_text header context n count) (sym long) ∙ ap (header_text header context (length block)) counted in
    record {
      front = front;
      sealed = rest;
      parts = record {
        context = context;
        optional = optional;
        is_header = is_header;
        short = omega arith;
        few = omega arith;
        are_optional = are;
        whole = whole;
        is_front = is_front ∙ ap (λ (h : List ℕ). h ++ optional) head;
        is_block = pieces;
      };
      is_protection = is_protection;
      is_clear = is_clear;
      is_sealed = sealed;
    }
