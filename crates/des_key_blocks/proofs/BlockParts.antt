-- The parts of a block: what stands in a block that has them, and those of what was read.
use Rattle.std.proofs.Common.{◌≡◌, ℕ, ◌+◌, ◌-◌, ◌%◌, ◌<◌, ◌≤◌, List, ◌++◌, length, take, drop, sym, ap, ◌∙◌, subst, append_assoc, take-add, arith}
use Rattle.std.specs.Prelude.{IsTrue}
use Rattle.std.proofs.lemmas.List.{length-append, length-take, take_at, drop_at, take-append-drop, take_rest}
use Rattle.des_key_blocks.specs.KeyBlockHeaders.{IsHeader, header_text}
use Rattle.des_key_blocks.specs.KeyBlockReading.{is_sealed_length}
use Rattle.des_key_blocks.specs.KeyBlocks.{HasParts}
use Rattle.des_key_blocks.specs.OptionalBlocks.{AreOptionalBlocks}
use Rattle.des_key_blocks.specs.declared.key_block_header.Header.{Header}
use Rattle.des_key_blocks.specs.declared.key_block_header.KeyContext.{KeyContext}
use Rattle.des_key_blocks.specs.declared.key_block_header.Version.{Version}
use Rattle.des_key_blocks.proofs.HeaderTexts.{header-sixteen}

-- the front of a block, and what comes after it
pub front-there : (block front rest : List ℕ) (size : ℕ) → block ≡ front ++ rest → size ≡ length front
    → take size block ≡ front
front-there block front rest size is count = ap (take size) is ∙ take_at front rest size (sym count)

pub rest-there : (block front rest : List ℕ) (size : ℕ) → block ≡ front ++ rest → size ≡ length front
    → drop size block ≡ rest
rest-there block front rest size is count = ap (drop size) is ∙ drop_at front rest size (sym count)

-- it has the length of what is sealed
pub sealed-there : (block front rest : List ℕ) (size : ℕ) (version other : Version) → block ≡ front ++ rest
    → size ≡ length front → version ≡ other → IsTrue (is_sealed_length other (length rest))
    → IsTrue (is_sealed_length version (length block - size))
sealed-there block front rest size version other is count same sealed =
    let left : length rest ≡ length block - size = omega (arith, ap length is, length-append front rest) in
    subst (λ n. IsTrue (is_sealed_length version n)) left
    (subst (λ (v : Version). IsTrue (is_sealed_length v (length rest))) (sym same) sealed)

module _ (header : Header) (blocks : List (List ℕ × List ℕ)) (front rest block : List ℕ)
    (parts : HasParts header blocks front rest block) where
  abbrev head : List ℕ
  head = header_text header parts.context (length block) (length blocks)

  sixteen : length head ≡ 16
  sixteen = header-sixteen header parts.context (length block) (length blocks) parts.is_header

  pub front-length : length front ≡ 16 + length parts.optional
  front-length =
      ap length parts.is_front ∙ length-append head parts.optional ∙ ap (λ n. n + length parts.optional) sixteen

  in_pieces : block ≡ head ++ (parts.optional ++ rest)
  in_pieces =
      parts.is_block ∙ ap (λ (text : List ℕ). text ++ rest) parts.is_front ∙ append_assoc head parts.optional rest

  pub least : 16 ≤ length block
  least =
      let count : length front ≡ 16 + length parts.optional = front-length in
      omega (arith, ap length parts.is_block, length-append front rest)

  -- the header, and what comes after it
  pub header-there : head ≡ take 16 block
  header-there = sym (front-there block head (parts.optional ++ rest) 16 in_pieces (sym sixteen))

  pub optional-there : drop 16 block ≡ parts.optional ++ rest
  optional-there = rest-there block head (parts.optional ++ rest) 16 in_pieces (sym sixteen)

  -- the optional blocks, between the header and the rest
  pub optional-cut : (size : ℕ) → size ≡ length front → take (size - 16) (drop 16 block) ≡ parts.optional
  optional-cut size is =
      let count : length front ≡ 16 + length parts.optional = front-length in
      let left : length parts.optional ≡ size - 16 = omega arith in
      ap (take (size - 16)) optional-there ∙ take_at parts.optional rest (size - 16) left

-- the parts of a block of which a header and optional blocks were read
pub parts-read : (header : Header) (context : KeyContext) (blocks : List (List ℕ × List ℕ)) (count size : ℕ)
    (block : List ℕ) → IsHeader header → length block < 10000 → count < 100
    → header_text header context (length block) count ≡ take 16 block
    → length blocks ≡ count → AreOptionalBlocks blocks (take size (take (length block - 16) (drop 16 block)))
    → size ≤ length (take (length block - 16) (drop 16 block)) → size % 8 ≡ 0
    → HasParts header blocks (take (16 + size) block) (drop (16 + size) block) block
parts-read header context blocks count size block is_header short few is counted are within whole =
    let text : List ℕ = drop 16 block in
    let all : take (length block - 16) text ≡ text = take_rest block 16 in
    let fits : size ≤ length text = subst (λ (t : List ℕ). size ≤ length t) all within in
    let head : header_text header context (length block) (length blocks) ≡ take 16 block =
    subst (λ n. header_text header context (length block) n ≡ take 16 block) (sym counted) is in
    record {
      context = context;
      optional = take size text;
      is_header = is_header;
      short = short;
      few = omega arith;
      are_optional = subst (λ (t : List ℕ). AreOptionalBlocks blocks (take size t)) all are;
      whole = let count : length (take size text) ≡ size = omega (arith, length-take size text) in
          subst (λ n. n % 8 ≡ 0) (sym count) whole;
      is_front = take-add 16 size block ∙ ap (λ (h : List ℕ). h ++ take size text) (sym head);
      is_block = sym (take-append-drop (16 + size) block);
    }
