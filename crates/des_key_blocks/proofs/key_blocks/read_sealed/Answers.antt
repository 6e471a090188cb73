use Rattle.std.proofs.Common.{rules, ◌≡◌, ℕ, ◌-◌, ◌*◌, ◌/◌, ◌<◌, List, ◌++◌, length, take, drop, refl, sym, ap, ap₂, ◌∙◌, arith}
use Rattle.std.proofs.lemmas.List.{take_at}
use Rattle.std.proofs.lemmas.List.Elements.{All-take, All-drop}
use Rattle.std.specs.List.{All}
use Rattle.des.specs.Blocks.{IsBlock}
use Rattle.des_key_blocks.specs.Hex.{hex_of}
use Rattle.des_key_blocks.specs.KeyBlocks.{joined}
use Rattle.des_key_blocks.proofs.HexTexts.{take-hex_of, drop-hex_of}
use Rattle.des_key_blocks.proofs.JoinedBlocks.{eight-blocks, take-joined}
use Rattle.des_key_blocks.proofs.key_blocks.read_sealed.Goals as goal

-- digits of bytes begin with those of the first bytes, and end with those of the others
front-digits : (n : ℕ) (bytes text front : List ℕ) → text ≡ hex_of bytes → front ≡ take (16 * n) text
    → hex_of (take (8 * n) bytes) ≡ front
front-digits n bytes text front is is_front =
    let twice : 2 * (8 * n) ≡ 16 * n = omega arith in
    sym (take-hex_of (8 * n) bytes) ∙ ap₂ (λ k (t : List ℕ). take k t) twice (sym is) ∙ sym is_front

back-digits : (n : ℕ) (bytes text back : List ℕ) → text ≡ hex_of bytes → back ≡ drop (16 * n) text
    → hex_of (drop (8 * n) bytes) ≡ back
back-digits n bytes text back is is_back =
    let twice : 2 * (8 * n) ≡ 16 * n = omega arith in
    sym (drop-hex_of (8 * n) bytes) ∙ ap₂ (λ k (t : List ℕ). drop k t) twice (sym is) ∙ sym is_back

pub returns-then-not-read_hex-clause-none : goal.returns-then-not-read_hex-clause-none
returns-then-not-read_hex-clause-none c = λ digits.
    let text : List ℕ = c.args.text.now in
    let n : ℕ = (length text - 2 * c.mac_size-mac_bytes.result) / 16 in
    absurd (cc (c.if-not-read_hex.ensures.only (take (8 * n) digits.0)
    (All-take (λ number. number < 256) (8 * n) digits.0 digits.1.0)
    (front-digits n digits.0 text _ digits.1.1 c.split_at.ensures.front)))

pub returns-then-not-read_hex-2-clause-none : goal.returns-then-not-read_hex-2-clause-none
returns-then-not-read_hex-2-clause-none c = λ digits.
    let text : List ℕ = c.args.text.now in
    let n : ℕ = (length text - 2 * c.mac_size-mac_bytes.result) / 16 in
    absurd (cc (c.if-not-read_hex-2.ensures.only (drop (8 * n) digits.0)
    (All-drop (λ number. number < 256) (8 * n) digits.0 digits.1.0)
    (back-digits n digits.0 text _ digits.1.1 c.split_at.ensures.back)))

-- the text is the digits of as many blocks, and of the MAC
text-read : (n size : ℕ) (blocks : List (List ℕ)) (text front back bytes zeros mac after : List ℕ) → All IsBlock blocks
    → joined blocks ≡ bytes ++ zeros → length bytes ≡ 8 * n → length mac ≡ size → hex_of bytes ≡ front
    → hex_of mac ≡ back → text ≡ front ++ back
    → text ≡ hex_of (joined (take n blocks)) ++ hex_of (take size (mac ++ after))
text-read n size blocks text front back bytes zeros mac after are is count mac_count is_front is_back pieces =
    let first : joined (take n blocks) ≡ bytes =
    sym (take-joined n blocks (eight-blocks blocks are)) ∙ ap (take (8 * n)) is ∙ take_at bytes zeros (8 * n) count in
    let second : take size (mac ++ after) ≡ mac = take_at mac after size mac_count in
    pieces
    ∙ ap₂ ◌++◌ (sym is_front ∙ ap hex_of (sym first)) (sym is_back ∙ ap hex_of (sym second))

pub returns-clause-text : goal.returns-clause-text
returns-clause-text c =
    let text : List ℕ = c.args.text.now in
    let n : ℕ = (length text - 2 * c.mac_size-mac_bytes.result) / 16 in
    let size = c.mac_size-mac_bytes.ensures in
    text-read n _ c.blocks_of-blocks.result text c.split_at.result.0.now c.split_at.result.1.now c.read_hex.new.bytes _
    c.read_hex-2.new.bytes _ c.are_blocks.ensures c.blocks_of-blocks.ensures (search rules)
    (search rules) (c.if-not-read_hex.ensures.read refl) (c.if-not-read_hex-2.ensures.read refl)
    c.split_at.ensures.by_index.0
