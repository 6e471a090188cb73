use Rattle.std.proofs.Common.{◌≡◌, ℕ, ◌+◌, ◌*◌, ◌<◌, List, length, get_or, IfNone, refl, ap, ◌∙◌, subst, arith, rules}
use Rattle.des.specs.Blocks.{AreBytes}
use Rattle.des_key_blocks.specs.Hex.{hex_of, hex_digit}
use Rattle.des_key_blocks.proofs.HexBytes.{hex_of-read, hex_of-at, length-hex_of}
use Rattle.des_key_blocks.proofs.hex.read_hex.Goals as goal

pub loop-i-init : goal.loop-i-init
unfolding hex_of
loop-i-init c = refl

-- a character that is none of a digit stands in no text of bytes
no_digit : (read text : List ℕ) (i size : ℕ) → AreBytes read → hex_of read ≡ text → length text ≡ 2 * size
    → i < 2 * size
    → ((value : ℕ) → value < 16 → hex_digit value ≡ get_or text i 0 → ⊥) → ⊥
no_digit read text i size are is twice within none =
    let digit = hex_of-at read i are (omega (arith, length-hex_of read, ap length is)) in
    none digit.0 digit.1.0 (digit.1.1 ∙ ap (λ (characters : List ℕ). get_or characters i 0) is)

pub returns-in_default-clause-only : goal.returns-in_default-clause-only
returns-in_default-clause-only c = λ read are is.
    absurd (no_digit read c.args.text.now (2 * c.loop-i.i + 1) (length c.args.bytes.now) are is c.requires
    (omega (arith, c.loop-i-test.true)) c.in_default.ensures'.none)

pub returns-in_default-2-clause-only : goal.returns-in_default-2-clause-only
returns-in_default-2-clause-only c = λ read are is.
    let text : List ℕ = c.args.text.now in
    let place : ℕ = 2 * c.loop-i.i in
    let none = subst (λ digit. IfNone digit ((value : ℕ) → value < 16 → hex_digit value ≡ get_or text place 0 → ⊥))
    c.in_default.is-0 c.hex_value.ensures.none in
    absurd (no_digit read text place (length c.args.bytes.now) are is c.requires (omega (arith, c.loop-i-test.true))
    none)

pub loop-i-preserved : goal.loop-i-preserved
loop-i-preserved c =
    let high = c.in-Some-Some.ensures.some in
    let low = c.in-Some-Some.ensures'.some in
    hex_of-read c.loop-i.bytes c.args.text.now c.loop-i.i c.in-Some-Some.high c.in-Some-Some.low (search rules)
    (search rules) high.0 low.0 high.1 low.1 c.loop-i.invariant
