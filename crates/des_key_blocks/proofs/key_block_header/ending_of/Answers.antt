use Rattle.std.proofs.Common.{◌≡◌, ℕ, Bool, true, false, refl, sym, ap, ◌∙◌}
use Rattle.std.specs.Char.{is_ascii_digit}
use Rattle.std.specs.Prelude.{◌==◌, ◌&&◌, slice_index}
use Rattle.std.proofs.lemmas.Bool.{ne_eqb}
use Rattle.des_key_blocks.specs.KeyBlockHeaders.{context_text, is_context}
use Rattle.des_key_blocks.specs.declared.key_block_header.KeyContext.{KeyContext}
use Rattle.des_key_blocks.specs.declared.key_block_header.KeyContext.TheVariants.{StorageOrExchange, Storage, Exchange}
use Rattle.des_key_blocks.proofs.key_block_header.ending_of.Goals as goal

no-context : (character : ℕ) → ((context : KeyContext) → context_text context ≡ character → ⊥)
    → is_context character ≡ false
no-context character none =
    let a : (character == 48) ≡ false = ne_eqb character 48 (λ is. none StorageOrExchange (sym is)) in
    let b : (character == 49) ≡ false = ne_eqb character 49 (λ is. none Storage (sym is)) in
    let d : (character == 50) ≡ false = ne_eqb character 50 (λ is. none Exchange (sym is)) in
    rw (a, b, d) refl

third-false : (p q r : Bool) → (p && q && false && r) ≡ false
third-false true true r = refl
third-false true false r = refl
third-false false q r = refl

pub returns-in-None-clause-some : goal.returns-in-None-clause-some
returns-in-None-clause-some c =
    let at : ℕ → ℕ = λ place. slice_index c.args.block.now place in
    sym (ap (λ b. is_ascii_digit (at 12) && is_ascii_digit (at 13) && b && at 15 == 48)
    (no-context (at 14) c.in-None.ensures.none)
    ∙ third-false (is_ascii_digit (at 12)) (is_ascii_digit (at 13)) (at 15 == 48))
