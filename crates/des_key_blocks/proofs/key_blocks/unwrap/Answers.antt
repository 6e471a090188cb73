use Rattle.std.proofs.Common.{◌≡◌, ℕ, ◌⊎◌, inl, inr, List, length, sym, subst, arith}
use Rattle.std.specs.Prelude.{IsTrue, ◌==◌, ◌||◌}
use Rattle.std.proofs.lemmas.Bool.Decides.{nat_tests}
use Rattle.std.proofs.lemmas.Result.{err_from_is_err_and}
use Rattle.des_key_blocks.specs.KeyBlocks.{IsKeyBlock}
use Rattle.des_key_blocks.specs.KeyBlockReading.{is_sealed_length}
use Rattle.des_key_blocks.specs.declared.key_block_header.Header.{Header}
use Rattle.des_key_blocks.proofs.ReadKeyBlocks.{sealed-there, seal-fault}
use Rattle.des_key_blocks.proofs.KeyDataLengths.{key-data-sealed}
use Rattle.des_key_blocks.proofs.NamedHeaders.{named-same}
use Rattle.des_key_blocks.proofs.key_blocks.unwrap.Goals as goal
use Rattle.des_key_blocks.proofs.key_blocks.unwrap.Goals.{else-protection-ne16-via-then-protection-ne16+else-protection-ne24, else-protection-ne16-via-else-protection-ne16}

-- what is sealed in a block that holds a key has the length of it
sealed-length : (protection : List ℕ) (header : Header) (blocks : List (List ℕ × List ℕ)) (key padding block : List ℕ)
    → (is : IsKeyBlock protection header blocks key padding block)
    → IsTrue (is_sealed_length header.version (length is.sealed))
sealed-length protection header blocks key padding block is =
    key-data-sealed header.version protection is.front key padding is.sealed is.is_clear is.is_sealed

is-protection : (n : ℕ) → (n ≡ 16) ⊎ (n ≡ 24) → IsTrue (n == 16 || n == 24)
is-protection n (inl two) = grind (arith, nat_tests)
is-protection n (inr three) = grind (arith, nat_tests)

pub returns-in_err-header-clause-only : goal.returns-in_err-header-clause-only
returns-in_err-header-clause-only c = λ header key holds.
    let is = holds.1.1 in
    absurd (c.in_err-header.ensures.only header holds.0 is.front is.sealed is.parts
    (sealed-length c.args.protection.now header holds.0 key holds.1.0 c.args.block.now is))

pub returns-in_err-header-clause-exact : goal.returns-in_err-header-clause-exact
returns-in_err-header-clause-exact c = λ header key named holds.
    let is = holds.1.1 in
    absurd (c.in_err-header.ensures.only header holds.0 is.front is.sealed is.parts
    (sealed-length c.args.protection.now header holds.0 key holds.1.0 c.args.block.now is))

pub returns-in_err-key-clause-only : goal.returns-in_err-key-clause-only
returns-in_err-key-clause-only c = λ header key holds.
    let is = holds.1.1 in
    let found = c.in_ok-header.ensures.only header holds.0 is.front is.sealed is.parts
    (sealed-length c.args.protection.now header holds.0 key holds.1.0 c.args.block.now is) in
    absurd (c.in_err-key.ensures.only key holds.1.0 is.is_clear
    (sealed-there c.args.protection.now c.args.block.now c.split_at.result.0.now c.split_at.result.1.now
    c.in_ok-header.size c.split_at.ensures.front c.split_at.ensures.back c.in_ok-header.header.version header holds.0
    key holds.1.0 is found.1 found.0.0))

pub returns-in_err-key-clause-exact : goal.returns-in_err-key-clause-exact
returns-in_err-key-clause-exact c = λ header key named holds.
    let is = holds.1.1 in
    let found = c.in_ok-header.ensures.only header holds.0 is.front is.sealed is.parts
    (sealed-length c.args.protection.now header holds.0 key holds.1.0 c.args.block.now is) in
    absurd (c.in_err-key.ensures.only key holds.1.0 is.is_clear
    (sealed-there c.args.protection.now c.args.block.now c.split_at.result.0.now c.split_at.result.1.now
    c.in_ok-header.size c.split_at.ensures.front c.split_at.ensures.back c.in_ok-header.header.version header holds.0
    key holds.1.0 is found.1 found.0.0))

pub returns-in_err-key-clause-fault : goal.returns-in_err-key-clause-fault
returns-in_err-key-clause-fault c =
    let p = err_from_is_err_and c.from_residual-in_err-key.result c.from_residual-in_err-key.ensures.1 in
    let protection : List ℕ = c.args.protection.now in
    let found = c.in_ok-header.ensures.found in
    let length_is : (length protection ≡ 16) ⊎ (length protection ≡ 24) = elim c.else-protection-ne16.branch [
      | else-protection-ne16-via-then-protection-ne16+else-protection-ne24 w ↦ inr w.if-protection-ne24.false
      | else-protection-ne16-via-else-protection-ne16 w ↦ inl w.if-protection-ne16.false
    ] in
    rw (p.1, p.2) (seal-fault protection c.args.block.now c.split_at.result.0.now c.split_at.result.1.now
    c.in_ok-header.size c.split_at.ensures.front c.split_at.ensures.back c.in_ok-header.header found.0 _ found.1
    (is-protection (length protection) length_is)
    (subst (λ (rest : List ℕ). IsTrue (is_sealed_length c.in_ok-header.header.version (length rest)))
    (sym c.split_at.ensures.back) c.in_ok-header.ensures.sealed)
    c.in_err-key.ensures.fault)

pub returns-clause-only : goal.returns-clause-only
returns-clause-only c = λ header key holds.
    let is = holds.1.1 in
    let found = c.in_ok-header.ensures.only header holds.0 is.front is.sealed is.parts
    (sealed-length c.args.protection.now header holds.0 key holds.1.0 c.args.block.now is) in (
      found.0,
      c.in_ok-key.ensures.only key holds.1.0 is.is_clear
          (sealed-there c.args.protection.now c.args.block.now c.split_at.result.0.now c.split_at.result.1.now
          c.in_ok-header.size c.split_at.ensures.front c.split_at.ensures.back c.in_ok-header.header.version header
          holds.0 key holds.1.0 is found.1 found.0.0),
    )

-- the header that was found has its names, as the other has
pub returns-clause-exact : goal.returns-clause-exact
returns-clause-exact c = λ header key named holds.
    let alike = returns-clause-only c header key holds in (
      named-same c.in_ok-header.header header c.in_ok-header.ensures.found.1.is_header holds.1.1.parts.is_header
          c.in_ok-header.ensures.named named alike.0,
      alike.1,
    )
